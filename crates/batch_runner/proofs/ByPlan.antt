-- A batch's certificate is laid out as its plan says.
use Rattle.std.proofs.Common.{◌≡◌, ℕ, ◌+◌, ◌*◌, ◌/◌, ◌-◌, ◌<◌, List, [], ◌∷◌, drop, map, sum, refl, sym, ap, ap₂, ◌∙◌, arith}
use Rattle.std.proofs.lemmas.List.Sums.{sum_by-cons}
use Rattle.cairo_model.specs.Pie.Acceptance.{CheckedRecord}
use Rattle.cairo_model.specs.Certificate.Records.{MarkRecord, SpanRecord}
use Rattle.batch_plan.specs.Parts.{BatchParts, moved_by, own_cells, own_instances, parts_together, sizes_of_all, task_parts}
use Rattle.batch_plan.specs.Plans.{bases_of_all, bases_on, first_parts, hash_start, output_start, plan_of, programs_start, range_start, task_bases}
use Rattle.batch_plan.proofs.Rooms.{same_parts}
use Rattle.boot_program.specs.Tasks.{task_length}
use Rattle.batch_runner.specs.Working.Tasks.{Task, checked_of}
use Rattle.batch_runner.specs.Layout.{bases_at, first_place, hash_from, hash_size, next_place, output_from, output_size, program_from, range_from, size, total, turn_size}
use Rattle.batch_runner.specs.Rows.{task_values_at}
use Rattle.batch_runner.specs.Certificates.{cert_of, marks_from}
use Rattle.batch_runner.specs.Laws.{FollowsPlan}

abbrev sizes_in_plan : List Task → List (List ℕ)
sizes_in_plan ts = sizes_of_all (checked_of ts)

some_code : (t : Task) → 0 < size t.checked 0
some_code t = let e = t.accepted.main_in_code in omega (arith, e)

turn_is : (t : Task) → (task_parts t.checked.pie.sizes).frame ≡ turn_size t.checked
turn_is t = let c = some_code t in omega (arith, c)

hash_is : (t : Task) → (task_parts t.checked.pie.sizes).hash ≡ hash_size t.checked
hash_is t = let c = some_code t in omega (arith, c)

sums_are : (f : List ℕ → ℕ) (g : CheckedRecord → ℕ) → ((t : Task) → f t.checked.pie.sizes ≡ g t.checked) → (ts : List Task) → sum (map f (sizes_in_plan ts)) ≡ total g (checked_of ts)
unfolding total
sums_are f g same [] = refl
sums_are f g same (t ∷ ts) =
    let e = sums_are f g same ts in
    let s = sum_by-cons (λ (y : ℕ). y) (f t.checked.pie.sizes) (map f (sizes_in_plan ts)) in
    let h = same t in
    omega (arith, e, s, h)

module _ (ts : List Task) where
  frame_total : (parts_together (sizes_in_plan ts)).frame ≡ total turn_size (checked_of ts)
  frame_total = sums_are (λ s. (task_parts s).frame) turn_size turn_is ts

  output_total : (parts_together (sizes_in_plan ts)).output ≡ total output_size (checked_of ts)
  output_total = sums_are (λ s. (task_parts s).output) output_size (λ t. refl) ts

  range_total : (parts_together (sizes_in_plan ts)).range ≡ total (λ t. size t 3) (checked_of ts)
  range_total = sums_are (λ s. (task_parts s).range) (λ t. size t 3) (λ t. refl) ts

  hash_total : (parts_together (sizes_in_plan ts)).hash ≡ total hash_size (checked_of ts)
  hash_total = sums_are (λ s. (task_parts s).hash) hash_size hash_is ts

  output_at : output_from (checked_of ts) ≡ output_start (sizes_in_plan ts)
  output_at = let a = frame_total in omega (arith, a)

  range_at : range_from (checked_of ts) ≡ range_start (sizes_in_plan ts)
  range_at = let a = frame_total in let b = output_total in omega (arith, a, b)

  hash_at : hash_from (checked_of ts) ≡ hash_start (sizes_in_plan ts)
  hash_at = let a = frame_total in let b = output_total in let c = range_total in omega (arith, a, b, c)

  programs_at : program_from (checked_of ts) ≡ programs_start (sizes_in_plan ts)
  programs_at = let a = frame_total in let b = output_total in let c = range_total in let d = hash_total in omega (arith, a, b, c, d)

  pub first_is : first_place (checked_of ts) ≡ first_parts (sizes_in_plan ts)
  first_is = same_parts _ _ refl (ap (λ (x : ℕ). x + 1) output_at) range_at hash_at programs_at

pub next_is : (t : Task) (p : BatchParts) → next_place t.checked p ≡ moved_by p (task_parts t.checked.pie.sizes)
next_is t p = same_parts _ _ (ap (λ (x : ℕ). p.frame + x) (sym (turn_is t))) refl refl (ap (λ (x : ℕ). p.hash + x) (sym (hash_is t))) refl

own_cells_are : (t : Task) → own_cells (size t.checked 0) ≡ 38 + 15 * ((size t.checked 0 - 1) / 4 + 1)
own_cells_are t = let c = some_code t in omega (arith, c)

own_instances_are : (t : Task) → own_instances (size t.checked 0) ≡ 20 * ((size t.checked 0 - 1) / 4 + 2)
own_instances_are t = let c = some_code t in omega (arith, c)

pub bases_are : (t : Task) (p : BatchParts) → bases_at t.checked p ≡ task_bases p t.checked.pie.sizes
bases_are t p =
    let rest = bases_on (p.program + size t.checked 0 + 3) (drop 7 t.checked.pie.sizes) in
    ap₂ (λ (x y : ℕ). p.program ∷ (p.frame + x) ∷ (p.output + 9) ∷ p.range ∷ (p.hash + y) ∷ (p.frame + 6) ∷ 106 ∷ rest) (sym (own_cells_are t)) (sym (own_instances_are t))

marks_are : (before : ℕ) (p : BatchParts) (ts : List Task) → map (λ (m : MarkRecord). m.bases) (marks_from before p (checked_of ts)) ≡ bases_of_all p (sizes_in_plan ts)
unfolding marks_from bases_of_all
marks_are before p [] = refl
marks_are before p (t ∷ ts) = ap₂ (λ (x : List ℕ) (xs : List (List ℕ)). x ∷ xs) (bases_are t p)
    (marks_are (before + task_length (task_values_at t.checked p)) (next_place t.checked p) ts ∙ ap (λ (q : BatchParts). bases_of_all q (sizes_in_plan ts)) (next_is t p))

same_span : (a b c d : ℕ) → a ≡ c → b ≡ d → ◌≡◌ {A = SpanRecord} (record { start = a; stop = b }) (record { start = c; stop = d })
same_span a b c d e f = ap₂ (λ (x y : ℕ). record { start = x; stop = y }) e f

pub follows : (t : Task) (ts : List Task) → FollowsPlan (cert_of t.checked (checked_of ts)) (plan_of (sizes_in_plan (t ∷ ts)))
follows t ts =
    let all = t ∷ ts in
    record {
      output = same_span _ _ _ _ (output_at all) (range_at all);
      range = same_span _ _ _ _ (range_at all) (hash_at all);
      hash = same_span _ _ _ _ (hash_at all) (programs_at all);
      bases = marks_are 4 (first_place (checked_of all)) all ∙ ap (λ (p : BatchParts). bases_of_all p (sizes_in_plan all)) (first_is all);
    }
