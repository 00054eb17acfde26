-- Lists that are the same place by place, and tasks with the same PIE.
use Rattle.std.proofs.Common.{◌≡◌, ◌≢◌, ◌↔◌, ℕ, zero, suc, ◌≤◌, ◌<◌, List, [], ◌∷◌, length, map, sym, ap, ◌∙◌, subst, refl, arith}
use Rattle.std.specs.Prelude.{None, Some, option_map, slice_get}
use Rattle.std.proofs.lemmas.Option.{slice_get-map, slice_get_past}
use Rattle.std.proofs.lemmas.List.{length-map}
use Rattle.cairo_model.specs.Pie.Acceptance.{AcceptedWith, CheckedRecord}
use Rattle.cairo_model.specs.Pie.Records.{PieRecord}
use Rattle.desk_core.specs.Registrations.{SamePieAt, pies_in}
use Rattle.desk_core.specs.Working.Registering.{SameTaskAt, checked_in}
use Rattle.desk_core.specs.declared.job.Job.{Job}
use Rattle.cairo_model.proofs.RunLaws.{one_acceptance}

some_is : {X : Type 0} (x y : X) → Some x ≡ Some y → x ≡ y
some_is x y e = cc

pub same_lists : {X : Type 0} (n : ℕ) (xs ys : List X) → length xs ≤ n → length ys ≤ n → ((k : ℕ) → k < n → slice_get xs k ≡ slice_get ys k) → xs ≡ ys
same_lists n [] [] short short' same = refl
same_lists n [] (y ∷ ys) short short' same = let e = same 0 (omega (arith, short')) in absurd (cc)
same_lists n (x ∷ xs) [] short short' same = let e = same 0 (omega (arith, short)) in absurd (cc)
same_lists zero (x ∷ xs) (y ∷ ys) short short' same = absurd (omega (arith, short))
same_lists (suc n) (x ∷ xs) (y ∷ ys) short short' same =
    let first : x ≡ y = some_is x y (same 0 (omega arith)) in
    let rest = same_lists n xs ys (omega (arith, short)) (omega (arith, short')) (λ k lt. same (suc k) (omega (arith, lt))) in
    λ i. first i ∷ rest i

pub same_mapped : {X Y : Type 0} (f : X → Y) (n : ℕ) (xs ys : List X) → length xs ≤ n → length ys ≤ n → ((k : ℕ) → k < n → slice_get (map f xs) k ≡ slice_get (map f ys) k) → map f xs ≡ map f ys
same_mapped f n xs ys short short' same = same_lists n (map f xs) (map f ys) (omega (arith, short, length-map xs f)) (omega (arith, short', length-map ys f)) same

-- an accepted PIE has one fact and one run
pub task_is : (one other : CheckedRecord) → AcceptedWith one.pie one.fact one.states → AcceptedWith other.pie other.fact other.states → one.pie ≡ other.pie → one ≡ other
task_is one other accepted accepted' same =
    let both = one_acceptance other.pie one.fact other.fact one.states other.states (subst (λ (p : PieRecord). AcceptedWith p one.fact one.states) same accepted) accepted' in
    λ i. record { pie = same i; fact = both.0 i; states = both.1 i }

-- ---- at one index

there_some : {X : Type 0} (xs : List X) (i : ℕ) → i < length xs → slice_get xs i ≢ None
there_some [] i lt same = absurd (omega (arith, lt))
there_some (x ∷ xs) zero lt same = absurd (cc)
there_some (x ∷ xs) (suc i) lt same = there_some xs i (omega (arith, lt)) same

module _ (tasks : List CheckedRecord) (kept : List Job) (i : ℕ) where
  length_given : length (pies_in tasks) ≡ length tasks
  length_given = length-map tasks (λ (t : CheckedRecord). t.pie)

  length_kept : length (pies_in (checked_in kept)) ≡ length kept
  length_kept = length-map (checked_in kept) (λ (t : CheckedRecord). t.pie) ∙ length-map kept (λ (j : Job). j.checked)

  pub one_further : i < length tasks → length kept ≤ i → ¬ SamePieAt (pies_in tasks) (pies_in (checked_in kept)) i
  one_further lt past same = there_some (pies_in tasks) i (omega (arith, lt, length_given)) (same ∙ slice_get_past (pies_in (checked_in kept)) i (omega (arith, past, length_kept)))

  pub one_missing : length tasks ≤ i → i < length kept → ¬ SamePieAt (pies_in tasks) (pies_in (checked_in kept)) i
  one_missing past lt same = there_some (pies_in (checked_in kept)) i (omega (arith, lt, length_kept)) (sym same ∙ slice_get_past (pies_in tasks) i (omega (arith, past, length_given)))

  pub none_either : length tasks ≤ i → length kept ≤ i → SamePieAt (pies_in tasks) (pies_in (checked_in kept)) i
  none_either past past' = slice_get_past (pies_in tasks) i (omega (arith, past, length_given)) ∙ sym (slice_get_past (pies_in (checked_in kept)) i (omega (arith, past', length_kept)))

  pub no_tasks : length tasks ≤ i → length kept ≤ i → SameTaskAt tasks (checked_in kept) i
  no_tasks past past' = slice_get_past tasks i past ∙ sym (slice_get_past (checked_in kept) i (omega (arith, past', length-map kept (λ (j : Job). j.checked))))

  module _ (t : CheckedRecord) (j : Job) (is : slice_get tasks i ≡ Some t) (is' : slice_get kept i ≡ Some j) where
    task_kept : slice_get (checked_in kept) i ≡ Some j.checked
    task_kept = slice_get-map (λ (x : Job). x.checked) kept i ∙ ap (option_map (λ (x : Job). x.checked)) is'

    pie_given : slice_get (pies_in tasks) i ≡ Some t.pie
    pie_given = slice_get-map (λ (x : CheckedRecord). x.pie) tasks i ∙ ap (option_map (λ (x : CheckedRecord). x.pie)) is

    pie_kept : slice_get (pies_in (checked_in kept)) i ≡ Some j.checked.pie
    pie_kept = slice_get-map (λ (x : CheckedRecord). x.pie) (checked_in kept) i ∙ ap (option_map (λ (x : CheckedRecord). x.pie)) task_kept

    pub pies_at : SamePieAt (pies_in tasks) (pies_in (checked_in kept)) i ↔ (t.pie ≡ j.checked.pie)
    pies_at = ((λ same. some_is t.pie j.checked.pie (sym pie_given ∙ (same ∙ pie_kept))), (λ same. pie_given ∙ (ap Some same ∙ sym pie_kept)))

    pub tasks_at : t ≡ j.checked → SameTaskAt tasks (checked_in kept) i
    tasks_at same = is ∙ (ap Some same ∙ sym task_kept)
