-- The spans of a batch's certificate hold what the builtins and the batch's output ask.
use Rattle.std.proofs.Common.{◌≡◌, ℕ, ◌+◌, ◌-◌, ◌*◌, ◌<◌, ◌≤◌, List, [], ◌∷◌, ◌++◌, length, slice_index, All, Option, Some, inl, inr, refl, sym, ap, subst, ◌∙◌, arith, length-append}
use Rattle.std.proofs.lemmas.Bool.{cases_lt}
use Rattle.std.proofs.lemmas.List.{get_or_append_left}
use Rattle.std.proofs.lemmas.List.Elements.{All-append, All-nil}
use Rattle.std.proofs.Math.Seq.{get_or-append_right}
use Rattle.builtin_range.specs.Ranges.{IsRangeCell}
use Rattle.cairo_model.specs.Machine.Values.{number}
use Rattle.cairo_model.specs.Pie.Records.{MemoryCell}
use Rattle.cairo_model.specs.Pie.Layouts.{base_of}
use Rattle.cairo_model.specs.Pie.Acceptance.{HoldsNumbers}
use Rattle.cairo_model.specs.Pie.BuiltinCells.{AreInstances}
use Rattle.batch_plan.specs.Parts.{BatchParts}
use Rattle.batch_runner.specs.Working.Tasks.{Task, checked_of}
use Rattle.batch_runner.specs.Layout.{bases_at, hash_size, more_turns, next_place, output_size, size, total}
use Rattle.batch_runner.specs.Memory.{hashes, turn_values_at, outputs, part, placed, ranges, words_at}
use Rattle.batch_runner.specs.Pieces.{numbered}
use Rattle.batch_runner.specs.Working.Memories.{HasEach}
use Rattle.boot_program.specs.Instances.{eight}
use Rattle.boot_program.specs.Frames.{own_hash}
use Rattle.batch_runner.proofs.PiecesLaws.{stands_numbered}
use Rattle.batch_runner.proofs.PartsRise.{length_hash}
use Rattle.std.specs.List.{flat_map}
use Rattle.boot_program.specs.Batch.Acceptance.{facts_of}
use Rattle.boot_program.specs.Batch.Output.{task_output}
use Rattle.batch_runner.proofs.HavingCells.{has_first, has_second, cell_has}
use Rattle.batch_runner.proofs.BootInstances.{instances_joined, own_instances, digest_is}

-- numbers in order from a plain_number address on
pub record Region (m : ℕ → Option ℕ) (base size : ℕ) (numbers : List ℕ) : Type 0 where
  pub count : length numbers ≡ size
  pub each : (i : ℕ) → i < size → m (base + i) ≡ Some (slice_index numbers i)

unfoldable pub range_numbers : List Task → List ℕ
range_numbers [] = []
range_numbers (t ∷ ts) = t.accepted.range.numbers ++ range_numbers ts

unfoldable pub hash_numbers : BatchParts → List Task → List ℕ
hash_numbers p [] = []
hash_numbers p (t ∷ ts) = (own_hash (turn_values_at t.checked p) ++ t.accepted.hash.numbers) ++ hash_numbers (next_place t.checked p) ts

pub are_range_numbers : (ts : List Task) → All IsRangeCell (range_numbers ts)
unfolding range_numbers
are_range_numbers [] = All-nil IsRangeCell
are_range_numbers (t ∷ ts) = All-append IsRangeCell t.accepted.range.numbers (range_numbers ts) t.accepted.range.are_range_cells (are_range_numbers ts)

pub are_hash_numbers : (p : BatchParts) (ts : List Task) → AreInstances (hash_numbers p ts)
unfolding hash_numbers
are_hash_numbers p [] = record { whole = refl; each = λ i lt. absurd (omega (arith, lt)) }
are_hash_numbers p (t ∷ ts) = instances_joined (own_hash (turn_values_at t.checked p) ++ t.accepted.hash.numbers) (hash_numbers (next_place t.checked p) ts)
    (instances_joined (own_hash (turn_values_at t.checked p)) t.accepted.hash.numbers (own_instances t p) t.accepted.hash.are_instances) (are_hash_numbers (next_place t.checked p) ts)

module _ (m : ℕ → Option ℕ) where
  pub numbered_region : (base : ℕ) (vs : List ℕ) → HasEach m (numbered base vs) → Region m base (length vs) vs
  numbered_region base vs has = record { count = refl; each = λ i lt. has (base + i) (slice_index vs i) (stands_numbered base vs i lt) }

  pub segment_region : (bases : List ℕ) (s size : ℕ) (numbers : List ℕ) (cells : List MemoryCell) → HasEach m (placed bases s cells) → HoldsNumbers cells s size numbers
      → Region m (base_of bases s) size numbers
  segment_region bases s size numbers cells has holds = record {
    count = holds.count;
    each = λ i lt. cell_has m bases s i (number (slice_index numbers i)) cells has (holds.each i lt);
  }

  pub regions_joined : (base n k : ℕ) (xs ys : List ℕ) → Region m base n xs → Region m (base + n) k ys → Region m base (n + k) (xs ++ ys)
  regions_joined base n k xs ys first second =
      let both = length-append xs ys in
      let c = first.count in
      let d = second.count in
      record {
        count = omega (arith, both, c, d);
        each = λ i inside. elim (cases_lt i n) [
          | inl lt ↦ first.each i lt ∙ ap Some (sym (get_or_append_left xs ys 0 i (omega (arith, lt, c))))
          | inr past ↦ later i past inside
        ];
      }
    where
      later : (i : ℕ) → n ≤ i → i < n + k → m (base + i) ≡ Some (slice_index (xs ++ ys) i)
      later i past inside =
          let c = first.count in
          let place : base + i ≡ base + n + (i - n) = omega (arith, past) in
          let index : i - n ≡ i - length xs = omega (arith, c) in
          ap m place ∙ second.each (i - n) (omega (arith, past, inside)) ∙ ap Some (ap (slice_index ys) index ∙ sym (get_or-append_right xs ys i 0 (omega (arith, past, c))))

  sized : (base n k : ℕ) (xs : List ℕ) → n ≡ k → Region m base n xs → Region m base k xs
  sized base n k xs e h = subst (λ (x : ℕ). Region m base x xs) e h

  pub outputs_region : (p : BatchParts) (ts : List Task) → HasEach m (outputs p (checked_of ts)) → Region m p.output (total output_size (checked_of ts)) (flat_map task_output (facts_of (checked_of ts)))
  unfolding outputs total
  outputs_region p [] has = record { count = refl; each = λ i lt. absurd (omega (arith, lt)) }
  outputs_region p (t ∷ ts) has =
      let n = t.accepted.shows.has_outputs.count in
      let header = output_size t.checked ∷ eight (words_at t.checked (more_turns (size t.checked 0) + 1)) in
      let first = numbered_region p.output header (has_first m (numbered p.output header) (part t.checked p 2 ++ outputs (next_place t.checked p) (checked_of ts)) has) in
      let rest = has_second m (numbered p.output header) (part t.checked p 2 ++ outputs (next_place t.checked p) (checked_of ts)) has in
      let own = segment_region (bases_at t.checked p) 2 (size t.checked 2) t.checked.fact.outputs t.checked.pie.cells (has_first m (part t.checked p 2) (outputs (next_place t.checked p) (checked_of ts)) rest) t.accepted.shows.has_outputs in
      let next = outputs_region (next_place t.checked p) ts (has_second m (part t.checked p 2) (outputs (next_place t.checked p) (checked_of ts)) rest) in
      let one = regions_joined p.output 9 (size t.checked 2) header t.checked.fact.outputs first own in
      let same : header ++ t.checked.fact.outputs ≡ task_output t.checked.fact =
      ap (λ x. x ∷ eight (words_at t.checked (more_turns (size t.checked 0) + 1)) ++ t.checked.fact.outputs) (size_is (size t.checked 2) (length t.checked.fact.outputs) n)
      ∙ ap (λ (w : List ℕ). (9 + length t.checked.fact.outputs) ∷ w ++ t.checked.fact.outputs) (digest_is t p) in
      regions_joined p.output (output_size t.checked) (total output_size (checked_of ts)) (task_output t.checked.fact) (flat_map task_output (facts_of (checked_of ts)))
      (subst (λ (xs : List ℕ). Region m p.output (output_size t.checked) xs) same one) next
    where
      size_is : (x y : ℕ) → y ≡ x → 9 + x ≡ 9 + y
      size_is x y e = omega (arith, e)

  -- a list of numbers for each part
  pub ranges_region : (p : BatchParts) (ts : List Task) → HasEach m (ranges p (checked_of ts)) → Region m p.range (total (λ t. size t 3) (checked_of ts)) (range_numbers ts)
  unfolding ranges total range_numbers
  ranges_region p [] has = record { count = refl; each = λ i lt. absurd (omega (arith, lt)) }
  ranges_region p (t ∷ ts) has =
      regions_joined p.range (size t.checked 3) (total (λ t. size t 3) (checked_of ts)) t.accepted.range.numbers (range_numbers ts)
      (segment_region (bases_at t.checked p) 3 (size t.checked 3) t.accepted.range.numbers t.checked.pie.cells (has_first m (part t.checked p 3) (ranges (next_place t.checked p) (checked_of ts)) has) t.accepted.range.holds)
      (ranges_region (next_place t.checked p) ts (has_second m (part t.checked p 3) (ranges (next_place t.checked p) (checked_of ts)) has))

  pub hashes_region : (p : BatchParts) (ts : List Task) → HasEach m (hashes p (checked_of ts)) → Region m p.hash (total hash_size (checked_of ts)) (hash_numbers p ts)
  unfolding hashes total hash_numbers
  hashes_region p [] has = record { count = refl; each = λ i lt. absurd (omega (arith, lt)) }
  hashes_region p (t ∷ ts) has =
      let own = own_hash (turn_values_at t.checked p) in
      let rest = has_second m (numbered p.hash own) (part t.checked p 4 ++ hashes (next_place t.checked p) (checked_of ts)) has in
      let boot = sized p.hash (length own) (20 * (more_turns (size t.checked 0) + 2)) own (length_hash (turn_values_at t.checked p)) (numbered_region p.hash own (has_first m (numbered p.hash own) (part t.checked p 4 ++ hashes (next_place t.checked p) (checked_of ts)) has)) in
      let task = segment_region (bases_at t.checked p) 4 (size t.checked 4) t.accepted.hash.numbers t.checked.pie.cells (has_first m (part t.checked p 4) (hashes (next_place t.checked p) (checked_of ts)) rest) t.accepted.hash.holds in
      regions_joined p.hash (hash_size t.checked) (total hash_size (checked_of ts)) (own ++ t.accepted.hash.numbers) (hash_numbers (next_place t.checked p) ts)
      (regions_joined p.hash (20 * (more_turns (size t.checked 0) + 2)) (size t.checked 4) own t.accepted.hash.numbers boot task)
      (hashes_region (next_place t.checked p) ts (has_second m (part t.checked p 4) (hashes (next_place t.checked p) (checked_of ts)) rest))
