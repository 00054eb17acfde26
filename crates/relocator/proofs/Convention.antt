-- The calling convention of a PIE's isolated run, carried over to each field memory that has the relocated cells. It asks for
-- as many bases as segments, wherever they lie.
use Rattle.std.proofs.Common.{◌≡◌, ℕ, ◌-◌, ◌<◌, List, length, slice_index, Option, Some, sym, ap, subst, ◌∙◌, arith}
use Rattle.goldi_field.specs.Numbers.{IsFelt, difference_of}
use Rattle.cairo_model.specs.Machine.Addresses.{down, found_below}
use Rattle.cairo_model.specs.Machine.Values.{Datum, number, place, Difference}
use Rattle.cairo_model.specs.Machine.Steps.{value_arithmetic}
use Rattle.cairo_model.specs.Pie.Records.{IsValueIn, memory_of}
use Rattle.cairo_model.specs.Segments.{builtin_mask, builtin_segments, execution_segment, frame_segments}
use Rattle.cairo_model.specs.Pie.Layouts.{relocated}
use Rattle.cairo_model.specs.Pie.Relocation.{HasRelocated}
use Rattle.cairo_model.specs.Pie.Staying.{AreIn}
use Rattle.cairo_model.specs.Pie.Acceptance.{CheckedRecord, AcceptedWith, end_of, stack_start, start_of}
use Rattle.cairo_model.proofs.Outcomes.{and_then_gives}
use Rattle.cairo_model.proofs.RunsStay.{pie_states_stay, end_in}
use Rattle.relocator.specs.Relocations.{KeepsArithmetic}
use Rattle.relocator.proofs.ListsIn.{start_in, run_in}
use Rattle.relocator.proofs.RunsPlaced.{starts_inside}

-- an address below, as a difference
pub down_is : (a n : ℕ) → IsFelt n → down a n ≡ difference_of a n
down_is a n small = omega (arith, small)

module _ (checked : CheckedRecord) (accepted : AcceptedWith checked.pie checked.fact checked.states) where
  pub start_inside : AreIn (length checked.pie.sizes) (start_of checked.pie)
  start_inside = start_in checked.pie accepted.rules accepted.main_in_code

  pub end_inside : AreIn (length checked.pie.sizes) accepted.isolated.last
  end_inside =
      end_in value_arithmetic (AreIn (length checked.pie.sizes)) (memory_of checked.pie.cells) (start_of checked.pie) accepted.isolated.last checked.states accepted.isolated.runs
      (run_in pie_states_stay checked.pie checked.states (starts_inside checked accepted))

  module _ (bases : List ℕ) (one_each : length bases ≡ length checked.pie.sizes) (keeps : KeepsArithmetic bases) (field : ℕ → Option ℕ) (has : HasRelocated bases (memory_of checked.pie.cells) field) where
    -- a look-up so many below an address
    pub below_carried : (a b v : Datum) (n : ℕ) → IsValueIn (length checked.pie.sizes) a → IsFelt n → Difference a (number n) ≡ Some b → memory_of checked.pie.cells b ≡ Some v
        → found_below field (relocated bases a) n ≡ Some (relocated bases v)
    below_carried a b v n inside small is found =
        let in_bases : IsValueIn (length bases) a = subst (λ (k : ℕ). IsValueIn k a) (sym one_each) inside in
        ap field (down_is (relocated bases a) n small ∙ sym (keeps.differences a (number n) b in_bases small is)) ∙ has b v found

    -- a cell of the frame
    pub frame_carried : (i n : ℕ) → i < length (frame_segments builtin_mask) → IsFelt n → Difference (stack_start builtin_mask) (number n) ≡ Some (place execution_segment i)
        → found_below field (relocated bases (stack_start builtin_mask)) n ≡ Some (relocated bases (place (slice_index (frame_segments builtin_mask) i) 0))
    frame_carried i n lt small is = below_carried (stack_start builtin_mask) (place execution_segment i) (place (slice_index (frame_segments builtin_mask) i) 0) n start_inside.fp small is (accepted.frame i lt)

    -- a stop pointer
    pub stop_carried : (i : ℕ) → i < length (builtin_segments builtin_mask) → IsFelt (length (builtin_segments builtin_mask) - i)
        → found_below field (relocated bases accepted.isolated.last.ap) (length (builtin_segments builtin_mask) - i) ≡ Some (relocated bases (end_of checked.pie (slice_index (builtin_segments builtin_mask) i)))
    stop_carried i lt small =
        and_then_gives (Difference accepted.isolated.last.ap (number (length (builtin_segments builtin_mask) - i))) (memory_of checked.pie.cells) _ (accepted.isolated.home.stops i lt) (λ b is found.
        below_carried accepted.isolated.last.ap b _ (length (builtin_segments builtin_mask) - i) end_inside.ap small is found)
