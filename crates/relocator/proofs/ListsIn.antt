-- What the code's lists owe, from what is known of them as plain data.
use Rattle.std.proofs.Common.{◌≡◌, ℕ, ◌<◌, List, All, length, map, sym, ◌∙◌, arith}
use Rattle.std.proofs.lemmas.List.Elements.{All-weaker}
use Rattle.std.proofs.lemmas.List.Sums.{get_or-le-sum_by}
use Rattle.std.proofs.lemmas.List.{length-map}
use Rattle.goldi_field.specs.declared.Felt.{Felt}
use Rattle.cairo_model.specs.declared.pie.PieCell.{PieCell}
use Rattle.cairo_model.specs.declared.state.State.{State}
use Rattle.cairo_model.specs.Machine.Values.{Datum, number, place}
use Rattle.cairo_model.specs.Machine.Steps.{Registers}
use Rattle.cairo_model.specs.Pie.Records.{PieRecord, KeepsRules, IsCellOf, IsValueIn, memory_of, segment_size}
use Rattle.cairo_model.specs.Views.Pie.{memory_cell}
use Rattle.cairo_model.specs.Views.Machine.{datum, registers}
use Rattle.cairo_model.specs.Pie.Acceptance.{stack_start, start_of}
use Rattle.cairo_model.specs.Segments.{builtin_mask, program_segment}
use Rattle.relocator.specs.Relocations.{IsIn}
use Rattle.cairo_model.specs.Pie.Staying.{AreIn, StatesStay}
use Rattle.relocator.specs.Working.Lists.{numbers, IsCellIn, IsStateIn, StartsInside}
use Rattle.relocator.proofs.ListFacts.{all_from_map}

value_in : (count : ℕ) (d : Datum) → IsValueIn count d → IsIn count d
value_in count (number n) p = tt
value_in count (place s o) p = p.in_segments

pub same_count : (bases : List Felt) (sizes : List ℕ) → length (numbers bases) ≡ length sizes → length sizes ≡ length bases
same_count bases sizes e = sym e ∙ length-map bases (λ (f : Felt). f.number)

pub cells_in : (sizes : List ℕ) (cells : List PieCell) → All (IsCellOf sizes) (map memory_cell cells) → All (IsCellIn (length sizes)) cells
cells_in sizes cells all =
    All-weaker (λ (c : PieCell). IsCellOf sizes (memory_cell c)) (IsCellIn (length sizes))
    (λ c is. record { place_in = is.in_segments; value_in = value_in (length sizes) (datum c.value) is.has_value })
    cells (all_from_map (IsCellOf sizes) memory_cell cells all)

pub states_in : (count : ℕ) (states : List State) → All (AreIn count) (map registers states) → All (IsStateIn count) states
states_in count states all =
    All-weaker (λ (s : State). AreIn count (registers s)) (IsStateIn count)
    (λ s are. record { pc_in = value_in count (datum s.pc) are.pc; ap_in = value_in count (datum s.ap) are.ap; fp_in = value_in count (datum s.fp) are.fp })
    states (all_from_map (AreIn count) registers states all)

pub start_in : (pie : PieRecord) → KeepsRules pie → pie.main < segment_size pie program_segment → AreIn (length pie.sizes) (start_of pie)
start_in pie rules inside =
    let sizes = rules.are_sizes in
    let code = get_or-le-sum_by (λ (x : ℕ). x) pie.sizes 0 0 (omega (arith, sizes.at_least)) in
    let in_execution : IsValueIn (length pie.sizes) (stack_start builtin_mask) = record { in_segments = omega (arith, sizes.at_least); is_near = omega arith } in
    record {
      pc = record { in_segments = omega (arith, sizes.at_least); is_near = omega (arith, code, sizes.in_all, inside) };
      ap = in_execution;
      fp = in_execution;
    }

pub run_in : ((pie : PieRecord) → KeepsRules pie → StatesStay (length pie.sizes) (memory_of pie.cells)) → (pie : PieRecord) (states : List (Registers Datum)) → StartsInside pie states → All (AreIn (length pie.sizes)) states
run_in stay pie states starts = stay pie starts.rules (start_of pie) starts.last states (start_in pie starts.rules starts.main_in_code) starts.runs
