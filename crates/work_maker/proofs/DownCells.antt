-- What a look-up finds in the cells of DOWN: its words, its stack and its output.
use Rattle.std.proofs.Common.{◌≡◌, ℕ, zero, suc, ◌+◌, ◌<◌, ◌==◌, ◌&&◌, true, false, List, [], ◌∷◌, ◌++◌, length, map, slice_get, Option, Some, refl, sym, ◌∙◌, arith}
use Rattle.cairo_model.specs.Machine.Values.{Datum, number, place}
use Rattle.cairo_model.specs.Pie.Records.{MemoryCell, memory_of, value_at}
use Rattle.cairo_model.specs.Segments.{program_segment, execution_segment, output_segment}
use Rattle.cairo_model.proofs.Chains.{both}
use Rattle.cairo_model.proofs.NumberTests.{is_eq, is_not}
use Rattle.work_maker.specs.Down.{cells_with, round_values, countdown, down_cells, down_code, down_outputs, down_stack, down_stops, frame_starts}
use Rattle.work_maker.proofs.CellRows.{cell_with}

-- a row of another segment is passed over
other_row : (segment offset : ℕ) (values : List Datum) (rest : List MemoryCell) (other at : ℕ) → (segment == other) ≡ false → value_at (cells_with segment offset values ++ rest) other at ≡ value_at rest other at
unfolding cells_with
other_row segment offset [] rest other at apart = refl
other_row segment offset (value ∷ values) rest other at apart = rw apart (other_row segment (suc offset) values rest other at apart)

-- the first cell of a row, and what stands behind it
first_here : (segment offset : ℕ) (value : Datum) (rest : List MemoryCell) (at : ℕ) → at ≡ offset → value_at (cell_with segment offset value ∷ rest) segment at ≡ Some value
first_here segment offset value rest at is =
    let here : (segment == segment && offset == at) ≡ true = both (segment == segment) (offset == at) (is_eq segment segment refl) (is_eq offset at (sym is)) in
    rw here refl

later_here : (segment offset : ℕ) (value : Datum) (rest : List MemoryCell) (at : ℕ) → offset < at → value_at (cell_with segment offset value ∷ rest) segment at ≡ value_at rest segment at
later_here segment offset value rest at lt =
    let apart : (offset == at) ≡ false = is_not offset at (λ e. omega arith) in
    let same : (segment == segment) ≡ true = is_eq segment segment refl in
    rw (same, apart) refl

-- the value of each index of a row stands there
row_at : (segment offset : ℕ) (values : List Datum) (rest : List MemoryCell) (at i : ℕ) → at ≡ offset + i → i < length values → value_at (cells_with segment offset values ++ rest) segment at ≡ slice_get values i
unfolding cells_with
row_at segment offset [] rest at i is lt = absurd (omega (arith, lt))
row_at segment offset (value ∷ values) rest at zero is lt = first_here segment offset value (cells_with segment (suc offset) values ++ rest) at (omega (arith, is))
row_at segment offset (value ∷ values) rest at (suc i) is lt =
    later_here segment offset value (cells_with segment (suc offset) values ++ rest) at (omega (arith, is)) ∙ row_at segment (suc offset) values rest at i (omega (arith, is)) (omega (arith, lt))

-- these values stand one after the other from an offset of a segment on
abbrev pub StandFrom : (Datum → Option Datum) → ℕ → ℕ → List Datum → Type 0
StandFrom m segment offset [] = Unit {0}
StandFrom m segment offset (value ∷ values) = (m (place segment offset) ≡ Some value) × StandFrom m segment (suc offset) values

stand_by_index : (m : Datum → Option Datum) (segment offset : ℕ) (values : List Datum) → ((at i : ℕ) → at ≡ offset + i → i < length values → m (place segment at) ≡ slice_get values i) → StandFrom m segment offset values
stand_by_index m segment offset [] each = tt
stand_by_index m segment offset (value ∷ values) each = (
  each offset 0 (omega arith) (omega arith),
  stand_by_index m segment (suc offset) values (λ at i is lt. each at (suc i) (omega (arith, is)) (omega (arith, lt))),
)

-- what stands in a memory that has DOWN with so many rounds
pub record HasDown (m : Datum → Option Datum) (rounds : ℕ) : Type 0 where
  pub code : (i : ℕ) → i < 18 → m (place program_segment i) ≡ slice_get (map number (down_code rounds)) i
  pub frame : (i : ℕ) → i < 5 → m (place execution_segment i) ≡ slice_get frame_starts i
  pub stack : StandFrom m execution_segment 5 (round_values rounds ++ (countdown rounds ++ down_stops))
  pub output : m (place output_segment 0) ≡ Some (number 1)

module _ (rounds : ℕ) where
  abbrev outputs : List MemoryCell
  outputs = cells_with output_segment 0 (map number down_outputs)

  code_at : (i : ℕ) → i < 18 → value_at (down_cells rounds) program_segment i ≡ slice_get (map number (down_code rounds)) i
  code_at i lt = row_at program_segment 0 (map number (down_code rounds)) (cells_with execution_segment 0 (down_stack rounds) ++ outputs) i i (omega arith) (omega (arith, lt))

  stack_at : (at i : ℕ) → at ≡ 0 + i → i < length (down_stack rounds) → value_at (down_cells rounds) execution_segment at ≡ slice_get (down_stack rounds) i
  stack_at at i is lt =
      other_row program_segment 0 (map number (down_code rounds)) (cells_with execution_segment 0 (down_stack rounds) ++ outputs) execution_segment at refl
      ∙ row_at execution_segment 0 (down_stack rounds) outputs at i is lt

  -- the stack's first values are the frame
  frame_at : (i : ℕ) → i < 5 → value_at (down_cells rounds) execution_segment i ≡ slice_get frame_starts i
  frame_at zero lt = stack_at 0 0 refl (omega arith)
  frame_at (suc zero) lt = stack_at 1 1 refl (omega arith)
  frame_at (suc (suc zero)) lt = stack_at 2 2 refl (omega arith)
  frame_at (suc (suc (suc zero))) lt = stack_at 3 3 refl (omega arith)
  frame_at (suc (suc (suc (suc zero)))) lt = stack_at 4 4 refl (omega arith)
  frame_at (suc (suc (suc (suc (suc i))))) lt = absurd (omega (arith, lt))

  output_at : value_at (down_cells rounds) output_segment 0 ≡ Some (number 1)
  unfolding cells_with
  output_at =
      other_row program_segment 0 (map number (down_code rounds)) (cells_with execution_segment 0 (down_stack rounds) ++ outputs) output_segment 0 refl
      ∙ other_row execution_segment 0 (down_stack rounds) outputs output_segment 0 refl

  pub has_down : HasDown (memory_of (down_cells rounds)) rounds
  has_down = record {
    code = code_at;
    frame = frame_at;
    stack = (stand_by_index (memory_of (down_cells rounds)) execution_segment 0 (down_stack rounds) stack_at).1.1.1.1.1;
    output = output_at;
  }
