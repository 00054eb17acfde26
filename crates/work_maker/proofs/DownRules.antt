-- The PIE of DOWN keeps the rules of PIEs.
use Rattle.std.proofs.Common.{◌≡◌, ℕ, zero, suc, ◌+◌, ◌^◌, ◌<◌, ◌≤◌, List, [], ◌∷◌, ◌++◌, length, map, sum, slice_index, Option, Some, None, true, refl, arith}
use Rattle.std.specs.List.{All, AllByRecursion}
use Rattle.std.proofs.lemmas.Bool.{lt-ltb}
use Rattle.std.proofs.lemmas.List.Elements.{All-nil, All-cons, All-append}
use Rattle.cairo_model.specs.Machine.Values.{Datum, number, place}
use Rattle.cairo_model.specs.Pie.Records.{MemoryCell, AreSizes, IsCellOf, IsValueIn, KeepsRules, Rise, place_number, place_numbers}
use Rattle.cairo_model.specs.Working.Keys.{is_after}
use Rattle.cairo_model.proofs.CellCount.{sum_more}
use Rattle.cairo_model.proofs.Rising.{Chain, rise_of}
use Rattle.work_maker.specs.Down.{cells_with, round_values, countdown, down_cells, down_code, down_outputs, down_pie, down_sizes, down_stack, down_stops, frame_starts}
use Rattle.work_maker.proofs.Countdowns.{stack_length}

-- ---- values

abbrev AreValues : List Datum → Type 0
AreValues values = AllByRecursion (IsValueIn 7) values

both_values : (xs ys : List Datum) → AreValues xs → AreValues ys → AreValues (xs ++ ys)
both_values [] ys h k = k
both_values (x ∷ xs) ys h k = (h.0, both_values xs ys h.1 k)

start_value : (segment offset : ℕ) → segment < 7 → offset < 2 → IsValueIn 7 (place segment offset)
start_value segment offset in_segments near = record { in_segments = in_segments; is_near = omega arith }

frame_values : AreValues frame_starts
frame_values = (
  start_value 2 0 (omega arith) (omega arith),
  (
    start_value 3 0 (omega arith) (omega arith),
    (
      start_value 4 0 (omega arith) (omega arith),
      (start_value 5 0 (omega arith) (omega arith), (start_value 6 0 (omega arith) (omega arith), tt)),
    ),
  ),
)

stop_values : AreValues down_stops
stop_values = (start_value 2 1 (omega arith) (omega arith), (start_value 3 0 (omega arith) (omega arith), (start_value 4 0 (omega arith) (omega arith), tt)))

are_round_values : (left : ℕ) → left ≤ 500 → AreValues (round_values left)
are_round_values left few = (omega arith, (omega arith, (omega arith, tt)))

countdown_values : (rounds : ℕ) → rounds ≤ 500 → AreValues (countdown rounds)
unfolding countdown
countdown_values zero few = tt
countdown_values (suc left) few = both_values (round_values left) (countdown left) (are_round_values left (omega arith)) (countdown_values left (omega arith))

stack_values : (rounds : ℕ) → rounds ≤ 500 → AreValues (down_stack rounds)
stack_values rounds few =
    both_values frame_starts (round_values rounds ++ (countdown rounds ++ down_stops)) frame_values
    (both_values (round_values rounds) (countdown rounds ++ down_stops) (are_round_values rounds few) (both_values (countdown rounds) down_stops (countdown_values rounds few) stop_values))

code_values : (rounds : ℕ) → rounds ≤ 500 → AreValues (map number (down_code rounds))
code_values rounds few = (
  omega arith,
  (
    omega arith,
    (
      omega arith,
      (
        omega arith,
        (
          omega arith,
          (
            omega arith,
            (
              omega arith,
              (
                omega arith,
                (
                  omega arith,
                  (omega arith, (omega arith, (omega arith, (omega arith, (omega arith, (omega arith, (omega arith, (omega arith, (omega arith, tt))))))))),
                ),
              ),
            ),
          ),
        ),
      ),
    ),
  ),
)

-- ---- cells

row_cells : (sizes : List ℕ) (segment offset : ℕ) (values : List Datum) → length sizes ≡ 7 → segment < length sizes → offset + length values ≤ slice_index sizes segment → AreValues values
    → All (IsCellOf sizes) (cells_with segment offset values)
unfolding cells_with
row_cells sizes segment offset [] seven inside fits are = All-nil (IsCellOf sizes)
row_cells sizes segment offset (value ∷ values) seven inside fits are =
    All-cons (IsCellOf sizes) (record { segment = segment; offset = offset; value = value }) (cells_with segment (suc offset) values)
    (record { in_segments = inside; in_size = omega arith; has_value = rw seven (are.0) })
    (row_cells sizes segment (suc offset) values seven inside (omega arith) are.1)

cells_are : (rounds : ℕ) → rounds ≤ 500 → All (IsCellOf (down_sizes rounds)) (down_cells rounds)
cells_are rounds few =
    let sizes = down_sizes rounds in
    let code = cells_with 0 0 (map number (down_code rounds)) in
    let stack = cells_with 1 0 (down_stack rounds) in
    let outputs = cells_with 2 0 (map number down_outputs) in
    All-append (IsCellOf sizes) code (stack ++ outputs) (row_cells sizes 0 0 (map number (down_code rounds)) refl (omega arith) (omega arith) (code_values rounds few))
    (All-append (IsCellOf sizes) stack outputs (row_cells sizes 1 0 (down_stack rounds) refl (omega arith) (omega arith) (stack_values rounds few))
    (row_cells sizes 2 0 (map number down_outputs) refl (omega arith) (omega arith) (omega arith, tt)))

-- ---- their places rise

abbrev After : Option ℕ → ℕ → Type 0
After None key = Unit {0}
After (Some before) key = before < key

after_is : (before : Option ℕ) (key : ℕ) → After before key → is_after before key ≡ true
after_is None key h = refl
after_is (Some n) key h = lt-ltb n key h

later : (before : Option ℕ) (key more : ℕ) → key ≤ more → After before key → After before more
later None key more le h = tt
later (Some n) key more le h = omega arith

-- what follows a row rises after whatever is below the next segment
abbrev Follows : ℕ → List MemoryCell → Type 0
Follows segment rest = (before : Option ℕ) → After before (place_number segment 0) → Chain before (place_numbers rest)

row_rises : (segment offset : ℕ) (values : List Datum) (rest : List MemoryCell) (before : Option ℕ) → offset + length values ≤ 2 ^ 32 → After before (place_number segment offset) → Follows (suc segment) rest
    → Chain before (place_numbers (cells_with segment offset values ++ rest))
unfolding cells_with
row_rises segment offset [] rest before fits after follows = follows before (later before (place_number segment offset) (place_number (suc segment) 0) (omega arith) after)
row_rises segment offset (value ∷ values) rest before fits after follows = (
  after_is before (place_number segment offset) after,
  row_rises segment (suc offset) values rest (Some (place_number segment offset)) (omega arith) (omega arith) follows,
)

outputs_rise : Follows 2 (cells_with 2 0 (map number down_outputs))
unfolding cells_with
outputs_rise before after = (after_is before (place_number 2 0) after, tt)

cells_rise : (rounds : ℕ) → rounds ≤ 500 → Rise (down_cells rounds)
cells_rise rounds few =
    let outputs = cells_with 2 0 (map number down_outputs) in
    let stack = cells_with 1 0 (down_stack rounds) in
    let stack_rises : Follows 1 (stack ++ outputs) = λ before after. row_rises 1 0 (down_stack rounds) outputs before (omega (arith, stack_length rounds)) after outputs_rise in
    rise_of (place_numbers (down_cells rounds)) (row_rises 0 0 (map number (down_code rounds)) (stack ++ outputs) None (omega arith) tt stack_rises)

-- ---- all rules

sum_is : (a b c : ℕ) → sum (a ∷ b ∷ c ∷ 0 ∷ 0 ∷ 0 ∷ 0 ∷ []) ≡ a + (b + c)
sum_is a b c =
    omega (arith, sum_more a (b ∷ c ∷ 0 ∷ 0 ∷ 0 ∷ 0 ∷ []), sum_more b (c ∷ 0 ∷ 0 ∷ 0 ∷ 0 ∷ []), sum_more c (0 ∷ 0 ∷ 0 ∷ 0 ∷ []), none)
  where
    none : sum (0 ∷ 0 ∷ 0 ∷ 0 ∷ []) ≡ 0
    none = refl

sizes_are : (rounds : ℕ) → rounds ≤ 500 → AreSizes (down_sizes rounds)
sizes_are rounds few =
    let stack = length (down_stack rounds) in
    record { at_least = omega arith; at_most = omega arith; no_return_fp = refl; no_return_pc = refl; in_all = omega (arith, sum_is 18 stack 1, stack_length rounds) }

pub down_rules : (rounds : ℕ) → rounds ≤ 500 → KeepsRules (down_pie rounds)
down_rules rounds few = record { are_sizes = sizes_are rounds few; few_steps = omega arith; are_cells = cells_are rounds few; rise = cells_rise rounds few }
