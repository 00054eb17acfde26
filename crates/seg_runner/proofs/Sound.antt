-- What puts keep of a memory that grows: seven segments, cells and values inside them, and the code.
use Rattle.std.proofs.Common.{◌≡◌, ◌≢◌, ℕ, ◌+◌, ◌<◌, ◌≤◌, nat_le, max, Bool, true, false, if◌then◌else◌, List, length, sum, slice_index, Option, Some, None, is_some, Result, Ok, Err, refl, sym, ap, subst, ◌∙◌, inl, inr, arith}
use Rattle.std.proofs.lemmas.Bool.{cases_eq}
use Rattle.std.proofs.lemmas.Bool.Decides.{nat_tests}
use Rattle.std.proofs.lemmas.List.{length-set, get_or-set_same, get_or-set_other}
use Rattle.cairo_model.proofs.Chains.{both_left, both_right}
use Rattle.cairo_model.proofs.Inversion.{value_exact}
use Rattle.cairo_model.proofs.Outcomes.{ok_is, some_is, tested, then_ok}
use Rattle.cairo_model.specs.Limits.{most_cells}
use Rattle.cairo_model.specs.Machine.Values.{Datum, number, place, same_datum}
use Rattle.cairo_model.specs.Pie.Records.{IsValueIn}
use Rattle.cairo_model.specs.Pie.Staying.{AllValuesIn}
use Rattle.seg_runner.specs.Memories.{GrowingMemory, may_grow, sizes_with, with_cell, put_at, put_deduced, put_where_absent}
use Rattle.seg_runner.specs.Refusals.{RunCause, over_size}

pub record IsSound (words : List ℕ) (m : GrowingMemory) : Type 0 where
  pub seven : length m.sizes ≡ 7
  pub in_all : sum m.sizes ≤ most_cells
  pub no_return_fp : slice_index m.sizes 5 ≡ 0
  pub no_return_pc : slice_index m.sizes 6 ≡ 0
  pub inside : (s o : ℕ) (v : Datum) → m.cells (place s o) ≡ Some v → o < slice_index m.sizes s
  pub values : AllValuesIn 7 m.cells
  pub code_size : slice_index m.sizes 0 ≡ length words
  pub has_code : (i : ℕ) → i < length words → m.cells (place 0 i) ≡ Some (number (slice_index words i))

-- ---- sizes

size_here : (sizes : List ℕ) (s o : ℕ) → s < length sizes → slice_index (sizes_with sizes s o) s ≡ max (slice_index sizes s) (o + 1)
size_here sizes s o there = get_or-set_same sizes s (max (slice_index sizes s) (o + 1)) 0 there

size_there : (sizes : List ℕ) (s o t : ℕ) → t ≢ s → slice_index (sizes_with sizes s o) t ≡ slice_index sizes t
size_there sizes s o t other = get_or-set_other sizes s t (max (slice_index sizes s) (o + 1)) 0 other

no_less : (sizes : List ℕ) (s o t : ℕ) → s < length sizes → slice_index sizes t ≤ slice_index (sizes_with sizes s o) t
no_less sizes s o t there = elim (cases_eq t s) [
  | inl same ↦ subst (λ (k : ℕ). slice_index sizes k ≤ slice_index (sizes_with sizes s o) k) (sym same) (let e = size_here sizes s o there in omega arith)
  | inr other ↦ let e = size_there sizes s o t other in omega arith
]

-- ---- cells

-- a cell of the new memory is the one that was put, or an old one
cell_cases : {R : Type 0} (cells : Datum → Option Datum) (at v a w : Datum) → with_cell cells at v a ≡ Some w → (a ≡ at → v ≡ w → R) → (cells a ≡ Some w → R) → R
cell_cases cells at v a w e here there = tested (same_datum a at) (Some v) (cells a) (Some w) e
    (λ same is. here (value_exact.same_is a at same) (some_is v w is))
    (λ differ is. there is)

segment_is : (s o t q : ℕ) → place s o ≡ place t q → s ≡ t
segment_is s o t q e = cc

offset_is : (s o t q : ℕ) → place s o ≡ place t q → o ≡ q
offset_is s o t q e = cc

other_segment : (s o t q : ℕ) → s ≢ t → same_datum (place s o) (place t q) ≡ false
other_segment s o t q differ = grind (arith, nat_tests, differ)

open_from : (s : ℕ) → may_grow s ≡ true → (1 ≤ s) × (s ≤ 4)
open_from s e = (let low = both_left (nat_le 1 s) (nat_le s 4) e in grind (arith, nat_tests), let high = both_right (nat_le 1 s) (nat_le s 4) e in grind (arith, nat_tests))

-- ---- one put

put_sound : (words : List ℕ) (m : GrowingMemory) (s o : ℕ) (v : Datum) → IsSound words m → IsValueIn 7 v → 1 ≤ s → s ≤ 4 → sum (sizes_with m.sizes s o) ≤ most_cells
    → IsSound words (record { sizes = sizes_with m.sizes s o; cells = with_cell m.cells (place s o) v })
put_sound words m s o v sound good low high fits =
    let seven = sound.seven in
    let there : s < length m.sizes = omega arith in
    record {
      seven = length-set m.sizes s (max (slice_index m.sizes s) (o + 1)) ∙ seven;
      in_all = fits;
      no_return_fp = size_there m.sizes s o 5 (λ e. omega arith) ∙ sound.no_return_fp;
      no_return_pc = size_there m.sizes s o 6 (λ e. omega arith) ∙ sound.no_return_pc;
      inside = λ t q w e. cell_cases m.cells (place s o) v (place t q) w e
          (λ same is.
          let segment = segment_is t q s o same in
          let offset = offset_is t q s o same in
          subst (λ (k : ℕ). q < slice_index (sizes_with m.sizes s o) k) (sym segment) (let size = size_here m.sizes s o there in omega arith))
          (λ old. let before = sound.inside t q w old in let more = no_less m.sizes s o t there in omega arith);
      values = λ a w e. cell_cases m.cells (place s o) v a w e (λ same is. subst (IsValueIn 7) is good) (λ old. sound.values a w old);
      code_size = size_there m.sizes s o 0 (λ e. omega arith) ∙ sound.code_size;
      has_code = λ i lt. ap (λ (b : Bool). if b then Some v else m.cells (place 0 i)) (other_segment 0 i s o (λ e. omega arith)) ∙ sound.has_code i lt;
    }

at_keeps : (words : List ℕ) (n : ℕ) (m : GrowingMemory) (s o : ℕ) (v : Datum) (after : GrowingMemory) → IsSound words m → IsValueIn 7 v → put_at n m s o v ≡ Ok after → IsSound words after
unfolding put_at
at_keeps words n m s o v after sound good e =
    let grown : GrowingMemory = record { sizes = sizes_with m.sizes s o; cells = with_cell m.cells (place s o) v } in
    let checked : Result GrowingMemory RunCause = if nat_le (sum (sizes_with m.sizes s o)) most_cells then Ok grown else Err (over_size n) in
    tested (may_grow s) checked (Ok m) (Ok after) e
    (λ grows put. then_ok (nat_le (sum (sizes_with m.sizes s o)) most_cells) (over_size n) (Ok grown) after put (λ fits is.
    let bounds = open_from s grows in
    let few : sum (sizes_with m.sizes s o) ≤ most_cells = grind (arith, nat_tests) in
    subst (IsSound words) (ok_is grown after is) (put_sound words m s o v sound good bounds.0 bounds.1 few)))
    (λ closed same. subst (IsSound words) (ok_is m after same) sound)

-- a value that a rule gives, if it does, lies in the segments
abbrev pub LiesIn : Option Datum → Type 0
LiesIn value = (v : Datum) → value ≡ Some v → IsValueIn 7 v

deduced_keeps : (words : List ℕ) (n : ℕ) (m : GrowingMemory) (s o : ℕ) (value : Option Datum) (after : GrowingMemory) → IsSound words m → LiesIn value → put_deduced n m s o value ≡ Ok after → IsSound words after
deduced_keeps words n m s o None after sound good e = subst (IsSound words) (ok_is m after e) sound
deduced_keeps words n m s o (Some v) after sound good e = at_keeps words n m s o v after sound (good v refl) e

pub absent_keeps : (words : List ℕ) (n : ℕ) (m : GrowingMemory) (at : Datum) (value : Option Datum) (after : GrowingMemory) → IsSound words m → LiesIn value → put_where_absent n m at value ≡ Ok after → IsSound words after
absent_keeps words n m (number a) value after sound good e = subst (IsSound words) (ok_is m after e) sound
absent_keeps words n m (place s o) value after sound good e =
    tested (is_some (m.cells (place s o))) (Ok m) (put_deduced n m s o value) (Ok after) e
    (λ stands same. subst (IsSound words) (ok_is m after same) sound)
    (λ absent put. deduced_keeps words n m s o value after sound good put)
