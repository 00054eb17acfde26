-- A row of values that is put cell by cell, and the memory that a run begins with.
use Rattle.std.proofs.Common.{◌≡◌, ℕ, zero, suc, ◌+◌, ◌<◌, ◌==◌, Bool, true, false, if◌then◌else◌, List, [], ◌∷◌, take, get_or, length, map, Option, Some, None, option_map, refl, sym, ap, ap₂, ◌∙◌, arith}
use Rattle.std.specs.List.{slice_get}
use Rattle.std.proofs.lemmas.List.{length-take, take_all}
use Rattle.std.proofs.lemmas.Option.{slice_get_past, slice_get-map, slice_get-get_or}
use Rattle.std.proofs.lemmas.Bool.Decides.{nat_tests}
use Rattle.cairo_model.proofs.NumberTests.{is_eq, is_not, eq_is, not_is}
use Rattle.cairo_model.specs.Machine.Values.{Datum, number, place}
use Rattle.cairo_model.specs.Segments.{builtin_mask, frame_segments}
use Rattle.seg_memory.specs.Memory.{MemoryRecord, cell_of, memory_in, IsPut, IsEmpty}
use Rattle.seg_runner.specs.Starts.{frame_length, start_cells, start_memory}
use Rattle.seg_runner.specs.Working.Seen.{growing}
use Rattle.seg_runner.specs.Working.Running.{with_row, frame_values}

get_next : (xs : List Datum) (k q : ℕ) (v : Datum) → slice_get xs k ≡ Some v → slice_get (take (suc k) xs) q ≡ (if q == k then Some v else slice_get (take k xs) q)
get_next [] k q v e = absurd (cc)
get_next (x ∷ xs) zero zero v e = e
get_next (x ∷ xs) zero (suc q) v e = sym (ap (λ (b : Bool). if b then Some v else None) (is_not (suc q) 0 (λ same. omega arith)))
get_next (x ∷ xs) (suc k) zero v e = sym (ap (λ (b : Bool). if b then Some v else Some x) (is_not 0 (suc k) (λ same. omega arith)))
get_next (x ∷ xs) (suc k) (suc q) v e = get_next xs k q v e ∙ ap (λ (b : Bool). if b then Some v else slice_get (take k xs) q) (same_test q k)
  where
    same_test : (q k : ℕ) → (q == k) ≡ (suc q == suc k)
    same_test q k = grind (arith, nat_tests)

get_more : (xs : List Datum) (k q : ℕ) (v : Datum) → slice_get xs k ≡ Some v → slice_get (take (k + 1) xs) q ≡ (if q == k then Some v else slice_get (take k xs) q)
get_more xs k q v e =
    let next : k + 1 ≡ suc k = omega arith in
    ap (λ (n : ℕ). slice_get (take n xs) q) next ∙ get_next xs k q v e

module _ (cells : Datum → Option Datum) (s : ℕ) (values : List Datum) where
  -- the cell of a place, whatever came of the test for its segment
  tested_row : (k t q : ℕ) (b : Bool) → (t == s) ≡ b → with_row cells s (take k values) (place t q) ≡ (if b then slice_get (take k values) q else cells (place t q))
  tested_row k t q b is = ap (λ (c : Bool). if c then slice_get (take k values) q else cells (place t q)) is

  module _ (mid new : MemoryRecord) (k : ℕ) (v : Datum) (before : memory_in mid ≡ with_row cells s (take k values)) (is : slice_get values k ≡ Some v) (put : IsPut mid new s k v) where
    old_cell : (t q : ℕ) → cell_of mid t q ≡ with_row cells s (take k values) (place t q)
    old_cell t q = ap (λ (f : Datum → Option Datum). f (place t q)) before

    new_cell : (t q : ℕ) (b c : Bool) → (t == s) ≡ b → (q == k) ≡ c → cell_of new t q ≡ with_row cells s (take (k + 1) values) (place t q)
    new_cell t q true true here there =
        ap₂ (cell_of new) (eq_is t s here) (eq_is q k there) ∙ put.here
        ∙ sym (tested_row (k + 1) t q true here ∙ get_more values k q v is ∙ ap (λ (c : Bool). if c then Some v else slice_get (take k values) q) there)
    new_cell t q true false here other =
        put.elsewhere t q (λ _ e. not_is q k other e) ∙ old_cell t q ∙ tested_row k t q true here
        ∙ sym (tested_row (k + 1) t q true here ∙ get_more values k q v is ∙ ap (λ (c : Bool). if c then Some v else slice_get (take k values) q) other)
    new_cell t q false c other any =
        put.elsewhere t q (λ e _. not_is t s other e) ∙ old_cell t q ∙ tested_row k t q false other ∙ sym (tested_row (k + 1) t q false other)

    new_at : (a : Datum) → memory_in new a ≡ with_row cells s (take (k + 1) values) a
    new_at (number n) = ap (λ (f : Datum → Option Datum). f (number n)) before
    new_at (place t q) = new_cell t q (t == s) (q == k) refl refl

    pub row_more : memory_in new ≡ with_row cells s (take (k + 1) values)
    row_more = λ i a. new_at a i

  pub row_free : (mid : MemoryRecord) (k : ℕ) → memory_in mid ≡ with_row cells s (take k values) → cell_of mid s k ≡ None
  row_free mid k before =
      ap (λ (f : Datum → Option Datum). f (place s k)) before ∙ tested_row k s k true (is_eq s s refl)
      ∙ slice_get_past (take k values) k (let short = length-take k values in omega arith)

-- one more cell of the frame
pub frame_more : (cells : Datum → Option Datum) (mid new : MemoryRecord) (k d : ℕ) → k < 5 → memory_in mid ≡ with_row cells 1 (take k frame_values)
    → IsPut mid new 1 k (place (get_or (frame_segments builtin_mask) k d) 0) → memory_in new ≡ with_row cells 1 (take (k + 1) frame_values)
frame_more cells mid new k d lt before put =
    let frame = frame_segments builtin_mask in
    row_more cells 1 frame_values mid new k (place (get_or frame k d) 0) before
    (slice_get-map (λ (start : ℕ). place start 0) frame k ∙ ap (option_map (λ (start : ℕ). place start 0)) (slice_get-get_or frame k d lt)) put

-- a segment in which nothing stands is the row of no values
module _ (old : MemoryRecord) (s : ℕ) (values : List Datum) (free : (o : ℕ) → cell_of old s o ≡ None) where
  begun_cell : (t q : ℕ) (b : Bool) → (t == s) ≡ b → cell_of old t q ≡ with_row (memory_in old) s (take 0 values) (place t q)
  begun_cell t q true here = ap (λ (n : ℕ). cell_of old n q) (eq_is t s here) ∙ free q ∙ sym (tested_row (memory_in old) s values 0 t q true here ∙ refl)
  begun_cell t q false other = sym (tested_row (memory_in old) s values 0 t q false other)

  begun_at : (a : Datum) → memory_in old a ≡ with_row (memory_in old) s (take 0 values) a
  begun_at (number n) = refl
  begun_at (place t q) = begun_cell t q (t == s) refl

  pub row_begun : memory_in old ≡ with_row (memory_in old) s (take 0 values)
  row_begun = λ i a. begun_at a i

-- all of its values
pub row_whole : (cells : Datum → Option Datum) (s : ℕ) (values : List Datum) (k : ℕ) → k ≡ length values → with_row cells s (take k values) ≡ with_row cells s values
row_whole cells s values k is = ap (λ (vs : List Datum). with_row cells s vs) (take_all k values (omega arith))

-- ---- the start

module _ (words : List ℕ) (empty coded whole : MemoryRecord) (nothing : IsEmpty empty)
    (code : memory_in coded ≡ with_row (memory_in empty) 0 (map number words)) (frame : memory_in whole ≡ with_row (memory_in coded) 1 frame_values) where
  coded_at : (a : Datum) → memory_in coded a ≡ with_row (memory_in empty) 0 (map number words) a
  coded_at a = ap (λ (f : Datum → Option Datum). f a) code

  whole_at : (a : Datum) → memory_in whole a ≡ with_row (memory_in coded) 1 frame_values a
  whole_at a = ap (λ (f : Datum → Option Datum). f a) frame

  by_segment : (t q : ℕ) (b c : Bool) → (t == 0) ≡ b → (t == 1) ≡ c → cell_of whole t q ≡ start_cells words (place t q)
  by_segment t q true true first second = absurd (let a = eq_is t 0 first in let b = eq_is t 1 second in omega arith)
  by_segment t q true false first other =
      whole_at (place t q) ∙ ap (λ (c : Bool). if c then slice_get frame_values q else cell_of coded t q) other
      ∙ coded_at (place t q) ∙ ap (λ (c : Bool). if c then slice_get (map number words) q else cell_of empty t q) first ∙ slice_get-map number words q
      ∙ sym (ap (λ (c : Bool). if c then option_map number (slice_get words q) else (if t == 1 then option_map (λ start. place start 0) (slice_get (frame_segments builtin_mask) q) else None)) first)
  by_segment t q false true other second =
      whole_at (place t q) ∙ ap (λ (c : Bool). if c then slice_get frame_values q else cell_of coded t q) second
      ∙ slice_get-map (λ start. place start 0) (frame_segments builtin_mask) q
      ∙ sym (ap₂ (λ (b c : Bool). if b then option_map number (slice_get words q) else (if c then option_map (λ start. place start 0) (slice_get (frame_segments builtin_mask) q) else None)) other second)
  by_segment t q false false other differ =
      whole_at (place t q) ∙ ap (λ (c : Bool). if c then slice_get frame_values q else cell_of coded t q) differ
      ∙ coded_at (place t q) ∙ ap (λ (c : Bool). if c then slice_get (map number words) q else cell_of empty t q) other ∙ nothing t q
      ∙ sym (ap₂ (λ (b c : Bool). if b then option_map number (slice_get words q) else (if c then option_map (λ start. place start 0) (slice_get (frame_segments builtin_mask) q) else None)) other differ)

  all_at : (a : Datum) → memory_in whole a ≡ start_cells words a
  all_at (number n) = refl
  all_at (place t q) = by_segment t q (t == 0) (t == 1) refl refl

  pub start_is : whole.sizes ≡ length words ∷ frame_length ∷ 0 ∷ 0 ∷ 0 ∷ 0 ∷ 0 ∷ [] → growing whole ≡ start_memory words
  start_is sizes = λ i. record { sizes = sizes i; cells = λ a. all_at a i }
