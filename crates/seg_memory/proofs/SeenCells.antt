-- The cells of a row, listed by segments and offsets: what a look-up finds among them, and that they rise.
use Rattle.std.proofs.Common.{inl, inr, ◌≡◌, ℕ, zero, suc, ◌+◌, ◌<◌, ◌≤◌, ◌==◌, ◌&&◌, Bool, true, false, cond, List, [], ◌∷◌, ◌++◌, length, get_or, Option, Some, None, option_map, refl, sym, ap, ap₂, subst, ◌∙◌, arith}
use Rattle.std.specs.List.Sorted.{IsStrictlyIncreasing}
use Rattle.std.specs.Option.{option_or}
use Rattle.std.proofs.lemmas.Bool.{cases_eq, cases_lt}
use Rattle.std.proofs.lemmas.Bool.Decides.{nat_tests}
use Rattle.std.proofs.lemmas.List.{append-nil, map-append, length-append, length-map, get_or_append_left, get_or_push, get_or_past}
use Rattle.cairo_model.specs.Machine.Values.{Datum}
use Rattle.cairo_model.specs.Pie.Records.{MemoryCell, Rise, place_number, place_numbers, stands_at, value_at}
use Rattle.seg_memory.specs.Memory.{MemoryRecord, cell_of}
use Rattle.cairo_model.specs.Limits.{most_cells}
use Rattle.seg_memory.specs.Working.Pages.{one_cell, with_segment, cells_to, Segments, sizes_of, segment_cell, seen}

-- the value of a cell, where it stands at the place
abbrev pub value_here : MemoryCell → ℕ → ℕ → Option Datum
value_here c s o = cond (stands_at s o c) (Some c.value) None

last_value : (t : Bool) (c : MemoryCell) → option_map (λ (x : MemoryCell). x.value) (cond t (Some c) None) ≡ cond t (Some c.value) None
last_value true c = refl
last_value false c = refl

first_value : (t : Bool) (x : MemoryCell) (f g : Option MemoryCell) (r : Option Datum) → option_map (λ (x : MemoryCell). x.value) f ≡ option_or (option_map (λ (x : MemoryCell). x.value) g) r
    → option_map (λ (x : MemoryCell). x.value) (cond t (Some x) f) ≡ option_or (option_map (λ (x : MemoryCell). x.value) (cond t (Some x) g)) r
first_value true x f g r same = refl
first_value false x f g r same = same

-- what one more cell adds to a look-up
pub value_push : (cells : List MemoryCell) (c : MemoryCell) (s o : ℕ) → value_at (cells ++ c ∷ []) s o ≡ option_or (value_at cells s o) (value_here c s o)
value_push [] c s o = last_value (stands_at s o c) c
value_push (x ∷ cells) c s o = first_value (stands_at s o x) x _ _ (value_here c s o) (value_push cells c s o)

pub stands : (a b : ℕ) → (a == a && b == b) ≡ true
stands a b = grind (arith, nat_tests)

pub stands_not : (a b s o : ℕ) → (s ≡ a → o ≡ b → ⊥) → (a == s && b == o) ≡ false
stands_not a b s o other = grind (arith, nat_tests, other)

pub or_none : {A : Type 0} (o : Option A) → option_or o None ≡ o
or_none None = refl
or_none (Some x) = refl

-- ---- what a look-up finds

push_else : (xs : List MemoryCell) (k n : ℕ) (v : Option Datum) (s o : ℕ) → (s ≡ k → o ≡ n → ⊥) → value_at (xs ++ one_cell k n v) s o ≡ value_at xs s o
push_else xs k n None s o other = ap (λ (ys : List MemoryCell). value_at ys s o) (append-nil xs)
push_else xs k n (Some v) s o other =
    let c : MemoryCell = record { segment = k; offset = n; value = v } in
    value_push xs c s o ∙ (ap (λ (t : Bool). option_or (value_at xs s o) (cond t (Some v) None)) (stands_not k n s o other) ∙ or_none (value_at xs s o))

push_here : (xs : List MemoryCell) (k n : ℕ) (v : Option Datum) → value_at xs k n ≡ None → value_at (xs ++ one_cell k n v) k n ≡ v
push_here xs k n None free = ap (λ (ys : List MemoryCell). value_at ys k n) (append-nil xs) ∙ free
push_here xs k n (Some v) free =
    let c : MemoryCell = record { segment = k; offset = n; value = v } in
    value_push xs c k n
    ∙ (ap (λ (u : Option Datum). option_or u (value_here c k n)) free ∙ ap (λ (t : Bool). cond t (Some v) None) (stands k n))

module _ (f : ℕ → ℕ → Option Datum) where
  segment_else : (before : List MemoryCell) (k n s o : ℕ) → (s ≡ k → o < n → ⊥) → value_at (with_segment f before k n) s o ≡ value_at before s o
  segment_else before k zero s o other = refl
  segment_else before k (suc n) s o other =
      push_else (with_segment f before k n) k n (f k n) s o (λ same equal. other same (omega (arith, equal)))
      ∙ segment_else before k n s o (λ same lt. other same (omega (arith, lt)))

  segment_here : (before : List MemoryCell) (k n o : ℕ) → value_at before k o ≡ None → o < n → value_at (with_segment f before k n) k o ≡ f k o
  segment_here before k zero o free lt = absurd (omega (arith, lt))
  segment_here before k (suc n) o free lt = elim (cases_eq o n) [
    | inl same ↦
        let none : value_at (with_segment f before k n) k n ≡ None = segment_else before k n k n (λ _ less. omega (arith, less)) ∙ subst (λ (q : ℕ). value_at before k q ≡ None) same free in
        subst (λ (q : ℕ). value_at (with_segment f before k n ++ one_cell k n (f k n)) k q ≡ f k q) (sym same) (push_here (with_segment f before k n) k n (f k n) none)
    | inr other ↦ push_else (with_segment f before k n) k n (f k n) k o (λ _ equal. other equal) ∙ segment_here before k n o free (omega (arith, lt, other))
  ]

  module _ (sizes : List ℕ) where
    all_else : (j s o : ℕ) → (s < j → o < get_or sizes s 0 → ⊥) → value_at (cells_to f sizes j) s o ≡ None
    all_else zero s o other = refl
    all_else (suc j) s o other =
        segment_else (cells_to f sizes j) j (get_or sizes j 0) s o (λ same lt. other (omega (arith, same)) (subst (λ (n : ℕ). o < get_or sizes n 0) (sym same) lt))
        ∙ all_else j s o (λ less lt. other (omega (arith, less)) lt)

    all_here : (j s o : ℕ) → s < j → o < get_or sizes s 0 → value_at (cells_to f sizes j) s o ≡ f s o
    all_here zero s o less lt = absurd (omega (arith, less))
    all_here (suc j) s o less lt = elim (cases_eq s j) [
      | inl same ↦
          subst (λ (n : ℕ). value_at (with_segment f (cells_to f sizes j) j (get_or sizes j 0)) n o ≡ f n o) (sym same)
          (segment_here (cells_to f sizes j) j (get_or sizes j 0) o (all_else j j o (λ below _. omega (arith, below))) (subst (λ (n : ℕ). o < get_or sizes n 0) same lt))
      | inr other ↦ segment_else (cells_to f sizes j) j (get_or sizes j 0) s o (λ same _. other same) ∙ all_here j s o (omega (arith, less, other)) lt
    ]

pub past_end : (sizes : List ℕ) (s o : ℕ) → o < get_or sizes s 0 → s < length sizes
past_end [] s o lt = absurd (omega arith)
past_end (x ∷ sizes) zero o lt = omega arith
past_end (x ∷ sizes) (suc s) o lt = omega (arith, past_end sizes s o lt)

pub size_at : (segments : Segments) (s : ℕ) → get_or (sizes_of segments) s 0 ≡ length (get_or segments s [])
size_at [] s = refl
size_at (x ∷ segments) zero = refl
size_at (x ∷ segments) (suc s) = size_at segments s

-- the memory of segments holds what stands in them
pub seen_cell : (segments : Segments) (s o : ℕ) → cell_of (seen segments) s o ≡ segment_cell segments s o
seen_cell segments s o =
    let size = size_at segments s in
    let count = length-map segments (λ cells. length cells) in
    elim (cases_lt o (get_or (sizes_of segments) s 0)) [
      | inl within ↦ all_here (segment_cell segments) (sizes_of segments) (length segments) s o (omega (arith, past_end (sizes_of segments) s o within, count)) within
      | inr beyond ↦ all_else (segment_cell segments) (sizes_of segments) (length segments) s o (λ _ lt. omega (arith, lt, beyond)) ∙ sym (get_or_past (get_or segments s []) o None (omega (arith, beyond, size)))
    ]

-- ---- they rise

record RisesTo (bound : ℕ) (cells : List MemoryCell) : Type 0 where
  rise : Rise cells
  below : (i : ℕ) → i < length (place_numbers cells) → get_or (place_numbers cells) i 0 < bound

rises_on : (xs : List ℕ) (n : ℕ) → IsStrictlyIncreasing xs → ((i : ℕ) → i < length xs → get_or xs i 0 < n) → IsStrictlyIncreasing (xs ++ n ∷ [])
rises_on xs n rise below k lt =
    let long = length-append xs (n ∷ []) in
    let here : get_or (xs ++ n ∷ []) k 0 ≡ get_or xs k 0 = get_or_append_left xs (n ∷ []) 0 k (omega (arith, lt, long)) in
    elim (cases_eq (k + 1) (length xs)) [
      | inl last ↦
          let next : get_or (xs ++ n ∷ []) (k + 1) 0 ≡ n = get_or_push xs n 0 (k + 1) (sym last) in
          omega (arith, here, next, below k (omega (arith, last)))
      | inr before ↦
          let inside : k + 1 < length xs = omega (arith, lt, long, before) in
          let next : get_or (xs ++ n ∷ []) (k + 1) 0 ≡ get_or xs (k + 1) 0 = get_or_append_left xs (n ∷ []) 0 (k + 1) inside in
          omega (arith, here, next, rise k inside)
    ]

below_on : (xs : List ℕ) (n bound : ℕ) → ((i : ℕ) → i < length xs → get_or xs i 0 < n) → n < bound → (i : ℕ) → i < length (xs ++ n ∷ []) → get_or (xs ++ n ∷ []) i 0 < bound
below_on xs n bound below less i lt = elim (cases_lt i (length xs)) [
  | inl inside ↦ omega (arith, get_or_append_left xs (n ∷ []) 0 i inside, below i inside, less)
  | inr past ↦ omega (arith, get_or_push xs n 0 i (omega (arith, lt, past, length-append xs (n ∷ []))), less)
]

push_rises : (cells : List MemoryCell) (k n bound : ℕ) (v : Option Datum) → RisesTo (place_number k n) cells → place_number k n < bound → RisesTo bound (cells ++ one_cell k n v)
push_rises cells k n bound None h less =
    subst (RisesTo bound) (sym (append-nil cells)) (record { rise = h.rise; below = λ i lt. omega (arith, h.below i lt, less) })
push_rises cells k n bound (Some v) h less =
    let c : MemoryCell = record { segment = k; offset = n; value = v } in
    let numbers : place_numbers (cells ++ c ∷ []) ≡ place_numbers cells ++ place_number k n ∷ [] = map-append (λ (x : MemoryCell). place_number x.segment x.offset) cells (c ∷ []) in
    record {
      rise = subst IsStrictlyIncreasing (sym numbers) (rises_on (place_numbers cells) (place_number k n) h.rise h.below);
      below = subst (λ (ns : List ℕ). (i : ℕ) → i < length ns → get_or ns i 0 < bound) (sym numbers) (below_on (place_numbers cells) (place_number k n) bound h.below less);
    }

module _ (f : ℕ → ℕ → Option Datum) where
  segment_rises : (before : List MemoryCell) (k n : ℕ) → RisesTo (place_number k 0) before → RisesTo (place_number k n) (with_segment f before k n)
  segment_rises before k zero h = h
  segment_rises before k (suc n) h = push_rises (with_segment f before k n) k n (place_number k (suc n)) (f k n) (segment_rises before k n h) (omega arith)

  all_rise : (sizes : List ℕ) (j : ℕ) → ((s : ℕ) → get_or sizes s 0 ≤ most_cells) → RisesTo (place_number j 0) (cells_to f sizes j)
  all_rise sizes zero small = record { rise = λ k lt. absurd (omega arith); below = λ i lt. absurd (omega arith) }
  all_rise sizes (suc j) small =
      let h = segment_rises (cells_to f sizes j) j (get_or sizes j 0) (all_rise sizes j small) in
      record { rise = h.rise; below = λ i lt. omega (arith, h.below i lt, small j) }

  pub listed_rise : (sizes : List ℕ) (j : ℕ) → ((s : ℕ) → get_or sizes s 0 ≤ most_cells) → Rise (cells_to f sizes j)
  listed_rise sizes j small = (all_rise sizes j small).rise

-- the same values are listed alike
module _ (f g : ℕ → ℕ → Option Datum) (same : (s o : ℕ) → f s o ≡ g s o) where
  segment_same : (before : List MemoryCell) (k n : ℕ) → with_segment f before k n ≡ with_segment g before k n
  segment_same before k zero = refl
  segment_same before k (suc n) = ap₂ (λ xs v. xs ++ one_cell k n v) (segment_same before k n) (same k n)

  pub listed_same : (sizes : List ℕ) (j : ℕ) → cells_to f sizes j ≡ cells_to g sizes j
  listed_same sizes zero = refl
  listed_same sizes (suc j) =
      ap (λ xs. with_segment f xs j (get_or sizes j 0)) (listed_same sizes j) ∙ segment_same (cells_to g sizes j) j (get_or sizes j 0)

-- the cells of a memory are those that its look-up lists
pub listed_all : (segments : Segments) (m : MemoryRecord) → seen segments ≡ m → (k : ℕ) → k ≡ length segments → cells_to (cell_of m) m.sizes k ≡ m.cells
listed_all segments m view = subst (λ (n : MemoryRecord). (k : ℕ) → k ≡ length segments → cells_to (cell_of n) n.sizes k ≡ n.cells) view
    (λ k all. ap (cells_to (cell_of (seen segments)) (sizes_of segments)) all ∙ listed_same (cell_of (seen segments)) (segment_cell segments) (seen_cell segments) (sizes_of segments) (length segments))

pub cells_rise : (segments : Segments) (m : MemoryRecord) → seen segments ≡ m → ((s : ℕ) → get_or (sizes_of segments) s 0 ≤ most_cells) → Rise m.cells
cells_rise segments m view small = subst (λ (n : MemoryRecord). Rise n.cells) view (listed_rise (segment_cell segments) (sizes_of segments) (length segments) small)
