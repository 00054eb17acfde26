-- The cells and the states of a task in the certificate of its batch.
use Rattle.std.proofs.Common.{◌≡◌, ℕ, zero, suc, ◌+◌, ◌<◌, List, [], ◌∷◌, length, map, take, drop, get_or, slice_get, Option, Some, option_map, inl, inr, refl, sym, ap, ◌∙◌, arith}
use Rattle.std.specs.List.{Contains}
use Rattle.std.proofs.lemmas.Bool.{cases_lt}
use Rattle.std.proofs.lemmas.List.{get_or-map, length-map}
use Rattle.std.proofs.lemmas.List.Elements.{All-contains}
use Rattle.std.proofs.lemmas.Option.{slice_get-get_or, slice_get_within, get_or_from_slice_get, slice_get-map}
use Rattle.cairo_model.specs.Machine.Values.{Datum, place}
use Rattle.cairo_model.specs.Pie.Layouts.{relocated}
use Rattle.cairo_model.specs.Pie.Records.{IsCellOf, KeepsRules, MemoryCell, PieRecord, memory_of, place_number, place_numbers}
use Rattle.cairo_model.specs.Pie.Relocation.{HasRelocated}
use Rattle.cairo_model.proofs.Outcomes.{some_is}
use Rattle.cairo_model.proofs.PieMemories.{IsCellFor, key_of, memory_gives, memory_has, offset_below}
use Rattle.cairo_model.proofs.Windows.{rises_between}
use Rattle.boot_program.specs.Faults.Tasks.{IsBefore, IsFirstMissing}
use Rattle.row_checker.specs.Working.Tasks.{HasCell, HasCellAt}

-- ---- cells

module _ (pie : PieRecord) (rules : KeepsRules pie) (bases : List ℕ) (field : ℕ → Option ℕ) where
  -- a cell of the memory has an index
  at_index : (c : MemoryCell) (stands : Contains pie.cells c) → slice_get pie.cells stands.0 ≡ Some c
  at_index c stands = slice_get-get_or pie.cells stands.0 c stands.1 ∙ ap Some stands.2

  -- what a cell that the field has says of its place
  has_at : (a v : Datum) (found : IsCellFor pie.cells a v) → HasCell bases field found.cell → field (relocated bases a) ≡ Some (relocated bases v)
  has_at a v found has = ap (λ (x : Datum). field (relocated bases x)) (sym found.address) ∙ has ∙ ap (λ (x : Datum). Some (relocated bases x)) found.value

  pub all_have : ((k : ℕ) → k < length pie.cells → HasCellAt bases field pie.cells k) → HasRelocated bases (memory_of pie.cells) field
  all_have each a v is =
      let found = memory_gives pie.cells a v is in
      has_at a v found (each found.stands.0 found.stands.1 found.cell (at_index found.cell found.stands))

  key_at : (k : ℕ) (c : MemoryCell) → slice_get pie.cells k ≡ Some c → get_or (place_numbers pie.cells) k 0 ≡ place_number c.segment c.offset
  key_at k c is =
      get_or-map key_of pie.cells k c 0 (slice_get_within pie.cells k c is) ∙ ap key_of (get_or_from_slice_get pie.cells k c c is)

  near : (c : MemoryCell) → Contains pie.cells c → c.offset < 65536
  near c stands = offset_below pie.sizes rules.are_sizes c (All-contains (IsCellOf pie.sizes) pie.cells c rules.are_cells stands)

  lower : (t q s o : ℕ) → q < 65536 → IsBefore t q s o → place_number t q < place_number s o
  lower t q s o small (inl before) = omega (arith, small, before)
  lower t q s o small (inr here) = omega (arith, here.0, here.1)

  segment_is : (s o t q : ℕ) → place s o ≡ place t q → s ≡ t
  segment_is s o t q e = cc

  offset_is : (s o t q : ℕ) → place s o ≡ place t q → o ≡ q
  offset_is s o t q e = cc

  pub first_lacks : (i : ℕ) (c : MemoryCell) → slice_get pie.cells i ≡ Some c → ¬ HasCell bases field c → ((k : ℕ) → k < i → HasCellAt bases field pie.cells k)
      → IsFirstMissing bases pie.cells field c.segment c.offset
  first_lacks i c is lacks before = record {
    here = record { value = c.value; stands = memory_has pie rules c contains; missing = lacks };
    none_before = λ t q lt missing.
        let found = memory_gives pie.cells (place t q) missing.value missing.stands in
        let j = found.stands.0 in
        let is_j = at_index found.cell found.stands in
        let segment = segment_is found.cell.segment found.cell.offset t q found.address in
        let offset = offset_is found.cell.segment found.cell.offset t q found.address in
        let small : q < 65536 = omega (arith, offset, near found.cell found.stands) in
        let less : place_number t q < place_number c.segment c.offset = lower t q c.segment c.offset small lt in
        elim (cases_lt j i) [
          | inl earlier ↦ missing.missing (has_at (place t q) missing.value found (before j earlier found.cell is_j))
          | inr later ↦
              let up = rises_between (place_numbers pie.cells) rules.rise i j later (omega (arith, found.stands.1, length-map pie.cells key_of)) in
              absurd (omega (arith, up, later, less, segment, offset, key_at i c is, key_at j found.cell is_j))
        ];
  }
    where
      contains : Contains pie.cells c
      contains = (i, slice_get_within pie.cells i c is, get_or_from_slice_get pie.cells i c c is)

-- an element that was read by its index
pub item_is : {X : Type 0} (xs : List X) (k : ℕ) (x y : X) → k < length xs → y ≡ get_or xs k y → slice_get xs k ≡ Some x → y ≡ x
item_is xs k x y lt read is = some_is y x (ap Some read ∙ sym (slice_get-get_or xs k y lt) ∙ is)

pub item_at : {X : Type 0} (xs : List X) (k : ℕ) (y : X) → k < length xs → y ≡ get_or xs k y → slice_get xs k ≡ Some y
item_at xs k y lt read = slice_get-get_or xs k y lt ∙ ap Some (sym read)

pub image_at : {X Y : Type 0} (f : X → Y) (xs : List X) (k : ℕ) (y : X) → k < length xs → y ≡ get_or xs k y → slice_get (map f xs) k ≡ Some (f y)
image_at f xs k y lt read = slice_get-map f xs k ∙ ap (option_map f) (item_at xs k y lt read)

pub image_is : {X Y : Type 0} (f : X → Y) (xs : List X) (k : ℕ) (y : X) (z : Y) → k < length xs → y ≡ get_or xs k y → slice_get (map f xs) k ≡ Some z → f y ≡ z
image_is f xs k y z lt read is = some_is (f y) z (sym (image_at f xs k y lt read) ∙ is)

-- ---- states

drop_some : {X : Type 0} (xs : List X) (row : ℕ) (x : X) → slice_get xs row ≡ Some x → drop row xs ≡ x ∷ drop (row + 1) xs
drop_some {X} [] row x is = absurd (cc)
drop_some {X} (y ∷ ys) zero x is = ap (λ (z : X). z ∷ ys) (some_is y x is)
drop_some {X} (y ∷ ys) (suc row) x is =
    let more : suc row + 1 ≡ suc (row + 1) = omega arith in
    drop_some ys row x is ∙ ap (λ (n : ℕ). x ∷ drop n (y ∷ ys)) (sym more)

pub dropped : {X : Type 0} (row : ℕ) (xs : List X) (k : ℕ) → slice_get (drop row xs) k ≡ slice_get xs (row + k)
dropped zero xs k = let same : 0 + k ≡ k = omega arith in ap (slice_get xs) (sym same)
dropped (suc row) [] k = refl
dropped (suc row) (x ∷ xs) k = let more : suc row + k ≡ suc (row + k) = omega arith in dropped row xs k ∙ ap (slice_get (x ∷ xs)) (sym more)

taken : {X : Type 0} (n : ℕ) (xs : List X) (k : ℕ) → k < n → slice_get (take n xs) k ≡ slice_get xs k
taken zero xs k lt = absurd (omega arith)
taken (suc n) [] k lt = refl
taken (suc n) (x ∷ xs) zero lt = refl
taken (suc n) (x ∷ xs) (suc k) lt = taken n xs k (omega (arith, lt))

module _ {X Y Z : Type 0} (f : Y → Z) (g : X → Y) (states : List Z) where
  pub stretch_is : (run : List X) (row : ℕ) → ((k : ℕ) (x : X) → slice_get run k ≡ Some x → slice_get states (row + k) ≡ Some (f (g x))) → take (length (map g run)) (drop row states) ≡ map f (map g run)
  stretch_is [] row each = refl
  stretch_is (x ∷ run) row each =
      let here : row + 0 ≡ row = omega arith in
      let first : drop row states ≡ f (g x) ∷ drop (row + 1) states = drop_some states row (f (g x)) (sym (ap (slice_get states) here) ∙ each 0 x refl) in
      let rest = stretch_is run (row + 1) (λ k y is.
      let moved : (row + 1) + k ≡ row + suc k = omega arith in
      ap (slice_get states) moved ∙ each (suc k) y is) in
      ap (take (suc (length (map g run)))) first ∙ ap (λ (zs : List Z). f (g x) ∷ zs) rest

  pub stretch_has : (run : List X) (row : ℕ) → take (length (map g run)) (drop row states) ≡ map f (map g run) → (k : ℕ) (x : X) → slice_get run k ≡ Some x → slice_get states (row + k) ≡ Some (f (g x))
  stretch_has run row is k x at =
      let inside : k < length (map g run) = omega (arith, slice_get_within run k x at, length-map run g) in
      sym (dropped row states k) ∙ sym (taken (length (map g run)) (drop row states) k inside) ∙ ap (λ (zs : List Z). slice_get zs k) is
      ∙ slice_get-map f (map g run) k ∙ ap (option_map f) (slice_get-map g run k) ∙ ap (λ (o : Option X). option_map f (option_map g o)) at
