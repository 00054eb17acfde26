-- A memory that is filled with cells one after another.
use Rattle.std.proofs.Common.{inl, inr, ◌≡◌, ℕ, ◌+◌, ◌<◌, Bool, false, cond, List, [], ◌∷◌, ◌++◌, length, take, map, get_or, Option, Some, None, option_map, refl, sym, ap, ap₂, subst, ◌∙◌, suc, arith}
use Rattle.std.specs.List.{find, All}
use Rattle.std.specs.Option.{option_or}
use Rattle.std.proofs.lemmas.Bool.{cases_eq}
use Rattle.std.proofs.lemmas.List.{take_more, length-take, get_or-take, length-map, get_or-map}
use Rattle.std.proofs.lemmas.List.Elements.{All-get_or}
use Rattle.cairo_model.specs.Machine.Values.{Datum, number, place}
use Rattle.cairo_model.specs.Pie.Records.{MemoryCell, Rise, IsCellOf, place_number, stands_at, value_at, memory_of}
use Rattle.cairo_model.proofs.Searching.{keys_rise, key_is}
use Rattle.seg_memory.proofs.SeenCells.{value_here, value_push, stands, stands_not, or_none}
use Rattle.seg_memory.specs.Memory.{MemoryRecord, cell_of, IsPut, HoldsCells, memory_in}

-- no cell of a list stands at a place that differs from theirs
pub none_at_place : (cells : List MemoryCell) (s o : ℕ) → ((i : ℕ) (d : MemoryCell) → i < length cells → s ≡ (get_or cells i d).segment → o ≡ (get_or cells i d).offset → ⊥) → value_at cells s o ≡ None
none_at_place [] s o differ = refl
none_at_place (x ∷ cells) s o differ =
    let test : stands_at s o x ≡ false = stands_not x.segment x.offset s o (differ 0 x (omega arith)) in
    ap (λ (t : Bool). option_map (λ (x : MemoryCell). x.value) (cond t (Some x) (find (stands_at s o) cells))) test ∙ none_at_place cells s o (λ i d lt. differ (suc i) d (omega arith))

-- One more cell is put: the memory holds one more cell.
module _ (cells : List MemoryCell) (old new : MemoryRecord) (c : MemoryCell) (before : HoldsCells old cells) (free : cell_of old c.segment c.offset ≡ None) (put : IsPut old new c.segment c.offset c.value) where
  at_place : cell_of new c.segment c.offset ≡ value_at (cells ++ c ∷ []) c.segment c.offset
  at_place =
      let none : value_at cells c.segment c.offset ≡ None = sym (before c.segment c.offset) ∙ free in
      put.here ∙ sym (value_push cells c c.segment c.offset
      ∙ (ap (λ (v : Option Datum). option_or v (value_here c c.segment c.offset)) none ∙ ap (λ (t : Bool). cond t (Some c.value) None) (stands c.segment c.offset)))

  at_other : (s o : ℕ) → (s ≡ c.segment → o ≡ c.offset → ⊥) → cell_of new s o ≡ value_at (cells ++ c ∷ []) s o
  at_other s o other =
      put.elsewhere s o other ∙ (before s o ∙ sym (value_push cells c s o
      ∙ (ap (λ (t : Bool). option_or (value_at cells s o) (cond t (Some c.value) None)) (stands_not c.segment c.offset s o other) ∙ or_none (value_at cells s o))))

  pub holds_more : HoldsCells new (cells ++ c ∷ [])
  holds_more s o = elim (cases_eq s c.segment) [
    | inr other ↦ at_other s o (λ same _. other same)
    | inl same ↦ elim (cases_eq o c.offset) [
      | inr other ↦ at_other s o (λ _ same. other same)
      | inl equal ↦ subst (λ (t : ℕ). cell_of new t o ≡ value_at (cells ++ c ∷ []) t o) (sym same)
          (subst (λ (q : ℕ). cell_of new c.segment q ≡ value_at (cells ++ c ∷ []) c.segment q) (sym equal) at_place)
    ]
  ]

-- in a rising list the place of each cell is free of those before it
pub free_at : (cells : List MemoryCell) → Rise cells → (k : ℕ) (c : MemoryCell) → k < length cells → c ≡ get_or cells k c → value_at (take k cells) c.segment c.offset ≡ None
free_at cells rise k c there is = none_at_place (take k cells) c.segment c.offset (λ i d lt same equal.
    let early : i < k = omega (arith, length-take k cells) in
    let e : get_or (take k cells) i d ≡ get_or cells i d = get_or-take k cells i d early in
    let key = λ (x : MemoryCell). place_number x.segment x.offset in
    let rises = keys_rise key cells rise i k early there in
    let first = key_is key cells i d (omega arith) in
    let second = key_is key cells k c there in
    let one : key (get_or cells i d) ≡ key c = ap key (sym e) ∙ sym (ap₂ place_number same equal) in
    let two : key (get_or cells k c) ≡ key c = ap key (sym is) in
    omega arith)

-- the cell of a list is inside its segment
pub cell_at : (sizes : List ℕ) (cells : List MemoryCell) → All (IsCellOf sizes) cells → (k : ℕ) (c : MemoryCell) → k < length cells → c ≡ get_or cells k c → IsCellOf sizes c
cell_at sizes cells each k c there is = subst (λ (x : MemoryCell). IsCellOf sizes x) (sym is) (All-get_or (IsCellOf sizes) cells k c there each)

-- one more cell of a list is put
pub holds_next : (cells : List MemoryCell) (k : ℕ) (c : MemoryCell) (old new : MemoryRecord) → k < length cells → c ≡ get_or cells k c → Rise cells
    → HoldsCells old (take k cells) → IsPut old new c.segment c.offset c.value → HoldsCells new (take (k + 1) cells)
holds_next cells k c old new there is rise before put =
    let free : cell_of old c.segment c.offset ≡ None = before c.segment c.offset ∙ free_at cells rise k c there is in
    let more : take (k + 1) cells ≡ take k cells ++ c ∷ [] = take_more cells k c there ∙ ap (λ (x : MemoryCell). take k cells ++ x ∷ []) (sym is) in
    subst (λ (cs : List MemoryCell). HoldsCells new cs) (sym more) (holds_more (take k cells) old new c before free put)

-- an element of a list, as it is seen
pub seen_at : {X Y : Type 0} (view : X → Y) (xs : List X) (ys : List Y) (k : ℕ) (x : X) → map view xs ≡ ys → k < length xs → x ≡ get_or xs k x → (k < length ys) × (view x ≡ get_or ys k (view x))
seen_at view xs ys k x same there is =
    let long = length-map xs view in
    let sizes = ap length same in
    (omega arith, ap view is ∙ (sym (get_or-map view xs k x (view x) there) ∙ ap (λ (zs : List _). get_or zs k (view x)) same))

-- a memory that holds these cells is theirs, with values as addresses
at_address : (m : MemoryRecord) (cells : List MemoryCell) → HoldsCells m cells → (address : Datum) → memory_in m address ≡ memory_of cells address
at_address m cells holds (number n) = refl
at_address m cells holds (place s o) = holds s o
