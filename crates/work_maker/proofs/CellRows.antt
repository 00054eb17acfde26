-- Cells that stand one after the other from the start of a segment on.
use Rattle.std.proofs.Common.{◌≡◌, ℕ, suc, ◌+◌, ◌<◌, List, [], ◌∷◌, ◌++◌, length, map, take, get_or, sym, ap, ◌∙◌, arith, append_assoc}
use Rattle.std.proofs.lemmas.List.{append-nil, length-map, map_more}
use Rattle.cairo_model.specs.Machine.Values.{Datum}
use Rattle.cairo_model.specs.Pie.Records.{MemoryCell}
use Rattle.cairo_model.specs.Views.Machine.{datum}
use Rattle.cairo_model.specs.declared.value.Value.{Value}
use Rattle.work_maker.specs.Down.{cells_with}

abbrev pub cell_with : ℕ → ℕ → Datum → MemoryCell
cell_with segment offset value = record { segment = segment; offset = offset; value = value }

pub no_row : (segment : ℕ) (front : List MemoryCell) → front ≡ front ++ cells_with segment 0 []
unfolding cells_with
no_row segment front = sym (append-nil front)

one_value_more : (segment offset : ℕ) (values : List Datum) (value : Datum) → cells_with segment offset (values ++ value ∷ []) ≡ cells_with segment offset values ++ cell_with segment (offset + length values) value ∷ []
unfolding cells_with
one_value_more segment offset [] value =
    let e : offset ≡ offset + 0 = omega arith in
    ap (λ (k : ℕ). cell_with segment k value ∷ []) e
one_value_more segment offset (first ∷ values) value =
    let e : suc offset + length values ≡ offset + suc (length values) = omega arith in
    ap (λ (t : List MemoryCell). cell_with segment offset first ∷ t) (one_value_more segment (suc offset) values value ∙ ap (λ (k : ℕ). cells_with segment (suc offset) values ++ cell_with segment k value ∷ []) e)

-- one cell more of the row is put
pub cell_put : (segment i : ℕ) (front now later : List MemoryCell) (values : List Value) (value : Value) → i < length values → length (take i values) ≡ i → value ≡ get_or values i value
    → now ≡ front ++ cells_with segment 0 (map datum (take i values)) → later ≡ now ++ cell_with segment i (datum value) ∷ [] → later ≡ front ++ cells_with segment 0 (map datum (take (i + 1) values))
cell_put segment i front now later values value lt long at is put =
    let before = map datum (take i values) in
    let count : 0 + length before ≡ i = omega (arith, length-map (take i values) datum, long) in
    let after : map datum (take (i + 1) values) ≡ before ++ datum value ∷ [] = map_more datum values i value lt ∙ ap (λ (x : Value). before ++ datum x ∷ []) (sym at) in
    put
    ∙ ap (λ (t : List MemoryCell). t ++ cell_with segment i (datum value) ∷ []) is
    ∙ append_assoc front (cells_with segment 0 before) (cell_with segment i (datum value) ∷ [])
    ∙ ap (λ (t : List MemoryCell). front ++ t) (ap (λ (k : ℕ). cells_with segment 0 before ++ cell_with segment k (datum value) ∷ []) (sym count) ∙ sym (one_value_more segment 0 before (datum value)) ∙ ap (cells_with segment 0) (sym after))
