-- Where an address can be in a list of cells, by its first and its last cell, and what a search of that part finds.
use Rattle.std.proofs.Common.{◌≡◌, ℕ, ◌-◌, ◌+◌, ◌<◌, ◌≤◌, List, length, take, drop, map, get_or, ap, ◌∙◌, sym, subst, arith}
use Rattle.std.proofs.lemmas.List.{get_or-map, length-map, get_or-take, get_or-drop, length-take-le, length-drop, take-map, drop-map}
use Rattle.goldi_field.specs.declared.Felt.{Felt}
use Rattle.cairo_model.specs.Machine.FieldMemories.{FieldCell, field_cell, addresses, AddressesRise}
use Rattle.cairo_model.specs.Working.Keys.{IsKeyAt, IsGapFor, AreBelow, AreAbove}
use Rattle.cairo_model.proofs.Windows.{IsPart, part_rises, part_found, part_absent, below_last, all_below, above_first}

-- where an address can be, by the first and the last cell
module _ (list : List (Felt × Felt)) (rise : AddressesRise (map field_cell list)) where
  abbrev keys : List ℕ
  keys = addresses (map field_cell list)

  pub keys_count : length keys ≡ length list
  keys_count = length-map (map field_cell list) (λ c. c.0) ∙ length-map list field_cell

  key_at : (i : ℕ) (c : Felt × Felt) → i < length list → c ≡ get_or list i c → c.0.number ≡ get_or keys i 0
  key_at i c lt is =
      let inner : get_or (map field_cell list) i (field_cell c) ≡ field_cell (get_or list i c) = get_or-map field_cell list i c (field_cell c) lt in
      let outer : get_or keys i 0 ≡ (get_or (map field_cell list) i (field_cell c)).0 = get_or-map (λ (f : FieldCell). f.0) (map field_cell list) i (field_cell c) 0 (omega (arith, lt, length-map list field_cell)) in
      ap (λ (x : Felt × Felt). x.0.number) is ∙ sym (outer ∙ ap (λ (f : FieldCell). f.0) inner)

  -- the cells from one index to another
  pub part_of_cells : (from count : ℕ) → from + count ≤ length list → IsPart keys (addresses (map field_cell (take count (drop from list)))) from
  part_of_cells from count le =
      let part : List (Felt × Felt) = take count (drop from list) in
      let many : length part ≡ count = length-take-le count (drop from list) (omega (arith, le, length-drop from list)) in
      let keys_many : length (addresses (map field_cell part)) ≡ count = length-map (map field_cell part) (λ c. c.0) ∙ length-map part field_cell ∙ many in
      let key : FieldCell → ℕ = λ c. c.0 in
      let part_keys : take count (drop from keys) ≡ addresses (map field_cell part) =
      ap (take count) (drop-map key from (map field_cell list) ∙ ap (map key) (drop-map field_cell from list))
      ∙ take-map key count (map field_cell (drop from list)) ∙ ap (map key) (take-map field_cell count (drop from list)) in
      record {
        inside = omega (arith, keys_many, keys_count, le);
        same = λ j lt. ap (λ (ks : List ℕ). get_or ks j 0) (sym part_keys) ∙ (get_or-take count (drop from keys) j 0 (omega (arith, lt, keys_many)) ∙ get_or-drop from keys j 0);
      }

  module _ (address : ℕ) (c : Felt × Felt) (some : 0 < length list) where
    last_key : c ≡ get_or list (length list - 1) c → c.0.number ≡ get_or keys (length keys - 1) 0
    last_key is = key_at (length list - 1) c (omega (arith, some)) is ∙ ap (λ (n : ℕ). get_or keys (n - 1) 0) (sym keys_count)

    pub below_by_last : c ≡ get_or list (length list - 1) c → address ≤ c.0.number → AreBelow keys address (length list - 1 - (c.0.number - address))
    below_by_last is le = subst (λ (n : ℕ). AreBelow keys address (n - 1 - (c.0.number - address))) keys_count (below_last keys rise address c.0.number (last_key is) le)

    pub all_below_last : c ≡ get_or list (length list - 1) c → c.0.number < address → AreBelow keys address (length list)
    all_below_last is less = subst (AreBelow keys address) keys_count (all_below keys rise address c.0.number (last_key is) less)

    pub above_by_first : c ≡ get_or list 0 c → (i : ℕ) → address < c.0.number + i → AreAbove keys address i
    above_by_first is i less = above_first keys rise address i (omega (arith, less, key_at 0 c some is))

-- the cells from one index to another, of a list that is seen as its cells
module _ (list : List (Felt × Felt)) (rise : AddressesRise (map field_cell list)) (cells : List FieldCell) (view : map field_cell list ≡ cells) (from to : ℕ) (first_in : from ≤ length cells) (last_in : to ≤ length cells) where
  abbrev cut : List FieldCell
  cut = map field_cell (take (to - from) (drop from list))

  cut_is_part : IsPart (addresses cells) (addresses cut) from
  cut_is_part =
      let many : length list ≡ length cells = sym (length-map list field_cell) ∙ ap length view in
      subst (λ (m : List FieldCell). IsPart (addresses m) (addresses cut) from) view (part_of_cells list rise from (to - from) (omega (arith, many, first_in, last_in)))

  pub cut_rises : AddressesRise cut
  cut_rises = part_rises (addresses cells) (addresses cut) from cut_is_part (subst AddressesRise view rise)

  pub cut_found : (address i : ℕ) → IsKeyAt (addresses cut) address i → IsKeyAt (addresses cells) address (from + i)
  cut_found = part_found (addresses cells) (addresses cut) from cut_is_part

  pub cut_absent : (address i : ℕ) → AreBelow (addresses cells) address from → AreAbove (addresses cells) address to → IsGapFor (addresses cut) address i → IsGapFor (addresses cells) address (from + i)
  cut_absent address i below above gap =
      let many : length list ≡ length cells = sym (length-map list field_cell) ∙ ap length view in
      let cut_many : length (addresses cut) ≡ to - from =
      length-map cut (λ c. c.0) ∙ length-map (take (to - from) (drop from list)) field_cell ∙ length-take-le (to - from) (drop from list) (omega (arith, many, first_in, last_in, length-drop from list)) in
      part_absent (addresses cells) (addresses cut) from cut_is_part address i below (λ j le lt. above j (omega (arith, le, cut_many)) lt) gap
