-- Cells by rising addresses are told by which they are, so there is one certificate of a PIE alone.
use Rattle.std.proofs.Common.{◌≡◌, ℕ, suc, ◌+◌, ◌<◌, List, [], ◌∷◌, length, map, slice_index, refl, sym, ap, subst, ◌∙◌, arith}
use Rattle.std.specs.List.{Contains}
use Rattle.std.proofs.lemmas.List.{get_or-map, length-map}
use Rattle.std.proofs.lemmas.List.Kept.{AllPairs-from_increasing}
use Rattle.std.proofs.lemmas.List.Sorted.{Contains-permutation, IsPermutation-sym}
use Rattle.cairo_model.specs.Pie.Acceptance.{CheckedRecord}
use Rattle.cairo_model.specs.Certificate.Records.{CertRecord}
use Rattle.cairo_model.specs.Machine.FieldMemories.{FieldCell, addresses, AddressesRise}
use Rattle.cairo_model.specs.Pie.Layouts.{lone_bases, relocated_cell}
use Rattle.cairo_model.specs.Pie.Records.{MemoryCell}
use Rattle.relocator.specs.LoneCertificates.{IsLoneCertificate}
use Rattle.relocator.specs.Placing.{ArePlaced}
use Rattle.cairo_model.proofs.Finding.{in_tail, in_list}

rise_rest : (x : FieldCell) (xs : List FieldCell) → AddressesRise (x ∷ xs) → AddressesRise xs
rise_rest x xs rise k lt =
    let next : suc k + 1 ≡ suc (k + 1) = omega arith in
    subst (λ (n : ℕ). slice_index (addresses xs) k < slice_index (addresses (x ∷ xs)) n) next (rise (suc k) (omega (arith, lt)))

head_least : (x : FieldCell) (xs : List FieldCell) → AddressesRise (x ∷ xs) → (c : FieldCell) → Contains xs c → x.0 < c.0
head_least x xs rise c at =
    let there : at.0 < length (addresses xs) = omega (arith, at.1, length-map xs (λ (d : FieldCell). d.0)) in
    subst (λ (n : ℕ). x.0 < n) (get_or-map (λ (d : FieldCell). d.0) xs at.0 c c.0 at.1 ∙ ap (λ (d : FieldCell). d.0) at.2)
    (AllPairs-from_increasing (addresses (x ∷ xs)) rise 0 (suc at.0) c.0 (omega arith) (omega (arith, there)))

-- lists of the same cells begin with the same cell
module _ (x y : FieldCell) (xs ys : List FieldCell) (rise : AddressesRise (x ∷ xs)) (to : (c : FieldCell) → Contains (x ∷ xs) c → Contains (y ∷ ys) c) where
  same_head : AddressesRise (y ∷ ys) → ((c : FieldCell) → Contains (y ∷ ys) c → Contains (x ∷ xs) c) → x ≡ y
  same_head rise' from =
      let here = to x (0, omega arith, refl) in
      let back = from y (0, omega arith, refl) in
      in_list y x ys here.0 here.1 here.2 sym (λ behind.
      in_list x y xs back.0 back.1 back.2 (λ is. is) (λ behind'.
      absurd (omega (arith, head_least y ys rise' x behind, head_least x xs rise y behind'))))

  -- and a cell behind it is one behind it there too
  in_rest : x ≡ y → (c : FieldCell) → Contains xs c → Contains ys c
  in_rest same c at =
      let there = to c (in_tail x c xs at) in
      in_list y c ys there.0 there.1 there.2
      (λ is. absurd (omega (arith, head_least x xs rise c at, ap (λ (d : FieldCell). d.0) (same ∙ is))))
      (λ behind. behind)

one_rising : (xs ys : List FieldCell) → AddressesRise xs → AddressesRise ys → ((c : FieldCell) → Contains xs c → Contains ys c) → ((c : FieldCell) → Contains ys c → Contains xs c) → xs ≡ ys
one_rising [] [] rise rise' to from = refl
one_rising [] (y ∷ ys) rise rise' to from = absurd (omega (arith, (from y (0, omega arith, refl)).1))
one_rising (x ∷ xs) [] rise rise' to from = absurd (omega (arith, (to x (0, omega arith, refl)).1))
one_rising (x ∷ xs) (y ∷ ys) rise rise' to from =
    let same : x ≡ y = same_head x y xs ys rise to rise' from in
    let rest : xs ≡ ys = one_rising xs ys (rise_rest x xs rise) (rise_rest y ys rise') (in_rest x y xs ys rise to same) (in_rest y x ys xs rise' from (sym same)) in
    λ i. same i ∷ rest i

module _ (bases : List ℕ) (cells : List MemoryCell) (out out' : List FieldCell) (p : ArePlaced bases cells out) (q : ArePlaced bases cells out') where
  same_cells : (c : FieldCell) → Contains out c → Contains out' c
  same_cells c at =
      let placed = map (relocated_cell bases) cells in
      Contains-permutation placed out' c q.same_cells (Contains-permutation out placed c (IsPermutation-sym placed out p.same_cells) at)

one_placement : (bases : List ℕ) (cells : List MemoryCell) (out out' : List FieldCell) → ArePlaced bases cells out → ArePlaced bases cells out' → out ≡ out'
one_placement bases cells out out' p q = one_rising out out' p.rise q.rise (same_cells bases cells out out' p q) (same_cells bases cells out' out q p)

pub one_lone_certificate : (checked : CheckedRecord) (c d : CertRecord) → IsLoneCertificate checked c → IsLoneCertificate checked d → c ≡ d
one_lone_certificate checked c d p q =
    let cells : c.cells ≡ d.cells = one_placement (lone_bases checked.pie.sizes) checked.pie.cells c.cells d.cells p.cells q.cells in
    λ i. record {
      kind = (p.kind ∙ sym q.kind) i;
      output = (p.output ∙ sym q.output) i;
      range = (p.range ∙ sym q.range) i;
      hash = (p.hash ∙ sym q.hash) i;
      tasks = (p.tasks ∙ sym q.tasks) i;
      cells = cells i;
      states = (p.states ∙ sym q.states) i;
    }
