-- A PIE has no more cells than its segments have room for.
use Rattle.std.proofs.Common.{◌≡◌, ℕ, zero, suc, ◌+◌, ◌<◌, ◌≤◌, List, [], ◌∷◌, length, sum, take, get_or, refl, arith, inl, inr}
use Rattle.std.proofs.lemmas.Bool.{cases_lt}
use Rattle.std.proofs.lemmas.List.Elements.{All-get_or}
use Rattle.std.proofs.lemmas.List.Sums.{sum_by-cons, get_or-le-sum_by}
use Rattle.cairo_model.specs.Pie.Records.{MemoryCell, PieRecord, IsCellOf, KeepsRules, place_number}
use Rattle.cairo_model.proofs.Lists.{at_some}
use Rattle.cairo_model.proofs.Searching.{key_is, keys_rise}

pub sum_more : (n : ℕ) (ns : List ℕ) → sum (n ∷ ns) ≡ n + sum ns
sum_more n ns = sum_by-cons (λ x. x) n ns

front_more : (n : ℕ) (ns : List ℕ) (s : ℕ) → sum (take (suc s) (n ∷ ns)) ≡ n + sum (take s ns)
front_more n ns s = sum_by-cons (λ x. x) n (take s ns)

head : (n : ℕ) (ns : List ℕ) → get_or (n ∷ ns) 0 0 ≡ n
head n ns = refl

next : (n : ℕ) (ns : List ℕ) (s : ℕ) → get_or (n ∷ ns) (suc s) 0 ≡ get_or ns s 0
next n ns s = refl

-- the cells of the segments before, and those of this one, are among the cells of all
within : (ns : List ℕ) (s : ℕ) → s < length ns → sum (take s ns) + get_or ns s 0 ≤ sum ns
within [] s lt = absurd (omega arith)
within (n ∷ ns) zero lt = omega (arith, sum_more n ns, head n ns)
within (n ∷ ns) (suc s) lt = omega (arith, sum_more n ns, front_more n ns s, next n ns s, within ns s (omega arith))

apart : (ns : List ℕ) (s t : ℕ) → s < t → s < length ns → sum (take s ns) + get_or ns s 0 ≤ sum (take t ns)
apart [] s t lt inside = absurd (omega arith)
apart (n ∷ ns) s zero lt inside = absurd (omega arith)
apart (n ∷ ns) zero (suc t) lt inside = omega (arith, head n ns, front_more n ns t)
apart (n ∷ ns) (suc s) (suc t) lt inside = omega (arith, front_more n ns s, front_more n ns t, next n ns s, apart ns s t (omega arith) (omega arith))

module _ (sizes : List ℕ) (in_all : sum sizes ≤ 65536) where
  -- where the cell would stand, if the segments stood one after the other with no room between
  abbrev rank : MemoryCell → ℕ
  rank c = sum (take c.segment sizes) + c.offset

  rank_below : (c : MemoryCell) → IsCellOf sizes c → rank c < sum sizes
  rank_below c h = omega (arith, within sizes c.segment h.in_segments, h.in_size)

  near : (c : MemoryCell) → IsCellOf sizes c → c.offset < 65536
  near c h = omega (arith, h.in_size, get_or-le-sum_by (λ n. n) sizes c.segment 0 h.in_segments, in_all)

  rank_rises : (c d : MemoryCell) → IsCellOf sizes c → IsCellOf sizes d → place_number c.segment c.offset < place_number d.segment d.offset → rank c < rank d
  rank_rises c d h k lt =
      elim (cases_lt c.segment d.segment) [
        | inl less ↦ omega (arith, apart sizes c.segment d.segment less h.in_segments, h.in_size)
        | inr le ↦ same c.segment d.segment c.offset d.offset le (near d k) lt
      ]
    where
      same : (s t o q : ℕ) → t ≤ s → q < 65536 → place_number s o < place_number t q → sum (take s sizes) + o < sum (take t sizes) + q
      same s t o q le small lt =
          let e : s ≡ t = omega arith in
          let less : o < q = omega (arith, e) in
          rw e (omega (arith, less))

abbrev key_of : MemoryCell → ℕ
key_of c = place_number c.segment c.offset

module _ (pie : PieRecord) (rules : KeepsRules pie) (d : MemoryCell) where
  abbrev rank_at : ℕ → ℕ
  rank_at i = rank pie.sizes rules.are_sizes.in_all (get_or pie.cells i d)

  is_cell : (i : ℕ) → i < length pie.cells → IsCellOf pie.sizes (get_or pie.cells i d)
  is_cell i lt = All-get_or (IsCellOf pie.sizes) pie.cells i d lt rules.are_cells

  later : (i : ℕ) → suc i < length pie.cells → rank_at i < rank_at (suc i)
  later i lt =
      let c = get_or pie.cells i d in
      let e = get_or pie.cells (suc i) d in
      let here : i < length pie.cells = omega arith in
      let up : place_number c.segment c.offset < place_number e.segment e.offset =
      omega (arith, keys_rise key_of pie.cells rules.rise i (suc i) (omega arith) lt, key_is key_of pie.cells i d here, key_is key_of pie.cells (suc i) d lt) in
      rank_rises pie.sizes rules.are_sizes.in_all c e (is_cell i here) (is_cell (suc i) lt) up

  index_below : (i : ℕ) → i < length pie.cells → i ≤ rank_at i
  index_below zero lt = omega arith
  index_below (suc i) lt = omega (arith, index_below i (omega arith), later i lt)

  bounded : (i : ℕ) → i < length pie.cells → i < 65536
  bounded i lt = omega (arith, index_below i lt, rank_below pie.sizes rules.are_sizes.in_all (get_or pie.cells i d) (is_cell i lt), rules.are_sizes.in_all)

at_most : (pie : PieRecord) → KeepsRules pie → (n : ℕ) → n ≤ length pie.cells → n ≤ 65536
at_most pie rules zero le = omega arith
at_most pie rules (suc n) le = at_some pie.cells n (omega arith) (λ d. let last = bounded pie rules d n (omega arith) in omega (arith, last))

pub few_cells : (pie : PieRecord) → KeepsRules pie → length pie.cells ≤ 65536
few_cells pie rules = at_most pie rules (length pie.cells) (omega arith)
