-- What a memory of segments holds, and what it holds once one of them is changed.
use Rattle.std.proofs.Common.{inl, inr, ◌≡◌, ℕ, ◌-◌, ◌<◌, ◌≤◌, List, [], ◌∷◌, ◌++◌, length, set, sum, get_or, replicate, Some, None, Result, Ok, Err, refl, sym, ap, ap₂, subst, ◌∙◌, arith}
use Rattle.std.specs.Prelude.{OnOk, OnErr}
use Rattle.std.proofs.lemmas.Bool.{cases_eq, cases_lt}
use Rattle.std.proofs.lemmas.List.{length-set, length-map, length-append, length-replicate, map-append, map-set, set-get_or, get_or_default, get_or_past, get_or-set_same, get_or-set_other, get_or_append_left, get_or-append_right}
use Rattle.std.proofs.lemmas.List.Sums.{get_or-le-sum_by}
use Rattle.cairo_model.specs.Machine.Values.{Datum}
use Rattle.cairo_model.specs.Limits.{most_cells}
use Rattle.seg_memory.specs.Memory.{MemoryRecord, size_of, cell_of, IsPut, HoldsSame, IsEmpty}
use Rattle.seg_memory.specs.Working.Pages.{Segments, sizes_of, segment_cell, seen, AreFew}
use Rattle.seg_memory.proofs.Paging.{Cell, none_at}
use Rattle.seg_memory.proofs.SeenCells.{size_at, past_end, seen_cell}

-- ---- looking

module _ (segments : Segments) (m : MemoryRecord) (view : seen segments ≡ m) (s o k : ℕ) (is : k ≡ s) where
  at_view : cell_of m s o ≡ segment_cell segments s o
  at_view = ap (λ (r : MemoryRecord). cell_of r s o) (sym view) ∙ seen_cell segments s o

  pub looked : (cells : List Cell) → k < length segments → cells ≡ get_or segments k cells → get_or cells o None ≡ cell_of m s o
  looked cells lt at =
      let here : cells ≡ get_or segments s [] = at ∙ (get_or_default segments k cells [] lt ∙ ap (λ (i : ℕ). get_or segments i []) is) in
      ap (λ (cs : List Cell). get_or cs o None) here ∙ sym at_view

  pub none_past : length segments ≤ k → None ≡ cell_of m s o
  none_past le = sym (at_view ∙ ap (λ (cs : List Cell). get_or cs o None) (get_or_past segments s [] (omega (arith, le, is))))

  size_view : size_of m s ≡ length (get_or segments s [])
  size_view = ap (λ (r : MemoryRecord). size_of r s) (sym view) ∙ size_at segments s

  pub none_outside : size_of m s ≤ o → cell_of m s o ≡ None
  none_outside le = at_view ∙ get_or_past (get_or segments s []) o None (omega (arith, le, size_view))

  pub is_there : o < size_of m s → k < length segments
  is_there lt =
      let size = ap (λ (r : MemoryRecord). size_of r s) (sym view) in
      omega (arith, is, past_end (sizes_of segments) s o (omega (arith, lt, size)), length-map segments (λ cells. length cells))

-- each size is within their sum
pub sizes_small : (sizes : List ℕ) (s : ℕ) → get_or sizes s 0 ≤ sum sizes
sizes_small sizes s = elim (cases_lt s (length sizes)) [
  | inl inside ↦ get_or-le-sum_by (λ x. x) sizes s 0 inside
  | inr past ↦ omega (arith, get_or_past sizes s 0 past)
]

-- ---- a segment with other cells

module _ (segments : Segments) (m : MemoryRecord) (view : seen segments ≡ m) (s k : ℕ) (is : k ≡ s) (there : k < length segments) (cells new : List Cell) (at : cells ≡ get_or segments k cells) where
  before : get_or segments s [] ≡ cells
  before = sym (at ∙ (get_or_default segments k cells [] there ∙ ap (λ (i : ℕ). get_or segments i []) is))

  after : get_or (set segments k new) s [] ≡ new
  after = ap (λ (i : ℕ). get_or (set segments k new) i []) (sym is) ∙ get_or-set_same segments k new [] there

  other : (t : ℕ) → (t ≡ s → ⊥) → get_or (set segments k new) t [] ≡ get_or segments t []
  other t apart = get_or-set_other segments k t new [] (λ same. apart (same ∙ is))

  pub sizes_changed : sizes_of (set segments k new) ≡ set m.sizes s (length new)
  sizes_changed = map-set (λ cells. length cells) segments k new ∙ ap₂ (λ (ns : List ℕ) (i : ℕ). set ns i (length new)) (ap (λ (r : MemoryRecord). r.sizes) view) is

  pub sizes_same : length new ≡ length cells → sizes_of (set segments k new) ≡ m.sizes
  sizes_same same =
      let size : length new ≡ get_or (sizes_of segments) k 0 = same ∙ (ap length (sym before) ∙ (sym (size_at segments s) ∙ ap (λ (i : ℕ). get_or (sizes_of segments) i 0) (sym is))) in
      map-set (λ cells. length cells) segments k new ∙ (ap (set (sizes_of segments) k) size ∙ (set-get_or (sizes_of segments) k 0 ∙ ap (λ (r : MemoryRecord). r.sizes) view))

  pub still_few : AreFew segments → sum (sizes_of (set segments k new)) ≤ most_cells → AreFew (set segments k new)
  still_few h fits = record { few = omega (arith, h.few, length-set segments k new); in_all = fits }

  pub few_same : AreFew segments → length new ≡ length cells → AreFew (set segments k new)
  few_same h same = still_few h (omega (arith, h.in_all, ap sum (sizes_same same), ap (λ (r : MemoryRecord). sum r.sizes) view))

  new_cell : (t q : ℕ) → cell_of (seen (set segments k new)) t q ≡ segment_cell (set segments k new) t q
  new_cell t q = seen_cell (set segments k new) t q

  old_cell : (t q : ℕ) → segment_cell segments t q ≡ cell_of m t q
  old_cell t q = sym (seen_cell segments t q) ∙ ap (λ (r : MemoryRecord). cell_of r t q) view

  pub same_size : size_of m s ≡ length cells
  same_size = ap (λ (r : MemoryRecord). size_of r s) (sym view) ∙ (size_at segments s ∙ ap length before)

  pub inside_cells : (o : ℕ) → o < size_of m s → o < length cells
  inside_cells o lt = omega (arith, lt, same_size)

  -- a value is put
  pub put_is : (o : ℕ) (v : Datum) → o < length cells → new ≡ set cells o (Some v) → IsPut m (seen (set segments k new)) s o v
  put_is o v inside changed = record {
    sizes = sizes_same (ap length changed ∙ length-set cells o (Some v));
    here = new_cell s o ∙ (ap (λ (cs : List Cell). get_or cs o None) (after ∙ changed) ∙ get_or-set_same cells o (Some v) None inside);
    elsewhere = λ t q differ. new_cell t q ∙ (elim (cases_eq t s) [
      | inl same ↦
          let apart : q ≡ o → ⊥ = differ same in
          let first : segment_cell (set segments k new) s q ≡ get_or cells q None = ap (λ (cs : List Cell). get_or cs q None) (after ∙ changed) ∙ get_or-set_other cells o q (Some v) None apart in
          let second : get_or cells q None ≡ segment_cell segments s q = ap (λ (cs : List Cell). get_or cs q None) (sym before) in
          subst (λ (i : ℕ). segment_cell (set segments k new) i q ≡ segment_cell segments i q) (sym same) (first ∙ second)
      | inr apart ↦ ap (λ (cs : List Cell). get_or cs q None) (other t apart)
    ] ∙ old_cell t q);
  }

  -- cells with no value are added
  longer_same : (n o : ℕ) → get_or (cells ++ replicate n None) o None ≡ get_or cells o None
  longer_same n o = elim (cases_lt o (length cells)) [
    | inl lt ↦ get_or_append_left cells (replicate n None) None o lt
    | inr past ↦ get_or-append_right cells (replicate n None) (length cells) o None refl past ∙ (none_at n (o - length cells) ∙ sym (get_or_past cells o None past))
  ]

  pub keeps : (n : ℕ) → new ≡ cells ++ replicate n None → HoldsSame m (seen (set segments k new))
  keeps n changed t q = new_cell t q ∙ (elim (cases_eq t s) [
    | inl same ↦ subst (λ (i : ℕ). segment_cell (set segments k new) i q ≡ segment_cell segments i q) (sym same)
        (ap (λ (cs : List Cell). get_or cs q None) (after ∙ changed) ∙ (longer_same n q ∙ ap (λ (cs : List Cell). get_or cs q None) (sym before)))
    | inr apart ↦ ap (λ (cs : List Cell). get_or cs q None) (other t apart)
  ] ∙ old_cell t q)

  pub grown_size : (size : ℕ) → length cells ≤ size → new ≡ cells ++ replicate (size - length cells) None → length new ≡ size
  grown_size size le changed = omega (arith, le, ap length changed, length-append cells (replicate (size - length cells) None), length-replicate {A = Cell} (size - length cells) None)

-- ---- answers

pub by_answer : {A E X Y R : Type 0} (r : Result A E) → OnOk r X → OnErr r Y → (X → R) → (Y → R) → R
by_answer (Ok x) ok err go stop = go ok
by_answer (Err e) ok err go stop = stop err

pub ok_then : {A E X Y : Type 0} (r : Result A E) → OnOk r X → (X → Y) → OnOk r Y
ok_then (Ok x) ok go = go ok
ok_then (Err e) ok go = ok

-- ---- segments one after the other

pub one_more : (segments new : Segments) (cells : List Cell) (sizes : List ℕ) (size : ℕ) → new ≡ segments ++ cells ∷ [] → cells ≡ replicate size None → sizes_of segments ≡ sizes → sizes_of new ≡ sizes ++ size ∷ []
one_more segments new cells sizes size is empty so_far =
    ap sizes_of is ∙ (map-append (λ cells. length cells) segments (cells ∷ []) ∙ ap₂ (λ (ns : List ℕ) (n : ℕ). ns ++ n ∷ []) so_far (ap length empty ∙ length-replicate {A = Cell} size None))

pub is_empty : (segments : Segments) → ((s o : ℕ) → segment_cell segments s o ≡ None) → IsEmpty (seen segments)
is_empty segments none s o = seen_cell segments s o ∙ none s o
