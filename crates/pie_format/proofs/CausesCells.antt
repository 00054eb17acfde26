-- The causes in the cells: the first that is none of the sizes' cells, by its index.
use Rattle.std.proofs.Common.{◌≡◌, ℕ, zero, suc, ◌+◌, ◌*◌, ◌<◌, ◌≤◌, true, ◌&&◌, List, [], ◌∷◌, ◌++◌, length, take, drop, Option, Some, None, option_map, Ok, Err, refl, sym, ap, subst, ◌∙◌, arith, inl, inr, length-drop}
use Rattle.std.specs.Int.{w16, w32}
use Rattle.std.proofs.lemmas.Bool.{cases_lt, ltb-true, lt-ltb}
use Rattle.std.proofs.lemmas.List.{drop-drop, take_at, take-append-drop}
use Rattle.cairo_model.specs.declared.read_refusal.ReadRefusal.{ReadRefusal}
use Rattle.cairo_model.specs.declared.read_refusal.ReadRefusal.TheVariants.{BadCell}
use Rattle.cairo_model.specs.Machine.Steps.{◌>>=◌, required}
use Rattle.cairo_model.specs.Machine.Values.{Datum}
use Rattle.cairo_model.specs.Pie.Records.{MemoryCell, place_number}
use Rattle.cairo_model.specs.Pie.Files.{cell_bytes}
use Rattle.cairo_model.specs.Refusals.ReadRefusals.{cell_start, place_in, IsGoodCell}
use Rattle.cairo_model.proofs.Outcomes.{bind_gives, required_is, then_gives, no_some, ok_no_err, bind_refused, required_refused}
use Rattle.cairo_model.proofs.Bytes.{IsBytes, IsBytes-drop}
use Rattle.cairo_model.specs.Working.Keys.{is_after}
use Rattle.pie_format.specs.Working.Reading.{front, is_inside, cell_in, cell_at, cells_at}
use Rattle.pie_format.proofs.ReadingCells.{AreSmall, IsRead, some_of, cell_takes, cell_again, cell_len}

-- ---- one cell

-- what the reading keeps of the place before the cell of this index
pub record Follows (bytes : List ℕ) (i : ℕ) (before : Option ℕ) : Type 0 where
  pub above : (n : ℕ) → is_after before n ≡ true → (k : ℕ) → i ≡ k + 1 → place_in bytes k < n
  pub below : (n : ℕ) → ((k : ℕ) → i ≡ k + 1 → place_in bytes k < n) → is_after before n ≡ true

pub none_before : (bytes : List ℕ) → Follows bytes 0 None
none_before bytes = record { above = λ n e k same. absurd (omega arith); below = λ n h. refl }

one_before : (bytes : List ℕ) (i p : ℕ) → place_in bytes i ≡ p → Follows bytes (i + 1) (Some p)
one_before bytes i p e = record {
  above = λ n lt k same.
      let less : p < n = ltb-true p n lt in
      let here : k ≡ i = omega arith in
      subst (λ (j : ℕ). place_in bytes j < n) (sym here) (subst (λ (q : ℕ). q < n) (sym e) less);
  below = λ n h. lt-ltb p n (subst (λ (q : ℕ). q < n) e (h i refl));
}

place_read : (sizes : List ℕ) (before : Option ℕ) (s o : ℕ) (v : Option Datum) (c : MemoryCell) → cell_in sizes before s o v ≡ Some c → place_number s o ≡ place_number c.segment c.offset
place_read sizes before s o v c e =
    then_gives (is_inside sizes s o && is_after before (place_number s o)) (option_map (λ w. record { segment = s; offset = o; value = w }) v) c e (λ both found.
    some_of v s o c found (λ w is same. ap (λ (d : MemoryCell). place_number d.segment d.offset) same))

-- the bytes from the cell of this index
module _ (sizes bytes : List ℕ) (i : ℕ) (before : Option ℕ) (rest : List ℕ) (is_rest : rest ≡ drop (cell_start bytes i) bytes) (follows : Follows bytes i before) where
  place_is : (c : MemoryCell) → cell_at sizes before rest ≡ Some c → place_in bytes i ≡ place_number c.segment c.offset
  place_is c e =
      let start = cell_start bytes i in
      let behind : drop (start + 2) bytes ≡ drop 2 rest = sym (drop-drop 2 start bytes) ∙ ap (drop 2) (sym is_rest) in
      ap (λ (x : List ℕ). place_number (front w16 x) (front w32 (drop (start + 2) bytes))) (sym is_rest) ∙ ap (λ (x : List ℕ). place_number (front w16 rest) (front w32 x)) behind
      ∙ place_read sizes before (front w16 rest) (front w32 (drop 2 rest)) _ c e

  pub good_cell : (c : MemoryCell) → IsBytes rest → 16 ≤ length rest → cell_at sizes before rest ≡ Some c → IsGoodCell sizes bytes i
  good_cell c fits long e =
      let r : IsRead sizes before rest c = cell_takes sizes before rest c fits long e in
      record {
        cell = c;
        spelled = ap (take 16) (sym is_rest) ∙ ap (take 16) r.taken.parts ∙ take_at (cell_bytes c) (drop 16 rest) 16 (cell_len c);
        is_cell = r.is_cell;
        rises = follows.above (place_number c.segment c.offset) r.follows;
      }

  pub read_good : (g : IsGoodCell sizes bytes i) → AreSmall sizes → cell_at sizes before rest ≡ Some g.cell
  read_good g small =
      let front : take 16 rest ≡ cell_bytes g.cell = ap (take 16) is_rest ∙ g.spelled in
      let parts : rest ≡ cell_bytes g.cell ++ drop 16 rest = sym (take-append-drop 16 rest) ∙ ap (λ (x : List ℕ). x ++ drop 16 rest) front in
      ap (cell_at sizes before) parts ∙ cell_again sizes before g.cell (drop 16 rest) small g.is_cell (follows.below (place_number g.cell.segment g.cell.offset) g.rises)

  pub next_follows : (c : MemoryCell) → cell_at sizes before rest ≡ Some c → Follows bytes (i + 1) (Some (place_number c.segment c.offset))
  next_follows c e = one_before bytes i (place_number c.segment c.offset) (place_is c e)

  pub next_rest : drop 16 rest ≡ drop (cell_start bytes (i + 1)) bytes
  next_rest =
      let e : cell_start bytes i + 16 ≡ cell_start bytes (i + 1) = omega arith in
      ap (drop 16) is_rest ∙ drop-drop 16 (cell_start bytes i) bytes ∙ ap (λ (n : ℕ). drop n bytes) e

-- ---- several cells

-- of so many cells from this index, the first that isn't good
pub record Fails (sizes bytes : List ℕ) (i n : ℕ) (r : ReadRefusal) : Type 0 where
  pub index : ℕ
  pub refusal_is : BadCell index ≡ r
  pub inside : index < i + n
  pub fails : ¬ IsGoodCell sizes bytes index
  pub good : (k : ℕ) → i ≤ k → k < index → IsGoodCell sizes bytes k

pub cells_fail : (sizes bytes : List ℕ) (i : ℕ) (before : Option ℕ) (n : ℕ) (rest : List ℕ) (r : ReadRefusal) → AreSmall sizes → rest ≡ drop (cell_start bytes i) bytes → Follows bytes i before → IsBytes rest → 16 * n ≤ length rest
    → cells_at sizes i before n rest ≡ Err r → Fails sizes bytes i n r
unfolding cells_at
cells_fail sizes bytes i before zero rest r small is follows fits long e = ok_no_err ([], rest) r e
cells_fail sizes bytes i before (suc n) rest r small is follows fits long e =
    bind_refused (required (BadCell i) (cell_at sizes before rest)) (λ c. cells_at sizes (i + 1) (Some (place_number c.segment c.offset)) n (drop 16 rest) >>= λ others. Ok (c ∷ others.0, others.1)) r e
    (λ stop. required_refused (BadCell i) (cell_at sizes before rest) r stop (λ none same. record {
      index = i;
      refusal_is = same;
      inside = omega arith;
      fails = λ g. no_some g.cell (sym none ∙ read_good sizes bytes i before rest is follows g small);
      good = λ k le lt. absurd (omega arith);
    }))
    (λ c found after. required_is (BadCell i) (cell_at sizes before rest) c found (λ one.
    bind_refused (cells_at sizes (i + 1) (Some (place_number c.segment c.offset)) n (drop 16 rest)) (λ others. Ok (c ∷ others.0, others.1)) r after
    (λ later.
    let f : Fails sizes bytes (i + 1) n r = cells_fail sizes bytes (i + 1) (Some (place_number c.segment c.offset)) n (drop 16 rest) r small (next_rest sizes bytes i before rest is follows) (next_follows sizes bytes i before rest is follows c one)
    (IsBytes-drop 16 rest fits) (omega (arith, length-drop 16 rest)) later in
    record {
      index = f.index;
      refusal_is = f.refusal_is;
      inside = omega (arith, f.inside);
      fails = f.fails;
      good = λ k le lt. elim (cases_lt i k) [
        | inl above ↦ f.good k (omega arith) lt
        | inr here ↦ let same : i ≡ k = omega arith in subst (λ (j : ℕ). IsGoodCell sizes bytes j) same (good_cell sizes bytes i before rest is follows c fits (omega arith) one)
      ];
    })
    (λ others later done. ok_no_err (c ∷ others.0, others.1) r done)))

pub cells_good : (sizes bytes : List ℕ) (i : ℕ) (before : Option ℕ) (n : ℕ) (rest : List ℕ) (x : List MemoryCell × List ℕ) → rest ≡ drop (cell_start bytes i) bytes → Follows bytes i before → IsBytes rest → 16 * n ≤ length rest
    → cells_at sizes i before n rest ≡ Ok x → (k : ℕ) → i ≤ k → k < i + n → IsGoodCell sizes bytes k
unfolding cells_at
cells_good sizes bytes i before zero rest x is follows fits long e k le lt = absurd (omega arith)
cells_good sizes bytes i before (suc n) rest x is follows fits long e k le lt =
    bind_gives (required (BadCell i) (cell_at sizes before rest)) (λ c. cells_at sizes (i + 1) (Some (place_number c.segment c.offset)) n (drop 16 rest) >>= λ others. Ok (c ∷ others.0, others.1)) x e (λ c found after.
    required_is (BadCell i) (cell_at sizes before rest) c found (λ one.
    bind_gives (cells_at sizes (i + 1) (Some (place_number c.segment c.offset)) n (drop 16 rest)) (λ others. Ok (c ∷ others.0, others.1)) x after (λ others later same.
    elim (cases_lt i k) [
      | inl above ↦ cells_good sizes bytes (i + 1) (Some (place_number c.segment c.offset)) n (drop 16 rest) others (next_rest sizes bytes i before rest is follows) (next_follows sizes bytes i before rest is follows c one)
          (IsBytes-drop 16 rest fits) (omega (arith, length-drop 16 rest)) later k (omega arith) (omega arith)
      | inr here ↦ let is_here : i ≡ k = omega arith in subst (λ (j : ℕ). IsGoodCell sizes bytes j) is_here (good_cell sizes bytes i before rest is follows c fits (omega arith) one)
    ])))
