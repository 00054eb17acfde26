-- Reading cells one after the other, as a loop does.
use Rattle.std.proofs.Common.{◌≡◌, ℕ, suc, ◌-◌, ◌+◌, ◌≤◌, ◌<◌, List, [], ◌∷◌, ◌++◌, length, drop, Option, Some, None, Result, Ok, Err, refl, sym, ap, ◌∙◌, append_assoc, arith}
use Rattle.std.proofs.lemmas.List.{append-nil, drop-drop}
use Rattle.std.specs.Int.{w16, w32, w64}
use Rattle.cairo_model.specs.declared.read_refusal.ReadRefusal.{ReadRefusal}
use Rattle.cairo_model.specs.declared.read_refusal.ReadRefusal.TheVariants.{BadCell}
use Rattle.cairo_model.specs.Machine.Steps.{◌>>=◌}
use Rattle.cairo_model.specs.Pie.Records.{MemoryCell, place_number}
use Rattle.cairo_model.specs.Machine.Values.{Datum}
use Rattle.pie_format.specs.Working.Reading.{front, value_in, cell_in, cell_at, cells_at}

abbrev pub Cells : Type 0
Cells = Result (List MemoryCell × List ℕ) ReadRefusal

-- what was read before, and what is still read
abbrev pub with_front : List MemoryCell → Cells → Cells
with_front before read = read >>= λ x. Ok (before ++ x.0, x.1)

regroup : (before : List MemoryCell) (c : MemoryCell) (read : Cells) → with_front before (read >>= λ x. Ok (c ∷ x.0, x.1)) ≡ with_front (before ++ c ∷ []) read
regroup before c (Ok x) = ap (λ (cs : List MemoryCell). Ok (cs, x.1)) (simp append_assoc)
regroup before c (Err r) = refl

pub goes_on : (before : List MemoryCell) (sizes : List ℕ) (count i : ℕ) (last : Option ℕ) (bytes : List ℕ) (c : MemoryCell) (total : Cells) → i < count → cell_at sizes last bytes ≡ Some c
    → with_front before (cells_at sizes i last (count - i) bytes) ≡ total
    → with_front (before ++ c ∷ []) (cells_at sizes (i + 1) (Some (place_number c.segment c.offset)) (count - (i + 1)) (drop 16 bytes)) ≡ total
unfolding cells_at
goes_on before sizes count i last bytes c total lt h so_far =
    let k : count - i ≡ suc (count - (i + 1)) = omega arith in
    let one : with_front before (cells_at sizes i last (count - i) bytes) ≡ with_front (before ++ c ∷ []) (cells_at sizes (i + 1) (Some (place_number c.segment c.offset)) (count - (i + 1)) (drop 16 bytes)) = rw (k, h) (regroup before c (cells_at sizes (i + 1) (Some (place_number c.segment c.offset)) (count - (i + 1)) (drop 16 bytes))) in
    sym one ∙ so_far

pub stops : (before : List MemoryCell) (sizes : List ℕ) (count i : ℕ) (last : Option ℕ) (bytes : List ℕ) (total : Cells) → i < count → cell_at sizes last bytes ≡ None
    → with_front before (cells_at sizes i last (count - i) bytes) ≡ total → total ≡ Err (BadCell i)
unfolding cells_at
stops before sizes count i last bytes total lt h so_far =
    let k : count - i ≡ suc (count - (i + 1)) = omega arith in
    let one : with_front before (cells_at sizes i last (count - i) bytes) ≡ Err (BadCell i) = rw (k, h) refl in
    sym so_far ∙ one

pub is_done : (before : List MemoryCell) (sizes : List ℕ) (count i : ℕ) (last : Option ℕ) (bytes : List ℕ) (total : Cells) → count ≤ i
    → with_front before (cells_at sizes i last (count - i) bytes) ≡ total → total ≡ Ok (before, bytes)
unfolding cells_at
is_done before sizes count i last bytes total le so_far =
    let k : count - i ≡ 0 = omega arith in
    let one : with_front before (cells_at sizes i last (count - i) bytes) ≡ Ok (before, bytes) = rw k (ap (λ (cs : List MemoryCell). Ok (cs, bytes)) (append-nil before)) in
    sym so_far ∙ one

-- the parts of a cell, each read from what the one before left
pub cell_parts : (sizes : List ℕ) (before : Option ℕ) (bytes rest1 rest2 rest3 : List ℕ) (s o t n : ℕ) (v : Option Datum) (r : Option MemoryCell) → s ≡ front w16 bytes → rest1 ≡ drop 2 bytes → o ≡ front w32 rest1
    → rest2 ≡ drop 4 rest1 → t ≡ front w16 rest2 → rest3 ≡ drop 2 rest2 → n ≡ front w64 rest3 → v ≡ value_in (length sizes) t n → r ≡ cell_in sizes before s o v → r ≡ cell_at sizes before bytes
cell_parts sizes before bytes rest1 rest2 rest3 s o t n v r s-is e1 o-is e2 t-is e3 n-is v-is r-is =
    let at6 : rest2 ≡ drop 6 bytes = e2 ∙ ap (drop 4) e1 ∙ drop-drop 4 2 bytes in
    let at8 : rest3 ≡ drop 8 bytes = e3 ∙ ap (drop 2) at6 ∙ drop-drop 2 6 bytes in
    let offset : o ≡ front w32 (drop 2 bytes) = o-is ∙ ap (front w32) e1 in
    let tag : t ≡ front w16 (drop 6 bytes) = t-is ∙ ap (front w16) at6 in
    let payload : n ≡ front w64 (drop 8 bytes) = n-is ∙ ap (front w64) at8 in
    let value : v ≡ value_in (length sizes) (front w16 (drop 6 bytes)) (front w64 (drop 8 bytes)) = v-is ∙ ap (λ (x : ℕ). value_in (length sizes) x n) tag ∙ ap (value_in (length sizes) (front w16 (drop 6 bytes))) payload in
    r-is ∙ ap (λ (x : ℕ). cell_in sizes before x o v) s-is ∙ ap (λ (x : ℕ). cell_in sizes before (front w16 bytes) x v) offset ∙ ap (cell_in sizes before (front w16 bytes) (front w32 (drop 2 bytes))) value
