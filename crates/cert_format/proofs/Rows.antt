-- Rows of entries of a fixed size: any bytes of that size are such a row, and of one alone.
use Rattle.std.proofs.Common.{◌≡◌, ℕ, ◌+◌, ◌^◌, ◌≤◌, List, [], ◌∷◌, ◌++◌, length, get_or, take, drop, refl, sym, ap, subst, ◌∙◌, arith, length-append, length-drop}
use Rattle.std.specs.Int.{w32, w64, from_be_bytes}
use Rattle.std.proofs.lemmas.List.{drop_at, drop-drop}
use Rattle.cairo_model.specs.Machine.Steps.{Registers}
use Rattle.cairo_model.specs.Certificate.Records.{SpanRecord}
use Rattle.cairo_model.proofs.Bytes.{IsBytes, IsBytes-drop, wide32, wide64, front_below, front_takes, front_again}
use Rattle.cert_format.specs.Refusals.{Entry, FitsBytes, kind, count, entries_bytes, span_entries, base_entries, cell_entries, state_entries}
use Rattle.cert_format.proofs.EntryLaws.{in_two, Fit, all_first, all_second, all_both}

pub record IsRow {A : Type 0} (entries : A → List Entry) (size : ℕ) (one : List ℕ → A) : Type 0 where
  pub len : (a : A) → length (entries_bytes (entries a)) ≡ size
  pub there : (bytes : List ℕ) → IsBytes bytes → size ≤ length bytes → bytes ≡ entries_bytes (entries (one bytes)) ++ drop size bytes
  pub fit : (bytes : List ℕ) → IsBytes bytes → Fit (entries (one bytes))
  pub again : (a : A) (rest : List ℕ) → Fit (entries a) → one (entries_bytes (entries a) ++ rest) ≡ a

kind_there : (bytes : List ℕ) → 1 ≤ length bytes → bytes ≡ (get_or bytes 0 0 ∷ []) ++ drop 1 bytes
kind_there [] long = absurd (omega arith)
kind_there (b ∷ bytes) long = refl

abbrev pub kind_entries : ℕ → List Entry
kind_entries k = kind k ∷ []

pub kind_row : IsRow kind_entries 1 (λ bytes. get_or bytes 0 0)
kind_row = record {
  len = λ k. refl;
  there = λ bytes fits long. kind_there bytes long;
  fit = λ bytes fits. (fits 0, tt);
  again = λ k rest fit. refl;
}

abbrev pub number_one : List ℕ → ℕ
number_one bytes = from_be_bytes w64 (take 8 bytes)

pub number_row : IsRow base_entries 8 number_one
number_row = record {
  len = λ n. refl;
  there = λ bytes fits long. let t = front_takes w64 (2 ^ 64) wide64 bytes fits long in t.parts;
  fit = λ bytes fits. (front_below w64 (2 ^ 64) wide64 bytes fits, tt);
  again = λ n rest fit. front_again w64 (2 ^ 64) wide64 n rest fit.0;
}

abbrev pub count_entries : ℕ → List Entry
count_entries n = count n ∷ []

abbrev pub count_one : List ℕ → ℕ
count_one bytes = from_be_bytes w32 (take 4 bytes)

pub count_row : IsRow count_entries 4 count_one
count_row = record {
  len = λ n. refl;
  there = λ bytes fits long. let t = front_takes w32 (2 ^ 32) wide32 bytes fits long in t.parts;
  fit = λ bytes fits. (front_below w32 (2 ^ 32) wide32 bytes fits, tt);
  again = λ n rest fit. front_again w32 (2 ^ 32) wide32 n rest fit.0;
}

-- one behind the other
pub pair_row : {A B : Type 0} (e1 : A → List Entry) (s1 : ℕ) (o1 : List ℕ → A) (e2 : B → List Entry) (s2 : ℕ) (o2 : List ℕ → B)
    → IsRow e1 s1 o1 → IsRow e2 s2 o2 → IsRow (λ (x : A × B). e1 x.0 ++ e2 x.1) (s1 + s2) (λ bytes. (o1 bytes, o2 (drop s1 bytes)))
pair_row {A} {B} e1 s1 o1 e2 s2 o2 row1 row2 = record {
  len = λ x.
      let whole : length (entries_bytes (e1 x.0 ++ e2 x.1) ++ []) ≡ length (entries_bytes (e1 x.0)) + length (entries_bytes (e2 x.1) ++ []) = ap length (in_two (e1 x.0) (e2 x.1) []) ∙ length-append (entries_bytes (e1 x.0)) (entries_bytes (e2 x.1) ++ []) in
      omega (arith, whole, length-append (entries_bytes (e1 x.0 ++ e2 x.1)) [], length-append (entries_bytes (e2 x.1)) [], row1.len x.0, row2.len x.1);
  there = λ bytes fits long.
      let behind = drop s1 bytes in
      let first : bytes ≡ entries_bytes (e1 (o1 bytes)) ++ behind = row1.there bytes fits (omega arith) in
      let second : behind ≡ entries_bytes (e2 (o2 behind)) ++ drop s2 behind = row2.there behind (IsBytes-drop s1 bytes fits) (omega (arith, length-drop s1 bytes)) in
      let last : drop s2 behind ≡ drop (s1 + s2) bytes = drop-drop s2 s1 bytes in
      first ∙ ap (λ (t : List ℕ). entries_bytes (e1 (o1 bytes)) ++ t) (second ∙ ap (λ (t : List ℕ). entries_bytes (e2 (o2 behind)) ++ t) last) ∙ sym (in_two (e1 (o1 bytes)) (e2 (o2 behind)) (drop (s1 + s2) bytes));
  fit = λ bytes fits. all_both FitsBytes (e1 (o1 bytes)) (e2 (o2 (drop s1 bytes))) (row1.fit bytes fits) (row2.fit (drop s1 bytes) (IsBytes-drop s1 bytes fits));
  again = λ x rest fit.
      let tail = entries_bytes (e2 x.1) ++ rest in
      let first : o1 (entries_bytes (e1 x.0) ++ tail) ≡ x.0 = row1.again x.0 tail (all_first FitsBytes (e1 x.0) (e2 x.1) fit) in
      let behind : drop s1 (entries_bytes (e1 x.0) ++ tail) ≡ tail = drop_at (entries_bytes (e1 x.0)) tail s1 (row1.len x.0) in
      let second : o2 tail ≡ x.1 = row2.again x.1 rest (all_second FitsBytes (e1 x.0) (e2 x.1) fit) in
      rw (in_two (e1 x.0) (e2 x.1) rest, first, behind, second) refl;
}

-- seen otherwise
pub view_row : {A B : Type 0} (entries : A → List Entry) (size : ℕ) (one : List ℕ → A) (to : A → B) (from : B → A) → ((b : B) → to (from b) ≡ b) → ((a : A) → from (to a) ≡ a)
    → IsRow entries size one → IsRow (λ b. entries (from b)) size (λ bytes. to (one bytes))
view_row {A} {B} entries size one to from there_back back_there row = record {
  len = λ b. row.len (from b);
  there = λ bytes fits long. row.there bytes fits long ∙ ap (λ (a : A). entries_bytes (entries a) ++ drop size bytes) (sym (back_there (one bytes)));
  fit = λ bytes fits. subst (λ (a : A). Fit (entries a)) (sym (back_there (one bytes))) (row.fit bytes fits);
  again = λ b rest fit. ap to (row.again (from b) rest fit) ∙ there_back b;
}

abbrev pub two_one : List ℕ → ℕ × ℕ
two_one bytes = (number_one bytes, number_one (drop 8 bytes))

abbrev pub span_of : ℕ × ℕ → SpanRecord
span_of x = record { start = x.0; stop = x.1 }

pub cell_row : IsRow cell_entries 16 two_one
cell_row = pair_row base_entries 8 number_one base_entries 8 number_one number_row number_row

pub span_row : IsRow span_entries 16 (λ bytes. span_of (two_one bytes))
span_row = view_row cell_entries 16 two_one span_of (λ (s : SpanRecord). (s.start, s.stop)) (λ s. refl) (λ x. refl) cell_row

abbrev pub three_one : List ℕ → ℕ × (ℕ × ℕ)
three_one bytes = (number_one bytes, two_one (drop 8 bytes))

abbrev pub registers_of : ℕ × (ℕ × ℕ) → Registers ℕ
registers_of x = record { pc = x.0; ap = x.1.0; fp = x.1.1 }

pub state_row : IsRow state_entries 24 (λ bytes. registers_of (three_one bytes))
state_row = view_row (λ (x : ℕ × (ℕ × ℕ)). base_entries x.0 ++ cell_entries x.1) 24 three_one registers_of (λ (s : Registers ℕ). (s.pc, (s.ap, s.fp))) (λ s. refl) (λ x. refl)
    (pair_row base_entries 8 number_one cell_entries 16 two_one number_row cell_row)
