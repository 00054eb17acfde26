-- The parts of a file whatever their numbers are: where nothing is missing there are such parts, and only those.
use Rattle.std.proofs.Common.{◌≡◌, ℕ, zero, suc, Bool, true, false, cond, ltb, List, [], ◌∷◌, ◌++◌, length, get_or, take, drop, Option, Some, None, refl, sym, ap, ◌∙◌, arith}
use Rattle.std.specs.Prelude.{option_and_then}
use Rattle.std.specs.Int.{w32, to_be_bytes, from_be_bytes}
use Rattle.std.specs.List.{flat_map}
use Rattle.cairo_model.specs.Machine.Steps.{Registers}
use Rattle.cairo_model.specs.Machine.FieldMemories.{FieldCell}
use Rattle.cairo_model.specs.Certificate.Records.{SpanRecord, MarkRecord}
use Rattle.cairo_model.proofs.Outcomes.{and_then_gives, some_is}
use Rattle.cairo_model.proofs.Bytes.{IsBytes}
use Rattle.cert_format.specs.Reading.{count_at, bytes_after, after_counted, after_mark, after_marks, after_lists, after_all}
use Rattle.cert_format.specs.Refusals.{Entry, FitsBytes, entries_bytes, Parts, counted_entries, span_entries, base_entries, mark_entries, cell_entries, state_entries, entries_of}
use Rattle.cert_format.proofs.FieldLaws.{count_again}
use Rattle.cert_format.proofs.EntryLaws.{in_two, IsBytes-behind, Fit, all_first, all_second, all_both}
use Rattle.cert_format.proofs.Rows.{IsRow, kind_entries, kind_row, count_entries, count_one, number_one, number_row, count_row, pair_row, two_one, three_one, span_of, registers_of, cell_row, span_row, state_row}
use Rattle.cert_format.proofs.Skips.{IsSkip, one_rest, row_skip, in_turn, pair_skip, same_skip, view_skip, counted_there, counts_agree, counted_skip}
use Rattle.cert_format.proofs.Skipping.{option_goes}

-- ---- the tasks

abbrev mark_of : ℕ × List ℕ → MarkRecord
mark_of x = record { row = x.0; bases = x.1 }

-- a row is read by its four bytes, and skipped by them
same_row : (b : Bool) (n : ℕ) (behind : List ℕ) → option_and_then (after_counted 8) (cond b None (Some behind)) ≡ option_and_then (λ (row : ℕ × List ℕ). after_counted 8 row.1) (cond b None (Some (n, behind)))
same_row true n behind = refl
same_row false n behind = refl

same_mark : (bytes : List ℕ) → in_turn (bytes_after 4) (after_counted 8) bytes ≡ after_mark bytes
same_mark bytes = same_row (ltb (length bytes) 4) (from_be_bytes w32 (take 4 bytes)) (drop 4 bytes)

-- what follows twice follows in turn
in_either : {A B C : Type 0} (o : Option A) (f : A → Option B) (g : B → Option C) → option_and_then g (option_and_then f o) ≡ option_and_then (λ x. option_and_then g (f x)) o
in_either (Some x) f g = refl
in_either None f g = refl

mark_skip : IsSkip after_mark mark_entries
mark_skip =
    let bases : IsSkip (after_counted 8) (counted_entries base_entries) = counted_skip base_entries 8 number_one number_row in
    let pairs : IsSkip (in_turn (bytes_after 4) (after_counted 8)) (λ (x : ℕ × List ℕ). count_entries x.0 ++ counted_entries base_entries x.1) = pair_skip (bytes_after 4) count_entries (after_counted 8) (counted_entries base_entries) (row_skip count_entries 4 count_one count_row) bases in
    let marks : IsSkip (in_turn (bytes_after 4) (after_counted 8)) mark_entries = view_skip (in_turn (bytes_after 4) (after_counted 8)) (λ (x : ℕ × List ℕ). count_entries x.0 ++ counted_entries base_entries x.1) mark_of (λ (m : MarkRecord). (m.row, m.bases)) (λ m. refl) (λ x. refl) pairs in
    same_skip (in_turn (bytes_after 4) (after_counted 8)) after_mark mark_entries same_mark marks

-- so many tasks
pub record Marks (n : ℕ) (bytes rest : List ℕ) : Type 0 where
  pub value : List MarkRecord
  pub many : length value ≡ n
  pub parts : bytes ≡ entries_bytes (flat_map mark_entries value) ++ rest
  pub fit : Fit (flat_map mark_entries value)

marks_there : (n : ℕ) (bytes rest : List ℕ) → IsBytes bytes → after_marks n bytes ≡ Some rest → Marks n bytes rest
marks_there zero bytes rest fits e = record { value = []; many = refl; parts = some_is bytes rest e; fit = tt }
marks_there (suc n) bytes rest fits e =
    and_then_gives (after_mark bytes) (after_marks n) rest e (λ mid is1 is2.
    let first = mark_skip.there bytes mid fits is1 in
    let others : Marks n mid rest = marks_there n mid rest (IsBytes-behind bytes (entries_bytes (mark_entries first.value)) mid fits first.parts) is2 in
    record {
      value = first.value ∷ others.value;
      many = ap suc others.many;
      parts = first.parts ∙ ap (λ (t : List ℕ). entries_bytes (mark_entries first.value) ++ t) others.parts ∙ sym (in_two (mark_entries first.value) (flat_map mark_entries others.value) rest);
      fit = all_both FitsBytes (mark_entries first.value) (flat_map mark_entries others.value) first.fit others.fit;
    })

marks_again : (ms : List MarkRecord) (rest : List ℕ) → Fit (flat_map mark_entries ms) → after_marks (length ms) (entries_bytes (flat_map mark_entries ms) ++ rest) ≡ Some rest
marks_again [] rest fit = refl
marks_again (m ∷ ms) rest fit =
    let tail = entries_bytes (flat_map mark_entries ms) ++ rest in
    let first : after_mark (entries_bytes (mark_entries m) ++ tail) ≡ Some tail = mark_skip.again m tail (all_first FitsBytes (mark_entries m) (flat_map mark_entries ms) fit) in
    ap (after_marks (suc (length ms))) (in_two (mark_entries m) (flat_map mark_entries ms) rest)
    ∙ option_goes (after_marks (length ms)) (after_mark (entries_bytes (mark_entries m) ++ tail)) tail rest first (marks_again ms rest (all_second FitsBytes (mark_entries m) (flat_map mark_entries ms) fit))

marks_one : (ms ns : List MarkRecord) (r s : List ℕ) → length ms ≡ length ns → Fit (flat_map mark_entries ms) → Fit (flat_map mark_entries ns) → entries_bytes (flat_map mark_entries ms) ++ r ≡ entries_bytes (flat_map mark_entries ns) ++ s → ms ≡ ns
marks_one [] [] r s many fit_m fit_n same = refl
marks_one [] (n ∷ ns) r s many fit_m fit_n same = absurd (omega arith)
marks_one (m ∷ ms) [] r s many fit_m fit_n same = absurd (omega arith)
marks_one (m ∷ ms) (n ∷ ns) r s many fit_m fit_n same =
    let e1 = mark_entries m in
    let f1 = flat_map mark_entries ms in
    let e2 = mark_entries n in
    let f2 = flat_map mark_entries ns in
    let tail_m = entries_bytes f1 ++ r in
    let tail_n = entries_bytes f2 ++ s in
    let moved : entries_bytes e1 ++ tail_m ≡ entries_bytes e2 ++ tail_n = sym (in_two e1 f1 r) ∙ same ∙ in_two e2 f2 s in
    let m0 = all_first FitsBytes e1 f1 fit_m in
    let n0 = all_first FitsBytes e2 f2 fit_n in
    let first : m ≡ n = mark_skip.one m n tail_m tail_n m0 n0 moved in
    let tails : tail_m ≡ tail_n = one_rest after_mark mark_entries mark_skip m n tail_m tail_n m0 n0 moved in
    let others : ms ≡ ns = marks_one ms ns r s (omega arith) (all_second FitsBytes e1 f1 fit_m) (all_second FitsBytes e2 f2 fit_n) tails in
    ap (λ (x : MarkRecord). x ∷ ms) first ∙ ap (λ (xs : List MarkRecord). n ∷ xs) others

abbrev after_tasks : List ℕ → Option (List ℕ)
after_tasks bytes = option_and_then (λ n. after_marks n.0 n.1) (count_at bytes)

tasks_skip : IsSkip after_tasks (counted_entries mark_entries)
tasks_skip = record {
  there = λ bytes rest fits e.
      and_then_gives (count_at bytes) (λ n. after_marks n.0 n.1) rest e (λ n is read.
      counted_there bytes n fits is (λ parts few.
      let marks : Marks n.0 n.1 rest = marks_there n.0 n.1 rest (IsBytes-behind bytes (to_be_bytes w32 n.0) n.1 fits parts) read in
      let ms = marks.value in
      let count_read : to_be_bytes w32 n.0 ++ n.1 ≡ to_be_bytes w32 (length ms) ++ (entries_bytes (flat_map mark_entries ms) ++ rest) = ap (λ (k : ℕ). to_be_bytes w32 k ++ n.1) (sym marks.many) ∙ ap (λ (t : List ℕ). to_be_bytes w32 (length ms) ++ t) marks.parts in
      record { value = ms; parts = parts ∙ count_read; fit = (omega (arith, marks.many, few), marks.fit) }));
  again = λ ms rest fit.
      let tail = entries_bytes (flat_map mark_entries ms) ++ rest in
      option_goes (λ n. after_marks n.0 n.1) (count_at (to_be_bytes w32 (length ms) ++ tail)) (length ms, tail) rest (count_again (length ms) tail fit.0) (marks_again ms rest fit.1);
  one = λ ms ns r s fit_m fit_n same.
      counts_agree (length ms) (length ns) (entries_bytes (flat_map mark_entries ms) ++ r) (entries_bytes (flat_map mark_entries ns) ++ s) fit_m.0 fit_n.0 same (λ many tail.
      marks_one ms ns r s many fit_m.1 fit_n.1 tail);
}

-- ---- all of it

abbrev Heads : Type 0
Heads = ℕ × (SpanRecord × (SpanRecord × SpanRecord))

abbrev Bodies : Type 0
Bodies = List MarkRecord × (List FieldCell × List (Registers ℕ))

abbrev head_entries : Heads → List Entry
head_entries x = kind_entries x.0 ++ (span_entries x.1.0 ++ (span_entries x.1.1.0 ++ span_entries x.1.1.1))

abbrev body_entries : Bodies → List Entry
body_entries x = counted_entries mark_entries x.0 ++ (counted_entries cell_entries x.1.0 ++ counted_entries state_entries x.1.1)

abbrev span_one : List ℕ → SpanRecord
span_one bytes = span_of (two_one bytes)

abbrev spans_one : List ℕ → SpanRecord × SpanRecord
spans_one bytes = (span_one bytes, span_one (drop 16 bytes))

abbrev three_spans_one : List ℕ → SpanRecord × (SpanRecord × SpanRecord)
three_spans_one bytes = (span_one bytes, spans_one (drop 16 bytes))

head_row : IsRow head_entries 49 (λ bytes. (get_or bytes 0 0, three_spans_one (drop 1 bytes)))
head_row =
    let two = pair_row span_entries 16 span_one span_entries 16 span_one span_row span_row in
    let three = pair_row span_entries 16 span_one (λ (x : SpanRecord × SpanRecord). span_entries x.0 ++ span_entries x.1) 32 spans_one span_row two in
    pair_row kind_entries 1 (λ bytes. get_or bytes 0 0) (λ (x : SpanRecord × (SpanRecord × SpanRecord)). span_entries x.0 ++ (span_entries x.1.0 ++ span_entries x.1.1)) 48 three_spans_one kind_row three

same_lists : (bytes : List ℕ) → in_turn after_tasks (in_turn (after_counted 16) (after_counted 24)) bytes ≡ after_lists bytes
unfolding after_lists
same_lists bytes = in_either (count_at bytes) (λ n. after_marks n.0 n.1) (λ cells. option_and_then (after_counted 24) (after_counted 16 cells))

all_skip : IsSkip after_all (λ (x : Heads × Bodies). head_entries x.0 ++ body_entries x.1)
all_skip =
    let cells = counted_skip cell_entries 16 two_one cell_row in
    let states = counted_skip state_entries 24 (λ bytes. registers_of (three_one bytes)) state_row in
    let both = pair_skip (after_counted 16) (counted_entries cell_entries) (after_counted 24) (counted_entries state_entries) cells states in
    let lists = pair_skip after_tasks (counted_entries mark_entries) (in_turn (after_counted 16) (after_counted 24)) (λ (x : List FieldCell × List (Registers ℕ)). counted_entries cell_entries x.0 ++ counted_entries state_entries x.1) tasks_skip both in
    let body = same_skip (in_turn after_tasks (in_turn (after_counted 16) (after_counted 24))) after_lists body_entries same_lists lists in
    pair_skip (bytes_after 49) head_entries after_lists body_entries (row_skip head_entries 49 (λ bytes. (get_or bytes 0 0, three_spans_one (drop 1 bytes))) head_row) body

abbrev parts_of : Heads × Bodies → Parts
parts_of x = record { kind_number = x.0.0; output = x.0.1.0; range = x.0.1.1.0; hash = x.0.1.1.1; tasks = x.1.0; cells = x.1.1.0; states = x.1.1.1 }

abbrev pieces : Parts → Heads × Bodies
pieces p = ((p.kind_number, (p.output, (p.range, p.hash))), (p.tasks, (p.cells, p.states)))

-- the parts of a file, behind the magic
pub parts_skip : IsSkip after_all entries_of
parts_skip = record {
  there = λ bytes rest fits e. let x = all_skip.there bytes rest fits e in record { value = parts_of x.value; parts = x.parts; fit = x.fit };
  again = λ p rest fit. all_skip.again (pieces p) rest fit;
  one = λ p q r s fit_p fit_q same. ap parts_of (all_skip.one (pieces p) (pieces q) r s fit_p fit_q same);
}
