-- Reading the entries of parts whatever their numbers are: it goes over them to the first that isn't good.
use Rattle.std.proofs.Common.{◌≡◌, ℕ, zero, suc, ◌-◌, ◌^◌, ◌<◌, Bool, true, false, cond, ltb, eqb, ◌&&◌, not, List, [], ◌∷◌, ◌++◌, length, Result, Ok, Err, refl, sym, ap, ◌∙◌, arith}
use Rattle.std.specs.Int.{w32, w64, to_be_bytes}
use Rattle.std.specs.List.{AllByRecursion, flat_map}
use Rattle.std.proofs.lemmas.Bool.{lt-ltb}
use Rattle.goldi_field.specs.Numbers.{prime}
use Rattle.cairo_model.specs.Machine.Steps.{Registers, ◌>>=◌, required}
use Rattle.cairo_model.specs.Machine.FieldMemories.{FieldCell}
use Rattle.cairo_model.specs.Certificate.Records.{CertKind, SpanRecord, MarkRecord, CertRecord}
use Rattle.cairo_model.proofs.Outcomes.{ok_is}
use Rattle.cert_format.specs.declared.refusal.CertRefusal.{CertRefusal}
use Rattle.cert_format.specs.declared.refusal.CertRefusal.TheVariants.{Truncated, BadNumber}
use Rattle.cert_format.specs.Reading.{Reads, place_of, count_read, felt_at, kind_at, span_at, items_at, list_at, mark_at, is_alone, task_count_at, cell_numbers_at, state_at, Draft, draft_at}
use Rattle.cert_format.specs.Refusals.{IsGoodEntry, Entry, FitsBytes, kind, task_count, count, number, entries_bytes, Parts, entries_of, counted_entries, span_entries, base_entries, mark_entries, cell_entries, state_entries}
use Rattle.cert_format.proofs.FieldLaws.{number_again, count_again}
use Rattle.cert_format.proofs.EntryLaws.{in_two, Fit, all_first, all_second}
use Rattle.cert_format.proofs.Scanning.{kind_of_number, is_good, scan, scan_bind, scan_then, scan_passes, scan_goes}

-- a reader answers as going over the entries does
abbrev pub Scans : {A : Type 0} → ℕ → (List ℕ → Reads A) → (A → List Entry) → Type 0
Scans {A} whole one entries = (a : A) (rest : List ℕ) → Fit (entries a) → one (entries_bytes (entries a) ++ rest) ≡ scan whole (entries a) rest (Ok (a, rest))

felt_scans : (whole n : ℕ) (rest : List ℕ) → n < 2 ^ 64 → felt_at whole (to_be_bytes w64 n ++ rest) ≡ scan whole (number n ∷ []) rest (Ok (n, rest))
unfolding felt_at scan is_good
felt_scans whole n rest lt =
    let bytes = to_be_bytes w64 n ++ rest in
    ap (λ o. required (Truncated whole) o >>= λ x. cond (ltb x.0 prime) (Ok x) (Err (BadNumber (place_of whole bytes)))) (number_again n rest lt)

base_scans : (whole : ℕ) → Scans whole (felt_at whole) base_entries
base_scans whole n rest fit = felt_scans whole n rest fit.0

count_scans : (whole n : ℕ) (rest : List ℕ) → n < 2 ^ 32 → count_read whole (to_be_bytes w32 n ++ rest) ≡ scan whole (count n ∷ []) rest (Ok (n, rest))
unfolding scan is_good
count_scans whole n rest lt = ap (required (Truncated whole)) (count_again n rest lt)

-- ---- lists

module _ {A : Type 0} (whole : ℕ) (one : List ℕ → Reads A) (entries : A → List Entry) (scans : Scans whole one entries) where
  pub items_scan : (xs : List A) (rest : List ℕ) → Fit (flat_map entries xs) → items_at one (length xs) (entries_bytes (flat_map entries xs) ++ rest) ≡ scan whole (flat_map entries xs) rest (Ok (xs, rest))
  unfolding items_at scan
  items_scan [] rest fit = refl
  items_scan (a ∷ xs) rest fit =
      let es = entries a in
      let fs = flat_map entries xs in
      let tail = entries_bytes fs ++ rest in
      let bytes = entries_bytes es ++ tail in
      let last : List A × List ℕ → Reads (List A) = λ others. Ok (a ∷ others.0, others.1) in
      let first : one bytes ≡ scan whole es tail (Ok (a, tail)) = scans a tail (all_first FitsBytes es fs fit) in
      let later : items_at one (length xs) tail >>= last ≡ scan whole fs rest (Ok (a ∷ xs, rest)) =
      ap (λ (r : Reads (List A)). r >>= last) (items_scan xs rest (all_second FitsBytes es fs fit)) ∙ scan_bind whole fs rest (Ok (xs, rest)) last in
      ap (items_at one (suc (length xs))) (in_two es fs rest)
      ∙ scan_then whole es fs rest (one bytes) (λ x. items_at one (length xs) x.1 >>= λ others. Ok (x.0 ∷ others.0, others.1)) a (Ok (a ∷ xs, rest)) first later

  pub list_scans : Scans whole (list_at whole one) (counted_entries entries)
  unfolding list_at
  list_scans xs rest fit =
      let fs = flat_map entries xs in
      let tail = entries_bytes fs ++ rest in
      scan_then whole (count (length xs) ∷ []) fs rest (count_read whole (to_be_bytes w32 (length xs) ++ tail)) (λ n. items_at one n.0 n.1) (length xs) (Ok (xs, rest)) (count_scans whole (length xs) tail fit.0) (items_scan xs rest fit.1)

-- ---- spans, cells, states and marks

pub span_scans : (whole : ℕ) → Scans whole (span_at whole) span_entries
unfolding span_at scan
span_scans whole s rest fit =
    let tail = to_be_bytes w64 s.stop ++ rest in
    let last : ℕ × List ℕ → Reads SpanRecord = λ stop. Ok (record { start = s.start; stop = stop.0 }, stop.1) in
    scan_then whole (number s.start ∷ []) (number s.stop ∷ []) rest (felt_at whole (to_be_bytes w64 s.start ++ tail)) (λ start. felt_at whole start.1 >>= λ stop. Ok (record { start = start.0; stop = stop.0 }, stop.1)) s.start (Ok (s, rest))
    (felt_scans whole s.start tail fit.0)
    (scan_then whole (number s.stop ∷ []) [] rest (felt_at whole tail) last s.stop (Ok (s, rest)) (felt_scans whole s.stop rest fit.1.0) refl)

pub cell_scans : (whole : ℕ) → Scans whole (cell_numbers_at whole) cell_entries
unfolding cell_numbers_at scan
cell_scans whole c rest fit =
    let tail = to_be_bytes w64 c.1 ++ rest in
    let last : ℕ × List ℕ → Reads FieldCell = λ value. Ok ((c.0, value.0), value.1) in
    scan_then whole (number c.0 ∷ []) (number c.1 ∷ []) rest (felt_at whole (to_be_bytes w64 c.0 ++ tail)) (λ address. felt_at whole address.1 >>= λ value. Ok ((address.0, value.0), value.1)) c.0 (Ok (c, rest))
    (felt_scans whole c.0 tail fit.0)
    (scan_then whole (number c.1 ∷ []) [] rest (felt_at whole tail) last c.1 (Ok (c, rest)) (felt_scans whole c.1 rest fit.1.0) refl)

pub state_scans : (whole : ℕ) → Scans whole (state_at whole) state_entries
unfolding state_at scan
state_scans whole s rest fit =
    let tail2 = to_be_bytes w64 s.fp ++ rest in
    let tail1 = to_be_bytes w64 s.ap ++ tail2 in
    let last : ℕ × List ℕ → Reads (Registers ℕ) = λ fp. Ok (record { pc = s.pc; ap = s.ap; fp = fp.0 }, fp.1) in
    scan_then whole (number s.pc ∷ []) (number s.ap ∷ number s.fp ∷ []) rest (felt_at whole (to_be_bytes w64 s.pc ++ tail1)) (λ pc. felt_at whole pc.1 >>= λ ap. felt_at whole ap.1 >>= λ fp. Ok (record { pc = pc.0; ap = ap.0; fp = fp.0 }, fp.1)) s.pc (Ok (s, rest))
    (felt_scans whole s.pc tail1 fit.0)
    (scan_then whole (number s.ap ∷ []) (number s.fp ∷ []) rest (felt_at whole tail1) (λ ap. felt_at whole ap.1 >>= λ fp. Ok (record { pc = s.pc; ap = ap.0; fp = fp.0 }, fp.1)) s.ap (Ok (s, rest))
    (felt_scans whole s.ap tail2 fit.1.0)
    (scan_then whole (number s.fp ∷ []) [] rest (felt_at whole tail2) last s.fp (Ok (s, rest)) (felt_scans whole s.fp rest fit.1.1.0) refl))

pub mark_scans : (whole : ℕ) → Scans whole (mark_at whole) mark_entries
unfolding mark_at
mark_scans whole m rest fit =
    let fs = counted_entries base_entries m.bases in
    let tail = entries_bytes fs ++ rest in
    let last : List ℕ × List ℕ → Reads MarkRecord = λ bases. Ok (record { row = m.row; bases = bases.0 }, bases.1) in
    let bases : list_at whole (felt_at whole) tail ≡ scan whole fs rest (Ok (m.bases, rest)) = list_scans whole (felt_at whole) base_entries (base_scans whole) m.bases rest fit.1 in
    scan_then whole (count m.row ∷ []) fs rest (count_read whole (to_be_bytes w32 m.row ++ tail)) (λ row. list_at whole (felt_at whole) row.1 >>= λ b. Ok (record { row = row.0; bases = b.0 }, b.1)) m.row (Ok (m, rest))
    (count_scans whole m.row tail fit.0)
    (ap (λ (r : Reads (List ℕ)). r >>= last) bases ∙ scan_bind whole fs rest (Ok (m.bases, rest)) last)

-- ---- the kind and the number of tasks

pub kind_scans : (whole k : ℕ) (rest : List ℕ) → kind_at whole (k ∷ rest) ≡ scan whole (kind k ∷ []) rest (Ok (kind_of_number k, rest))
unfolding kind_at scan is_good
kind_scans whole zero rest = refl
kind_scans whole (suc zero) rest = refl
kind_scans whole (suc (suc k)) rest = rw (lt-ltb 1 (suc (suc k)) (omega arith)) refl

turned : {A : Type 0} (b : Bool) (e : CertRefusal) (r : Result A CertRefusal) → cond b (Err e) r ≡ cond (not b) r (Err e)
turned true e r = refl
turned false e r = refl

pub task_count_scans : (whole k n : ℕ) (rest : List ℕ) → n < 2 ^ 32 → task_count_at whole (kind_of_number k) (to_be_bytes w32 n ++ rest) ≡ scan whole (task_count k n ∷ []) rest (Ok (n, rest))
unfolding task_count_at scan is_good
task_count_scans whole k n rest lt =
    let bytes = to_be_bytes w32 n ++ rest in
    let is = kind_of_number k in
    ap (λ o. required (Truncated whole) o >>= λ x. cond (is_alone is && not (eqb x.0 0)) (Err (BadNumber (place_of whole bytes))) (Ok x)) (count_again n rest lt) ∙ turned (is_alone is && not (eqb n 0)) (BadNumber (place_of whole bytes)) (Ok (n, rest))

-- ---- all of it, as a chain from its end

abbrev pub cert_of : CertKind → SpanRecord → SpanRecord → SpanRecord → List MarkRecord → List FieldCell → List (Registers ℕ) → CertRecord
cert_of k o r h t c s = record { kind = k; output = o; range = r; hash = h; tasks = t; cells = c; states = s }

abbrev draft_of : CertRecord → ℕ → Draft
draft_of c n = record { cert = c; from_cells = n }

abbrev pub with_states : CertKind → SpanRecord → SpanRecord → SpanRecord → List MarkRecord × List ℕ → List FieldCell → List (Registers ℕ) × List ℕ → Reads Draft
with_states k o r h t c s = Ok (draft_of (cert_of k o r h t.0 c s.0) (length t.1 - 4), s.1)

abbrev pub with_cells : ℕ → CertKind → SpanRecord → SpanRecord → SpanRecord → List MarkRecord × List ℕ → List FieldCell × List ℕ → Reads Draft
with_cells whole k o r h t c = list_at whole (state_at whole) c.1 >>= with_states k o r h t c.0

abbrev pub with_tasks : ℕ → CertKind → SpanRecord → SpanRecord → SpanRecord → List MarkRecord × List ℕ → Reads Draft
with_tasks whole k o r h t = list_at whole (cell_numbers_at whole) t.1 >>= with_cells whole k o r h t

abbrev pub with_count : ℕ → CertKind → SpanRecord → SpanRecord → SpanRecord → ℕ × List ℕ → Reads Draft
with_count whole k o r h n = items_at (mark_at whole) n.0 n.1 >>= with_tasks whole k o r h

abbrev pub with_hash : ℕ → CertKind → SpanRecord → SpanRecord → SpanRecord × List ℕ → Reads Draft
with_hash whole k o r h = task_count_at whole k h.1 >>= with_count whole k o r h.0

abbrev pub with_range : ℕ → CertKind → SpanRecord → SpanRecord × List ℕ → Reads Draft
with_range whole k o r = span_at whole r.1 >>= with_hash whole k o r.0

abbrev pub with_output : ℕ → CertKind → SpanRecord × List ℕ → Reads Draft
with_output whole k o = span_at whole o.1 >>= with_range whole k o.0

abbrev pub with_kind : ℕ → CertKind × List ℕ → Reads Draft
with_kind whole k = span_at whole k.1 >>= with_output whole k.0

-- ---- all of it

-- what is read of parts, whatever their numbers are
abbrev pub cert_in : Parts → CertRecord
cert_in p = cert_of (kind_of_number p.kind_number) p.output p.range p.hash p.tasks p.cells p.states

-- the cells and the states, and then the rest
abbrev pub lists_bytes : Parts → List ℕ → List ℕ
lists_bytes p rest = entries_bytes (counted_entries cell_entries p.cells ++ counted_entries state_entries p.states) ++ rest

abbrev pub draft_in : Parts → List ℕ → Draft
draft_in p rest = draft_of (cert_in p) (length (lists_bytes p rest) - 4)

pub draft_scans : (whole : ℕ) (p : Parts) (rest : List ℕ) → Fit (entries_of p) → draft_at whole (entries_bytes (entries_of p) ++ rest) ≡ scan whole (entries_of p) rest (Ok (draft_in p rest, rest))
unfolding draft_at
draft_scans whole p rest fit =
    let k = kind_of_number p.kind_number in
    let states = counted_entries state_entries p.states in
    let cells = counted_entries cell_entries p.cells in
    let marks = flat_map mark_entries p.tasks in
    let e5 = cells ++ states in
    let e4 = marks ++ e5 in
    let e3 = task_count p.kind_number (length p.tasks) ∷ e4 in
    let e2 = span_entries p.hash ++ e3 in
    let e1 = span_entries p.range ++ e2 in
    let e0 = span_entries p.output ++ e1 in
    let end : Result (Draft × List ℕ) CertRefusal = Ok (draft_in p rest, rest) in
    let t : List MarkRecord × List ℕ = (p.tasks, entries_bytes e5 ++ rest) in
    let f0 : Fit e0 = fit.1 in
    let f1 : Fit e1 = all_second FitsBytes (span_entries p.output) e1 f0 in
    let f2 : Fit e2 = all_second FitsBytes (span_entries p.range) e2 f1 in
    let f3 : Fit e3 = all_second FitsBytes (span_entries p.hash) e3 f2 in
    let f5 : Fit e5 = all_second FitsBytes marks e5 f3.1 in
    let last : List (Registers ℕ) × List ℕ → Reads Draft = with_states k p.output p.range p.hash t p.cells in
    let read_states : list_at whole (state_at whole) (entries_bytes states ++ rest) >>= last ≡ scan whole states rest end =
    ap (λ (r : Reads (List (Registers ℕ))). r >>= last) (list_scans whole (state_at whole) state_entries (state_scans whole) p.states rest (all_second FitsBytes cells states f5)) ∙ scan_bind whole states rest (Ok (p.states, rest)) last in
    let read_cells : list_at whole (cell_numbers_at whole) (entries_bytes e5 ++ rest) ≡ scan whole cells (entries_bytes states ++ rest) (Ok (p.cells, entries_bytes states ++ rest)) =
    ap (list_at whole (cell_numbers_at whole)) (in_two cells states rest) ∙ list_scans whole (cell_numbers_at whole) cell_entries (cell_scans whole) p.cells (entries_bytes states ++ rest) (all_first FitsBytes cells states f5) in
    let read_marks : items_at (mark_at whole) (length p.tasks) (entries_bytes e4 ++ rest) ≡ scan whole marks (entries_bytes e5 ++ rest) (Ok t) =
    ap (items_at (mark_at whole) (length p.tasks)) (in_two marks e5 rest) ∙ items_scan whole (mark_at whole) mark_entries (mark_scans whole) p.tasks (entries_bytes e5 ++ rest) (all_first FitsBytes marks e5 f3.1) in
    scan_then whole (kind p.kind_number ∷ []) e0 rest (kind_at whole (p.kind_number ∷ (entries_bytes e0 ++ rest))) (with_kind whole) k end (kind_scans whole p.kind_number (entries_bytes e0 ++ rest))
    (scan_then whole (span_entries p.output) e1 rest (span_at whole (entries_bytes e0 ++ rest)) (with_output whole k) p.output end (span_scans whole p.output (entries_bytes e1 ++ rest) (all_first FitsBytes (span_entries p.output) e1 f0))
    (scan_then whole (span_entries p.range) e2 rest (span_at whole (entries_bytes e1 ++ rest)) (with_range whole k p.output) p.range end (span_scans whole p.range (entries_bytes e2 ++ rest) (all_first FitsBytes (span_entries p.range) e2 f1))
    (scan_then whole (span_entries p.hash) e3 rest (span_at whole (entries_bytes e2 ++ rest)) (with_hash whole k p.output p.range) p.hash end (span_scans whole p.hash (entries_bytes e3 ++ rest) (all_first FitsBytes (span_entries p.hash) e3 f2))
    (scan_then whole (task_count p.kind_number (length p.tasks) ∷ []) e4 rest (task_count_at whole k (entries_bytes e3 ++ rest)) (with_count whole k p.output p.range p.hash) (length p.tasks) end (task_count_scans whole p.kind_number (length p.tasks) (entries_bytes e4 ++ rest) f3.0)
    (scan_then whole marks e5 rest (items_at (mark_at whole) (length p.tasks) (entries_bytes e4 ++ rest)) (with_tasks whole k p.output p.range p.hash) p.tasks end read_marks
    (scan_then whole cells states rest (list_at whole (cell_numbers_at whole) (entries_bytes e5 ++ rest)) (with_cells whole k p.output p.range p.hash t) p.cells end read_cells read_states))))))

-- a draft of parts whose numbers are good
pub record IsDraftOf (p : Parts) (rest : List ℕ) (x : Draft × List ℕ) : Type 0 where
  pub good : AllByRecursion IsGoodEntry (entries_of p)
  pub is : ◌≡◌ {A = Draft × List ℕ} (draft_in p rest, rest) x

pub draft_read : (whole : ℕ) (p : Parts) (rest body : List ℕ) → Fit (entries_of p) → body ≡ entries_bytes (entries_of p) ++ rest → draft_at whole body ≡ scan whole (entries_of p) rest (Ok (draft_in p rest, rest))
draft_read whole p rest body fit spelled = ap (draft_at whole) spelled ∙ draft_scans whole p rest fit

pub draft_made : (whole : ℕ) (p : Parts) (rest body : List ℕ) (x : Draft × List ℕ) → Fit (entries_of p) → body ≡ entries_bytes (entries_of p) ++ rest → draft_at whole body ≡ Ok x → IsDraftOf p rest x
draft_made whole p rest body x fit spelled e =
    let scanned : scan whole (entries_of p) rest (Ok (draft_in p rest, rest)) ≡ Ok x = sym (draft_read whole p rest body fit spelled) ∙ e in
    record {
      good = scan_passes whole (entries_of p) rest (Ok (draft_in p rest, rest)) x scanned;
      is = ok_is (draft_in p rest, rest) x (scan_goes whole (entries_of p) rest (Ok (draft_in p rest, rest)) x scanned);
    }
