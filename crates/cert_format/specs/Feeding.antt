-- Reading a certificate piece by piece: what was read so far, and what it makes of the bytes that follow.
use Rattle.std.specs.Prelude.{ℕ, ◌≡◌, ◌+◌, ◌-◌, ◌*◌, ◌<◌, Bool, true, false, List, [], ◌∷◌, ◌++◌, length, slice_index, Option, Some, None, option_and_then, Result, Ok, Err}
use Rattle.cairo_model.specs.Machine.Steps.{Registers, ◌>>=◌, required}
use Rattle.cairo_model.specs.Machine.FieldMemories.{FieldCell}
use Rattle.cairo_model.specs.Certificate.Records.{CertKind, SpanRecord, MarkRecord, CertRecord}
use Rattle.cert_format.specs.declared.refusal.CertRefusal.{CertRefusal}
use Rattle.cert_format.specs.declared.refusal.CertRefusal.TheVariants.{BadMagic, Truncated}
use Rattle.cert_format.specs.declared.stage.Stage.{Stage}
use Rattle.cert_format.specs.declared.stage.Stage.TheVariants.{Front, Foreign, Marks, Bases, CellCount, Cells, StateCount, States, End}
use Rattle.cert_format.specs.Reading.{bytes_after, after_counted, after_marks, Reads, felt_at, items_at, list_at, mark_at, cell_numbers_at, state_at, Draft, order_fault, ordered, ended_by, with_draft, reading}

pub record FrontRecord : Type 0 where
  pub kind : CertKind
  pub output : SpanRecord
  pub range : SpanRecord
  pub hash : SpanRecord

-- What was read of a certificate: how many bytes, which part comes next, the refusal of the first bad number, the kind and
-- the spans, the tasks, the row and the bases of the task that is being read, the place at which the number of cells
-- begins, the cells and the states.
pub record Partial : Type 0 where
  pub place : ℕ
  pub stage : Stage
  pub bad : Option CertRefusal
  pub front : FrontRecord
  pub tasks : List MarkRecord
  pub row : ℕ
  pub bases : List ℕ
  pub marks_end : ℕ
  pub cells : List FieldCell
  pub states : List (Registers ℕ)

-- ---- the lengths of what follows

-- the bytes after the cells and the states
abbrev pub after_cells : ℕ → List ℕ → Option (List ℕ)
after_cells n bytes = option_and_then (after_counted 24) (bytes_after (16 * n) bytes)

abbrev pub after_both : List ℕ → Option (List ℕ)
after_both bytes = option_and_then (after_counted 24) (after_counted 16 bytes)

abbrev pub after_tasks : ℕ → List ℕ → Option (List ℕ)
after_tasks n bytes = option_and_then after_both (after_marks n bytes)

-- the bytes after all that is still announced
abbrev pub after_rest : Stage → List ℕ → Option (List ℕ)
after_rest Front bytes = Some bytes
after_rest Foreign bytes = Some bytes
after_rest (Marks n) bytes = after_tasks n bytes
after_rest (Bases m n) bytes = option_and_then (after_tasks n) (bytes_after (8 * m) bytes)
after_rest CellCount bytes = after_both bytes
after_rest (Cells n) bytes = after_cells n bytes
after_rest StateCount bytes = after_counted 24 bytes
after_rest (States n) bytes = bytes_after (24 * n) bytes
after_rest (End start) bytes = Some bytes

-- ---- the parts that follow

-- what was read before, and what is read behind it
abbrev pub with_front : {A : Type 0} → List A → Reads (List A) → Reads (List A)
with_front front read = read >>= λ x. Ok (front ++ x.0, x.1)

-- the parts, where so many bytes stand behind the tasks
abbrev pub draft_of : ℕ → Partial → Draft
draft_of left p = record {
  cert = record { kind = p.front.kind; output = p.front.output; range = p.front.range; hash = p.front.hash; tasks = p.tasks; cells = p.cells; states = p.states };
  from_cells = left - 4;
}

abbrev pub with_states : ℕ → Partial → List (Registers ℕ) × List ℕ → Reads Draft
with_states left p s = Ok (draft_of left (record p { states = s.0 }), s.1)

abbrev pub states_read : ℕ → ℕ → Partial → ℕ → List ℕ → Reads Draft
states_read whole left p n bytes = with_front p.states (items_at (state_at whole) n bytes) >>= with_states left p

abbrev pub all_states_from : ℕ → ℕ → Partial → List ℕ → Reads Draft
all_states_from whole left p bytes = with_front p.states (list_at whole (state_at whole) bytes) >>= with_states left p

abbrev pub with_cells : ℕ → ℕ → Partial → List FieldCell × List ℕ → Reads Draft
with_cells whole left p c = all_states_from whole left (record p { cells = c.0 }) c.1

abbrev pub cells_read : ℕ → ℕ → Partial → ℕ → List ℕ → Reads Draft
cells_read whole left p n bytes = with_front p.cells (items_at (cell_numbers_at whole) n bytes) >>= with_cells whole left p

abbrev pub all_cells_from : ℕ → ℕ → Partial → List ℕ → Reads Draft
all_cells_from whole left p bytes = with_front p.cells (list_at whole (cell_numbers_at whole) bytes) >>= with_cells whole left p

abbrev pub with_tasks : ℕ → Partial → List MarkRecord × List ℕ → Reads Draft
with_tasks whole p t = all_cells_from whole (length t.1) (record p { tasks = t.0 }) t.1

abbrev pub marks_read : ℕ → Partial → ℕ → List ℕ → Reads Draft
marks_read whole p n bytes = with_front p.tasks (items_at (mark_at whole) n bytes) >>= with_tasks whole p

-- one more task
abbrev pub with_mark : Partial → List ℕ → Partial
with_mark p bases = record p { tasks = p.tasks ++ record { row = p.row; bases = bases } ∷ [] }

abbrev pub with_bases : ℕ → Partial → ℕ → List ℕ × List ℕ → Reads Draft
with_bases whole p n b = marks_read whole (with_mark p b.0) n b.1

abbrev pub bases_read : ℕ → Partial → ℕ → ℕ → List ℕ → Reads Draft
bases_read whole p m n bytes = with_front p.bases (items_at (felt_at whole) m bytes) >>= with_bases whole p n

-- the parts of a file of so many bytes, of which these follow
abbrev pub parts_from : ℕ → Partial → Stage → List ℕ → Reads Draft
parts_from whole p Front bytes = Ok (draft_of 0 p, bytes)
parts_from whole p Foreign bytes = Ok (draft_of 0 p, bytes)
parts_from whole p (Marks n) bytes = marks_read whole p n bytes
parts_from whole p (Bases m n) bytes = bases_read whole p m n bytes
parts_from whole p CellCount bytes = all_cells_from whole (length bytes) p bytes
parts_from whole p (Cells n) bytes = cells_read whole (whole - p.marks_end) p n bytes
parts_from whole p StateCount bytes = all_states_from whole (whole - p.marks_end) p bytes
parts_from whole p (States n) bytes = states_read whole (whole - p.marks_end) p n bytes
parts_from whole p (End start) bytes = Ok (draft_of (whole - p.marks_end) p, bytes)

-- ---- the answer

-- a refusal that was found before comes first
abbrev pub noted : {A : Type 0} → Option CertRefusal → Result A CertRefusal → Result A CertRefusal
noted None read = read
noted (Some refusal) read = Err refusal

-- all that is announced is there, then the first bad number, then the order and what follows
abbrev pub body_in : ℕ → Stage → Partial → List ℕ → Result CertRecord CertRefusal
body_in whole stage p bytes = required (Truncated whole) (after_rest stage bytes) >>= λ rest. (noted p.bad (parts_from whole p stage bytes) >>= with_draft whole)

abbrev pub body_rest : Stage → Partial → List ℕ → Result CertRecord CertRefusal
body_rest stage p bytes = body_in (p.place + length bytes) stage p bytes

-- behind the last state
abbrev pub end_rest : ℕ → ℕ → Partial → Result CertRecord CertRefusal
end_rest start whole p = noted p.bad (Ok (draft_of (whole - p.marks_end) p)) >>= λ d. (ordered (order_fault whole d) d.cert >>= ended_by (whole - start))

abbrev pub rest_by : Stage → Partial → List ℕ → Result CertRecord CertRefusal
rest_by Front p bytes = reading bytes
rest_by Foreign p bytes = Err BadMagic
rest_by (Marks n) p bytes = body_rest (Marks n) p bytes
rest_by (Bases m n) p bytes = body_rest (Bases m n) p bytes
rest_by CellCount p bytes = body_rest CellCount p bytes
rest_by (Cells n) p bytes = body_rest (Cells n) p bytes
rest_by StateCount p bytes = body_rest StateCount p bytes
rest_by (States n) p bytes = body_rest (States n) p bytes
rest_by (End start) p bytes = end_rest start (p.place + length bytes) p

-- what the file is if these bytes follow, and no others
unfoldable pub rest_of : Partial → List ℕ → Result CertRecord CertRefusal
rest_of p bytes = rest_by p.stage p bytes

-- ---- a reader

-- Whether it ran out of memory, what it has read, and the bytes of a part of which not all were fed.
pub record ReaderRecord : Type 0 where
  pub failed : Bool
  pub partial : Partial
  pub carry : List ℕ

-- It ran out of memory, and reads no more.
abbrev pub HasFailed : ReaderRecord → Type 0
HasFailed r = r.failed ≡ true

-- It was fed these bytes: whatever follows them, the reader makes of it what the format says of all bytes.
pub record IsFed (r : ReaderRecord) (fed : List ℕ) : Type 0 where
  pub goes : r.failed ≡ false
  pub are_bytes : (i : ℕ) → slice_index fed i < 256
  pub many : r.partial.place + length r.carry ≡ length fed
  pub answers : (more : List ℕ) → reading (fed ++ more) ≡ rest_of r.partial (r.carry ++ more)
