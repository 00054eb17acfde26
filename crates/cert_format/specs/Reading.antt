-- Reading the bytes of a certificate, with the first refusal that applies (docs/CERTIFICATE.md).
use Rattle.std.specs.Prelude.{ℕ, zero, suc, ◌-◌, ◌*◌, ◌==◌, ◌&&◌, nat_lt, not, Bool, true, false, List, [], ◌∷◌, length, take, drop, Option, Some, None, option_and_then, Result, Ok, Err, if◌then◌else◌}
use Rattle.std.specs.Int.{w32, w64, from_be_bytes}
use Rattle.std.specs.List.{starts_with}
use Rattle.goldi_field.specs.Numbers.{prime}
use Rattle.cairo_model.specs.Working.Keys.{is_after}
use Rattle.cairo_model.specs.Machine.Steps.{Registers, ◌>>=◌, required, demanded}
use Rattle.cairo_model.specs.Machine.FieldMemories.{FieldCell}
use Rattle.cairo_model.specs.Certificate.Records.{CertKind, alone, batch, SpanRecord, MarkRecord, CertRecord}
use Rattle.cert_format.specs.declared.refusal.CertRefusal.{CertRefusal}
use Rattle.cert_format.specs.declared.refusal.CertRefusal.TheVariants.{BadMagic, Truncated, BadNumber, Order, Trailing}
use Rattle.cert_format.specs.Spelling.{certificate_magic}

-- the number that the first four bytes are, and the bytes after them
abbrev pub count_at : List ℕ → Option (ℕ × List ℕ)
count_at bytes = if nat_lt (length bytes) 4 then None else Some (from_be_bytes w32 (take 4 bytes), drop 4 bytes)

-- the number that the first eight bytes are, and the bytes after them
abbrev pub long_number_at : List ℕ → Option (ℕ × List ℕ)
long_number_at bytes = if nat_lt (length bytes) 8 then None else Some (from_be_bytes w64 (take 8 bytes), drop 8 bytes)

-- ---- all that is announced is there

-- the first eight bytes, of those that are there, begin the magic
abbrev pub has_magic : List ℕ → Bool
has_magic bytes = starts_with ◌==◌ certificate_magic (take 8 bytes)

-- the bytes after so many
abbrev pub bytes_after : ℕ → List ℕ → Option (List ℕ)
bytes_after n bytes = if nat_lt (length bytes) n then None else Some (drop n bytes)

-- the bytes after a count and so many bytes for each that it counts
abbrev pub after_counted : ℕ → List ℕ → Option (List ℕ)
after_counted size bytes = option_and_then (λ n. bytes_after (size * n.0) n.1) (count_at bytes)

-- the bytes after a row and the bases
abbrev pub after_mark : List ℕ → Option (List ℕ)
after_mark bytes = option_and_then (λ row. after_counted 8 row.1) (count_at bytes)

abbrev pub after_marks : ℕ → List ℕ → Option (List ℕ)
after_marks zero bytes = Some bytes
after_marks (suc n) bytes = option_and_then (after_marks n) (after_mark bytes)

-- the bytes after the marks, the cells and the states
unfoldable pub after_lists : List ℕ → Option (List ℕ)
after_lists bytes =
    option_and_then (λ marks.
    option_and_then (λ cells.
    option_and_then (after_counted 24)
    (after_counted 16 cells))
    (after_marks marks.0 marks.1))
    (count_at bytes)

-- the bytes after the certificate whose kind and six numbers stand in front
abbrev pub after_all : List ℕ → Option (List ℕ)
after_all bytes = option_and_then after_lists (bytes_after 49 bytes)

-- ---- the parts, from left to right

-- where a tail of a file with so many bytes begins
abbrev pub place_of : ℕ → List ℕ → ℕ
place_of whole tail = whole - length tail

-- a value and the bytes after it, or the refusal
abbrev pub Reads : Type 0 → Type 0
Reads A = Result (A × List ℕ) CertRefusal

abbrev pub count_read : ℕ → List ℕ → Reads ℕ
count_read whole bytes = required (Truncated whole) (count_at bytes)

-- a number below the prime
unfoldable pub felt_at : ℕ → List ℕ → Reads ℕ
felt_at whole bytes = do
  n ← required (Truncated whole) (long_number_at bytes)
  if nat_lt n.0 prime then Ok n else Err (BadNumber (place_of whole bytes))

unfoldable pub kind_at : ℕ → List ℕ → Reads CertKind
kind_at whole [] = Err (Truncated whole)
kind_at whole (zero ∷ rest) = Ok (alone, rest)
kind_at whole (suc zero ∷ rest) = Ok (batch, rest)
kind_at whole (suc (suc b) ∷ rest) = Err (BadNumber (place_of whole (suc (suc b) ∷ rest)))

unfoldable pub span_at : ℕ → List ℕ → Reads SpanRecord
span_at whole bytes = do
  start ← felt_at whole bytes
  stop ← felt_at whole start.1
  Ok (record { start = start.0; stop = stop.0 }, stop.1)

-- so many, one after the other
unfoldable pub items_at : {A : Type 0} → (List ℕ → Reads A) → ℕ → List ℕ → Reads (List A)
items_at one zero bytes = Ok ([], bytes)
items_at one (suc n) bytes = do
  first ← one bytes
  others ← items_at one n first.1
  Ok (first.0 ∷ others.0, others.1)

-- a count, and so many
unfoldable pub list_at : {A : Type 0} → ℕ → (List ℕ → Reads A) → List ℕ → Reads (List A)
list_at whole one bytes = count_read whole bytes >>= λ n. items_at one n.0 n.1

unfoldable pub mark_at : ℕ → List ℕ → Reads MarkRecord
mark_at whole bytes = do
  row ← count_read whole bytes
  bases ← list_at whole (felt_at whole) row.1
  Ok (record { row = row.0; bases = bases.0 }, bases.1)

abbrev pub is_alone : CertKind → Bool
is_alone alone = true
is_alone batch = false

-- the number of tasks, which is 0 for a PIE alone
unfoldable pub task_count_at : ℕ → CertKind → List ℕ → Reads ℕ
task_count_at whole kind bytes = do
  n ← count_read whole bytes
  if is_alone kind && not (n.0 == 0) then Err (BadNumber (place_of whole bytes)) else Ok n

unfoldable pub cell_numbers_at : ℕ → List ℕ → Reads FieldCell
cell_numbers_at whole bytes = do
  address ← felt_at whole bytes
  value ← felt_at whole address.1
  Ok ((address.0, value.0), value.1)

unfoldable pub state_at : ℕ → List ℕ → Reads (Registers ℕ)
state_at whole bytes = do
  pc ← felt_at whole bytes
  ap ← felt_at whole pc.1
  fp ← felt_at whole ap.1
  Ok (record { pc = pc.0; ap = ap.0; fp = fp.0 }, fp.1)

-- what was read, before its order is tested, and how many bytes there are from the first cell on
pub record Draft : Type 0 where
  pub cert : CertRecord
  pub from_cells : ℕ

unfoldable pub draft_at : ℕ → List ℕ → Reads Draft
draft_at whole bytes = do
  kind ← kind_at whole bytes
  output ← span_at whole kind.1
  range ← span_at whole output.1
  hash ← span_at whole range.1
  count ← task_count_at whole kind.0 hash.1
  tasks ← items_at (mark_at whole) count.0 count.1
  cells ← list_at whole (cell_numbers_at whole) tasks.1
  states ← list_at whole (state_at whole) cells.1
  Ok (record { cert = record { kind = kind.0; output = output.0; range = range.0; hash = hash.0; tasks = tasks.0; cells = cells.0; states = states.0 }; from_cells = length tasks.1 - 4 }, states.1)

-- ---- the order

-- where the first address is that isn't above the one before, in cells of which so many bytes are left
abbrev pub fallen_at : ℕ → ℕ → Option ℕ → List FieldCell → Option ℕ
fallen_at whole left before [] = None
fallen_at whole left before (c ∷ cs) = if is_after before c.0 then fallen_at whole (left - 16) (Some c.0) cs else Some (whole - left)

abbrev pub falls : SpanRecord → Bool
falls s = nat_lt s.stop s.start

-- where the first stop is that is below its start, or the first such address
abbrev pub order_fault : ℕ → Draft → Option ℕ
order_fault whole d =
    if falls d.cert.output then Some 17
    else (if falls d.cert.range then Some 33
    else (if falls d.cert.hash then Some 49
    else fallen_at whole d.from_cells None d.cert.cells))

-- goes on with a value where no order is broken
abbrev pub ordered : {A : Type 0} → Option ℕ → A → Result A CertRefusal
ordered None x = Ok x
ordered (Some place) x = Err (Order place)

-- ---- the file

-- no byte follows
abbrev pub ended_by : ℕ → CertRecord → Result CertRecord CertRefusal
ended_by behind cert = if behind == 0 then Ok cert else Err (Trailing behind)

-- what a file of so many bytes with these parts, and the bytes behind them, is
abbrev pub with_draft : ℕ → Draft × List ℕ → Result CertRecord CertRefusal
with_draft whole draft = ordered (order_fault whole draft.0) draft.0.cert >>= ended_by (length draft.1)

unfoldable pub reading : List ℕ → Result CertRecord CertRefusal
reading bytes = do
  begins ← demanded BadMagic (has_magic bytes)
  body ← required (Truncated (length bytes)) (bytes_after 8 bytes)
  rest ← required (Truncated (length bytes)) (after_all body)
  draft ← draft_at (length bytes) body
  with_draft (length bytes) draft
