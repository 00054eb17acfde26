-- Certificates as plain data, and what each one keeps (docs/CERTIFICATE.md).
use Rattle.std.specs.Prelude.{ℕ, ◌≡◌, ◌^◌, ◌<◌, ◌≤◌, List, length, All, []}
use Rattle.goldi_field.specs.Numbers.{IsFelt}
use Rattle.cairo_model.specs.Machine.Steps.{Registers}
use Rattle.cairo_model.specs.Machine.FieldMemories.{FieldCell, IsCell, AddressesRise}

pub data CertKind : Type 0 where
  alone : CertKind
  batch : CertKind

pub record SpanRecord : Type 0 where
  pub start : ℕ
  pub stop : ℕ

pub record MarkRecord : Type 0 where
  pub row : ℕ
  pub bases : List ℕ

pub record CertRecord : Type 0 where
  pub kind : CertKind
  pub output : SpanRecord
  pub range : SpanRecord
  pub hash : SpanRecord
  pub tasks : List MarkRecord
  pub cells : List FieldCell
  pub states : List (Registers ℕ)

-- What every certificate keeps, so that it can be written down: its lists are countable by four bytes, and one of a
-- PIE alone has no task.
pub record HasSpelling (cert : CertRecord) : Type 0 where
  pub few_tasks : length cert.tasks < 2 ^ 32
  pub few_bases : All (λ m. length m.bases < 2 ^ 32) cert.tasks
  pub few_cells : length cert.cells < 2 ^ 32
  pub few_states : length cert.states < 2 ^ 32
  pub no_task_alone : cert.kind ≡ alone → cert.tasks ≡ []

-- a stretch of addresses that doesn't end before it begins
pub record IsSpan (s : SpanRecord) : Type 0 where
  pub start : IsFelt s.start
  pub stop : IsFelt s.stop
  pub ordered : s.start ≤ s.stop

-- a row that four bytes can count, and bases that are field numbers
pub record IsMark (m : MarkRecord) : Type 0 where
  pub row : m.row < 2 ^ 32
  pub bases : All IsFelt m.bases

-- registers of the machine over the field
pub record AreRegisters (s : Registers ℕ) : Type 0 where
  pub pc : IsFelt s.pc
  pub ap : IsFelt s.ap
  pub fp : IsFelt s.fp

-- What the type of certificates keeps of each one: numbers below the prime, ordered spans, rising addresses, and lists that four bytes can count
pub record IsCertificate (c : CertRecord) : Type 0 where
  pub has_spelling : HasSpelling c
  pub output : IsSpan c.output
  pub range : IsSpan c.range
  pub hash : IsSpan c.hash
  pub tasks : All IsMark c.tasks
  pub cells : All IsCell c.cells
  pub rise : AddressesRise c.cells
  pub states : All AreRegisters c.states
