-- When a certificate is one of a batch: it is accepted, its run is the bootloader's, and its output is that of the tasks.
use Rattle.std.specs.Prelude.{ℕ, ◌≡◌, List, length, map, Some}
use Rattle.cairo_model.specs.Pie.Acceptance.{CheckedRecord, FactRecord}
use Rattle.cairo_model.specs.Certificate.Records.{CertRecord, batch}
use Rattle.cairo_model.specs.Certificate.Acceptance.{MachineAccepts, SpanHolds, cell_below}
use Rattle.cairo_model.specs.Machine.FieldMemories.{cell_at}
use Rattle.cairo_model.specs.Machine.Steps.{Registers}
use Rattle.cairo_model.specs.Machine.Runs.{IsState}
use Rattle.boot_program.specs.Words.{HasBoot, boot_end}
use Rattle.boot_program.specs.Places.{entry_pc}
use Rattle.boot_program.specs.Batch.Output.{batch_output}

-- The memory holds the bootloader's words; the run begins at their entry, and its frame has their end as return address.
pub record BootBound (cert : CertRecord) : Type 0 where
  pub words : HasBoot (cell_at cert.cells)
  pub first : Registers ℕ
  pub is_first : IsState cert.states 0 first
  pub enters : first.pc ≡ entry_pc
  pub returns : cell_below cert.cells first.fp 1 ≡ Some boot_end

abbrev pub facts_of : List CheckedRecord → List FactRecord
facts_of tasks = map (λ t. t.fact) tasks

-- The certificate is an accepted one of the bootloader's run, prints just what these tasks show, and has a mark for each.
pub record AcceptsBatch (cert : CertRecord) (tasks : List CheckedRecord) : Type 0 where
  pub is_batch : cert.kind ≡ batch
  pub accepted : MachineAccepts cert
  pub bound : BootBound cert
  pub prints : SpanHolds cert.cells cert.output (batch_output (facts_of tasks))
  pub one_mark_each : length cert.tasks ≡ length tasks
