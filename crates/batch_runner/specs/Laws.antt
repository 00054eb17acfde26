-- The laws of a batch's certificate.
use Rattle.std.specs.Prelude.{ℕ, ◌≡◌, ◌≢◌, ◌+◌, ◌<◌, ◌≤◌, ◌^◌, List, ◌∷◌, map, All}
use Rattle.cairo_model.specs.Machine.Steps.{field_arithmetic}
use Rattle.cairo_model.specs.Machine.Runs.{Passes}
use Rattle.cairo_model.specs.Machine.FieldMemories.{FieldCell, AddressesRise}
use Rattle.cairo_model.specs.Pie.Acceptance.{AcceptedWith, CheckedRecord}
use Rattle.cairo_model.specs.Certificate.Records.{CertRecord, HasSpelling}
use Rattle.boot_program.specs.Words.{boot_end}
use Rattle.boot_program.specs.Places.{entry_pc}
use Rattle.boot_program.specs.Cells.{state}
use Rattle.boot_program.specs.Batch.Parcels.{WithinBatch}
use Rattle.boot_program.specs.Batch.Acceptance.{AcceptsBatch}
use Rattle.boot_program.specs.Batch.Standing.{AllStandIn}
use Rattle.boot_program.specs.Batch.Order.{InOrder}
use Rattle.batch_plan.specs.Parts.{sizes_of_all}
use Rattle.batch_plan.specs.Plans.{PlanRecord, plan_of}
use Rattle.batch_runner.specs.Pieces.{Stands}
use Rattle.batch_runner.specs.Layout.{end_place, first_place, boot_frame}
use Rattle.batch_runner.specs.Memory.{all_cells}
use Rattle.batch_runner.specs.Rows.{memory_of_batch, batch_rows, batch_length}
use Rattle.batch_runner.specs.Certificates.{cert_of, IsSmall}

-- accepted alone with its fact and states
abbrev pub IsAccepted : CheckedRecord → Type 0
IsAccepted t = AcceptedWith t.pie t.fact t.states

-- of every list of accepted tasks, one at least, that is within the limits of a batch
abbrev pub OfEveryBatch : (CheckedRecord → List CheckedRecord → Type 0) → Type 0
OfEveryBatch Holds = (t : CheckedRecord) (ts : List CheckedRecord) → All IsAccepted (t ∷ ts) → WithinBatch (t ∷ ts) → Holds t ts

-- addresses that rise, none of them 0 or the end of the bootloader, and all below 2 ^ 32
pub record AreBatchCells (cells : List FieldCell) : Type 0 where
  pub rise : AddressesRise cells
  pub each : (a v : ℕ) → Stands a v cells → (1 ≤ a) × (a ≢ boot_end) × (a < 2 ^ 32)

-- the spans, and the bases of each task, are those of a plan
pub record FollowsPlan (cert : CertRecord) (plan : PlanRecord) : Type 0 where
  pub output : cert.output ≡ plan.output
  pub range : cert.range ≡ plan.range
  pub hash : cert.hash ≡ plan.hash
  pub bases : map (λ m. m.bases) cert.tasks ≡ plan.tasks

-- the certificate has those of the batch's plan
abbrev pub PlansAreFollowed : Type 0
PlansAreFollowed = OfEveryBatch (λ t ts. FollowsPlan (cert_of t ts) (plan_of (sizes_of_all (t ∷ ts))))

-- no address has two writers
abbrev pub BatchCells : Type 0
BatchCells = OfEveryBatch (λ t ts. AreBatchCells (all_cells (t ∷ ts)))

-- the states are the run over the cells, from the bootloader's entry to its end
abbrev pub CellsFromEntryToEnd : CheckedRecord → List CheckedRecord → Type 0
CellsFromEntryToEnd t ts = Passes field_arithmetic (memory_of_batch (t ∷ ts)) (batch_length t ts)
    (state entry_pc boot_frame boot_frame) (batch_rows t ts) (state boot_end ((end_place (first_place (t ∷ ts)) (t ∷ ts)).frame + 4) 0)

-- and so it is for each batch
abbrev pub CellsRun : Type 0
CellsRun = OfEveryBatch CellsFromEntryToEnd

-- the certificate is accepted as one of these tasks
abbrev pub BatchesAreAccepted : Type 0
BatchesAreAccepted = OfEveryBatch (λ t ts. AcceptsBatch (cert_of t ts) (t ∷ ts))

-- each task's whole isolated run stands in it
abbrev pub TasksStandIn : Type 0
TasksStandIn = OfEveryBatch (λ t ts. AllStandIn (cert_of t ts) (t ∷ ts))

-- its rows, marks and spans are in order
abbrev pub TasksInOrder : Type 0
TasksInOrder = OfEveryBatch (λ t ts. InOrder (cert_of t ts) (t ∷ ts))

-- it is small
abbrev pub BatchIsSmall : Type 0
BatchIsSmall = OfEveryBatch (λ t ts. IsSmall (cert_of t ts) (t ∷ ts))

-- what the type of certificates asks of its lists
abbrev pub BatchIsSpelled : Type 0
BatchIsSpelled = OfEveryBatch (λ t ts. HasSpelling (cert_of t ts))
