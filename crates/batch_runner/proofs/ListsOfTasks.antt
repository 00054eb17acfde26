-- What holds of a list of accepted tasks within the limits of a batch: where they begin, their cells, their run and their marks.
use Rattle.std.proofs.Common.{◌≡◌, ℕ, ◌+◌, List, [], ◌∷◌, All, length, ◌≤◌, Result, IfOk, sym, ap, ap₂, subst, ◌∙◌, arith}
use Rattle.std.proofs.lemmas.Result.{IfOk-weaker}
use Rattle.cairo_model.specs.Certificate.Records.{CertRecord, batch as batch_kind}
use Rattle.cairo_model.specs.Machine.FieldMemories.{AddressesRise, FieldCell, cell_at}
use Rattle.cairo_model.specs.Machine.Steps.{Registers}
use Rattle.cairo_model.specs.Pie.Acceptance.{CheckedRecord}
use Rattle.boot_program.specs.Batch.Limits.{most_batch_tasks}
use Rattle.boot_program.specs.Batch.Parcels.{WithinBatch}
use Rattle.boot_program.specs.Cells.{state}
use Rattle.boot_program.specs.Places.{entry_pc}
use Rattle.batch_plan.specs.Parts.{BatchParts, sizes_of_all}
use Rattle.batch_plan.specs.Plans.{PlanRecord, first_parts, plan_of}
use Rattle.batch_runner.specs.Certificates.{IsCertOf, cert_of, entry_rows}
use Rattle.batch_runner.specs.Laws.{AreBatchCells, BatchCells, CellsRun, IsAccepted, OfEveryBatch, PlansAreFollowed}
use Rattle.batch_runner.specs.Layout.{boot_frame, first_place}
use Rattle.batch_runner.specs.Memory.{all_cells}
use Rattle.batch_runner.specs.Rows.{batch_length}
use Rattle.batch_runner.specs.Working.Placing.{PlacedRecord, cells_in_turn, marks_of_all, placed_from, rows_of_all}
use Rattle.batch_runner.specs.Working.Rooms.{HasRooms}
use Rattle.batch_runner.specs.Working.Stepping.{IsRunOver}
use Rattle.batch_runner.specs.Working.Tasks.{Task, checked_of}
use Rattle.batch_runner.proofs.Accepted.{of_tasks}
use Rattle.batch_runner.proofs.ByPlan as plan
use Rattle.batch_runner.proofs.Limits.{free_few}
use Rattle.batch_runner.proofs.PartsInTurn as parts
use Rattle.batch_runner.proofs.WholeBatch.{rooms_of}
use Rattle.batch_runner.proofs.Within.{within}

-- a batch has one task at least
pub of_batch : (Holds : List CheckedRecord → Type 0) → OfEveryBatch (λ t ts. Holds (t ∷ ts)) → (tasks : List CheckedRecord) → All IsAccepted tasks → WithinBatch tasks → Holds tasks
of_batch Holds each [] all batch = absurd (let e = batch.some in omega (arith, e))
of_batch Holds each (t ∷ ts) all batch = each t ts all batch

from_tasks : (Holds : List CheckedRecord → Type 0) → ((t : Task) (ts : List Task) → WithinBatch (checked_of (t ∷ ts)) → Holds (checked_of (t ∷ ts))) → (tasks : List CheckedRecord) → All IsAccepted tasks → WithinBatch tasks → Holds tasks
from_tasks Holds proof = of_batch Holds (of_tasks (λ t ts. Holds (t ∷ ts)) proof)

module _ (tasks : List CheckedRecord) (all : All IsAccepted tasks) (batch : WithinBatch tasks) where
  abbrev p : BatchParts
  p = first_place tasks

  abbrev xs : List PlacedRecord
  xs = placed_from p tasks

  pub have_rooms : HasRooms p tasks
  have_rooms = from_tasks (λ ts. HasRooms (first_place ts) ts) (λ t ts w. rooms_of (checked_of (t ∷ ts)) (free_few (t ∷ ts) (within (t ∷ ts) w))) tasks all batch

  pub begin_as_planned : p ≡ first_parts (sizes_of_all tasks)
  begin_as_planned = from_tasks (λ ts. first_place ts ≡ first_parts (sizes_of_all ts)) (λ t ts w. plan.first_is (t ∷ ts)) tasks all batch

  pub cells_are : cells_in_turn p xs ≡ all_cells tasks
  cells_are = from_tasks (λ ts. cells_in_turn (first_place ts) (placed_from (first_place ts) ts) ≡ all_cells ts) (λ t ts w. parts.cells_are (t ∷ ts)) tasks all batch

  pub cells_rise : BatchCells → AddressesRise (cells_in_turn p xs)
  cells_rise law = subst AddressesRise (sym cells_are) (of_batch (λ ts. AreBatchCells (all_cells ts)) law tasks all batch).rise

  module _ (at : BatchParts) (planned : at ≡ first_parts (sizes_of_all tasks)) where
    pub begins : at ≡ p
    begins = planned ∙ sym begin_as_planned

    pub rooms_there : HasRooms at tasks
    rooms_there = subst (λ (q : BatchParts). HasRooms q tasks) (sym begins) have_rooms

    module _ (items slice : List PlacedRecord) (placed : items ≡ placed_from at tasks) (same : slice ≡ items) where
      pub placed_are : slice ≡ xs
      placed_are = same ∙ placed ∙ ap (λ (q : BatchParts). placed_from q tasks) begins

      pub few_placed : length slice ≤ most_batch_tasks
      few_placed =
          let count : length slice ≡ length tasks = ap length placed_are ∙ parts.one_each p tasks in
          let few = batch.few in
          omega (arith, count, few)

      pub rising : BatchCells → (cells : List FieldCell) → cells ≡ cells_in_turn at slice → AddressesRise cells
      rising law cells are = subst AddressesRise (sym (are ∙ ap₂ cells_in_turn begins placed_are)) (cells_rise law)

-- what the parts of a certificate are made from: the plan of these tasks, the place of the first and the tasks where they stand, the
-- steps of the run and its first state
pub record ArePartsOf (tasks : List CheckedRecord) (plan : PlanRecord) (at : BatchParts) (placed : List PlacedRecord) (steps : ℕ) (start : Registers ℕ) : Type 0 where
  pub is_plan : plan ≡ plan_of (sizes_of_all tasks)
  pub is_first : at ≡ first_place tasks
  pub are_placed : placed ≡ placed_from (first_place tasks) tasks
  pub counted : steps ≡ entry_rows + (rows_of_all placed + 1)
  pub enters : start ≡ state entry_pc boot_frame boot_frame

-- a certificate that is made so: its spans as planned, its cells and marks task by task, its states by stepping
pub record IsMadeBy (plan : PlanRecord) (at : BatchParts) (placed : List PlacedRecord) (steps : ℕ) (start : Registers ℕ) (cert : CertRecord) : Type 0 where
  pub is_batch : cert.kind ≡ batch_kind
  pub output : cert.output ≡ plan.output
  pub range : cert.range ≡ plan.range
  pub hash : cert.hash ≡ plan.hash
  pub marks : cert.tasks ≡ marks_of_all entry_rows placed
  pub cells : cert.cells ≡ cells_in_turn at placed
  pub states : IsRunOver (cell_at cert.cells) steps start cert.states

same_cert : (c d : CertRecord) → c.kind ≡ d.kind → c.output ≡ d.output → c.range ≡ d.range → c.hash ≡ d.hash → c.tasks ≡ d.tasks → c.cells ≡ d.cells → c.states ≡ d.states → c ≡ d
same_cert c d kind output range hash tasks cells states =
    λ i. record { kind = kind i; output = output i; range = range i; hash = hash i; tasks = tasks i; cells = cells i; states = states i }

module _ (runs : CellsRun) (follow : PlansAreFollowed) (plan : PlanRecord) (at : BatchParts) (placed : List PlacedRecord) (steps : ℕ) (start : Registers ℕ) (cert : CertRecord) where
  pub is_cert : (tasks : List CheckedRecord) → All IsAccepted tasks → WithinBatch tasks → ArePartsOf tasks plan at placed steps start → IsMadeBy plan at placed steps start cert → IsCertOf tasks cert
  is_cert [] all batch of made = absurd (let e = batch.some in omega (arith, e))
  is_cert (t ∷ ts) all batch of made =
      let tasks = t ∷ ts in
      let p = first_place tasks in
      let xs = placed_from p tasks in
      let planned = follow t ts all batch in
      let run = runs t ts all batch in
      let cells : cert.cells ≡ all_cells tasks = made.cells ∙ ap₂ cells_in_turn of.is_first of.are_placed ∙ cells_are tasks all batch in
      let count : steps ≡ batch_length t ts =
      of.counted ∙ ap (λ (ys : List PlacedRecord). entry_rows + (rows_of_all ys + 1)) of.are_placed ∙ ap (λ (n : ℕ). entry_rows + (n + 1)) (parts.rows_are p t ts) in
      let over : IsRunOver (cell_at (all_cells tasks)) steps start cert.states = subst (λ (m : List FieldCell). IsRunOver (cell_at m) steps start cert.states) cells made.states in
      let so_many : IsRunOver (cell_at (all_cells tasks)) (batch_length t ts) start cert.states = subst (λ (n : ℕ). IsRunOver (cell_at (all_cells tasks)) n start cert.states) count over in
      let from_entry = subst (λ (s : Registers ℕ). IsRunOver (cell_at (all_cells tasks)) (batch_length t ts) s cert.states) of.enters so_many in
      same_cert cert (cert_of t ts) made.is_batch
      (made.output ∙ ap (λ (l : PlanRecord). l.output) of.is_plan ∙ sym planned.output)
      (made.range ∙ ap (λ (l : PlanRecord). l.range) of.is_plan ∙ sym planned.range)
      (made.hash ∙ ap (λ (l : PlanRecord). l.hash) of.is_plan ∙ sym planned.hash)
      (made.marks ∙ ap (marks_of_all entry_rows) of.are_placed ∙ parts.marks_are entry_rows p tasks)
      cells (from_entry _ _ run)

-- what a law says of the certificate of each batch
pub of_cert : (Holds : List CheckedRecord → CertRecord → Type 0) → OfEveryBatch (λ t ts. Holds (t ∷ ts) (cert_of t ts)) → (tasks : List CheckedRecord) (cert : CertRecord)
    → All IsAccepted tasks → WithinBatch tasks → IsCertOf tasks cert → Holds tasks cert
of_cert Holds law [] cert all batch is = absurd is
of_cert Holds law (t ∷ ts) cert all batch is = subst (Holds (t ∷ ts)) (sym is) (law t ts all batch)

-- it says of the certificate that a call gives
pub of_answer : {E : Type 0} (Holds : List CheckedRecord → CertRecord → Type 0) → OfEveryBatch (λ t ts. Holds (t ∷ ts) (cert_of t ts)) → (tasks others : List CheckedRecord) → others ≡ tasks
    → All IsAccepted others → WithinBatch others → (r : Result CertRecord E) → IfOk r (λ cert. IsCertOf others cert) → IfOk r (λ cert. Holds tasks cert)
of_answer Holds law tasks others same all batch r is =
    IfOk-weaker r (λ cert. IsCertOf others cert) (λ cert. Holds tasks cert)
    (λ cert made. subst (λ (ts : List CheckedRecord). Holds ts cert) same (of_cert Holds law others cert all batch made)) is
