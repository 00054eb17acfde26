-- That each task stands in a certificate, by its list of marks.
use Rattle.std.specs.Prelude.{List, [], drop, length, map, take, ◌+◌, ◌∷◌, ◌≡◌}
use Rattle.cairo_model.specs.Certificate.Records.{CertRecord, MarkRecord}
use Rattle.cairo_model.specs.Machine.FieldMemories.{cell_at}
use Rattle.cairo_model.specs.Pie.Acceptance.{CheckedRecord}
use Rattle.cairo_model.specs.Pie.Layouts.{relocated_state}
use Rattle.cairo_model.specs.Pie.Records.{memory_of}
use Rattle.cairo_model.specs.Pie.Relocation.{HasRelocated}
use Rattle.batch_runner.specs.Working.Tasks.{Task}

-- the task stands in the certificate by this mark
pub record MarkStands (cert : CertRecord) (mark : MarkRecord) (task : CheckedRecord) : Type 0 where
  pub one_each : length mark.bases ≡ length task.pie.sizes
  pub cells_there : HasRelocated mark.bases (memory_of task.pie.cells) (cell_at cert.cells)
  pub states_there : take (task.pie.steps + 1) (drop mark.row cert.states) ≡ map (relocated_state mark.bases) task.states

unfoldable pub MarksStand : CertRecord → List MarkRecord → List Task → Type 0
MarksStand cert [] [] = Unit {0}
MarksStand cert [] (t ∷ ts) = ⊥
MarksStand cert (m ∷ ms) [] = ⊥
MarksStand cert (m ∷ ms) (t ∷ ts) = MarkStands cert m t.checked × MarksStand cert ms ts
