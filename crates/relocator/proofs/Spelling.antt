-- The certificate of a PIE alone can be written down.
use Rattle.std.proofs.Common.{◌≡◌, ℕ, ◌^◌, ◌<◌, List, [], length, All, ap, ◌∙◌, arith}
use Rattle.std.proofs.lemmas.List.{length-map}
use Rattle.std.proofs.lemmas.List.Sorted.{length_permutation}
use Rattle.cairo_model.specs.Pie.Acceptance.{CheckedRecord, AcceptedWith}
use Rattle.cairo_model.specs.Certificate.Records.{CertRecord, MarkRecord, HasSpelling}
use Rattle.cairo_model.specs.Machine.Steps.{Registers}
use Rattle.cairo_model.specs.Pie.Layouts.{lone_bases, relocated_cell, relocated_state}
use Rattle.relocator.specs.LoneCertificates.{IsLoneCertificate}
use Rattle.cairo_model.proofs.CellCount.{few_cells}

no_marks : (marks : List MarkRecord) → marks ≡ [] → All (λ m. length m.bases < 2 ^ 32) marks
no_marks marks none k d lt = absurd (omega (arith, ap (λ (ms : List MarkRecord). length ms) none, lt))

pub has_spelling : (checked : CheckedRecord) (cert : CertRecord) → AcceptedWith checked.pie checked.fact checked.states → IsLoneCertificate checked cert → HasSpelling cert
has_spelling checked cert accepted is =
    let bases = lone_bases checked.pie.sizes in
    let cells : length cert.cells ≡ length checked.pie.cells = length_permutation _ _ is.cells.same_cells ∙ length-map checked.pie.cells (relocated_cell bases) in
    let states : length cert.states ≡ length checked.states = ap (λ (ss : List (Registers ℕ)). length ss) is.states ∙ length-map checked.states (relocated_state bases) in
    let tasks : length cert.tasks ≡ 0 = ap (λ (ms : List MarkRecord). length ms) is.tasks in
    record {
      few_tasks = omega (arith, tasks);
      few_bases = no_marks cert.tasks is.tasks;
      few_cells = omega (arith, cells, few_cells checked.pie accepted.rules);
      few_states = omega (arith, states, accepted.isolated.count, accepted.rules.few_steps);
      no_task_alone = λ alone. is.tasks;
    }
