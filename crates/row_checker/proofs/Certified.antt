-- A certificate that passes each stage is accepted as a batch of its tasks, and each of them stands in it.
use Rattle.std.proofs.Common.{◌≡◌, ℕ, List, length, inl, inr, sym, subst, ◌∙◌, arith}
use Rattle.std.proofs.lemmas.Bool.{cases_lt}
use Rattle.std.proofs.lemmas.Option.{slice_get_within}
use Rattle.cairo_model.specs.Certificate.Records.{CertRecord}
use Rattle.cairo_model.specs.Pie.Acceptance.{CheckedRecord}
use Rattle.cairo_model.proofs.Outcomes.{some_is}
use Rattle.boot_program.specs.Batch.Acceptance.{AcceptsBatch}
use Rattle.boot_program.specs.Batch.Standing.{AllStandIn, StandsIn}
use Rattle.boot_program.specs.Faults.Causes.{IsOutputIndex, PrintsAt, wanted_of}
use Rattle.boot_program.specs.Faults.Tasks.{IsNumbered, TaskStands}
use Rattle.row_checker.specs.Working.Stages.{KeepsBatchRun}
use Rattle.row_checker.proofs.Accepted.{accepts_run}
use Rattle.row_checker.proofs.Printed.{printed_there, span_prints}

module _ (cert : CertRecord) (tasks : List CheckedRecord) (standing : (k : ℕ) → IsNumbered cert tasks k → TaskStands cert tasks k) where
  pub all_stand : AllStandIn cert tasks
  all_stand i task is =
      let found = standing i (inl (slice_get_within tasks i task is)) in
      subst (λ (t : CheckedRecord). StandsIn cert i t) (some_is found.0 task (sym found.1.0 ∙ is)) found.1.1

  -- there are as many marks as tasks
  one_mark_each : length cert.tasks ≡ length tasks
  one_mark_each = elim (cases_lt (length cert.tasks) (length tasks)) [
    | inl fewer ↦
        let found = standing (length cert.tasks) (inl fewer) in
        absurd (let lt = slice_get_within cert.tasks (length cert.tasks) found.1.1.mark found.1.1.is_mark in omega (arith, lt))
    | inr no_fewer ↦ elim (cases_lt (length tasks) (length cert.tasks)) [
      | inl more ↦
          let found = standing (length tasks) (inr more) in
          absurd (let lt = slice_get_within tasks (length tasks) found.0 found.1.0 in omega (arith, lt))
      | inr no_more ↦ omega (arith, no_fewer, no_more)
    ]
  ]

  pub accepts_batch : KeepsBatchRun cert → ((k : ℕ) → IsOutputIndex cert (wanted_of tasks) k → PrintsAt cert (wanted_of tasks) k) → AcceptsBatch cert tasks
  accepts_batch kept prints =
      let accepts = accepts_run cert kept.run (λ k inside. printed_there cert (wanted_of tasks) k (prints k (inl inside))) in
      record {
        is_batch = kept.is_batch;
        accepted = accepts.accepted;
        bound = accepts.bound kept.is_batch;
        prints = span_prints cert (wanted_of tasks) prints;
        one_mark_each = one_mark_each;
      }
