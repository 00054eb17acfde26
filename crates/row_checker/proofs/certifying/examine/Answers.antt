use Rattle.std.proofs.Common.{List, Result, Ok, Err, IfOk, ap, subst, ◌∙◌}
use Rattle.cairo_model.specs.Pie.Acceptance.{CheckedRecord}
use Rattle.boot_program.specs.Batch.Acceptance.{AcceptsBatch}
use Rattle.boot_program.specs.Batch.Parcels.{ParcelRecord}
use Rattle.boot_program.specs.Batch.Standing.{AllStandIn}
use Rattle.row_checker.proofs.Certified.{accepts_batch, all_stand}
use Rattle.row_checker.proofs.certifying.examine.Goals as goal

then_ok : {X E : Type 0} (P : Type 0) (Q : Type 0) (r : Result X E) → (P → Q) → IfOk r (λ _. P) → IfOk r (λ _. Q)
then_ok P Q (Ok x) f h = f h
then_ok P Q (Err e) f h = h

pub returns-clause-accepted : goal.returns-clause-accepted
returns-clause-accepted g c =
    then_ok _ _ c.tasks_stand.result
    (λ standing. subst (λ (tasks : List CheckedRecord). AcceptsBatch c.args.cert.now tasks) (c.as_slice-tasks.ensures.value ∙ ap (λ (p : ParcelRecord). p.tasks) c.parcel.view_is)
    (accepts_batch c.args.cert.now c.as_slice-tasks.result.now standing c.in_ok-run_of_batch.ensures.kept c.in_ok-outputs_stand.ensures.prints))
    c.tasks_stand.ensures.stand

pub returns-clause-stand : goal.returns-clause-stand
returns-clause-stand g c =
    then_ok _ _ c.tasks_stand.result
    (λ standing. subst (λ (tasks : List CheckedRecord). AllStandIn c.args.cert.now tasks) (c.as_slice-tasks.ensures.value ∙ ap (λ (p : ParcelRecord). p.tasks) c.parcel.view_is)
    (all_stand c.args.cert.now c.as_slice-tasks.result.now standing))
    c.tasks_stand.ensures.stand
