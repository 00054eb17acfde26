use Rattle.batch_runner.specs.Certificates.{IsSmall}
use Rattle.batch_runner.specs.Laws.{AreBatchCells}
use Rattle.boot_program.specs.Batch.Acceptance.{AcceptsBatch}
use Rattle.boot_program.specs.Batch.Order.{InOrder}
use Rattle.boot_program.specs.Batch.Standing.{AllStandIn}
use Rattle.batch_runner.proofs.ListsOfTasks.{of_answer}
use Rattle.batch_runner.proofs.boot_maker.BootMakerMaker.make.Goals as goal

pub returns-clause-accepted : goal.returns-clause-accepted
returns-clause-accepted c =
    let tasks = c.tasks_in-tasks in
    of_answer (λ ts cert. AcceptsBatch cert ts) c.batches_are_accepted.ensures _ _ tasks.ensures.value tasks.ensures.accepted tasks.ensures.batch c.certificate.result c.certificate.ensures

pub returns-clause-stand : goal.returns-clause-stand
returns-clause-stand c =
    let tasks = c.tasks_in-tasks in
    of_answer (λ ts cert. AllStandIn cert ts) c.tasks_stand_in.ensures _ _ tasks.ensures.value tasks.ensures.accepted tasks.ensures.batch c.certificate.result c.certificate.ensures

pub returns-clause-in_order : goal.returns-clause-in_order
returns-clause-in_order c =
    let tasks = c.tasks_in-tasks in
    of_answer (λ ts cert. InOrder cert ts) c.tasks_in_order.ensures _ _ tasks.ensures.value tasks.ensures.accepted tasks.ensures.batch c.certificate.result c.certificate.ensures

pub returns-clause-small : goal.returns-clause-small
returns-clause-small c =
    let tasks = c.tasks_in-tasks in
    of_answer (λ ts cert. IsSmall cert ts) c.batch_is_small.ensures _ _ tasks.ensures.value tasks.ensures.accepted tasks.ensures.batch c.certificate.result c.certificate.ensures

pub returns-clause-cells : goal.returns-clause-cells
returns-clause-cells c =
    let tasks = c.tasks_in-tasks in
    of_answer (λ ts cert. AreBatchCells cert.cells) c.batch_cells_rise.ensures _ _ tasks.ensures.value tasks.ensures.accepted tasks.ensures.batch c.certificate.result c.certificate.ensures
