use Rattle.desk_core.specs.DeskRecords.{plain_of}
use Rattle.desk_core.specs.GoodDesks.{IsGoodDesk}
use Rattle.batch_workers.specs.Works.{EndBusy, IsIdle, Works}
use Rattle.batch_workers.specs.Working.Rounds.{remaining}
use Rattle.batch_workers.proofs.working.work_plain.Given as goal

abbrev pub invariant-loop-end : goal.invariant-loop-end
invariant-loop-end g l = Works l.pass EndBusy l.fn.desk l.desk × (IsIdle l.pass (plain_of l.desk) × (IsGoodDesk l.desk → IsGoodDesk l.fn.desk))

abbrev pub decreases-loop-end : goal.decreases-loop-end
decreases-loop-end g l = remaining (plain_of l.desk)
