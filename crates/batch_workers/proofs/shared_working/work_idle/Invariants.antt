use Rattle.session_desk.specs.SeenDesks.{IsIdlePass}
use Rattle.batch_workers.specs.SharedWorks.{PassWorks}
use Rattle.batch_workers.specs.Works.{EndBusy}
use Rattle.batch_workers.proofs.shared_working.work_idle.Given as goal

abbrev pub invariant-loop : goal.invariant-loop
invariant-loop g l = PassWorks EndBusy l.fn.pass l.pass × IsIdlePass l.pass
