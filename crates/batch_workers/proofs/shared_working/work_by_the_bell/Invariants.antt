use Rattle.session_desk.specs.SeenDesks.{IsIdlePass}
use Rattle.batch_workers.specs.SharedWorks.{EndOpen, PassWorks}
use Rattle.batch_workers.proofs.shared_working.work_by_the_bell.Given as goal

abbrev pub invariant-loop : goal.invariant-loop
invariant-loop g l = PassWorks EndOpen l.fn.pass l.pass × IsIdlePass l.pass
