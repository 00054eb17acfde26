use Rattle.worked_workers.proofs.IdleDesks.{idle_offered}
use Rattle.worked_workers.proofs.workers.desk_with.Goals as goal

-- nothing but an offer was made at the desk
pub returns : goal.returns
returns c = idle_offered 1 0 0 c.in_ok-desk.desk c.submit.new.self _ _ c.in_ok-submit.field-0 c.in_ok-desk.ensures c.in_ok-submit.ensures.ok
