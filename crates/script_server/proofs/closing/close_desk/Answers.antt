use Rattle.script_server.proofs.Closes.{answered, sees_itself, waited}
use Rattle.script_server.proofs.closing.close_desk.Goals as goal

pub loop-init : goal.loop-init
loop-init g c = sees_itself c.args.pass.now

pub loop-preserved : goal.loop-preserved
loop-preserved g c = waited c.args.pass.now c.loop.pass c.close.new.pass c.in-Err.field-0 c.loop.invariant c.in-Err.ensures.turn c.in-Err.ensures.mine

pub returns-in-Ok : goal.returns-in-Ok
returns-in-Ok g c = record { closes = answered c.args.pass.now c.loop.pass c.close.new.pass c.in-Ok.field-0 c.loop.invariant c.in-Ok.ensures.turn }
