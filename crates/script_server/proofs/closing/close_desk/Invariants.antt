use Rattle.script_server.specs.Working.Closing.{SeesOn}
use Rattle.script_server.proofs.closing.close_desk.Given as goal

abbrev pub invariant-loop : goal.invariant-loop
invariant-loop g l = SeesOn l.fn.pass l.pass
