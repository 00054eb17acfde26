use Rattle.std.proofs.Common.{◌<◌, ◌≤◌}
use Rattle.std.specs.Io.KnownBytes.{Keeps}
use Rattle.shared_prover_cli.specs.Faults.{Rose}
use Rattle.shared_prover_cli.proofs.real.StdSinkSink.write.Given as goal

abbrev pub invariant-loop : goal.invariant-loop
invariant-loop g l =
    Keeps (g.W.Write.contents l.fn.self.writer) (g.W.Write.contents l.self.writer)
    × (l.fn.self.faults ≤ l.self.faults)
    × (0 < l.counter → Rose l.fn.self.faults l.self.faults)
