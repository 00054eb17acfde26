use Rattle.std.proofs.Common.{◌<◌, ◌≤◌}
use Rattle.std.specs.Io.KnownBytes.{Keeps}
use Rattle.shared_prover_cli.specs.Faults.{Rose}
use Rattle.shared_prover_cli.proofs.real.StdSourceSource.read.Given as goal

abbrev pub invariant-loop : goal.invariant-loop
invariant-loop g l =
    Keeps (g.R.Read.remaining l.fn.self.reader) (g.R.Read.remaining l.self.reader)
    × (l.fn.self.faults ≤ l.self.faults)
    × (0 < l.counter → Rose l.fn.self.faults l.self.faults)
