use Rattle.std.proofs.Common.{◌≤◌, ◌-◌, take, length}
use Rattle.std.specs.Io.KnownBytes.{Appends}
use Rattle.shared_prover_cli.proofs.whole.write_whole.Given as goal

abbrev pub invariant-loop-done : goal.invariant-loop-done
invariant-loop-done g l =
    Appends (g.K.Sink.held l.fn.sink) (g.K.Sink.held l.sink) (take l.done l.text)
    × (g.K.Sink.faults l.fn.sink ≤ g.K.Sink.faults l.sink)
    × (l.done ≤ length l.text)

abbrev pub decreases-loop-done : goal.decreases-loop-done
decreases-loop-done g l = length l.text - l.done
