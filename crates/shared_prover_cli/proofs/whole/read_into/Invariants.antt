use Rattle.std.proofs.Common.{◌≤◌, ◌<◌, ◌-◌, vec_len}
use Rattle.shared_prover_cli.proofs.TakenSoFar.{TakenSoFar}
use Rattle.shared_prover_cli.proofs.whole.read_into.Given as goal

abbrev pub invariant-loop-piece : goal.invariant-loop-piece
invariant-loop-piece g l =
    TakenSoFar l.done (g.S.Source.left l.fn.source) (g.S.Source.left l.source) (g.T.Taker.has_taken l.taker)
    × (g.S.Source.faults l.fn.source ≤ g.S.Source.faults l.source)
    × (l.done ≤ l.limit)
    × (0 < vec_len l.piece)

abbrev pub decreases-loop-piece : goal.decreases-loop-piece
decreases-loop-piece g l = l.limit - l.done
