use Rattle.std.proofs.Common.{◌≤◌, ◌-◌}
use Rattle.row_checker.specs.Working.Chunks.{AreChunks}
use Rattle.row_checker.proofs.chunks.cut.Given as goal

abbrev pub invariant-loop-first : goal.invariant-loop-first
invariant-loop-first l = record { chunks : AreChunks 0 l.chunks.items l.first; inside : l.first ≤ l.rows }

abbrev pub decreases-loop-first : goal.decreases-loop-first
decreases-loop-first l = l.rows - l.first
