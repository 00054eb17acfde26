use Rattle.std.proofs.Common.{◌≡◌, ◌++◌, drop}
use Rattle.batch_runner.specs.Working.Places.{place_of}
use Rattle.batch_runner.specs.Working.Placing.{placed_from}
use Rattle.batch_runner.proofs.PlacedTurns.{ArePlaceable}
use Rattle.batch_runner.proofs.placing.placed_tasks.Given as goal

abbrev pub invariant-loop-i : goal.invariant-loop-i
invariant-loop-i l =
    (l.placed.items ++ placed_from (place_of l.at) (drop l.i l.tasks) ≡ placed_from (place_of l.fn.first) l.tasks)
    × ArePlaceable l.tasks l.layouts l.i (place_of l.at)
