use Rattle.std.proofs.Common.{length, map}
use Rattle.std.specs.Vec.Iter.{into_iter_items}
use Rattle.desk_script.specs.Scripts.{pieces_of}
use Rattle.desk_script.specs.Views.{line_view}
use Rattle.desk_script.specs.Working.Ahead.{AreAhead}
use Rattle.desk_script.proofs.Walks.{Walked}
use Rattle.desk_script.proofs.script.script_of.Given as goal

abbrev pub invariant-loop-left : goal.invariant-loop-left
invariant-loop-left l = record {
  walked : Walked l.clients l.bytes (map line_view l.lines.items) l.left;
  ahead : AreAhead l.clients (into_iter_items l.ahead) (pieces_of l.left);
}

abbrev pub decreases-loop-left : goal.decreases-loop-left
decreases-loop-left l = length (pieces_of l.left)
