use Rattle.std.proofs.Common.{◌≡◌, ◌-◌, ◌++◌, length, map}
use Rattle.desk_script.specs.Limits.{most_lines}
use Rattle.desk_script.specs.Scripts.{pieces_of}
use Rattle.desk_script.proofs.ahead.first_texts.Given as goal

abbrev pub invariant-loop-left : goal.invariant-loop-left
invariant-loop-left l = pieces_of l.bytes ≡ map (λ t. t.now) l.texts.items ++ pieces_of l.left

abbrev pub decreases-loop-left : goal.decreases-loop-left
decreases-loop-left l = most_lines - length l.texts.items
