use Rattle.std.proofs.Common.{◌≡◌, length, map}
use Rattle.desk_script.specs.Working.Reading.{numbers_in, parts_left, with_front}
use Rattle.desk_script.proofs.lines.outputs_in.Given as goal

-- the numbers so far, before those that the fields left are, are those of all
abbrev pub invariant-loop-left : goal.invariant-loop-left
invariant-loop-left l = with_front (map (λ f. f.number) l.outputs.items) (numbers_in (parts_left 32 l.left)) ≡ numbers_in (parts_left 32 l.fn.fields)

abbrev pub decreases-loop-left : goal.decreases-loop-left
decreases-loop-left l = length (parts_left 32 l.left)
