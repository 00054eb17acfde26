use Rattle.std.proofs.Common.{◌≡◌, ◌++◌, ◌-◌, map}
use Rattle.cairo_model.specs.Views.Machine.{datum}
use Rattle.work_maker.specs.Down.{countdown}
use Rattle.work_maker.proofs.countdown.put_countdown.Given as goal

-- what stands, and what is still to be put, are what stood and all rounds
abbrev pub invariant-loop-round : goal.invariant-loop-round
invariant-loop-round l = map datum l.stack.items ++ countdown (l.rounds - l.round) ≡ map datum l.fn.stack.items ++ countdown l.rounds
