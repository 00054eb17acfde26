use Rattle.std.proofs.Common.{ℕ, ◌<◌}
use Rattle.cairo_model.specs.Refusals.ReplayRefusals.{HasInstance}
use Rattle.pie_replay.proofs.builtins.bad_instance.Given as goal

abbrev pub invariant-loop-index : goal.invariant-loop-index
invariant-loop-index l = (k : ℕ) → k < l.index → HasInstance l.pie k
