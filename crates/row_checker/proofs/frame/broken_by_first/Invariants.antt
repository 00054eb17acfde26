use Rattle.std.proofs.Common.{ℕ, ◌<◌}
use Rattle.boot_program.specs.Faults.Rules.{StartsBy, start_rule}
use Rattle.cairo_model.specs.Views.Machine.{field_registers}
use Rattle.row_checker.proofs.frame.broken_by_first.Given as goal

abbrev pub invariant-loop-k : goal.invariant-loop-k
invariant-loop-k l = (k : ℕ) → k < l.k → StartsBy l.cert (field_registers l.first) (start_rule k)
