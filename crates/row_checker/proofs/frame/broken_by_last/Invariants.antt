use Rattle.std.proofs.Common.{ℕ, ◌<◌}
use Rattle.boot_program.specs.Faults.Rules.{EndsBy, end_rule}
use Rattle.cairo_model.specs.Views.Machine.{field_registers}
use Rattle.row_checker.proofs.frame.broken_by_last.Given as goal

abbrev pub invariant-loop-k : goal.invariant-loop-k
invariant-loop-k l = (k : ℕ) → k < l.k → EndsBy l.cert (field_registers l.first) (field_registers l.last) (end_rule k)
