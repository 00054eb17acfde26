use Rattle.std.proofs.Common.{◌≡◌, ◌++◌, map, take}
use Rattle.cairo_model.specs.Machine.Values.{number}
use Rattle.cairo_model.specs.Views.Machine.{datum}
use Rattle.work_maker.proofs.rows.put_numbers.Given as goal

abbrev pub invariant-loop-index : goal.invariant-loop-index
invariant-loop-index l = map datum l.values.items ≡ map datum l.fn.values.items ++ map number (take l.index l.numbers)
