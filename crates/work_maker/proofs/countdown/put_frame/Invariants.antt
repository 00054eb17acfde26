use Rattle.std.proofs.Common.{◌≡◌, ◌++◌, map, take}
use Rattle.cairo_model.specs.Views.Machine.{datum}
use Rattle.work_maker.specs.Down.{frame_starts}
use Rattle.work_maker.proofs.countdown.put_frame.Given as goal

abbrev pub invariant-loop-index : goal.invariant-loop-index
invariant-loop-index l = map datum l.stack.items ≡ map datum l.fn.stack.items ++ take l.index frame_starts
