use Rattle.std.proofs.Common.{map, take}
use Rattle.desk_script.specs.Views.{line_view}
use Rattle.script_runner.specs.Working.Doing.{DidLines}
use Rattle.script_runner.proofs.doing.do_lines.Given as goal

-- the lines so far are done
abbrev pub invariant-loop-line : goal.invariant-loop-line
invariant-loop-line g l = DidLines l.fn.desk.clients (map line_view (take l.line-index l.lines)) l.desk
