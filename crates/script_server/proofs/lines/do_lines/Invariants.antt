use Rattle.std.proofs.Common.{map, take}
use Rattle.desk_script.specs.Views.{line_view}
use Rattle.script_runner.specs.Lines.{client_lines}
use Rattle.script_server.specs.Working.PassLines.{IsSamePass, PassDoesLines}
use Rattle.script_server.proofs.lines.do_lines.Given as goal

-- those of the lines so far are done that are the pass's own
abbrev pub invariant-loop-line : goal.invariant-loop-line
invariant-loop-line g l = IsSamePass l.fn.pass l.pass × PassDoesLines (client_lines l.fn.pass.number (map line_view (take l.line-index l.lines))) l.fn.pass l.pass
