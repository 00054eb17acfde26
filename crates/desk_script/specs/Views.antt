-- The code's lines as plain data.
use Rattle.desk_script.specs.Lines.{ScriptLine, submits, asks, asks_status, settles}
use Rattle.desk_script.specs.declared.line.Line.{Line}
use Rattle.desk_script.specs.declared.line.Line.TheVariants as line

abbrev pub line_view : Line → ScriptLine
line_view (line.Submit client bytes) = submits client bytes.items
line_view (line.Ask client fact) = asks client fact
line_view (line.Status client number) = asks_status client number
line_view (line.Settle client) = settles client
