-- What was read of a script's lines before they are gone over in order.
use Rattle.std.specs.Prelude.{ℕ, List, [], ◌∷◌, Result}
use Rattle.cairo_model.specs.Working.Answers.{Gives}
use Rattle.cairo_model.specs.declared.end.End.{End}
use Rattle.desk_script.specs.Lines.{line_fields}
use Rattle.desk_script.specs.Views.{line_view}
use Rattle.desk_script.specs.Working.Reading.{read_line}
use Rattle.desk_script.specs.declared.kinds.ScriptKind.{ScriptKind}
use Rattle.desk_script.specs.declared.line.Line.{Line}

-- the answers are those to the first of the texts, in order
abbrev pub AreAhead : ℕ → List (Result Line (End ScriptKind)) → List (List ℕ) → Type 0
AreAhead clients [] texts = Unit {0}
AreAhead clients (answer ∷ answers) [] = ⊥
AreAhead clients (answer ∷ answers) (text ∷ texts) = Gives line_view answer (read_line clients (line_fields text)) × AreAhead clients answers texts
