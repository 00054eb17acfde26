-- What was read of the first texts, one by one, is what was read ahead.
use denote.Ref.{Bor}
use Rattle.std.proofs.Common.{◌≡◌, ℕ, List, [], ◌∷◌, ◌++◌, map, Result, sym, subst}
use Rattle.std.specs.List.{AllZip}
use Rattle.cairo_model.specs.Working.Answers.{Gives}
use Rattle.cairo_model.specs.declared.end.End.{End}
use Rattle.desk_script.specs.Lines.{line_fields}
use Rattle.desk_script.specs.Scripts.{pieces_of}
use Rattle.desk_script.specs.Views.{line_view}
use Rattle.desk_script.specs.Working.Ahead.{AreAhead}
use Rattle.desk_script.specs.Working.Reading.{read_line}
use Rattle.desk_script.specs.declared.kinds.ScriptKind.{ScriptKind}
use Rattle.desk_script.specs.declared.line.Line.{Line}

abbrev pub AreAnswers : ℕ → List (Bor (List ℕ)) → List (Result Line (End ScriptKind)) → Type 0
AreAnswers clients texts answers = AllZip (λ text answer. Gives line_view answer (read_line clients (line_fields text.now))) texts answers

in_front : (clients : ℕ) (texts : List (Bor (List ℕ))) (answers : List (Result Line (End ScriptKind))) (more : List (List ℕ)) → AreAnswers clients texts answers → AreAhead clients answers (map (λ t. t.now) texts ++ more)
in_front clients [] [] more are = tt
in_front clients [] (answer ∷ answers) more are = absurd are
in_front clients (text ∷ texts) [] more are = tt
in_front clients (text ∷ texts) (answer ∷ answers) more are = (are.0, in_front clients texts answers more are.1)

pub read_ahead_of : (clients : ℕ) (bytes : List ℕ) (texts : List (Bor (List ℕ))) (answers : List (Result Line (End ScriptKind))) → ((more : List (List ℕ)) × (pieces_of bytes ≡ map (λ t. t.now) texts ++ more)) → AreAnswers clients texts answers
    → AreAhead clients answers (pieces_of bytes)
read_ahead_of clients bytes texts answers first are = subst (AreAhead clients answers) (sym first.1) (in_front clients texts answers first.0 are)
