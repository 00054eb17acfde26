use Rattle.casm_text.proofs.Recognizing.{given_word}
use Rattle.casm_text.proofs.recognition.is_given.Goals as goal
use Rattle.casm_text.specs.Working.PlainViews.{one_number, listed_statement}
use Rattle.std.proofs.Common.{sym, ◌∙◌}

pub returns-then-has_word : goal.returns-then-has_word
returns-then-has_word c =
    c.begins_with.ensures
    ∙ given_word (listed_statement c.args.statement.now) c.args.word c.args.words.now (one_number c.number.result) (sym c.has_word.ensures ∙ c.if-has_word.true) c.number.ensures
