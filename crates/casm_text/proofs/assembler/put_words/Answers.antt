use Rattle.casm_text.proofs.ResolvedWords.{adds_words}
use Rattle.casm_text.proofs.assembler.put_words.Goals as goal
use Rattle.casm_text.specs.Working.PlainViews.{listed_statement}
use Rattle.std.proofs.Common.{ℕ, [], ◌∷◌, ◌++◌, ap, sym, ◌∙◌, append-nil}

pub returns-in_ok-push : goal.returns-in_ok-push
returns-in_ok-push c =
    adds_words (listed_statement c.args.statement.now) (c.in-Some.number.number ∷ []) c.args.words.now.items c.put_instruction.new.words.items c.push.new.self.items c.in_ok-put_instruction.ensures c.in-Some.ensures
    (c.in_ok-push.ensures.items ∙ ap (λ (n : ℕ). c.put_instruction.new.words.items ++ (n ∷ [])) c.value.ensures)

pub returns-in_default : goal.returns-in_default
returns-in_default c =
    adds_words (listed_statement c.args.statement.now) [] c.args.words.now.items c.put_instruction.new.words.items c.put_instruction.new.words.items c.in_ok-put_instruction.ensures c.in_default.ensures
    (sym (append-nil c.put_instruction.new.words.items))
