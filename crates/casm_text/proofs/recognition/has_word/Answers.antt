use Rattle.casm_text.proofs.Recognizing as lemmas
use Rattle.casm_text.proofs.recognition.has_word.Goals as goal
use Rattle.casm_text.specs.Working.Rendering.{is_word_of}
use Rattle.cairo_word.specs.Instructions.{fields}
use Rattle.cairo_word.specs.Word.{Fields}
use Rattle.std.proofs.Common.{Option, ap, ◌∙◌}

pub returns-in-Some : goal.returns-in-Some
returns-in-Some c =
    lemmas.has_word (fields c.in-Some.instruction) c.encode.result c.args.word (record { sound = c.encode.ensures.sound; value = c.encode.ensures.value; only = c.encode.ensures.only })
    ∙ ap (λ (o : Option Fields). is_word_of o c.args.word) c.in-Some.ensures
