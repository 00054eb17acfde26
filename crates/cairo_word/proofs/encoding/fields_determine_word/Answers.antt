use Rattle.cairo_word.proofs.Spelling.{same_word}
use Rattle.cairo_word.proofs.encoding.fields_determine_word.Goals as goal

pub returns : goal.returns
returns c = same_word
