use Rattle.casm_text.proofs.Walks.{lists_statements}
use Rattle.casm_text.proofs.laws.listing_exists.Goals as goal
use Rattle.casm_text.specs.Working.Rendering.{statements_of}

pub returns : goal.returns
returns c = λ words felts. (statements_of words, lists_statements words felts)
