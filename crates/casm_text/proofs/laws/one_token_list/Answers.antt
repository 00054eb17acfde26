use Rattle.casm_text.proofs.LongestTokens as lemmas
use Rattle.casm_text.proofs.laws.one_token_list.Goals as goal
use Rattle.casm_text.specs.Working.Tokenizing.{tokens_after}
use Rattle.std.proofs.Common.{[]}

pub returns-clause-found : goal.returns-clause-found
returns-clause-found c = λ bytes. (tokens_after [] bytes, lemmas.found_tokens bytes)

pub returns-clause-only : goal.returns-clause-only
returns-clause-only c = lemmas.one_token_list
