use Rattle.builtin_hash.proofs.ChainLemmas.{AreWords-chain_of, AreWords-words_after, chain_from-append, chain_from-longer, chain_start-same, words_after-all, words_after-more}
use Rattle.builtin_hash.proofs.laws.chain_laws.Goals as goal

pub returns-clause-start : goal.returns-clause-start
returns-clause-start c = chain_start-same

pub returns-clause-next : goal.returns-clause-next
returns-clause-next c = words_after-more

pub returns-clause-last : goal.returns-clause-last
returns-clause-last c = words_after-all

pub returns-clause-append : goal.returns-clause-append
returns-clause-append c = chain_from-append

pub returns-clause-longer : goal.returns-clause-longer
returns-clause-longer c = chain_from-longer

pub returns-clause-words : goal.returns-clause-words
returns-clause-words c = AreWords-chain_of

pub returns-clause-words_so_far : goal.returns-clause-words_so_far
returns-clause-words_so_far c = AreWords-words_after
