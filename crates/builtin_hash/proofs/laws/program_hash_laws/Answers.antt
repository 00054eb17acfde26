use Rattle.builtin_hash.proofs.ProgramLemmas.{AreWords-program_hash_of, program_hash_of-header, words_in_text-hash_text}
use Rattle.builtin_hash.proofs.laws.program_hash_laws.Goals as goal

pub returns-clause-header : goal.returns-clause-header
returns-clause-header c = program_hash_of-header

pub returns-clause-words : goal.returns-clause-words
returns-clause-words c = AreWords-program_hash_of

pub returns-clause-text : goal.returns-clause-text
returns-clause-text c = words_in_text-hash_text
