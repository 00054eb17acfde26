use Rattle.std.proofs.Common.{◌≡◌, Some, sym, ◌∙◌}
use Rattle.clap.proofs.WalkLemmas.{first_value-rows}
use Rattle.clap.specs.Matches.{found_of}
use Rattle.clap.specs.Walk.{first_of, rows_of}
use Rattle.command_words.proofs.Numbers.{asked_number, no_value, number_absent, number_found}
use Rattle.command_words.proofs.matched.number_at.Goals as goal

-- there is no value
pub returns-in_default-clause-none : goal.returns-in_default-clause-none
returns-in_default-clause-none c = λ number.
    no_value (rows_of (found_of c.args.matches.now)) (asked_number c.args.id.now c.args.least c.args.most number)
    (sym (c.in_default.ensures ∙ first_value-rows (found_of c.args.matches.now) c.args.id.now))

-- the value is the word
pub returns-clause-found : goal.returns-clause-found
returns-clause-found c =
    let is : first_of c.args.id.now (rows_of (found_of c.args.matches.now)) ≡ Some c.in-Some.word.now =
    sym (c.in-Some.ensures ∙ first_value-rows (found_of c.args.matches.now) c.args.id.now) in
    number_found (rows_of (found_of c.args.matches.now)) c.args.id.now c.in-Some.word.now c.args.least c.args.most is c.number_in.result c.number_in.ensures.found

pub returns-clause-none : goal.returns-clause-none
returns-clause-none c =
    let is : first_of c.args.id.now (rows_of (found_of c.args.matches.now)) ≡ Some c.in-Some.word.now =
    sym (c.in-Some.ensures ∙ first_value-rows (found_of c.args.matches.now) c.args.id.now) in
    number_absent (rows_of (found_of c.args.matches.now)) c.args.id.now c.in-Some.word.now c.args.least c.args.most is c.number_in.result c.number_in.ensures.none
