use Rattle.clap.specs.Matches.{found_of}
use Rattle.clap.specs.Walk.{rows_of}
use Rattle.command_words.proofs.Asked.{no_trial}
use Rattle.command_words.proofs.matched.trial_of.Goals as goal

pub returns-in_default : goal.returns-in_default
returns-in_default c = record { some = tt; none = no_trial (rows_of (found_of c.args.matches.now)) c.in_default.ensures.none }
