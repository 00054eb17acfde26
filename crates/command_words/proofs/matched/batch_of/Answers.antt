use Rattle.clap.specs.Matches.{found_of}
use Rattle.clap.specs.Walk.{rows_of}
use Rattle.command_words.proofs.Asked.{no_batch}
use Rattle.command_words.proofs.matched.batch_of.Goals as goal

pub returns-in_default : goal.returns-in_default
returns-in_default c = record { some = tt; none = no_batch (rows_of (found_of c.args.matches.now)) c.in_default.ensures.none }
