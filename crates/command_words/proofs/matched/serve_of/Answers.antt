use Rattle.clap.specs.Matches.{found_of}
use Rattle.clap.specs.Walk.{rows_of}
use Rattle.command_words.proofs.Asked.{no_serve_workers, no_serve_clients}
use Rattle.command_words.proofs.matched.serve_of.Goals as goal

pub returns-in_default : goal.returns-in_default
returns-in_default c = record { some = tt; none = no_serve_clients (rows_of (found_of c.args.matches.now)) c.in_default.ensures.none }

pub returns-in_default-number_at : goal.returns-in_default-number_at
returns-in_default-number_at c = record { some = tt; none = no_serve_workers (rows_of (found_of c.args.matches.now)) c.in_default-number_at.ensures.none }
