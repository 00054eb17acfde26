use Rattle.std.proofs.Common.{rules}
use Rattle.command_words.specs.Words.{Asks}
use Rattle.shared_prover_cli.specs.Commands.{IsPlainCommand}
use Rattle.shared_prover_cli.specs.Runs.{stream}
use Rattle.shared_prover_cli.proofs.Endings.{ends}
use Rattle.shared_prover_cli.proofs.run.run_plain.Goals as goal

-- the command was asked for, and is replied to
pub returns-in-Ok-Some : goal.returns-in-Ok-Some
returns-in-Ok-Some g c =
    let asked : Asks c.args.words.now c.in-Ok-Some.command = search rules in
    let own : IsPlainCommand c.in-Ok-Some.command = search rules in
    ends IsPlainCommand c.args.words.now
    (stream g.S.Source.left g.S.Source.faults c.args.source.now c.reply_to.new.source)
    (stream g.K.Sink.held g.K.Sink.faults c.args.sink.now c.ended.new.sink)
    c.in-Ok-Some.command own asked c.reply_to.result c.ended.result.status c.ended.result.desk c.reply_to.ensures c.ended.ensures
