use Rattle.std.proofs.Common.{rules}
use Rattle.command_words.specs.Words.{Asks}
use Rattle.command_words.specs.declared.command.Command.TheVariants as commands
use Rattle.shared_prover_cli.specs.Commands.{IsServeCommand}
use Rattle.shared_prover_cli.specs.Runs.{stream}
use Rattle.shared_prover_cli.proofs.Endings.{ends}
use Rattle.shared_prover_cli.proofs.run.run_serve.Goals as goal

-- it was asked to serve, and that is replied to
pub returns-in-Ok-Some-Serve : goal.returns-in-Ok-Some-Serve
returns-in-Ok-Some-Serve g c =
    let asked : Asks c.args.words.now (commands.Serve c.in-Ok-Some-Serve.clients c.in-Ok-Some-Serve.workers) = search rules in
    ends IsServeCommand c.args.words.now
    (stream g.S.Source.left g.S.Source.faults c.args.source.now c.serve_reply-replied.new.source)
    (stream g.K.Sink.held g.K.Sink.faults c.args.sink.now c.ended.new.sink)
    (commands.Serve c.in-Ok-Some-Serve.clients c.in-Ok-Some-Serve.workers) tt asked
    c.serve_reply-replied.result c.ended.result.status c.ended.result.desk c.serve_reply-replied.ensures c.ended.ensures
