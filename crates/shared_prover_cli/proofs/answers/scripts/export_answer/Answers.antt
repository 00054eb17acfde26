use Rattle.shared_prover_cli.proofs.ScriptLemmas.{ran_certified}
use Rattle.shared_prover_cli.proofs.answers.scripts.export_answer.Goals as goal

-- each batch keeps a certificate, since each job is in a registered one
pub batch_reply-requires : goal.batch_reply-requires
batch_reply-requires g c = record { kept = ran_certified c.args.clients c.args.input.now c.in-Ok.desk c.in-Ok.ensures.ran }
