use Rattle.std.proofs.Common.{refl, rules}
use Rattle.shared_prover_cli.proofs.ScriptLemmas.{got_certified, got_few, got_file}
use Rattle.shared_prover_cli.proofs.answers.scripts.batch_reply.Goals as goal

-- there is such a batch
pub certificate_file-requires : goal.certificate_file-requires
certificate_file-requires c = record {
  kept = got_certified c.batches-batches.result.now c.args.desk.now.batches c.args.number c.in-Some.batch.now c.batches-batches.ensures c.in-Some.ensures.lookup.3.0 c.in-Some.ensures.lookup.1 c.requires.kept;
}

pub returns-in_ok-certificate_file-in-Some : goal.returns-in_ok-certificate_file-in-Some
returns-in_ok-certificate_file-in-Some c =
    got_file c.batches-batches.result.now c.args.desk.now.batches c.args.number c.in-Some.batch.now _ c.batches-batches.ensures c.in-Some.ensures.lookup.3.0 c.in-Some.ensures.lookup.1 c.in_ok-certificate_file-in-Some.ensures refl

-- there is none
pub returns-in_ok-few_batches_line-in-None : goal.returns-in_ok-few_batches_line-in-None
returns-in_ok-few_batches_line-in-None c =
    got_few c.batches-batches.result.now c.args.desk.now.batches c.args.number _ c.batches-batches.ensures c.in-None.ensures.lookup.3 refl c.in_ok-few_batches_line-in-None.ensures
