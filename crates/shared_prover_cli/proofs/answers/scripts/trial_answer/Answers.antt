use Rattle.std.proofs.Common.{◌∙◌}
use Rattle.shared_prover_cli.proofs.ScriptLemmas.{never_refused}
use Rattle.shared_prover_cli.proofs.answers.scripts.trial_answer.Goals as goal

-- what was made is a script, so that no line of it is refused
pub unreachable-requires : goal.unreachable-requires
unreachable-requires g c =
    never_refused c.made_script_is_script.ensures c.script_is_not_refused.ensures c.args.jobs c.as_slice.result.now c.in-Err-Refused.field-0-0 c.requires
    (c.as_slice.ensures.value ∙ c.in_ok-script.ensures)
    (c.ran.ensures.refused c.in-Err-Refused.field-0-0 (let same = c.in-Err-Refused.is in let is = c.in-Err-Refused.field-0-is in cc))
