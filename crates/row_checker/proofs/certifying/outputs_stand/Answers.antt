use Rattle.std.proofs.Common.{ℕ, List, map, ap, subst, ◌∙◌}
use Rattle.boot_program.specs.Faults.Causes.{IsOutputIndex, PrintsAt}
use Rattle.row_checker.proofs.Stages.{batch_passes_on}
use Rattle.row_checker.proofs.certifying.outputs_stand.Goals as goal

pub returns-clause-prints : goal.returns-clause-prints
returns-clause-prints c =
    subst (λ (numbers : List ℕ). (k : ℕ) → IsOutputIndex c.args.cert.now numbers k → PrintsAt c.args.cert.now numbers k)
    (ap (map (λ f. f.number)) c.as_slice-wanted.ensures.value ∙ c.in_ok-numbers.ensures) c.in-None.ensures.none

pub returns-clause-passes : goal.returns-clause-passes
returns-clause-passes c =
    batch_passes_on c.args.cert.now c.args.tasks.now 7 c.requires.passed
    (subst (λ (numbers : List ℕ). (k : ℕ) → IsOutputIndex c.args.cert.now numbers k → PrintsAt c.args.cert.now numbers k)
    (ap (map (λ f. f.number)) c.as_slice-wanted.ensures.value ∙ c.in_ok-numbers.ensures) c.in-None.ensures.none)
