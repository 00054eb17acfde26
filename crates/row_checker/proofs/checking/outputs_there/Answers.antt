use Rattle.std.proofs.Common.{◌≡◌, ℕ, ◌+◌, None, refl, rules, subst}
use Rattle.cairo_model.specs.Certificate.Records.{CertRecord}
use Rattle.cairo_model.specs.Machine.FieldMemories.{cell_at}
use Rattle.cairo_model.specs.Refusals.FirstFailing.{IsFirstFailing}
use Rattle.boot_program.specs.Faults.Causes.{IsFirstRunFault}
use Rattle.boot_program.specs.Faults.Records.{at_output, fault_cause}
use Rattle.boot_program.specs.Faults.Rules.{IsInSpan, IsThere}
use Rattle.boot_program.specs.declared.run_fault.RunFault.{RunFault}
use Rattle.boot_program.specs.declared.run_fault.RunFault.TheVariants.{Output}
use Rattle.row_checker.proofs.Accepted.{accepts_run}
use Rattle.row_checker.proofs.Stages.{is_first}
use Rattle.row_checker.proofs.checking.outputs_there.Goals as goal

pub returns-in-Some-clause-refused : goal.returns-in-Some-clause-refused
returns-in-Some-clause-refused c = λ e same.
    let cert = c.args.cert.now in
    let i = c.in-Some.index in
    let failing : IsFirstFailing (IsInSpan c.args.cert.now.output) (λ k. IsThere (cell_at c.args.cert.now.cells (c.args.cert.now.output.start + k))) c.in-Some.index =
    subst (λ (r : CertRecord). IsFirstFailing (IsInSpan r.output) (λ k. IsThere (cell_at r.cells (r.output.start + k))) c.in-Some.index) c.cert.view_is c.in-Some.ensures.some in
    let is : Output c.in-Some.index None None ≡ e = search rules in
    subst (λ (f : RunFault). IsFirstRunFault cert (fault_cause f)) is (is_first cert (at_output i None None) (failing, (refl, refl)) c.requires.passed)

pub returns-in-None-clause-accepted : goal.returns-in-None-clause-accepted
returns-in-None-clause-accepted c =
    accepts_run c.args.cert.now c.requires.kept
    (subst (λ (r : CertRecord). (k : ℕ) → IsInSpan r.output k → IsThere (cell_at r.cells (r.output.start + k))) c.cert.view_is c.in-None.ensures.none)
