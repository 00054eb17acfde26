use Rattle.std.proofs.Common.{ℕ, ◌+◌, ◌*◌, subst}
use Rattle.cairo_model.specs.Certificate.Records.{CertRecord}
use Rattle.cairo_model.specs.Machine.FieldMemories.{cell_at}
use Rattle.boot_program.specs.Faults.Causes.{IsRunCause}
use Rattle.boot_program.specs.Faults.Records.{at_hash, at_range}
use Rattle.boot_program.specs.Faults.Rules.{IsInSpan, RangeCellAt, WholeInstanceAt}
use Rattle.row_checker.proofs.Stages.{is_first, passes_on}
use Rattle.row_checker.proofs.checking.spans_fault.Goals as goal

pub returns-in-Some-clause-refused : goal.returns-in-Some-clause-refused
returns-in-Some-clause-refused c =
    is_first c.args.cert.now (at_range c.in-Some.index) (subst (λ (r : CertRecord). IsRunCause r (at_range c.in-Some.index)) c.cert.view_is c.in-Some.ensures.some) c.requires.passed

pub returns-in-Some-bad_instance-clause-refused : goal.returns-in-Some-bad_instance-clause-refused
returns-in-Some-bad_instance-clause-refused c =
    is_first c.args.cert.now (at_hash c.in-Some-bad_instance.index) (subst (λ (r : CertRecord). IsRunCause r (at_hash c.in-Some-bad_instance.index)) c.cert.view_is c.in-Some-bad_instance.ensures.some)
    (passes_on c.args.cert.now 4 c.requires.passed (subst (λ (r : CertRecord). (k : ℕ) → IsInSpan r.range k → RangeCellAt (cell_at r.cells) (r.range.start + k)) c.cert.view_is c.in_default.ensures.none))

pub returns-clause-kept : goal.returns-clause-kept
returns-clause-kept c = record { range = subst (λ (r : CertRecord). (k : ℕ) → IsInSpan r.range k → RangeCellAt (cell_at r.cells) (r.range.start + k)) c.cert.view_is c.in_default.ensures.none; hash = subst (λ (r : CertRecord). (k : ℕ) → IsInSpan r.hash (20 * k) → WholeInstanceAt (cell_at r.cells) r.hash.stop (r.hash.start + 20 * k)) c.cert.view_is c.in_default-bad_instance.ensures.none }

pub returns-clause-passes : goal.returns-clause-passes
returns-clause-passes c =
    passes_on c.args.cert.now 5 (passes_on c.args.cert.now 4 c.requires.passed (subst (λ (r : CertRecord). (k : ℕ) → IsInSpan r.range k → RangeCellAt (cell_at r.cells) (r.range.start + k)) c.cert.view_is c.in_default.ensures.none)) (subst (λ (r : CertRecord). (k : ℕ) → IsInSpan r.hash (20 * k) → WholeInstanceAt (cell_at r.cells) r.hash.stop (r.hash.start + 20 * k)) c.cert.view_is c.in_default-bad_instance.ensures.none)
