use Rattle.std.proofs.Common.{◌≡◌, ℕ, Bool, IsTrue, sym, subst}
use Rattle.boot_program.specs.Faults.Rules.{IsThere, StartsBy, start_rule}
use Rattle.cairo_model.specs.Certificate.Acceptance.{cell_below}
use Rattle.cairo_model.specs.Certificate.Records.{CertRecord}
use Rattle.cairo_model.specs.Machine.Steps.{Registers}
use Rattle.cairo_model.specs.Views.Machine.{field_registers}
use Rattle.row_checker.proofs.frame.keeps_start_rule.Goals as goal

-- a rule by its number
at_number : (cert : CertRecord) (first : Registers ℕ) (b : Bool) (k n : ℕ) → k ≡ n → ((IsTrue b → StartsBy cert first (start_rule n)) × (StartsBy cert first (start_rule n) → IsTrue b))
    → (IsTrue b → StartsBy cert first (start_rule k)) × (StartsBy cert first (start_rule k) → IsTrue b)
at_number cert first b k n is decides = subst (λ (j : ℕ). (IsTrue b → StartsBy cert first (start_rule j)) × (StartsBy cert first (start_rule j) → IsTrue b)) (sym is) decides

pub returns-in-5 : goal.returns-in-5
returns-in-5 c =
    at_number c.args.cert.now (field_registers c.args.first.now) c.is_below.result c.args.k 5 c.in-5.is
    (subst (λ (r : CertRecord). (IsTrue c.is_below.result → IsThere (cell_below r.cells c.args.first.now.fp.number 2)) × (IsThere (cell_below r.cells c.args.first.now.fp.number 2) → IsTrue c.is_below.result)) c.cert.view_is c.is_below.ensures)

pub returns-in-6 : goal.returns-in-6
returns-in-6 c =
    at_number c.args.cert.now (field_registers c.args.first.now) c.is_below-in-6.result c.args.k 6 c.in-6.is
    (subst (λ (r : CertRecord). (IsTrue c.is_below-in-6.result → IsThere (cell_below r.cells c.args.first.now.fp.number 1)) × (IsThere (cell_below r.cells c.args.first.now.fp.number 1) → IsTrue c.is_below-in-6.result)) c.cert.view_is c.is_below-in-6.ensures)
