-- The bytes of a file have one verdict.
use Rattle.std.proofs.Common.{◌≡◌, ℕ, List, sym, subst, ap, ◌∙◌}
use Rattle.cairo_model.specs.Pie.Acceptance.{AcceptedWith, CheckedRecord, FactRecord}
use Rattle.cairo_model.specs.Machine.Steps.{Registers}
use Rattle.cairo_model.specs.Pie.Files.{PieBytes}
use Rattle.cairo_model.specs.Pie.Records.{PieRecord}
use Rattle.cairo_model.specs.Refusals.ReadRefusals.{IsFirstReadCause, IsReadCause}
use Rattle.cairo_model.specs.Refusals.ReplayRefusals.{IsFirstReplayCause}
use Rattle.cairo_model.specs.Machine.Values.{Datum}
use Rattle.cairo_model.specs.Refusals.Verdicts.{IsVerdict, Verdict, admitted, no_file, not_alone}
use Rattle.cairo_model.specs.declared.read_refusal.ReadRefusal.{ReadRefusal}
use Rattle.cairo_model.proofs.RunLaws.{one_acceptance}
use Rattle.pie_replay.proofs.Causes.{no_cause, one_first_replay_cause}

-- one PIE has one record of what was found
same_found : (a b : CheckedRecord) → a.pie ≡ b.pie → AcceptedWith a.pie a.fact a.states → AcceptedWith b.pie b.fact b.states → a ≡ b
same_found a b same accepted other =
    let moved = subst (λ (p : PieRecord). AcceptedWith p b.fact b.states) (sym same) other in
    let both = one_acceptance a.pie a.fact b.fact a.states b.states accepted moved in
    ap (λ (p : PieRecord). let c : CheckedRecord = record { pie = p; fact = a.fact; states = a.states } in c) same
    ∙ ap (λ (f : FactRecord). let c : CheckedRecord = record { pie = b.pie; fact = f; states = a.states } in c) both.0
    ∙ ap (λ (s : List (Registers Datum)). let c : CheckedRecord = record { pie = b.pie; fact = b.fact; states = s } in c) both.1

module _ (one_pie : (bytes : List ℕ) (p q : PieRecord) → PieBytes bytes p → PieBytes bytes q → p ≡ q)
    (no_read_cause : (bytes : List ℕ) (pie : PieRecord) (r : ReadRefusal) → PieBytes bytes pie → ¬ IsReadCause bytes r)
    (one_read_cause : (bytes : List ℕ) (r s : ReadRefusal) → IsFirstReadCause bytes r → IsFirstReadCause bytes s → r ≡ s) where
  pub one_verdict : (bytes : List ℕ) (v w : Verdict) → IsVerdict bytes v → IsVerdict bytes w → v ≡ w
  one_verdict bytes (no_file r) (no_file s) x y = ap no_file (one_read_cause bytes r s x y)
  one_verdict bytes (no_file r) (not_alone d) x y = absurd (no_read_cause bytes y.0 r y.1.0 x.applies)
  one_verdict bytes (no_file r) (admitted b) x y = absurd (no_read_cause bytes b.pie r y.0 x.applies)
  one_verdict bytes (not_alone c) (no_file s) x y = absurd (no_read_cause bytes x.0 s x.1.0 y.applies)
  one_verdict bytes (not_alone c) (not_alone d) x y =
      let same = one_pie bytes y.0 x.0 y.1.0 x.1.0 in
      ap not_alone (one_first_replay_cause x.0 c d x.1.1 (subst (λ (p : PieRecord). IsFirstReplayCause p d) same y.1.1))
  one_verdict bytes (not_alone c) (admitted b) x y =
      let same = one_pie bytes x.0 b.pie x.1.0 y.0 in
      absurd (no_cause b.pie b.fact b.states y.1 c (subst (λ (p : PieRecord). IsFirstReplayCause p c) same x.1.1).applies)
  one_verdict bytes (admitted a) (no_file s) x y = absurd (no_read_cause bytes a.pie s x.0 y.applies)
  one_verdict bytes (admitted a) (not_alone d) x y =
      let same = one_pie bytes y.0 a.pie y.1.0 x.0 in
      absurd (no_cause a.pie a.fact a.states x.1 d (subst (λ (p : PieRecord). IsFirstReplayCause p d) same y.1.1).applies)
  one_verdict bytes (admitted a) (admitted b) x y = ap admitted (same_found a b (one_pie bytes a.pie b.pie x.0 y.0) x.1 y.1)
