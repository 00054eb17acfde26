-- An input of `run` has one outcome.
use Rattle.std.proofs.Common.{◌≡◌, ℕ, List, Result, inl, inr, sym, ap, subst, ◌∙◌, arith}
use Rattle.std.proofs.lemmas.Str.{utf8_valid_len-IsUtf8, utf8_valid_len-IsValidUpTo}
use Rattle.std.specs.Str.{IsUtf8}
use Rattle.cairo_model.specs.Limits.{most_steps}
use Rattle.cairo_model.specs.Pie.Records.{PieRecord}
use Rattle.casm_text.specs.Refusals.{Assembles, IsAsmCause, IsFirstAsmCause}
use Rattle.casm_text.specs.declared.refusal.AsmRefusal.{AsmRefusal}
use Rattle.casm_text.specs.declared.refusal.AsmRefusal.TheVariants.{Syntax}
use Rattle.seg_runner.specs.Answers.{IsRunAnswer}
use Rattle.seg_runner.specs.Refusals.{RunCause}
use Rattle.shared_prover_cli.specs.Answers.Run.{IsNoText, IsOutcomeOf, TextOutcome, TextRunsTo, line_of_byte, no_code, ran}

abbrev pub OneAsmCause : Type 0
OneAsmCause = (text : List ℕ) (c d : AsmRefusal) → IsFirstAsmCause text c → IsFirstAsmCause text d → c ≡ d

abbrev pub OneAssembly : Type 0
OneAssembly = (text words others : List ℕ) (main entry : ℕ) → Assembles text words main → Assembles text others entry → (words ≡ others) × (main ≡ entry)

abbrev pub AssemblesWithoutCause : Type 0
AssemblesWithoutCause = (text words : List ℕ) (main : ℕ) (cause : AsmRefusal) → Assembles text words main → ¬ IsAsmCause text cause

abbrev pub OneRunAnswer : Type 0
OneRunAnswer = (words : List ℕ) (main limit : ℕ) (a b : Result PieRecord RunCause) → IsRunAnswer words main limit a → IsRunAnswer words main limit b → a ≡ b

-- bytes whose longest front that is UTF-8 is shorter than they are aren't UTF-8
no_text : (bytes : List ℕ) (n : ℕ) → IsNoText bytes n → ¬ IsUtf8 bytes
no_text bytes n p = λ is_text. omega (arith, p.1.0.short, utf8_valid_len-IsUtf8 bytes is_text, utf8_valid_len-IsValidUpTo bytes p.0 p.1.0)

one_bad_line : (bytes : List ℕ) (n m : ℕ) → IsNoText bytes n → IsNoText bytes m → n ≡ m
one_bad_line bytes n m p q =
    let same : p.0 ≡ q.0 = sym (utf8_valid_len-IsValidUpTo bytes p.0 p.1.0) ∙ utf8_valid_len-IsValidUpTo bytes q.0 q.1.0 in
    p.1.1 ∙ ap (line_of_byte bytes) same ∙ sym q.1.1

module _ (one_cause : OneAsmCause) (one_assembly : OneAssembly) (without_cause : AssemblesWithoutCause) (one_run : OneRunAnswer) where
  one_refusal : (bytes : List ℕ) (r s : AsmRefusal) → IsOutcomeOf bytes (no_code r) → IsOutcomeOf bytes (no_code s) → r ≡ s
  one_refusal bytes r s (inl p) (inl q) = one_cause bytes r s p.1 q.1
  one_refusal bytes r s (inl p) (inr q) = absurd (no_text bytes q.0 q.1.0 p.0)
  one_refusal bytes r s (inr p) (inl q) = absurd (no_text bytes p.0 p.1.0 q.0)
  one_refusal bytes r s (inr p) (inr q) = p.1.1 ∙ ap Syntax (one_bad_line bytes p.0 q.0 p.1.0 q.1.0) ∙ sym q.1.1

  -- what has a code isn't refused for want of one
  not_both : (bytes : List ℕ) (r : AsmRefusal) (outcome : Result PieRecord RunCause) → IsOutcomeOf bytes (no_code r) → IsOutcomeOf bytes (ran outcome) → ⊥
  not_both bytes r outcome (inl p) q = without_cause bytes q.1.words q.1.main r q.1.has_code p.1.applies
  not_both bytes r outcome (inr p) q = no_text bytes p.0 p.1.0 q.0

  one_text_run : (bytes : List ℕ) (a b : Result PieRecord RunCause) → TextRunsTo bytes a → TextRunsTo bytes b → a ≡ b
  one_text_run bytes a b p q =
      let same = one_assembly bytes p.words q.words p.main q.main p.has_code q.has_code in
      let these : IsRunAnswer q.words p.main most_steps a = subst (λ (words : List ℕ). IsRunAnswer words p.main most_steps a) same.0 p.runs in
      let moved : IsRunAnswer q.words q.main most_steps a = subst (λ (main : ℕ). IsRunAnswer q.words main most_steps a) same.1 these in
      one_run q.words q.main most_steps a b moved q.runs

  pub one_outcome : (bytes : List ℕ) (a b : TextOutcome) → IsOutcomeOf bytes a → IsOutcomeOf bytes b → a ≡ b
  one_outcome bytes (no_code r) (no_code s) p q = ap no_code (one_refusal bytes r s p q)
  one_outcome bytes (no_code r) (ran b) p q = absurd (not_both bytes r b p q)
  one_outcome bytes (ran a) (no_code s) p q = absurd (not_both bytes s a q p)
  one_outcome bytes (ran a) (ran b) p q = ap ran (one_text_run bytes a b p.1 q.1)
