-- The rules of the start and of the end, at the first and the last state.
use Rattle.std.proofs.Common.{ℕ, ◌-◌, length, Option, Some, None, IfNone, IfSome, subst}
use Rattle.cairo_model.specs.Certificate.Records.{CertRecord}
use Rattle.cairo_model.specs.Machine.Runs.{IsState}
use Rattle.cairo_model.specs.Machine.Steps.{Registers}
use Rattle.cairo_model.specs.Refusals.FirstFailing.{IsFirstFailing}
use Rattle.cairo_model.proofs.RunParts.{one_state}
use Rattle.boot_program.specs.Faults.Rules.{EndsBy, HasEnds, IsEndRule, IsStartRule, KeepsEndRule, KeepsStartRule, StartsBy, end_rule, start_rule}

pub if_none : {X : Type 0} (A B : Type 0) (o : Option X) → (A → B) → IfNone o A → IfNone o B
if_none A B None f h = f h
if_none A B (Some x) f h = h

pub if_some : {X : Type 0} (P Q : X → Type 0) (o : Option X) → ((x : X) → P x → Q x) → IfSome o P → IfSome o Q
if_some P Q None f h = h
if_some P Q (Some x) f h = f x h

module _ (cert : CertRecord) (first : Registers ℕ) (is_first : IsState cert.states 0 first) where
  abbrev Starts : ℕ → Type 0
  Starts k = StartsBy cert first (start_rule k)

  starts_at : (k : ℕ) → KeepsStartRule cert k → Starts k
  starts_at k kept = subst (λ (s : Registers ℕ). StartsBy cert s (start_rule k)) (one_state cert.states 0 kept.0 first kept.1.0 is_first) kept.1.1

  start_fails : (i : ℕ) → IsFirstFailing IsStartRule Starts i → IsFirstFailing IsStartRule (KeepsStartRule cert) i
  start_fails i failing = record {
    inside = failing.inside;
    fails = λ kept. failing.fails (starts_at i kept);
    before = λ k lt. (first, (is_first, failing.before k lt));
  }

  pub start_kept : (o : Option ℕ) → IfNone o ((k : ℕ) → IsStartRule k → Starts k) → IfNone o ((k : ℕ) → IsStartRule k → KeepsStartRule cert k)
  start_kept o = if_none ((k : ℕ) → IsStartRule k → Starts k) ((k : ℕ) → IsStartRule k → KeepsStartRule cert k) o (λ each k few. (first, (is_first, each k few)))

  pub start_broken : (o : Option ℕ) → IfSome o (IsFirstFailing IsStartRule Starts) → IfSome o (IsFirstFailing IsStartRule (KeepsStartRule cert))
  start_broken o = if_some (IsFirstFailing IsStartRule Starts) (IsFirstFailing IsStartRule (KeepsStartRule cert)) o start_fails

  module _ (last : Registers ℕ) (is_last : IsState cert.states (length cert.states - 1) last) where
    abbrev Ends : ℕ → Type 0
    Ends k = EndsBy cert first last (end_rule k)

    ends : HasEnds cert first last
    ends = record { is_first = is_first; is_last = is_last }

    ends_at : (k : ℕ) → KeepsEndRule cert k → Ends k
    ends_at k kept =
        subst (λ (s : Registers ℕ). EndsBy cert first s (end_rule k)) (one_state cert.states (length cert.states - 1) kept.1.0 last kept.1.1.0.is_last is_last)
        (subst (λ (s : Registers ℕ). EndsBy cert s kept.1.0 (end_rule k)) (one_state cert.states 0 kept.0 first kept.1.1.0.is_first is_first) kept.1.1.1)

    end_fails : (i : ℕ) → IsFirstFailing IsEndRule Ends i → IsFirstFailing IsEndRule (KeepsEndRule cert) i
    end_fails i failing = record {
      inside = failing.inside;
      fails = λ kept. failing.fails (ends_at i kept);
      before = λ k lt. (first, (last, (ends, failing.before k lt)));
    }

    pub end_kept : (o : Option ℕ) → IfNone o ((k : ℕ) → IsEndRule k → Ends k) → IfNone o ((k : ℕ) → IsEndRule k → KeepsEndRule cert k)
    end_kept o = if_none ((k : ℕ) → IsEndRule k → Ends k) ((k : ℕ) → IsEndRule k → KeepsEndRule cert k) o (λ each k few. (first, (last, (ends, each k few))))

    pub end_broken : (o : Option ℕ) → IfSome o (IsFirstFailing IsEndRule Ends) → IfSome o (IsFirstFailing IsEndRule (KeepsEndRule cert))
    end_broken o = if_some (IsFirstFailing IsEndRule Ends) (IsFirstFailing IsEndRule (KeepsEndRule cert)) o end_fails
