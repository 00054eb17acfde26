-- Relocation carries steps and runs over values to the field.
use Rattle.std.proofs.Common.{◌≡◌, ℕ, List, [], ◌∷◌, map, length, Option, Some, refl, sym, ap, ◌∙◌}
use Rattle.cairo_model.specs.Machine.Values.{Datum, number, place, number_in}
use Rattle.cairo_model.specs.Machine.Steps.{Registers, field_arithmetic, value_arithmetic, Run, RunFrom, RunsTo, last_of}
use Rattle.cairo_model.proofs.Inversion.{moves, moved_so, field_exact, value_exact}
use Rattle.cairo_model.specs.Pie.Relocation.{HasRelocated}
use Rattle.cairo_model.specs.Pie.Staying.{AllValuesIn}
use Rattle.relocator.specs.Relocations.{KeepsArithmetic, KeepsSteps}
use Rattle.cairo_model.specs.Pie.Layouts.{AreInBounds, relocated, relocated_state}
use Rattle.cairo_model.specs.Pie.Records.{IsValueIn}
use Rattle.relocator.proofs.Carrying.{Carries, step_carried}

number_is : (bases : List ℕ) (a : Datum) (n : ℕ) → number_in a ≡ Some n → ◌≡◌ {A = Option ℕ} (Some (relocated bases a)) (Some n)
number_is bases (number a) n e = e
number_is bases (place s o) n e = absurd (cc)

module _ (arithmetic : (bases : List ℕ) → KeepsArithmetic bases) (bases : List ℕ) (are : AreInBounds bases) where
  carries : Carries value_arithmetic field_arithmetic (relocated bases) (IsValueIn (length bases))
  carries = record {
    sums = λ a b c e. ap (λ (x : ℕ). Some x) (sym ((arithmetic bases).sums a b c e));
    products = λ a b c e. ap (λ (x : ℕ). Some x) (sym ((arithmetic bases).products a b c e));
    numerals = λ n. refl;
    reads = number_is bases;
    zeros = (arithmetic bases).zeros are;
  }

  pub keeps : KeepsSteps bases
  keeps m field placed contained s t step =
      moved_so field_arithmetic field_exact field (relocated_state bases s) (relocated_state bases t)
      (step_carried value_arithmetic field_arithmetic (relocated bases) (IsValueIn (length bases)) carries m field contained placed s t
      (moves value_arithmetic value_exact m s t step))

  module _ (m : Datum → Option Datum) (field : ℕ → Option ℕ) (placed : AllValuesIn (length bases) m) (contained : HasRelocated bases m field) where
    run_from : (s : Registers Datum) (ss : List (Registers Datum)) → RunFrom value_arithmetic m s ss → RunFrom field_arithmetic field (relocated_state bases s) (map (relocated_state bases) ss)
    run_from s [] run = tt
    run_from s (t ∷ ts) run = (keeps m field placed contained s t run.0, run_from t ts run.1)

    pub run : (ss : List (Registers Datum)) → Run value_arithmetic m ss → Run field_arithmetic field (map (relocated_state bases) ss)
    run [] none = none
    run (s ∷ ss) steps = run_from s ss steps

    last_carried : (s : Registers Datum) (ss : List (Registers Datum)) → last_of (relocated_state bases s) (map (relocated_state bases) ss) ≡ relocated_state bases (last_of s ss)
    last_carried s [] = refl
    last_carried s (t ∷ ts) = last_carried t ts

    pub run_to : (s t : Registers Datum) (ss : List (Registers Datum)) → RunsTo value_arithmetic m s ss t → RunsTo field_arithmetic field (relocated_state bases s) (map (relocated_state bases) ss) (relocated_state bases t)
    run_to s t [] none = none
    run_to s t (u ∷ us) steps = (ap (relocated_state bases) steps.0, (run_from u us steps.1.0, last_carried u us ∙ ap (relocated_state bases) steps.1.1))
