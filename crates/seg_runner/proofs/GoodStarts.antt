-- A run begins with a memory that is sound, and registers in its segments.
use Rattle.std.proofs.Common.{◌≡◌, ℕ, zero, suc, ◌+◌, ◌<◌, ◌≤◌, ◌==◌, Bool, true, List, [], ◌∷◌, length, nat_le, if◌then◌else◌, slice_index, Some, option_map, Ok, Err, refl, sym, ap, subst, ◌∙◌, arith}
use Rattle.std.specs.List.{slice_get, AllByRecursion}
use Rattle.std.proofs.lemmas.Option.{slice_get_within, slice_get-get_or}
use Rattle.std.proofs.lemmas.Bool.Decides.{nat_tests}
use Rattle.goldi_field.specs.Numbers.{IsFelt}
use Rattle.cairo_model.proofs.Finding.{option_map_gives}
use Rattle.cairo_model.proofs.NumberTests.{eq_is}
use Rattle.cairo_model.proofs.Outcomes.{some_is, tested, then_gives}
use Rattle.cairo_model.specs.Limits.{most_cells, offset_limit}
use Rattle.cairo_model.specs.Machine.Values.{Datum, number, place}
use Rattle.cairo_model.specs.Pie.Records.{IsValueIn}
use Rattle.cairo_model.specs.Pie.Staying.{AreIn}
use Rattle.cairo_model.specs.Segments.{builtin_mask, frame_segments}
use Rattle.seg_runner.proofs.Sound.{IsSound}
use Rattle.seg_runner.proofs.SoundSteps.{IsGood}
use Rattle.seg_runner.specs.Refusals.{over_size}
use Rattle.seg_runner.specs.Starts.{frame_length, start_cells, start_memory, start_registers, started}
use Rattle.seg_runner.specs.Steps.{Configuration}

felt_at : (words : List ℕ) (o w : ℕ) → AllByRecursion IsFelt words → slice_get words o ≡ Some w → IsFelt w
felt_at [] o w felts e = absurd (cc)
felt_at (x ∷ words) zero w felts e = subst IsFelt (some_is x w e) felts.0
felt_at (x ∷ words) (suc o) w felts e = felt_at words o w felts.1 e

frame_at : (o t : ℕ) → slice_get (frame_segments builtin_mask) o ≡ Some t → t < 7
frame_at zero t e = let is : 2 ≡ t = cc in omega arith
frame_at (suc zero) t e = let is : 3 ≡ t = cc in omega arith
frame_at (suc (suc zero)) t e = let is : 4 ≡ t = cc in omega arith
frame_at (suc (suc (suc zero))) t e = let is : 5 ≡ t = cc in omega arith
frame_at (suc (suc (suc (suc zero)))) t e = let is : 6 ≡ t = cc in omega arith
frame_at (suc (suc (suc (suc (suc o))))) t e = absurd (cc)

-- what stands in the memory at the start: a word, or a cell of the frame
start_cases : {R : Type 0} (words : List ℕ) (s o : ℕ) (v : Datum) → start_cells words (place s o) ≡ Some v
    → ((w : ℕ) → s ≡ 0 → slice_get words o ≡ Some w → number w ≡ v → R)
    → ((t : ℕ) → s ≡ 1 → slice_get (frame_segments builtin_mask) o ≡ Some t → place t 0 ≡ v → R) → R
start_cases words s o v e code frame =
    tested (s == 0) (option_map number (slice_get words o)) _ (Some v) e
    (λ first given. option_map_gives number (slice_get words o) v given (λ w is same. code w (eq_is s 0 first) is same))
    (λ _ rest. then_gives (s == 1) _ v rest (λ second given.
    option_map_gives (λ (t : ℕ). place t 0) (slice_get (frame_segments builtin_mask) o) v given (λ t is same. frame t (eq_is s 1 second) is same)))

start_sound : (words : List ℕ) → AllByRecursion IsFelt words → length words + frame_length ≤ most_cells → IsSound words (start_memory words)
start_sound words felts fits = record {
  seven = refl;
  in_all = omega arith;
  no_return_fp = refl;
  no_return_pc = refl;
  inside = λ s o v e. start_cases words s o v e
      (λ w segment is same. subst (λ (k : ℕ). o < slice_index (start_memory words).sizes k) (sym segment) (slice_get_within words o w is))
      (λ t segment is same. subst (λ (k : ℕ). o < slice_index (start_memory words).sizes k) (sym segment) (slice_get_within (frame_segments builtin_mask) o t is));
  values = λ a v e. values_at a v e;
  code_size = refl;
  has_code = λ i lt. ap (option_map number) (slice_get-get_or words i 0 lt);
}
  where
    values_at : (a v : Datum) → start_cells words a ≡ Some v → IsValueIn 7 v
    values_at (number n) v e = absurd (cc)
    values_at (place s o) v e = start_cases words s o v e
        (λ w segment is same. subst (IsValueIn 7) same (felt_at words o w felts is))
        (λ t segment is same. subst (IsValueIn 7) same (record { in_segments = frame_at o t is; is_near = omega arith }))

registers_in : (main : ℕ) → main < offset_limit → AreIn 7 (start_registers main)
registers_in main small = record {
  pc = record { in_segments = omega arith; is_near = small };
  ap = record { in_segments = omega arith; is_near = omega arith };
  fp = record { in_segments = omega arith; is_near = omega arith };
}

pub start_good : (words : List ℕ) (main : ℕ) → AllByRecursion IsFelt words → length words + frame_length ≤ most_cells → main < offset_limit
    → IsGood words (record { memory = start_memory words; registers = start_registers main })
start_good words main felts fits small = record { memory = start_sound words felts fits; registers = registers_in main small }

-- the start, in the form in which the code has it
pub starts_as : (words : List ℕ) (main : ℕ) (now : Configuration) → length words + frame_length ≤ most_cells → now.memory ≡ start_memory words → now.registers ≡ start_registers main → started words main ≡ Ok now
starts_as words main now fits memory registers =
    let few : nat_le (length words + frame_length) most_cells ≡ true = grind (arith, nat_tests) in
    ap (λ (b : Bool). if b then Ok (record { memory = start_memory words; registers = start_registers main }) else Err (over_size 0)) few
    ∙ ap Ok (λ i. record { memory = sym memory i; registers = sym registers i })
