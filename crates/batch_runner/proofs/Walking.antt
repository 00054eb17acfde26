-- Stepping from a state gives the run that begins there.
use Rattle.std.proofs.Common.{ℕ, ◌+◌, ◌<◌, List, [], ◌∷◌, ◌++◌, Option, refl, arith, length-append}
use Rattle.cairo_model.specs.Machine.Steps.{Registers, Step, StepFaultOf, field_arithmetic}
use Rattle.cairo_model.specs.declared.fault.StepFault.{StepFault}
use Rattle.cairo_model.proofs.RunLaws.{no_longer_run, runs_on, same_runs}
use Rattle.batch_runner.specs.Working.Stepping.{HasWalked, IsRunOver}

module _ (m : ℕ → Option ℕ) (s : Registers ℕ) where
  module _ (n : ℕ) (states : List (Registers ℕ)) (now : Registers ℕ) (walked : HasWalked m n s states now) where
    pub walked_on : (next : Registers ℕ) → Step field_arithmetic m now next → HasWalked m (n + 1) s (states ++ next ∷ []) next
    walked_on next step = record {
      runs = runs_on field_arithmetic m s states now next walked.runs step;
      count = let c = walked.count in let l = length-append states (next ∷ []) in omega (arith, c, l);
    }

    -- all steps are taken
    pub walked_all : IsRunOver m n s states
    walked_all rows last passes =
        let c = walked.count in
        let d = passes.count in
        (same_runs field_arithmetic m s states now (s ∷ rows) last walked.runs (refl, (passes.runs, passes.ends)) (omega (arith, c, d))).0

    -- or there is none of so many
    pub stopped : (steps : ℕ) (fault : StepFault) → n < steps → StepFaultOf field_arithmetic m now fault → IsRunOver m steps s states
    stopped steps fault fewer fails rows last passes =
        let c = walked.count in
        let d = passes.count in
        absurd (no_longer_run field_arithmetic m s states now (s ∷ rows) last fault walked.runs fails (refl, (passes.runs, passes.ends)) (omega (arith, c, d, fewer)))
