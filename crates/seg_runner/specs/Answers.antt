-- What a program runs to within a limit of steps: a PIE, or a refusal with its cause (docs/RUNNER.md).
use Rattle.std.specs.Prelude.{ℕ, ◌≡◌, ◌<◌, ◌≤◌, true, false, List, Result, Ok, Err}
use Rattle.cairo_model.specs.Pie.Acceptance.{AcceptedAlone}
use Rattle.cairo_model.specs.Pie.Records.{PieRecord, KeepsRules, memory_of}
use Rattle.cairo_model.specs.Refusals.ReplayRefusals.{ReplayCause, IsFirstReplayCause}
use Rattle.seg_runner.specs.Endings.{is_returned, completed}
use Rattle.seg_runner.specs.Memories.{GrowingMemory}
use Rattle.seg_runner.specs.Refusals.{RunCause, over_limit, not_accepted}
use Rattle.seg_runner.specs.Runs.{HasRun}
use Rattle.seg_runner.specs.Starts.{started}
use Rattle.seg_runner.specs.Steps.{Configuration, run_step}

-- The program runs home within the limit, and this PIE has its main, its steps, and the memory that was completed there.
pub record RunsToPie (words : List ℕ) (main limit : ℕ) (pie : PieRecord) : Type 0 where
  pub last : Configuration
  pub runs : HasRun words main pie.steps last
  pub in_limit : pie.steps ≤ limit
  pub home : is_returned last.registers ≡ true
  pub memory : GrowingMemory
  pub completes : completed pie.steps last.memory ≡ Ok memory
  pub has_main : pie.main ≡ main
  pub has_sizes : pie.sizes ≡ memory.sizes
  pub has_cells : memory_of pie.cells ≡ memory.cells
  pub rules : KeepsRules pie

-- the step of some number below the limit is refused
pub record RefusesStep (words : List ℕ) (main limit : ℕ) (cause : RunCause) : Type 0 where
  pub steps : ℕ
  pub last : Configuration
  pub runs : HasRun words main steps last
  pub in_limit : steps < limit
  pub away : is_returned last.registers ≡ false
  pub refuses : run_step steps last ≡ Err cause

-- all steps that the limit allows were done
pub record RefusesMore (words : List ℕ) (main limit : ℕ) (cause : RunCause) : Type 0 where
  pub last : Configuration
  pub runs : HasRun words main limit last
  pub away : is_returned last.registers ≡ false
  pub is_cause : cause ≡ over_limit limit

-- the outputs of the hash builtin don't fit
pub record RefusesOutputs (words : List ℕ) (main limit : ℕ) (cause : RunCause) : Type 0 where
  pub steps : ℕ
  pub last : Configuration
  pub runs : HasRun words main steps last
  pub in_limit : steps ≤ limit
  pub home : is_returned last.registers ≡ true
  pub refuses : completed steps last.memory ≡ Err cause

-- the PIE isn't accepted alone
pub record RefusesPie (words : List ℕ) (main limit : ℕ) (cause : RunCause) : Type 0 where
  pub pie : PieRecord
  pub runs_to : RunsToPie words main limit pie
  pub first : ReplayCause
  pub is_first : IsFirstReplayCause pie first
  pub is_cause : cause ≡ not_accepted first

-- where a run is refused
pub data IsRunRefusal (words : List ℕ) (main limit : ℕ) (cause : RunCause) : Type 0 where
  at_start : started words main ≡ Err cause → IsRunRefusal words main limit cause
  at_step : RefusesStep words main limit cause → IsRunRefusal words main limit cause
  at_limit : RefusesMore words main limit cause → IsRunRefusal words main limit cause
  at_home : RefusesOutputs words main limit cause → IsRunRefusal words main limit cause
  at_replay : RefusesPie words main limit cause → IsRunRefusal words main limit cause

-- the PIE is the one that the program runs to, and is accepted alone
pub record RunsToAccepted (words : List ℕ) (main limit : ℕ) (pie : PieRecord) : Type 0 where
  pub runs_to : RunsToPie words main limit pie
  pub accepted : AcceptedAlone pie

-- What a program comes to within a limit. `one_run_answer` in src/laws.rt says that this is one answer.
abbrev pub IsRunAnswer : List ℕ → ℕ → ℕ → Result PieRecord RunCause → Type 0
IsRunAnswer words main limit (Ok pie) = RunsToAccepted words main limit pie
IsRunAnswer words main limit (Err cause) = IsRunRefusal words main limit cause
