-- Why a program doesn't run to a PIE that is accepted alone (docs/RUNNER.md), with the fields as plain data.
use Rattle.std.specs.Prelude.{ℕ}
use Rattle.cairo_model.specs.Machine.Values.{Datum}
use Rattle.cairo_model.specs.Refusals.ReplayRefusals.{ReplayCause}
use Rattle.cairo_model.specs.declared.fault.StepFault.{StepFault}

-- Steps are counted from 0, and what is put before the first one counts as step 0.
pub data RunCause : Type 0 where
  -- at this step a cell is absent that no rule gives
  unknown_cell : ℕ → RunCause
  -- at this step dst is the one, and what an assertion asks of it is the other
  conflicting : ℕ → Datum → Datum → RunCause
  -- this step has this fault
  faulty : ℕ → StepFault → RunCause
  -- so many steps were done, and the run isn't home
  over_limit : ℕ → RunCause
  -- a put at this step needs more cells than a PIE may have
  over_size : ℕ → RunCause
  -- the PIE that was made isn't accepted alone
  not_accepted : ReplayCause → RunCause
