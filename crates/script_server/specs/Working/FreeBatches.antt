-- Batches that nobody holds.
use Rattle.std.specs.Prelude.{ℕ, ◌≢◌}
use Rattle.desk_core.specs.declared.batch.Batch.{Batch}
use Rattle.desk_core.specs.declared.phase.Phase.TheVariants.{Taken}

-- no pass has taken the batch
abbrev pub IsFreeBatch : Batch → Type 0
IsFreeBatch b = (pass : ℕ) → b.phase ≢ Taken pass
