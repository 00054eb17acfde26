-- A desk whose batches nobody holds.
use Rattle.std.proofs.Common.{◌≢◌, ℕ, zero, suc, List, [], ◌∷◌, map}
use Rattle.std.specs.Option.{option_map_or}
use Rattle.std.specs.Prelude.{All, slice_get}
use Rattle.std.proofs.lemmas.List.Elements.{All-head, All-tail}
use Rattle.batch_workers.specs.Works.{WorksAlone}
use Rattle.desk_core.specs.DeskRecords.{DeskRecord, plain_batch, plain_of}
use Rattle.desk_core.specs.Desks.{PlainBatch, PlainDesk}
use Rattle.desk_core.specs.declared.batch.Batch.{Batch}
use Rattle.desk_core.specs.declared.phase.Phase.TheVariants as phase
use Rattle.script_runner.specs.Working.Doing.{NoneTaken}
use Rattle.script_server.specs.Working.FreeBatches.{IsFreeBatch}

free_at : (bs : List Batch) → All IsFreeBatch bs → (b pass : ℕ) → option_map_or (λ (x : PlainBatch). x.phase) (slice_get (map plain_batch bs) b) phase.NoBatch ≢ phase.Taken pass
free_at [] all b pass is = absurd (cc)
free_at (x ∷ bs) all zero pass is = All-head IsFreeBatch x bs all pass is
free_at (x ∷ bs) all (suc b) pass is = free_at bs (All-tail IsFreeBatch x bs all) b pass is

pub none_taken : (d : DeskRecord) → All IsFreeBatch d.batches → NoneTaken (plain_of d)
none_taken d all = free_at d.batches all

pub alone_where_free : (pass : ℕ) (d : PlainDesk) → NoneTaken d → WorksAlone pass d
alone_where_free pass d free = λ b by is. absurd (free b by is)
