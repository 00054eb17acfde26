-- Where no batch is sealed or taken and no job waits, each job is in a registered batch.
use Rattle.std.proofs.Common.{◌≡◌, ◌≢◌, ℕ, zero, suc, ◌+◌, ◌≤◌, ◌<◌, Bool, true, false, cond, not, ◌&&◌, List, [], ◌∷◌, length, refl, ap, ◌∙◌, arith}
use Rattle.std.specs.Prelude.{All, Some, None, find, nat_le, nat_lt, position, sum_by}
use Rattle.std.specs.List.{prefix_len}
use Rattle.std.specs.Option.{option_map_or}
use Rattle.std.proofs.lemmas.Bool.{le-leb, ltb-false}
use Rattle.std.proofs.lemmas.List.{length-drop}
use Rattle.std.proofs.lemmas.List.Elements.{All-head, All-tail}
use Rattle.desk_core.specs.Desks.{PlainBatch, PlainDesk, PlainJob, batched, first_sealed, has_job, is_sealed, told_of, waiting_jobs}
use Rattle.desk_core.specs.SoundDesks.{AreNeighbours, IsBatchOf, IsSound}
use Rattle.desk_core.specs.declared.phase.JobPhase.{JobPhase}
use Rattle.desk_core.specs.declared.phase.JobPhase.TheVariants as at
use Rattle.desk_core.specs.declared.phase.Phase.{Phase}
use Rattle.desk_core.specs.declared.phase.Phase.TheVariants as phase
use Rattle.desk_core.proofs.BatchLemmas.{phase_in}
use Rattle.desk_core.proofs.ListFacts.{sum_cons}
use Rattle.batch_workers.specs.Works.{AllRegistered, IsIdle, WorksAlone}

abbrev told : List PlainBatch → ℕ → JobPhase
told bs i = option_map_or (λ (b : PlainBatch). told_of b.phase) (find (has_job i) bs) at.Waiting

both_are : (a b t : Bool) → a ≡ true → b ≡ t → (a && b) ≡ t
both_are true b t p q = q
both_are false b t p q = absurd (cc)

-- each of these batches is registered
abbrev pub AreRegistered : List PlainBatch → Type 0
AreRegistered bs = (b : ℕ) → b < length bs → phase_in bs b ≡ phase.Registered

-- a job that neighbouring batches reach is in one of them
pub reached : (bs : List PlainBatch) (first i : ℕ) → AreNeighbours first bs → AreRegistered bs → first ≤ i → i < first + sum_by (λ (b : PlainBatch). b.count) bs → told bs i ≡ at.Registered
reached [] first i n all le lt = absurd (omega (arith, le, lt))
reached (x ∷ bs) first i n all le lt =
    go (nat_lt i (x.first + x.count)) refl
    (λ past. reached bs (first + x.count) i n.1 (λ b l. all (suc b) (omega (arith, l)))
    (omega (arith, ltb-false i (x.first + x.count) past, n.0)) (omega (arith, lt, sum_cons (λ (y : PlainBatch). y.count) x bs))) where
      here : nat_le x.first i ≡ true
      here = le-leb x.first i (omega (arith, le, n.0))

      at_test : (t : Bool) → has_job i x ≡ t → told (x ∷ bs) i ≡ option_map_or (λ (b : PlainBatch). told_of b.phase) (cond t (Some x) (find (has_job i) bs)) at.Waiting
      at_test t is = ap (λ (t : Bool). option_map_or (λ (b : PlainBatch). told_of b.phase) (cond t (Some x) (find (has_job i) bs)) at.Waiting) is

      go : (t : Bool) → nat_lt i (x.first + x.count) ≡ t → (nat_lt i (x.first + x.count) ≡ false → told bs i ≡ at.Registered) → told (x ∷ bs) i ≡ at.Registered
      go true is later = at_test true (both_are _ _ true here is) ∙ ap told_of (all 0 (omega arith))
      go false is later = at_test false (both_are _ _ false here is) ∙ later is

-- a batch that is neither sealed nor taken
registered_then : (p : Phase) → p ≢ phase.NoBatch → is_sealed p ≡ false → ((by : ℕ) → p ≢ phase.Taken by) → p ≡ phase.Registered
registered_then phase.Sealed there not_sealed not_taken = absurd (cc)
registered_then (phase.Taken by) there not_sealed not_taken = absurd (not_taken by refl)
registered_then phase.Registered there not_sealed not_taken = refl
registered_then phase.NoBatch there not_sealed not_taken = absurd (there refl)

-- how many batches stand before the first sealed one
abbrev before : List PlainBatch → ℕ
before bs = prefix_len (λ (b : PlainBatch). not (is_sealed b.phase)) bs

all_unsealed : (bs : List PlainBatch) → length bs ≤ before bs → (b : ℕ) → is_sealed (phase_in bs b) ≡ false
all_unsealed [] all b = refl
all_unsealed (x ∷ bs) all zero = go (is_sealed x.phase) all where
  go : (t : Bool) → suc (length bs) ≤ cond (not t) (1 + before bs) 0 → t ≡ false
  go true le = absurd (omega (arith, le))
  go false le = refl
all_unsealed (x ∷ bs) all (suc b) = all_unsealed bs (go (is_sealed x.phase) all) b where
  go : (t : Bool) → suc (length bs) ≤ cond (not t) (1 + before bs) 0 → length bs ≤ before bs
  go true le = absurd (omega (arith, le))
  go false le = omega (arith, le)

none_sealed : (bs : List PlainBatch) → position (λ (b : PlainBatch). is_sealed b.phase) bs ≡ None → (b : ℕ) → is_sealed (phase_in bs b) ≡ false
none_sealed bs none = all_unsealed bs (go (nat_lt (before bs) (length bs)) refl none) where
  go : (t : Bool) → nat_lt (before bs) (length bs) ≡ t → cond t (Some (before bs)) None ≡ None → length bs ≤ before bs
  go true is e = absurd (cc)
  go false is e = ltb-false (before bs) (length bs) is

each_stands : (jobs : List PlainJob) (bs : List PlainBatch) → All (IsBatchOf jobs) bs → (b : ℕ) → b < length bs → phase_in bs b ≢ phase.NoBatch
each_stands jobs [] all b lt = absurd (omega (arith, lt))
each_stands jobs (x ∷ bs) all zero lt = (All-head (IsBatchOf jobs) x bs all).stands
each_stands jobs (x ∷ bs) all (suc b) lt = each_stands jobs bs (All-tail (IsBatchOf jobs) x bs all) b (omega (arith, lt))

pub all_registered : (pass : ℕ) (d : PlainDesk) → IsSound d → first_sealed d ≡ None → length (waiting_jobs d) ≡ 0 → IsIdle pass d → WorksAlone pass d → AllRegistered d
all_registered pass d sound none no_waiting idle alone i lt =
    reached d.batches 0 i sound.neighbours
    (λ b l. registered_then (phase_in d.batches b) (each_stands d.jobs d.batches sound.batches b l) (none_sealed d.batches none b)
    (λ by is. idle b (is ∙ ap phase.Taken (alone b by is))))
    (omega arith) (omega (arith, lt, no_waiting, length-drop (batched d) d.jobs, sound.inside))
