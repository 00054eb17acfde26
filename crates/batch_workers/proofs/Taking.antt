-- The turns in which a worker takes, seals, registers and gives back.
use Rattle.std.proofs.Common.{◌≡◌, ◌≢◌, ℕ, zero, suc, ◌==◌, Bool, true, false, List, [], ◌∷◌, map, take, drop, refl, sym, ap, ◌∙◌}
use Rattle.std.specs.Prelude.{slice_get}
use Rattle.std.proofs.lemmas.Bool.{eqb-false, eqb-true}
use Rattle.std.specs.List.{drop-map, take-map}
use Rattle.std.specs.Option.{option_map_or}
use Rattle.cairo_model.specs.Pie.Records.{PieRecord}
use Rattle.desk_core.specs.DeskRecords.{plain_batch, plain_job, tasks_in}
use Rattle.desk_core.specs.Desks.{PlainBatch, PlainDesk, PlainJob, jobs_in, phase_at, set_phase}
use Rattle.desk_core.specs.declared.batch.Batch.{Batch}
use Rattle.desk_core.specs.declared.job.Job.{Job}
use Rattle.desk_core.specs.declared.phase.Phase.{Phase}
use Rattle.desk_core.specs.declared.phase.Phase.TheVariants as phase
use Rattle.desk_core.specs.Registrations.{pies_in}
use Rattle.desk_core.specs.Stays.{pies_at}
use Rattle.desk_core.proofs.BatchLemmas.{phase_in, phase_moved, phase_other}
use Rattle.batch_workers.specs.Works.{IsIdle}
use Rattle.batch_workers.specs.Working.Rounds.{HoldsAlone}

-- ---- the PIEs of a batch

pub pies_stay : (js : List PlainJob) (bs : List PlainBatch) (b k : ℕ) (p : Phase) → option_map_or (jobs_in js) (slice_get (set_phase bs b p) k) [] ≡ option_map_or (jobs_in js) (slice_get bs k) []
pies_stay js [] b k p = refl
pies_stay js (x ∷ bs) zero zero p = refl
pies_stay js (x ∷ bs) zero (suc k) p = refl
pies_stay js (x ∷ bs) (suc b) zero p = refl
pies_stay js (x ∷ bs) (suc b) (suc k) p = pies_stay js bs b k p

pies_of_jobs : (js : List Job) → map (λ (j : PlainJob). j.pie) (map plain_job js) ≡ pies_in (map (λ (j : Job). j.checked) js)
pies_of_jobs [] = refl
pies_of_jobs (j ∷ js) = ap (λ (ps : List PieRecord). j.checked.pie ∷ ps) (pies_of_jobs js)

stretched : (js : List Job) (b : Batch) → jobs_in (map plain_job js) (plain_batch b) ≡ map plain_job (take b.count (drop b.first js))
stretched js b = ap (take b.count) (drop-map plain_job b.first js) ∙ take-map plain_job b.count (drop b.first js)

pub pies_of_batch : (js : List Job) (bs : List Batch) (b : ℕ) → pies_in (option_map_or (tasks_in js) (slice_get bs b) []) ≡ map (λ (j : PlainJob). j.pie) (option_map_or (jobs_in (map plain_job js)) (slice_get (map plain_batch bs) b) [])
pies_of_batch js [] b = refl
pies_of_batch js (x ∷ bs) zero = sym (ap (map (λ (j : PlainJob). j.pie)) (stretched js x) ∙ pies_of_jobs (take x.count (drop x.first js)))
pies_of_batch js (x ∷ bs) (suc b) = pies_of_batch js bs b

-- ---- the batch in hand

pub holds_taken : (pass : ℕ) (d : PlainDesk) (b : ℕ) (registered : List ℕ) → IsIdle pass d → phase_at d b ≡ phase.Sealed
    → HoldsAlone pass (record d { batches = set_phase d.batches b (phase.Taken pass); registered = registered }) b (pies_at d b)
holds_taken pass d b registered idle was = record {
  taken = phase_moved d.batches b (phase.Taken pass) (λ e. cc);
  alone = λ k ne e. idle k (sym (phase_other d.batches b k (phase.Taken pass) ne) ∙ e);
  are = ap (map (λ (j : PlainJob). j.pie)) (pies_stay d.jobs d.batches b b (phase.Taken pass));
}

-- the pass is idle again where its batch gets another phase
pub idle_again : (pass : ℕ) (d : PlainDesk) (b : ℕ) (p : Phase) (registered : List ℕ) (pies : List PieRecord) → p ≢ phase.Taken pass → HoldsAlone pass d b pies
    → IsIdle pass (record d { batches = set_phase d.batches b p; registered = registered })
idle_again pass d b p registered pies other h k e = go (k == b) refl where
  go : (t : Bool) → (k == b) ≡ t → ⊥
  go true is = let same : k ≡ b = eqb-true k b is in
      other (sym (phase_moved d.batches b p (λ q. let t : phase.Taken pass ≡ phase.NoBatch = sym h.taken ∙ q in cc)) ∙ (ap (phase_in (set_phase d.batches b p)) (sym same) ∙ e))
  go false is = let ne : k ≢ b = eqb-false k b is in
      h.alone k ne (sym (phase_other d.batches b k p ne) ∙ e)
