-- Where batches stand after a worker's events.
use Rattle.std.proofs.Common.{◌≡◌, ◌≢◌, ℕ, zero, suc, ◌⊎◌, inl, inr, List, [], ◌∷◌, ◌++◌, sym}
use Rattle.desk_core.specs.Desks.{PlainBatch, PlainDesk, phase_at, set_phase}
use Rattle.desk_core.specs.declared.phase.Phase.{Phase}
use Rattle.desk_core.specs.declared.phase.Phase.TheVariants as phase
use Rattle.desk_core.proofs.BatchLemmas.{phase_in}
use Rattle.batch_workers.specs.Works.{IsIdle, WorksAlone}

-- a batch that got a phase has it, and the others have theirs
pub phase_set : (bs : List PlainBatch) (b k : ℕ) (p q : Phase) → phase_in (set_phase bs b p) k ≡ q → (phase_in bs k ≡ q) ⊎ (q ≡ p)
phase_set [] b k p q e = inl e
phase_set (x ∷ bs) zero zero p q e = inr (sym e)
phase_set (x ∷ bs) zero (suc k) p q e = inl e
phase_set (x ∷ bs) (suc b) zero p q e = inl e
phase_set (x ∷ bs) (suc b) (suc k) p q e = phase_set bs b k p q e

-- one batch more has its phase, and the others have theirs
pub phase_more : (bs : List PlainBatch) (x : PlainBatch) (k : ℕ) (q : Phase) → phase_in (bs ++ x ∷ []) k ≡ q → (phase_in bs k ≡ q) ⊎ (q ≡ x.phase)
phase_more [] x zero q e = inr (sym e)
phase_more [] x (suc k) q e = inl e
phase_more (y ∷ bs) x zero q e = inl e
phase_more (y ∷ bs) x (suc k) q e = phase_more bs x k q e

-- ---- other passes

pub alone_by : (pass : ℕ) (p : Phase) → ((by : ℕ) → phase.Taken by ≡ p → by ≡ pass) → (old new : PlainDesk) → ((b : ℕ) (q : Phase) → phase_at new b ≡ q → (phase_at old b ≡ q) ⊎ (q ≡ p)) → WorksAlone pass old → WorksAlone pass new
alone_by pass p own old new step alone b by e = go (step b (phase.Taken by) e) where
  go : (phase_at old b ≡ phase.Taken by) ⊎ (phase.Taken by ≡ p) → by ≡ pass
  go (inl was) = alone b by was
  go (inr is) = own by is

-- ---- this pass

pub idle_by : (pass : ℕ) (p : Phase) → phase.Taken pass ≢ p → (old new : PlainDesk) → ((b : ℕ) (q : Phase) → phase_at new b ≡ q → (phase_at old b ≡ q) ⊎ (q ≡ p)) → IsIdle pass old → IsIdle pass new
idle_by pass p other old new step idle b e = go (step b (phase.Taken pass) e) where
  go : (phase_at old b ≡ phase.Taken pass) ⊎ (phase.Taken pass ≡ p) → ⊥
  go (inl was) = idle b was
  go (inr is) = other is
