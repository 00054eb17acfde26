-- Lists of batches of which one more is made, or one comes to stand elsewhere.
use Rattle.std.proofs.Common.{◌≡◌, ◌≢◌, ℕ, zero, suc, ◌+◌, ◌<◌, List, [], ◌∷◌, ◌++◌, length, refl, sym, ap, ◌∙◌, arith}
use Rattle.std.specs.Prelude.{All, slice_get, slice_index_or, sum_by}
use Rattle.std.specs.Option.{option_map_or}
use Rattle.std.proofs.lemmas.List.Elements.{All-cons, All-head, All-tail}
use Rattle.desk_core.specs.Desks.{PlainBatch, PlainJob, set_phase, with_phase}
use Rattle.desk_core.specs.SoundDesks.{AreNeighbours, IsBatchOf}
use Rattle.desk_core.specs.declared.phase.Phase.{Phase}
use Rattle.desk_core.specs.declared.phase.Phase.TheVariants as phase
use Rattle.desk_core.proofs.ListFacts.{sum_cons}

abbrev pub phase_in : List PlainBatch → ℕ → Phase
phase_in bs b = option_map_or (λ x. x.phase) (slice_get bs b) phase.NoBatch

-- ---- one more

pub neighbours_more : (first : ℕ) (bs : List PlainBatch) (b : PlainBatch) → AreNeighbours first bs → b.first ≡ first + sum_by (λ (x : PlainBatch). x.count) bs → AreNeighbours first (bs ++ b ∷ [])
neighbours_more first [] b n e = (omega (arith, e), tt)
neighbours_more first (x ∷ bs) b n e = (n.0, neighbours_more (first + x.count) bs b n.1 (omega (arith, e, sum_cons (λ (y : PlainBatch). y.count) x bs)))

pub registered_more : (bs : List PlainBatch) (x : PlainBatch) (b : ℕ) → x.phase ≡ phase.Sealed → phase_in (bs ++ x ∷ []) b ≡ phase.Registered → phase_in bs b ≡ phase.Registered
registered_more [] x zero is e = absurd (cc)
registered_more [] x (suc b) is e = e
registered_more (y ∷ bs) x zero is e = e
registered_more (y ∷ bs) x (suc b) is e = registered_more bs x b is e

pub registered_still : (bs : List PlainBatch) (x : PlainBatch) (b : ℕ) → phase_in bs b ≡ phase.Registered → phase_in (bs ++ x ∷ []) b ≡ phase.Registered
registered_still [] x b e = absurd (cc)
registered_still (y ∷ bs) x zero e = e
registered_still (y ∷ bs) x (suc b) e = registered_still bs x b e

-- ---- one stands elsewhere

pub count_moved : (bs : List PlainBatch) (b : ℕ) (p : Phase) → sum_by (λ (x : PlainBatch). x.count) (set_phase bs b p) ≡ sum_by (λ (x : PlainBatch). x.count) bs
count_moved [] b p = refl
count_moved (x ∷ bs) zero p = sum_cons (λ (y : PlainBatch). y.count) (with_phase p x) bs ∙ sym (sum_cons (λ (y : PlainBatch). y.count) x bs)
count_moved (x ∷ bs) (suc b) p = sum_cons (λ (y : PlainBatch). y.count) x (set_phase bs b p) ∙ (ap (λ (k : ℕ). x.count + k) (count_moved bs b p) ∙ sym (sum_cons (λ (y : PlainBatch). y.count) x bs))

pub neighbours_moved : (first : ℕ) (bs : List PlainBatch) (b : ℕ) (p : Phase) → AreNeighbours first bs → AreNeighbours first (set_phase bs b p)
neighbours_moved first [] b p n = n
neighbours_moved first (x ∷ bs) zero p n = n
neighbours_moved first (x ∷ bs) (suc b) p n = (n.0, neighbours_moved (first + x.count) bs b p n.1)

pub batches_moved : (jobs : List PlainJob) (bs : List PlainBatch) (b : ℕ) (p : Phase) → p ≢ phase.NoBatch → All (IsBatchOf jobs) bs → All (IsBatchOf jobs) (set_phase bs b p)
batches_moved jobs [] b p ne all = all
batches_moved jobs (x ∷ bs) zero p ne all =
    let h = All-head (IsBatchOf jobs) x bs all in
    All-cons (IsBatchOf jobs) (with_phase p x) bs (record { some = h.some; within = h.within; fits = h.fits; stands = ne }) (All-tail (IsBatchOf jobs) x bs all)
batches_moved jobs (x ∷ bs) (suc b) p ne all =
    All-cons (IsBatchOf jobs) x (set_phase bs b p) (All-head (IsBatchOf jobs) x bs all) (batches_moved jobs bs b p ne (All-tail (IsBatchOf jobs) x bs all))

-- the phase of a batch that moved is the new one, and others' are as before
pub phase_moved : (bs : List PlainBatch) (b : ℕ) (p : Phase) → phase_in bs b ≢ phase.NoBatch → phase_in (set_phase bs b p) b ≡ p
phase_moved [] b p ne = absurd (ne refl)
phase_moved (x ∷ bs) zero p ne = refl
phase_moved (x ∷ bs) (suc b) p ne = phase_moved bs b p ne

pub phase_other : (bs : List PlainBatch) (b c : ℕ) (p : Phase) → c ≢ b → phase_in (set_phase bs b p) c ≡ phase_in bs c
phase_other [] b c p ne = refl
phase_other (x ∷ bs) zero zero p ne = absurd (ne refl)
phase_other (x ∷ bs) zero (suc c) p ne = refl
phase_other (x ∷ bs) (suc b) zero p ne = refl
phase_other (x ∷ bs) (suc b) (suc c) p ne = phase_other bs b c p (λ e. ne (ap suc e))

pub in_list : (bs : List PlainBatch) (b : ℕ) (x : PlainBatch) → b < length bs → phase_in bs b ≡ (slice_index_or bs b x).phase
in_list [] b x lt = absurd (omega arith)
in_list (y ∷ bs) zero x lt = refl
in_list (y ∷ bs) (suc b) x lt = in_list bs b x (omega arith)
