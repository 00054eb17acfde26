-- What is left to do falls with each sealing and each taking, and a batch in hand counts no more.
use Rattle.std.proofs.Common.{◌≡◌, ℕ, zero, suc, ◌+◌, ◌≤◌, ◌<◌, Bool, true, false, cond, List, [], ◌∷◌, ◌++◌, length, drop, refl, ap, arith}
use Rattle.std.specs.Prelude.{filter, sum_by}
use Rattle.std.proofs.lemmas.List.{length-drop}
use Rattle.desk_core.specs.Desks.{PlainBatch, PlainDesk, batched, is_sealed, set_phase, with_phase}
use Rattle.desk_core.specs.declared.phase.Phase.{Phase}
use Rattle.desk_core.specs.declared.phase.Phase.TheVariants as phase
use Rattle.desk_core.proofs.BatchLemmas.{count_moved, phase_in}
use Rattle.batch_workers.specs.Working.Rounds.{remaining, sealed_count}

-- how a batch of this phase counts
abbrev one_if : Bool → ℕ
one_if t = cond t 1 0

abbrev counts : PlainBatch → ℕ
counts x = one_if (is_sealed x.phase)

count_cons : (x : PlainBatch) (bs : List PlainBatch) → sealed_count (x ∷ bs) ≡ counts x + sealed_count bs
count_cons x bs = go (is_sealed x.phase) where
  go : (t : Bool) → length (cond t (x ∷ filter (λ (b : PlainBatch). is_sealed b.phase) bs) (filter (λ (b : PlainBatch). is_sealed b.phase) bs)) ≡ one_if t + sealed_count bs
  go true = omega arith
  go false = omega arith

sealed_one : (p : Phase) → p ≡ phase.Sealed → one_if (is_sealed p) ≡ 1
sealed_one p is = ap (λ (q : Phase). one_if (is_sealed q)) is

-- a sealed batch that gets a phase of another kind
pub count_taken : (bs : List PlainBatch) (b : ℕ) (p : Phase) → is_sealed p ≡ false → phase_in bs b ≡ phase.Sealed → sealed_count (set_phase bs b p) + 1 ≡ sealed_count bs
count_taken [] b p is was = absurd (cc)
count_taken (x ∷ bs) zero p is was =
    omega (arith, count_cons x bs, count_cons (with_phase p x) bs, sealed_one x.phase was, ap one_if is)
count_taken (x ∷ bs) (suc b) p is was = omega (arith, count_cons x bs, count_cons x (set_phase bs b p), count_taken bs b p is was)

-- a batch that isn't sealed, and then isn't either
pub count_kept : (bs : List PlainBatch) (b : ℕ) (p : Phase) → is_sealed p ≡ false → is_sealed (phase_in bs b) ≡ false → sealed_count (set_phase bs b p) ≡ sealed_count bs
count_kept [] b p is was = refl
count_kept (x ∷ bs) zero p is was =
    omega (arith, count_cons x bs, count_cons (with_phase p x) bs, ap one_if is, ap one_if was)
count_kept (x ∷ bs) (suc b) p is was = omega (arith, count_cons x bs, count_cons x (set_phase bs b p), count_kept bs b p is was)

pub count_more : (bs : List PlainBatch) (x : PlainBatch) → x.phase ≡ phase.Sealed → sealed_count (bs ++ x ∷ []) ≡ sealed_count bs + 1
count_more [] x is = omega (arith, count_cons x [], sealed_one x.phase is)
count_more (y ∷ bs) x is = omega (arith, count_cons y bs, count_cons y (bs ++ x ∷ []), count_more bs x is)

-- ---- of desks

-- the jobs that wait stay where a batch gets another phase
waiting_kept : (d : PlainDesk) (b : ℕ) (p : Phase) → length (drop (sum_by (λ (x : PlainBatch). x.count) (set_phase d.batches b p)) d.jobs) ≡ length (drop (batched d) d.jobs)
waiting_kept d b p = ap (λ (n : ℕ). length (drop n d.jobs)) (count_moved d.batches b p)

pub less_taken : (d : PlainDesk) (b : ℕ) (p : Phase) (registered : List ℕ) → is_sealed p ≡ false → phase_in d.batches b ≡ phase.Sealed → remaining (record d { batches = set_phase d.batches b p; registered = registered }) < remaining d
less_taken d b p registered is was = omega (arith, waiting_kept d b p, count_taken d.batches b p is was)

pub same_left : (d : PlainDesk) (b : ℕ) (p : Phase) (registered : List ℕ) → is_sealed p ≡ false → is_sealed (phase_in d.batches b) ≡ false → remaining (record d { batches = set_phase d.batches b p; registered = registered }) ≡ remaining d
same_left d b p registered is was = omega (arith, waiting_kept d b p, count_kept d.batches b p is was)

-- so many jobs, at least one, that are there
pub less_sealed : (d : PlainDesk) (x : PlainBatch) → x.phase ≡ phase.Sealed → 1 ≤ x.count → batched d + x.count ≤ length d.jobs
    → sum_by (λ (y : PlainBatch). y.count) (d.batches ++ x ∷ []) ≡ batched d + x.count → remaining (record d { batches = d.batches ++ x ∷ [] }) < remaining d
less_sealed d x is some within total =
    omega (
      arith,
      count_more d.batches x is,
      length-drop (batched d) d.jobs,
      length-drop (batched d + x.count) d.jobs,
      some,
      within,
      ap (λ (n : ℕ). length (drop n d.jobs)) total,
    )
