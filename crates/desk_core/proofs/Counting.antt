-- A sound desk has few jobs, and no more batches than jobs.
use Rattle.std.proofs.Common.{◌≡◌, ℕ, zero, suc, ◌+◌, ◌*◌, ◌≤◌, ◌<◌, ◌==◌, Bool, true, false, cond, List, [], ◌∷◌, length, refl, arith}
use Rattle.std.specs.Prelude.{All, sum_by, nat_lt}
use Rattle.std.proofs.lemmas.Bool.Decides.{nat_tests}
use Rattle.std.proofs.lemmas.List.{length-map}
use Rattle.std.proofs.lemmas.List.Elements.{All-head, All-tail}
use Rattle.cairo_model.specs.Pie.Shapes.{shape_of}
use Rattle.desk_core.specs.Desks.{PlainDesk, PlainJob, PlainBatch, jobs_of}
use Rattle.desk_core.specs.Limits.{most_client_pies, most_clients}
use Rattle.desk_core.specs.Working.Steps.{most_jobs}
use Rattle.desk_core.specs.SoundDesks.{IsSound, IsBatchOf}
use Rattle.desk_core.proofs.ListFacts.{sum_cons}

-- how many jobs the clients below k have
many : ℕ → List PlainJob → ℕ
many zero jobs = 0
many (suc k) jobs = many k jobs + length (jobs_of k jobs)

kept_one : (b : Bool) (j : PlainJob) (js : List PlainJob) → length (cond b (j ∷ js) js) ≡ length js + cond b 1 0
kept_one true j js = omega arith
kept_one false j js = omega arith

many_cons : (k : ℕ) (j : PlainJob) (js : List PlainJob) → many k (j ∷ js) ≡ many k js + cond (nat_lt j.client k) 1 0
unfolding many
many_cons zero j js = grind (arith, nat_tests)
many_cons (suc k) j js =
    let rest = many_cons k j js in
    let here = kept_one (j.client == k) j (jobs_of k js) in
    grind (arith, nat_tests)

many_nil : (k : ℕ) → many k [] ≡ 0
unfolding many
many_nil zero = refl
many_nil (suc k) = omega (arith, many_nil k)

many_all : (k : ℕ) (js : List PlainJob) → All (λ (j : PlainJob). j.client < k) js → many k js ≡ length js
many_all k [] all = many_nil k
many_all k (j ∷ js) all =
    let lt = All-head (λ (x : PlainJob). x.client < k) j js all in
    let rest = many_all k js (All-tail (λ (x : PlainJob). x.client < k) j js all) in
    let one = many_cons k j js in
    grind (arith, nat_tests)

many_few : (k : ℕ) (js : List PlainJob) → ((c : ℕ) → length (jobs_of c js) ≤ most_client_pies) → many k js ≤ k * most_client_pies
unfolding many
many_few zero js few = omega arith
many_few (suc k) js few = omega (arith, many_few k js few, few k)

pub few_jobs : (d : PlainDesk) → IsSound d → d.clients ≤ most_clients → length d.jobs ≤ most_jobs
few_jobs d s few =
    omega (
      arith,
      many_all d.clients d.jobs s.clients,
      many_few d.clients d.jobs (λ c. omega (arith, (s.limited c).few, length-map (jobs_of c d.jobs) (λ (j : PlainJob). shape_of j.pie))),
    )

some_each : (jobs : List PlainJob) (bs : List PlainBatch) → All (IsBatchOf jobs) bs → length bs ≤ sum_by (λ (b : PlainBatch). b.count) bs
some_each jobs [] all = omega arith
some_each jobs (b ∷ bs) all =
    omega (arith, some_each jobs bs (All-tail (IsBatchOf jobs) b bs all), (All-head (IsBatchOf jobs) b bs all).some, sum_cons (λ (x : PlainBatch). x.count) b bs)

pub few_batches : (d : PlainDesk) → IsSound d → length d.batches ≤ length d.jobs
few_batches d s = omega (arith, some_each d.jobs d.batches s.batches, s.inside)
