-- The greatest cut is the longest one, and where something waits it is something.
use Rattle.std.proofs.Common.{◌≡◌, ℕ, zero, suc, ◌≤◌, Bool, true, false, cond, ◌&&◌, List, [], ◌∷◌, length, take, refl, sym, ap, ◌∙◌, ◌≢◌, arith}
use Rattle.std.proofs.lemmas.Bool.{leb-true, le-leb}
use Rattle.cairo_model.specs.declared.shape.Shape.{Shape}
use Rattle.boot_program.specs.Batch.Limits.{most_batch_cells, most_batch_steps, most_batch_tasks}
use Rattle.batch_plan.specs.Cuts.{FitOneBatch, IsLongestCut, IsPieShape, cells_together, steps_together}
use Rattle.batch_plan.proofs.Sums.{sum_more}
use Rattle.desk_core.specs.NextBatch.{CutIsLongest, fit_one_batch, greatest, longest_cut}

both : (a b : Bool) → (a && b) ≡ true → (a ≡ true) × (b ≡ true)
both true b e = (refl, e)
both false b e = absurd (cc)

joined : (a b : Bool) → a ≡ true → b ≡ true → (a && b) ≡ true
joined a b p q = rw p q

fit : (ss : List Shape) → fit_one_batch ss ≡ true → FitOneBatch ss
fit ss e =
    let x = both _ _ e in
    let y = both _ _ x.1 in
    record { few = leb-true (length ss) most_batch_tasks x.0; few_steps = leb-true (steps_together ss) most_batch_steps y.0; few_cells = leb-true (cells_together ss) most_batch_cells y.1 }

test_passes : (ss : List Shape) → FitOneBatch ss → fit_one_batch ss ≡ true
test_passes ss w =
    joined _ _ (le-leb (length ss) most_batch_tasks w.few) (joined _ _ (le-leb (steps_together ss) most_batch_steps w.few_steps) (le-leb (cells_together ss) most_batch_cells w.few_cells))

at_most : (test : ℕ → Bool) (n : ℕ) → greatest test n ≤ n
at_most test zero = omega arith
at_most test (suc n) = chosen (test (suc n)) (at_most test n) where
  chosen : (b : Bool) → greatest test n ≤ n → cond b (suc n) (greatest test n) ≤ suc n
  chosen true below = omega arith
  chosen false below = omega (arith, below)

passes : (test : ℕ → Bool) (n : ℕ) → test 0 ≡ true → test (greatest test n) ≡ true
passes test zero first = first
passes test (suc n) first = chosen (test (suc n)) refl (passes test n first) where
  chosen : (b : Bool) → test (suc n) ≡ b → test (greatest test n) ≡ true → test (cond b (suc n) (greatest test n)) ≡ true
  chosen true is below = is
  chosen false is below = below

below : (m n : ℕ) → m ≤ suc n → m ≢ suc n → m ≤ n
below m n le ne = omega (arith, le, ne)

is_greatest : (test : ℕ → Bool) (n m : ℕ) → m ≤ n → test m ≡ true → m ≤ greatest test n
is_greatest test zero m le is = omega (arith, le)
is_greatest test (suc n) m le is = chosen (test (suc n)) refl (λ lower. is_greatest test n m lower is) where
  lower : test (suc n) ≡ false → m ≤ n
  lower fails = below m n le (λ same. absurd (let t : true ≡ false = sym is ∙ (ap test same ∙ fails) in cc))

  chosen : (b : Bool) → test (suc n) ≡ b → (m ≤ n → m ≤ greatest test n) → m ≤ cond b (suc n) (greatest test n)
  chosen true fits upto = le
  chosen false fails upto = upto (lower fails)

pub cut_is_longest : CutIsLongest
unfolding longest_cut
cut_is_longest ss =
    let test : ℕ → Bool = λ n. fit_one_batch (take n ss) in
    record {
      there = at_most test (length ss);
      fit = fit (take (longest_cut ss) ss) (passes test (length ss) refl);
      longest = λ more le fits. is_greatest test (length ss) more le (test_passes (take more ss) fits);
    }

-- there is one longest cut
pub one_cut : (ss : List Shape) (n : ℕ) → IsLongestCut ss n → n ≡ longest_cut ss
one_cut ss n is =
    let cut = cut_is_longest ss in
    omega (arith, is.longest (longest_cut ss) cut.there cut.fit, cut.longest n is.there is.fit)

pub some_cut : (s : Shape) (ss : List Shape) → IsPieShape s → 1 ≤ longest_cut (s ∷ ss)
some_cut s ss small =
    (cut_is_longest (s ∷ ss)).longest 1 (omega arith)
    (record {
      few = omega arith;
      few_steps = omega (arith, small.few_steps, sum_more (λ (x : Shape). x.steps) s []);
      few_cells = omega (arith, small.few_cells, sum_more (λ (x : Shape). x.size) s []);
    })
