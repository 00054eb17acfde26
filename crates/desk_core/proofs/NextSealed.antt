-- The first sealed batch, as batches are sealed and taken.
use Rattle.std.proofs.Common.{◌≡◌, ◌≢◌, ℕ, zero, suc, ◌+◌, ◌≤◌, ◌<◌, Bool, true, false, cond, not, List, [], ◌∷◌, ◌++◌, length, map, get_or, refl, sym, ap, ◌∙◌, subst, arith}
use Rattle.std.specs.List.{prefix_len}
use Rattle.std.specs.Option.{option_map_or}
use Rattle.std.specs.Prelude.{Option, Some, None, nat_lt, slice_get, slice_set}
use Rattle.std.proofs.lemmas.List.{length-map}
use Rattle.std.proofs.lemmas.List.Sums.{prefix_len-le-length, prefix_len_passes, prefix_len_stops}
use Rattle.desk_core.specs.DeskRecords.{DeskRecord, plain_batch, plain_of}
use Rattle.desk_core.specs.Desks.{PlainBatch, first_sealed, is_sealed}
use Rattle.desk_core.specs.Kept.{before_sealed}
use Rattle.desk_core.specs.Working.Steps.{batches_moved, sealed_number}
use Rattle.desk_core.specs.declared.batch.Batch.{Batch}
use Rattle.desk_core.specs.declared.phase.Phase.{Phase}

-- ---- one more

pub still_before : (bs : List Batch) (x : Batch) → is_sealed x.phase ≡ true → before_sealed bs ≡ before_sealed (bs ++ x ∷ [])
still_before [] x is = ap (λ (b : Bool). cond (not b) 1 0) (sym is)
still_before (y ∷ bs) x is = ap (λ (n : ℕ). cond (not (is_sealed y.phase)) (1 + n) 0) (still_before bs x is)

-- ---- which one it is

prefix_same : (bs : List Batch) → prefix_len (λ (b : PlainBatch). not (is_sealed b.phase)) (map plain_batch bs) ≡ before_sealed bs
prefix_same [] = refl
prefix_same (x ∷ bs) = ap (λ (n : ℕ). cond (not (is_sealed x.phase)) (1 + n) 0) (prefix_same bs)

pub first_is : (d : DeskRecord) → first_sealed (plain_of d) ≡ sealed_number (before_sealed d.batches) (length d.batches)
first_is d = λ i. cond (nat_lt (prefix_same d.batches i) (length-map d.batches plain_batch i)) (Some (prefix_same d.batches i)) None

-- ---- one gets another phase

pub moved_step : (x : Batch) (bs : List Batch) (b : ℕ) (p : Phase) → batches_moved (x ∷ bs) (Some (suc b)) p ≡ x ∷ batches_moved bs (Some b) p
moved_step x bs b p = go (slice_get bs b) where
  go : (o : Option Batch) → option_map_or (λ (y : Batch). slice_set (x ∷ bs) (suc b) (record y { phase = p })) o (x ∷ bs) ≡ x ∷ option_map_or (λ (y : Batch). slice_set bs b (record y { phase = p })) o bs
  go None = refl
  go (Some y) = refl

-- those below it are as they were
pub moved_before : (bs : List Batch) (k b : ℕ) (p : Phase) → k ≤ b → k ≤ before_sealed bs → k ≤ before_sealed (batches_moved bs (Some b) p)
moved_before bs zero b p le upto = omega arith
moved_before [] (suc k) b p le upto = absurd (omega (arith, upto))
moved_before (x ∷ bs) (suc k) zero p le upto = absurd (omega (arith, le))
moved_before (x ∷ bs) (suc k) (suc b) p le upto =
    subst (λ (xs : List Batch). suc k ≤ before_sealed xs) (sym (moved_step x bs b p)) (go (not (is_sealed x.phase)) upto (moved_before bs k b p (omega (arith, le)))) where
      go : (t : Bool) → suc k ≤ cond t (1 + before_sealed bs) 0 → (k ≤ before_sealed bs → k ≤ before_sealed (batches_moved bs (Some b) p)) → suc k ≤ cond t (1 + before_sealed (batches_moved bs (Some b) p)) 0
      go true h rest = omega (arith, rest (omega (arith, h)))
      go false h rest = absurd (omega (arith, h))

pub taken_before : (bs : List Batch) (next : ℕ) (o : Option ℕ) (p : Phase) → next ≡ before_sealed bs → o ≡ sealed_number next (length bs) → next ≤ before_sealed (batches_moved bs o p)
taken_before bs next o p is o_is = subst (λ (x : Option ℕ). next ≤ before_sealed (batches_moved bs x p)) (sym o_is) (go (nat_lt next (length bs))) where
  go : (t : Bool) → next ≤ before_sealed (batches_moved bs (cond t (Some next) None) p)
  go true = moved_before bs next next p (omega arith) (omega (arith, is))
  go false = omega (arith, is)

-- ---- looking for the next one

unsealed : (b : Bool) → b ≡ false → not b ≡ true
unsealed true is = absurd (cc)
unsealed false is = refl

pub goes_on : (bs : List Batch) (n : ℕ) (x : Batch) → n < length bs → is_sealed (get_or bs n x).phase ≡ false → n ≤ before_sealed bs → n + 1 ≤ before_sealed bs
goes_on bs n x lt is upto = ne_more n (before_sealed bs) upto (λ same. not_both (not (is_sealed (get_or bs n x).phase)) (unsealed (is_sealed (get_or bs n x).phase) is)
    (subst (λ (k : ℕ). not (is_sealed (get_or bs k x).phase) ≡ false) (sym same) (prefix_len_stops (λ (b : Batch). not (is_sealed b.phase)) bs x (omega (arith, lt, same))))) where
      ne_more : (a b : ℕ) → a ≤ b → a ≢ b → a + 1 ≤ b
      ne_more a b le ne = omega (arith, le, ne)

      not_both : (b : Bool) → b ≡ true → b ≡ false → ⊥
      not_both b p q = let t : true ≡ false = sym p ∙ q in cc

pub stops_here : (bs : List Batch) (n : ℕ) (x : Batch) → is_sealed (get_or bs n x).phase ≡ true → n ≤ before_sealed bs → n ≡ before_sealed bs
stops_here bs n x is upto = no_less n (before_sealed bs) upto
    (λ less. let passes : not (is_sealed (get_or bs n x).phase) ≡ true = prefix_len_passes (λ (b : Batch). not (is_sealed b.phase)) bs n x less in
    let t : false ≡ true = ap not (sym is) ∙ passes in cc) where
      no_less : (a b : ℕ) → a ≤ b → ¬ (a < b) → a ≡ b
      no_less a b le not_less = omega (arith, le, not_less)

pub ends_here : (bs : List Batch) (n : ℕ) → length bs ≤ n → n ≤ before_sealed bs → n ≡ before_sealed bs
ends_here bs n end upto = omega (arith, end, upto, prefix_len-le-length (λ (b : Batch). not (is_sealed b.phase)) bs)
