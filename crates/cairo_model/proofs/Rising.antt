-- Numbers that rise, each told from the one before.
use Rattle.std.proofs.Common.{◌≡◌, ℕ, zero, suc, ◌+◌, ◌<◌, true, List, [], ◌∷◌, Option, Some, None, refl, arith}
use Rattle.std.specs.List.Sorted.{IsStrictlyIncreasing}
use Rattle.std.proofs.lemmas.Bool.{ltb-true, lt-ltb}
use Rattle.cairo_model.specs.Working.Keys.{is_after}

-- each number is above the one before
abbrev pub Chain : Option ℕ → List ℕ → Type 0
Chain before [] = Unit {0}
Chain before (n ∷ ns) = (is_after before n ≡ true) × Chain (Some n) ns

rises : (n : ℕ) (ns : List ℕ) → Chain (Some n) ns → IsStrictlyIncreasing (n ∷ ns)
rises n [] h k lt = absurd (omega arith)
rises n (m ∷ ns) h zero lt = ltb-true n m h.0
rises n (m ∷ ns) h (suc k) lt =
    let e : suc k + 1 ≡ suc (k + 1) = omega arith in
    rw e (rises m ns h.1 k (omega arith))

pub rise_of : (ns : List ℕ) → Chain None ns → IsStrictlyIncreasing ns
rise_of [] h = λ k lt. absurd (omega arith)
rise_of (n ∷ ns) h = rises n ns h.1

chain_from : (n : ℕ) (ns : List ℕ) → IsStrictlyIncreasing (n ∷ ns) → Chain (Some n) ns
chain_from n [] h = tt
chain_from n (m ∷ ns) h =
    let first : n < m = h 0 (omega arith) in
    let later : IsStrictlyIncreasing (m ∷ ns) = λ k lt. let e : suc k + 1 ≡ suc (k + 1) = omega arith in rw e at (h (suc k) (omega arith)) in
    (lt-ltb n m first, chain_from m ns later)

pub chain_of : (ns : List ℕ) → IsStrictlyIncreasing ns → Chain None ns
chain_of [] h = tt
chain_of (n ∷ ns) h = (refl, chain_from n ns h)
