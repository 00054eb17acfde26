-- What tests for equal numbers tell, and choices by a test.
use Rattle.std.proofs.Common.{◌≡◌, ◌≢◌, ℕ, ◌==◌, Bool, true, false, if◌then◌else◌, refl, arith}
use Rattle.std.proofs.lemmas.Bool.Decides.{nat_tests}

pub is_eq : (n k : ℕ) → n ≡ k → (n == k) ≡ true
is_eq n k e = grind (arith, nat_tests)

pub eq_is : (n k : ℕ) → (n == k) ≡ true → n ≡ k
eq_is n k e = grind (arith, nat_tests)

pub is_not : (n k : ℕ) → n ≢ k → (n == k) ≡ false
is_not n k e = grind (arith, nat_tests)

pub not_is : (n k : ℕ) → (n == k) ≡ false → n ≢ k
not_is n k e = grind (arith, nat_tests)

pub pick : {X : Type 0} (P : X → Type 0) (b : Bool) (u v : X) → (b ≡ true → P u) → (b ≡ false → P v) → P (if b then u else v)
pick P true u v l r = l refl
pick P false u v l r = r refl
