-- The quotient that is computed by an inverse is the one that is defined.
use Rattle.std.proofs.Common.{◌≡◌, ◌≢◌, ℕ, zero, suc, ◌*◌, ◌%◌, ◌<◌, ◌==◌, Bool, true, false, if◌then◌else◌, Option, Some, None, refl, sym, ap, ◌∙◌, inl, inr, arith, lit<}
use Rattle.std.specs.Option.{option_or}
use Rattle.std.proofs.Math.Nat.{mod-lt, mod-eq_of_lt, zero-mul, zero-mod}
use Rattle.std.proofs.lemmas.Nat.{mul-mod_first, mul-mod_second}
use Rattle.std.proofs.lemmas.Bool.{cases_lt}
use Rattle.goldi_field.proofs.Prime.{cancel}
use Rattle.goldi_field.specs.Numbers.{prime, IsFelt, product_of}
use Rattle.cairo_model.proofs.NumberTests.{is_eq, is_not, eq_is}
use Rattle.cairo_model.proofs.Outcomes.{else_gives}
use Rattle.seg_runner.specs.Deductions.{least_below, quotient_of}

-- no number below a limit passes
none_below : (test : ℕ → Bool) (n : ℕ) → ((k : ℕ) → k < n → test k ≡ false) → least_below test n ≡ None
unfolding least_below
none_below test zero fails = refl
none_below test (suc n) fails = rw (none_below test n (λ k lt. fails k (omega arith))) (rw (fails n (omega arith)) refl)

least_is : (test : ℕ → Bool) (n q : ℕ) → q < n → test q ≡ true → ((k : ℕ) → k < q → test k ≡ false) → least_below test n ≡ Some q
unfolding least_below
least_is test zero q lt is before = absurd (omega arith)
least_is test (suc n) q lt is before = elim (cases_lt q n) [
  | inl early ↦ rw (least_is test n q early is before) refl
  | inr late ↦
      let same : q ≡ n = omega arith in
      let here : test n ≡ true = ap test (sym same) ∙ is in
      rw (none_below test n (λ k less. before k (omega arith))) (rw here (ap Some (sym same)))
]

-- a number that was found lies below the limit
found_or : {R : Type 0} (o : Option ℕ) (b : Bool) (n q : ℕ) → option_or o (if b then Some n else None) ≡ Some q → (o ≡ Some q → R) → (n ≡ q → R) → R
found_or (Some k) b n q e early late = early e
found_or None true n q e early late = late (cc)
found_or None false n q e early late = absurd (cc)

least_lies : (test : ℕ → Bool) (n q : ℕ) → least_below test n ≡ Some q → q < n
unfolding least_below
least_lies test zero q e = absurd (cc)
least_lies test (suc n) q e = found_or (least_below test n) (test n) n q e (λ early. let low = least_lies test n q early in omega arith) (λ same. omega arith)

not_true_is : (b : Bool) → (b ≡ true → ⊥) → b ≡ false
not_true_is true never = absurd (never refl)
not_true_is false never = refl

-- the product with the inverse, and its product with b
product_is : (a b i : ℕ) → IsFelt a → product_of b i ≡ 1 → product_of (product_of a i) b ≡ a
product_is a b i small inverse =
    let regroup : a * i * b ≡ a * (b * i) = omega arith in
    let one : a * 1 ≡ a = omega arith in
    mul-mod_first (a * i) b prime
    ∙ ap (λ y. y % prime) regroup
    ∙ sym (mul-mod_second a (b * i) prime)
    ∙ ap (λ y. a * y % prime) inverse
    ∙ ap (λ y. y % prime) one
    ∙ mod-eq_of_lt small

turned : (a b : ℕ) → product_of a b ≡ product_of b a
turned a b = ap (λ y. y % prime) (commuted a b)
  where
    commuted : (a b : ℕ) → a * b ≡ b * a
    commuted a b = omega arith

pub quotient_found : (a b i : ℕ) → IsFelt a → IsFelt b → b ≢ 0 → product_of b i ≡ 1 → quotient_of a b ≡ Some (product_of a i)
unfolding quotient_of
quotient_found a b i small less nonzero inverse =
    let low : product_of a i < prime = mod-lt (a * i) (lit< tt) in
    let is = product_is a b i small inverse in
    rw (is_not b 0 nonzero) (least_is (λ q. product_of q b == a) prime (product_of a i) low (is_eq _ _ is) (λ k before.
    not_true_is (product_of k b == a) (λ other.
    let equal : product_of b k ≡ product_of b (product_of a i) = turned b k ∙ eq_is _ _ other ∙ sym is ∙ turned (product_of a i) b in
    let below : k < prime = omega arith in
    let same : k ≡ product_of a i = cancel b k (product_of a i) less below low nonzero equal in
    omega arith)))

pub no_quotient : (a b : ℕ) → b ≡ 0 → quotient_of a b ≡ None
unfolding quotient_of
no_quotient a b none = rw (is_eq b 0 none) refl

pub quotient_lies : (a b q : ℕ) → quotient_of a b ≡ Some q → IsFelt q
unfolding quotient_of
quotient_lies a b q e = else_gives (b == 0) (least_below (λ k. product_of k b == a) prime) q e (λ _ found. least_lies (λ k. product_of k b == a) prime q found)

-- what has an inverse isn't 0
pub has_no_zero : (b i : ℕ) → product_of b i ≡ 1 → b ≢ 0
has_no_zero b i inverse none =
    let nothing : product_of 0 i ≡ 0 = ap (λ y. y % prime) (zero-mul i) ∙ zero-mod prime in
    let one : product_of 0 i ≡ 1 = ap (λ y. product_of y i) (sym none) ∙ inverse in
    omega arith
