-- No number strictly between 1 and p = 2^64 - 2^32 + 1 divides p: modulo a divisor above 1, `root` squared 31 times is -1,
-- so the divisor is at least 2^32, and so is its cofactor; but 2^64 is above p.
use Rattle.std.proofs.Common.{◌≡◌, ◌≢◌, ℕ, ◌+◌, ◌*◌, ◌/◌, ◌%◌, ◌^◌, ◌<◌, ◌≤◌, refl, sym, ap, ◌∙◌, inl, inr, arith, lit<}
use Rattle.std.proofs.Math.Nat.{div-add-mod', mod-add-mod, mod-eq_of_lt, mod-mod_of_dvd, mul-mod_right, mul-le-mul, mul-le-mul_right, zero-mod, mul-zero, dvd_of_mod-eq-zero, pos_of_ne-zero}
use Rattle.std.proofs.lemmas.Bool.{cases_lt}
use Rattle.goldi_field.specs.Numbers.{IsFelt, IsInverse, product_of, prime}
use Rattle.goldi_field.proofs.Order.{squared, reduced, reduced_is, large_modulus}
use Rattle.goldi_field.proofs.Inverses.{HasNoDivisor, inverse_of, from_product}

-- Two numbers by their definitions, which only the two lemmas that compute with them open: no other step can raise them to a power.
root : ℕ
root = 1753635133440165772

root_inverse : ℕ
root_inverse = 8554224884056360729

root_product : root * root_inverse % prime ≡ 1
unfolding root root_inverse
root_product = refl

last_square : reduced prime 31 root % prime ≡ 18446744069414584320
unfolding root reduced
last_square = refl

root_minus : (squared 31 root + 1) % prime ≡ 0
root_minus =
    sym (mod-add-mod (squared 31 root) prime 1)
    ∙ ap (λ y. (y + 1) % prime) (reduced_is prime 31 root root refl ∙ last_square)

large_divisor : (d : ℕ) → 1 < d → prime % d ≡ 0 → 2 ^ 32 ≤ d
large_divisor d one divides =
    let even : d ≡ 2 → prime % 2 ≡ 0 = λ (is : d ≡ 2). ap (λ y. prime % y) (sym is) ∙ divides in
    elim (cases_lt 2 d) [
      | inl two ↦
          large_modulus 31 root root_inverse d two
          (sym (mod-mod_of_dvd d (root * root_inverse) (dvd_of_mod-eq-zero d divides)) ∙ ap (λ y. y % d) root_product ∙ mod-eq_of_lt one)
          (sym (mod-mod_of_dvd d (squared 31 root + 1) (dvd_of_mod-eq-zero d divides)) ∙ ap (λ y. y % d) root_minus ∙ zero-mod d)
      | inr small ↦ let odd : prime % 2 ≡ 0 = even (omega arith) in absurd (omega arith)
    ]

pub no_divisor : HasNoDivisor prime
no_divisor d one below divides =
    let split : prime / d * d ≡ prime = omega (arith, div-add-mod' prime d) in
    let above : 1 < prime / d = elim (cases_lt 1 (prime / d)) [
      | inl h ↦ h
      | inr h ↦ absurd (omega (arith, mul-le-mul_right d h))
    ] in
    let cofactor : prime % (prime / d) ≡ 0 = ap (λ y. y % (prime / d)) (sym split) ∙ mul-mod_right (prime / d) d in
    let product : 2 ^ 32 * 2 ^ 32 ≤ prime / d * d = mul-le-mul (large_divisor (prime / d) above cofactor) (large_divisor d one divides) in
    absurd (omega arith)

-- each field number but 0 has an inverse
pub inverse : (a : ℕ) → IsFelt a → a ≢ 0 → (b : ℕ) × IsInverse a b
inverse a below nonzero = inverse_of prime (lit< tt) no_divisor a (pos_of_ne-zero nonzero) below

-- a factor that is not 0 cancels
pub cancel : (a b c : ℕ) → IsFelt a → IsFelt b → IsFelt c → a ≢ 0 → product_of a b ≡ product_of a c → b ≡ c
cancel a b c below_a below_b below_c nonzero same =
    let found : (u : ℕ) × IsInverse a u = inverse a below_a nonzero in
    from_product prime a found.0 b found.1.1 below_b
    ∙ ap (λ y. found.0 * y % prime) same
    ∙ sym (from_product prime a found.0 c found.1.1 below_c)

-- a product is 0 only where one of its factors is
pub zero_product : (a b : ℕ) → IsFelt a → IsFelt b → a ≢ 0 → product_of a b ≡ 0 → b ≡ 0
zero_product a b below_a below_b nonzero product =
    cancel a b 0 below_a below_b (lit< tt) nonzero (product ∙ sym (ap (λ y. y % prime) (mul-zero a)))
