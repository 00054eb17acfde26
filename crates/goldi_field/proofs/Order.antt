-- Where h squared e times is -1 modulo d, the powers of h below 2^(e+1) differ modulo d.
use Rattle.std.proofs.Common.{◌≡◌, ◌≢◌, ◌⊎◌, ℕ, zero, suc, ◌+◌, ◌*◌, ◌/◌, ◌%◌, ◌^◌, ◌<◌, ◌≤◌, refl, sym, ap, ap₂, ◌∙◌, inl, inr, arith}
use Rattle.std.proofs.Math.Nat.{div-add-mod, pow-suc, pow-zero, mod-eq_of_lt, mod-add-mod, mod-lt, mod-mod, zero-mul, zero-mod, one-mul, mul-one, mul_assoc, two-pow-succ}
use Rattle.std.proofs.lemmas.Nat.{mul-mod, mul-mod_first, mul-mod_second, mul-pow, pow-add}
use Rattle.std.proofs.lemmas.Bool.{cases_lt}
use Rattle.goldi_field.proofs.Pigeonhole.{at_most}

-- x squared e times
pub squared : ℕ → ℕ → ℕ
squared zero x = x
squared (suc e) x = squared e (x * x)

squared_power : (e x k : ℕ) → squared e (x ^ k) ≡ squared e x ^ k
unfolding squared
squared_power zero x k = refl
squared_power (suc e) x k = ap (λ y. squared e y) (sym (mul-pow x x k)) ∙ squared_power e (x * x) k

square_of_one : (x d : ℕ) → 1 < d → x % d ≡ 1 → x * x % d ≡ 1
square_of_one x d one h = mul-mod x x d ∙ ap (λ y. y * y % d) h ∙ mod-eq_of_lt one

squared_one : (e x d : ℕ) → 1 < d → x % d ≡ 1 → squared e x % d ≡ 1
unfolding squared
squared_one zero x d one h = h
squared_one (suc e) x d one h = squared_one e (x * x) d one (square_of_one x d one h)

-- the square of -1 is 1
square_of_minus : (x d : ℕ) → 1 < d → (x + 1) % d ≡ 0 → x * x % d ≡ 1
square_of_minus zero d one h = let h' : 1 % d ≡ 1 = mod-eq_of_lt one in absurd (omega arith)
square_of_minus (suc y) d one h =
    let split : suc y * suc y ≡ (suc y + 1) * y + 1 = omega arith in
    ap (λ z. z % d) split
    ∙ sym (mod-add-mod ((suc y + 1) * y) d 1)
    ∙ ap (λ z. (z + 1) % d) (sym (mul-mod_first (suc y + 1) y d) ∙ ap (λ z. z * y % d) h ∙ zero_times y d)
    ∙ mod-eq_of_lt one
  where
    zero_times : (y d : ℕ) → 0 * y % d ≡ 0
    zero_times y d = ap (λ z. z % d) (zero-mul y) ∙ zero-mod d

power_of_one : (k x d : ℕ) → 1 < d → x % d ≡ 1 → x ^ k % d ≡ 1
power_of_one zero x d one h = ap (λ y. y % d) (pow-zero x) ∙ mod-eq_of_lt one
power_of_one (suc k) x d one h =
    ap (λ y. y % d) (pow-suc x k)
    ∙ mul-mod (x ^ k) x d
    ∙ ap₂ (λ y z. y * z % d) (power_of_one k x d one h) h
    ∙ mod-eq_of_lt one

even_power : (x j : ℕ) → (x * x) ^ j ≡ x ^ (j + j)
even_power x j = mul-pow x x j ∙ sym (pow-add x j j)

-- an odd power of -1 is -1
odd_power_of_minus : (x j d : ℕ) → 1 < d → (x + 1) % d ≡ 0 → (x ^ suc (j + j) + 1) % d ≡ 0
odd_power_of_minus x j d one h =
    let even : x ^ (j + j) % d ≡ 1 = ap (λ y. y % d) (sym (even_power x j)) ∙ power_of_one j (x * x) d one (square_of_minus x d one h) in
    ap (λ y. (y + 1) % d) (pow-suc x (j + j))
    ∙ sym (mod-add-mod (x ^ (j + j) * x) d 1)
    ∙ ap (λ y. (y + 1) % d) (sym (mul-mod_first (x ^ (j + j)) x d) ∙ ap (λ y. y * x % d) even)
    ∙ mod-add-mod (1 * x) d 1
    ∙ ap (λ y. (y + 1) % d) (one-mul x)
    ∙ h

-- modulo a number above 2, 1 is not -1
one_no_minus : (x d : ℕ) → 2 < d → x % d ≡ 1 → (x + 1) % d ≡ 0 → ⊥
one_no_minus x d two one minus =
    let sum : (x + 1) % d ≡ 2 = sym (mod-add-mod x d 1) ∙ ap (λ y. (y + 1) % d) one ∙ mod-eq_of_lt two in
    absurd (omega arith)

no_odd : (e h d j : ℕ) → 2 < d → (squared e h + 1) % d ≡ 0 → h ^ suc (j + j) % d ≢ 1
no_odd e h d j two minus one =
    one_no_minus (squared e h ^ suc (j + j)) d two
    (ap (λ y. y % d) (sym (squared_power e h (suc (j + j)))) ∙ squared_one e (h ^ suc (j + j)) d (omega arith) one)
    (odd_power_of_minus (squared e h) j d (omega arith) minus)

parity : (k : ℕ) → (k ≡ k / 2 + k / 2) ⊎ (k ≡ suc (k / 2 + k / 2))
parity k = elim (cases_lt (k % 2) 1) [
  | inl even ↦ inl (omega (arith, div-add-mod k 2))
  | inr odd ↦ inr (omega (arith, div-add-mod k 2, mod-lt k {m = 2}))
]

-- no power of h strictly between 0 and 2^(e+1) is 1: halve an even one, and square an odd one e times
no_power : (e h d k : ℕ) → 2 < d → (squared e h + 1) % d ≡ 0 → 0 < k → k < 2 ^ suc e → h ^ k % d ≢ 1
unfolding squared
no_power zero h d k two minus pos below one = elim (parity k) [
  | inl even ↦ omega arith
  | inr odd ↦ no_odd zero h d (k / 2) two minus (ap (λ y. h ^ y % d) (sym odd) ∙ one)
]
no_power (suc e) h d k two minus pos below one = elim (parity k) [
  | inl even ↦
      no_power e (h * h) d (k / 2) two minus (omega arith) (omega (arith, two-pow-succ (suc e)))
      (ap (λ y. y % d) (even_power h (k / 2)) ∙ ap (λ y. h ^ y % d) (sym even) ∙ one)
  | inr odd ↦ no_odd (suc e) h d (k / 2) two minus (ap (λ y. h ^ y % d) (sym odd) ∙ one)
]

-- what has an inverse cancels
undo : (h u d i : ℕ) → h * u % d ≡ 1 → h ^ suc i % d * u % d ≡ h ^ i % d
undo h u d i inverse =
    mul-mod_first (h ^ suc i) u d
    ∙ ap (λ y. y % d) (ap (λ y. y * u) (pow-suc h i) ∙ mul_assoc (h ^ i) h u)
    ∙ sym (mul-mod_second (h ^ i) (h * u) d)
    ∙ ap (λ y. h ^ i * y % d) inverse
    ∙ ap (λ y. y % d) (mul-one (h ^ i))

apart : (h u d n : ℕ) → 1 < d → h * u % d ≡ 1 → ((k : ℕ) → 0 < k → k < n → h ^ k % d ≢ 1)
    → (i j : ℕ) → i < j → j < n → h ^ i % d ≢ h ^ j % d
apart h u d n one inverse none zero j less below same =
    none j less below (sym same ∙ ap (λ y. y % d) (pow-zero h) ∙ mod-eq_of_lt one)
apart h u d n one inverse none (suc i) zero less below same = omega arith
apart h u d n one inverse none (suc i) (suc j) less below same =
    apart h u d n one inverse none i j (omega arith) (omega arith)
    (sym (undo h u d i inverse) ∙ ap (λ y. y * u % d) same ∙ undo h u d j inverse)

-- so the modulus is large
pub large_modulus : (e h u d : ℕ) → 2 < d → h * u % d ≡ 1 → (squared e h + 1) % d ≡ 0 → 2 ^ suc e ≤ d
large_modulus e h u d two inverse minus =
    at_most (2 ^ suc e) d (λ i. h ^ i % d)
    (λ i below. mod-lt (h ^ i) (omega arith))
    (apart h u d (2 ^ suc e) (omega arith) inverse (λ k pos below. no_power e h d k two minus pos below))

-- x squared e times, each square reduced modulo m: this computes at numerals
unfoldable pub reduced : ℕ → ℕ → ℕ → ℕ
reduced m zero x = x
reduced m (suc e) x = reduced m e (x * x % m)

pub reduced_is : (m e x y : ℕ) → x % m ≡ y % m → squared e x % m ≡ reduced m e y % m
unfolding squared reduced
reduced_is m zero x y same = same
reduced_is m (suc e) x y same =
    reduced_is m e (x * x) (y * y % m)
    (mul-mod x x m ∙ ap (λ z. z * z % m) same ∙ sym (mul-mod y y m) ∙ sym (mod-mod (y * y) m))
