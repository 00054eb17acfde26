-- Where no number strictly between 1 and p divides p, each number from 1 to p - 1 has an inverse modulo p.
use Rattle.std.proofs.Common.{◌≡◌, ◌≢◌, ℕ, zero, suc, ◌+◌, ◌-◌, ◌*◌, ◌/◌, ◌%◌, ◌<◌, sym, ap, ◌∙◌, inl, inr, arith}
use Rattle.std.proofs.Math.Nat.{div-add-mod, mod-lt, mod-eq_of_lt, add-mul-mod_self_left, add-mul-mod_self_right, pos_of_ne-zero, mod-add-mod, mod_self, mod-eq-zero_of_dvd, dvd_of_mod-eq-zero, dvd-mod_iff}
use Rattle.std.proofs.lemmas.Nat.{mul-mod_first, mul-mod_second}
use Rattle.std.proofs.lemmas.Bool.{cases_lt}

abbrev pub HasNoDivisor : ℕ → Type 0
HasNoDivisor p = (d : ℕ) → 1 < d → d < p → p % d ≢ 0

-- where p = a q + r, minus q times the inverse of r is the inverse of a
step : (p a q r s t : ℕ) → a * q + r ≡ p → s + t ≡ p → r * t % p ≡ 1 → a * (q * s) % p ≡ 1
step p a q r s t split rest inverse =
    let both : a * (q * s) + r * p ≡ r * t + p * s = omega (arith, ap (λ y. y * s) split, ap (λ y. r * y) rest) in
    sym (add-mul-mod_self_right (a * (q * s)) r p)
    ∙ ap (λ y. y % p) both
    ∙ add-mul-mod_self_left (r * t) p s
    ∙ inverse

-- n only bounds the recursion
inverse_below : (p : ℕ) → 1 < p → HasNoDivisor p → (n a : ℕ) → a < n → 0 < a → a < p → (b : ℕ) × ((b < p) × (a * b % p ≡ 1))
inverse_below p one prime zero a fuel pos below = absurd (omega arith)
inverse_below p one prime (suc n) a fuel pos below = elim (cases_lt 1 a) [
  | inl above ↦
      let small : p % a < a = mod-lt p pos in
      let nonzero : 0 < p % a = pos_of_ne-zero (prime a above below) in
      let found : (b : ℕ) × ((b < p) × (p % a * b % p ≡ 1)) = inverse_below p one prime n (p % a) (omega arith) nonzero (omega arith) in
      let rest : p - found.0 + found.0 ≡ p = let h : found.0 < p = found.1.0 in omega arith in (
        p / a * (p - found.0) % p,
        (
          mod-lt (p / a * (p - found.0)) (omega arith),
          mul-mod_second a (p / a * (p - found.0)) p
              ∙ step p a (p / a) (p % a) (p - found.0) found.0 (div-add-mod p a) rest found.1.1,
        ),
      )
  | inr small ↦
      let is_one : a * 1 ≡ 1 = omega arith in
      (1, (one, ap (λ y. y % p) is_one ∙ mod-eq_of_lt one))
]

pub inverse_of : (p : ℕ) → 1 < p → HasNoDivisor p → (a : ℕ) → 0 < a → a < p → (b : ℕ) × ((b < p) × (a * b % p ≡ 1))
inverse_of p one prime a pos below = inverse_below p one prime (suc a) a (omega arith) pos below

-- the inverse of a leads from the product of a and b back to b
pub from_product : (p a u b : ℕ) → a * u % p ≡ 1 → b < p → b ≡ u * (a * b % p) % p
from_product p a u b inverse below =
    let turn : 1 * b ≡ b = omega arith in
    let regroup : a * u * b ≡ u * (a * b) = omega arith in
    sym (mod-eq_of_lt below)
    ∙ ap (λ y. y % p) (sym turn ∙ ap (λ y. y * b) (sym inverse))
    ∙ mul-mod_first (a * u) b p
    ∙ ap (λ y. y % p) regroup
    ∙ sym (mul-mod_second u (a * b) p)

-- One turn of Euclid's loop, modulo p: where a s is u and a t is l, and u is l q + r, then a (s - q t) is r.
-- m is q t, and f is s - m.
pub next_factor : (p a s t u l q r f m : ℕ) → a * s % p ≡ u % p → a * t % p ≡ l % p → l * q + r ≡ u
    → m ≡ q * t % p → m < p → f ≡ (s + p - m) % p → a * f % p ≡ r % p
next_factor p a s t u l q r f m at_s at_t split times small next =
    let away : s + p - m ≡ s + (p - m) = omega arith in
    let back : p - m + m ≡ p = omega arith in
    let all : a * (p - m) + a * m ≡ a * p = omega (arith, ap (λ y. a * y) back) in
    let part : a * (s + (p - m)) ≡ a * s + a * (p - m) = omega arith in
    let turn : l * q % p ≡ a * m % p =
    sym (mul-mod_first l q p) ∙ ap (λ y. y * q % p) (sym at_t) ∙ mul-mod_first (a * t) q p
    ∙ ap (λ y. y % p) (regroup a t q) ∙ sym (mul-mod_second a (q * t) p) ∙ ap (λ y. a * y % p) (sym times) in
    let sum : l * q + r + a * (p - m) ≡ l * q + (r + a * (p - m)) = omega arith in
    let last : a * m + (r + a * (p - m)) ≡ r + a * p = omega arith in
    ap (λ y. a * y % p) (next ∙ ap (λ y. y % p) away)
    ∙ mul-mod_second a (s + (p - m)) p
    ∙ ap (λ y. y % p) part
    ∙ sym (mod-add-mod (a * s) p (a * (p - m)))
    ∙ ap (λ y. (y + a * (p - m)) % p) (at_s ∙ ap (λ y. y % p) (sym split))
    ∙ mod-add-mod (l * q + r) p (a * (p - m))
    ∙ ap (λ y. y % p) sum
    ∙ sym (mod-add-mod (l * q) p (r + a * (p - m)))
    ∙ ap (λ y. (y + (r + a * (p - m))) % p) turn
    ∙ mod-add-mod (a * m) p (r + a * (p - m))
    ∙ ap (λ y. y % p) last
    ∙ add-mul-mod_self_right r a p
  where
    regroup : (a t q : ℕ) → a * t * q ≡ a * (q * t)
    regroup a t q = omega arith

-- each common divisor of u and l divides p
abbrev pub IsOver : ℕ → ℕ → ℕ → Type 0
IsOver p u l = (d : ℕ) → u % d ≡ 0 → l % d ≡ 0 → p % d ≡ 0

pub over_next : (p u l : ℕ) → IsOver p u l → IsOver p l (u % l)
over_next p u l over d whole rest =
    over d
    (mod-eq-zero_of_dvd d ((dvd-mod_iff d (dvd_of_mod-eq-zero d whole)).0 (dvd_of_mod-eq-zero d rest)))
    whole

-- so Euclid's loop does not come to 0 before it comes to 1
pub rest_above : (p u l : ℕ) → HasNoDivisor p → IsOver p u l → 1 < l → l < p → 0 < u % l
rest_above p u l prime over above below = pos_of_ne-zero (λ none. prime l above below (over l none (mod_self l)))
