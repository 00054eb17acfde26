-- Raising to a power by squares.
use Rattle.std.proofs.Common.{◌≡◌, ℕ, ◌+◌, ◌*◌, ◌/◌, ◌%◌, ◌^◌, sym, ap, ◌∙◌, arith}
use Rattle.std.proofs.Math.Nat.{div-add-mod, pow-succ', pow-zero}
use Rattle.std.proofs.lemmas.Nat.{pow-mod, mul-mod_first, mul-mod_second, mul-pow, pow-add}

-- the power of a square is the even power
even_power : (a k : ℕ) → (a * a) ^ k ≡ a ^ (k + k)
even_power a k = mul-pow a a k ∙ sym (pow-add a k k)

-- the square may be reduced before it is raised
reduced_square : (x a k m : ℕ) → x * (a * a % m) ^ k % m ≡ x * a ^ (k + k) % m
reduced_square x a k m =
    sym (mul-mod_second x ((a * a % m) ^ k) m)
    ∙ ap (λ y. x * y % m) (pow-mod (a * a) k m ∙ ap (λ y. y % m) (even_power a k))
    ∙ mul-mod_second x (a ^ (k + k)) m

-- one turn at an even exponent
pub even_turn : (x a n m : ℕ) → n % 2 ≡ 0 → x * (a * a % m) ^ (n / 2) % m ≡ x * a ^ n % m
even_turn x a n m even =
    let twice : n / 2 + n / 2 ≡ n = omega (arith, div-add-mod n 2) in
    reduced_square x a (n / 2) m ∙ ap (λ e. x * a ^ e % m) twice

-- one turn at an odd exponent
pub odd_turn : (x a n m : ℕ) → n % 2 ≡ 1 → (x * a % m) * (a * a % m) ^ (n / 2) % m ≡ x * a ^ n % m
odd_turn x a n m odd =
    let twice : 1 + (n / 2 + n / 2) ≡ n = omega (arith, div-add-mod n 2) in
    let split : a * a ^ (n / 2 + n / 2) ≡ a ^ n = ap (λ y. y * a ^ (n / 2 + n / 2)) (sym (pow_one a)) ∙ sym (pow-add a 1 (n / 2 + n / 2)) ∙ ap (λ e. a ^ e) twice in
    reduced_square (x * a % m) a (n / 2) m
    ∙ mul-mod_first (x * a) (a ^ (n / 2 + n / 2)) m
    ∙ ap (λ y. y % m) (regroup x a (a ^ (n / 2 + n / 2)) ∙ ap (λ y. x * y) split)
  where
    pow_one : (a : ℕ) → a ^ 1 ≡ a
    pow_one a = grind (arith, pow-succ' a 0, pow-zero a)

    regroup : (x a b : ℕ) → x * a * b ≡ x * (a * b)
    regroup x a b = grind arith
