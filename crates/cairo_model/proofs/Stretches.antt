-- When two stretches of addresses share none.
use Rattle.std.proofs.Common.{◌≡◌, ◌≢◌, ◌↔◌, ℕ, ◌+◌, ◌-◌, ◌<◌, ◌≤◌, Bool, true, false, nat_le, refl, arith}
use Rattle.std.proofs.lemmas.Bool.Decides.{nat_tests}
use Rattle.cairo_model.specs.Pie.Layouts.{ShareNone}

pub share_none_above : (b s c t : ℕ) → c + t ≤ b → ShareNone b s c t
share_none_above b s c t le o q p r e = omega arith

-- where neither is empty and each begins below the end of the other, the later start lies in both
shared : (b s c t : ℕ) (before : Bool) → (before ≡ true → b ≤ c) → (before ≡ false → c < b) → 0 < s → 0 < t → c < b + s → b < c + t → ShareNone b s c t → ⊥
shared b s c t true le lt p q r u none = let late = le refl in none (c - b) 0 (omega arith) q (omega arith)
shared b s c t false le lt p q r u none = let late = lt refl in none 0 (b - c) p (omega arith) (omega arith)

pub share_one : (b s c t : ℕ) → 0 < s → 0 < t → (b + s ≤ c → ⊥) → (c + t ≤ b → ⊥) → ShareNone b s c t → ⊥
share_one b s c t p q r u none = shared b s c t (nat_le b c) (λ e. grind (arith, nat_tests)) (λ e. grind (arith, nat_tests)) p q (omega (arith, r)) (omega (arith, u)) none

pub apart_where_differ : (r : Bool) (s t x y a b n m : ℕ) → x ≡ a → y ≡ b → (s ≡ t → ⊥) → ((r ≡ true) ↔ ShareNone x n y m) → (r ≡ true) ↔ (s ≢ t → ShareNone a n b m)
apart_where_differ r s t x y a b n m e f differ decides = rw (← e, ← f) (λ is other. decides.0 is, λ apart. decides.1 (apart differ))
