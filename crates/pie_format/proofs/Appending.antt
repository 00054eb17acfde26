-- Writing parts one after the other.
use Rattle.std.proofs.Common.{◌≡◌, ℕ, List, ◌++◌, ap, ◌∙◌, append_assoc}

-- four parts, written one after the other
pub four_parts : (old b c d e x y z w : List ℕ) → b ≡ old ++ x → c ≡ b ++ y → d ≡ c ++ z → e ≡ d ++ w → e ≡ old ++ (x ++ (y ++ (z ++ w)))
four_parts old b c d e x y z w p q r s =
    let two : c ≡ old ++ (x ++ y) = q ∙ ap (λ (t : List ℕ). t ++ y) p ∙ append_assoc old x y in
    let three : d ≡ old ++ ((x ++ y) ++ z) = r ∙ ap (λ (t : List ℕ). t ++ z) two ∙ append_assoc old (x ++ y) z in
    let four : e ≡ old ++ (((x ++ y) ++ z) ++ w) = s ∙ ap (λ (t : List ℕ). t ++ w) three ∙ append_assoc old ((x ++ y) ++ z) w in
    four ∙ ap (λ (t : List ℕ). old ++ t) (append_assoc (x ++ y) z w ∙ append_assoc x y (z ++ w))
