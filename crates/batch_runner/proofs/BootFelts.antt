-- The bootloader's words are field numbers.
use Rattle.std.proofs.Common.{◌≡◌, ℕ, Bool, true, false, ltb, ◌&&◌, List, [], ◌∷◌, All, refl, arith}
use Rattle.std.proofs.lemmas.Bool.Decides.{nat_tests}
use Rattle.std.proofs.lemmas.List.Elements.{All-cons, All-nil}
use Rattle.goldi_field.specs.Numbers.{IsFelt, prime}
use Rattle.boot_program.specs.Words.{boot_words}

unfoldable are_felts : List ℕ → Bool
are_felts [] = true
are_felts (x ∷ xs) = ltb x prime && are_felts xs

first_of : (a b : Bool) → (a && b) ≡ true → a ≡ true
first_of true b e = refl
first_of false b e = e

second_of : (a b : Bool) → (a && b) ≡ true → b ≡ true
second_of true b e = e
second_of false b e = absurd (cc)

felts_by_test : (xs : List ℕ) → are_felts xs ≡ true → All IsFelt xs
unfolding are_felts
felts_by_test [] e = All-nil IsFelt
felts_by_test (x ∷ xs) e =
    let here = first_of (ltb x prime) (are_felts xs) e in
    All-cons IsFelt x xs (grind (arith, nat_tests, here)) (felts_by_test xs (second_of (ltb x prime) (are_felts xs) e))

pub boot_felts : All IsFelt boot_words
unfolding are_felts
boot_felts = felts_by_test boot_words refl
