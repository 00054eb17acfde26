-- The first eight bytes, of those that are there: they begin a magic of eight bytes, or one of them is another.
use Rattle.std.proofs.Common.{◌≡◌, ◌≢◌, ℕ, zero, suc, ◌==◌, ◌<◌, ◌≤◌, Bool, true, false, eqb, List, [], ◌∷◌, length, get_or, take, sym, ◌∙◌, arith, inl, inr}
use lib.Pointwise.{pointwise}
use Rattle.std.specs.List.{starts_with}
use Rattle.std.proofs.lemmas.Bool.{eqb-true, eqb-false, and_parts, and_cases}
use Rattle.std.proofs.lemmas.List.{length-take, get_or-take}

differs : (xs ys : List ℕ) → pointwise eqb xs (take (length xs) ys) ≡ false → length xs ≤ length ys → (i : ℕ) × ((i < length xs) × (get_or xs i 0 ≢ get_or ys i 0))
differs [] ys e le = absurd (cc)
differs (x ∷ xs) [] e le = absurd (omega arith)
differs (x ∷ xs) (y ∷ ys) e le =
    elim (and_cases (eqb x y) (pointwise eqb xs (take (length xs) ys)) e) [
      | inl head ↦ (0, (omega arith, eqb-false x y head))
      | inr tail ↦ let d = differs xs ys tail (omega arith) in (suc d.0, (omega (arith, d.1.0), d.1.1))
    ]

agrees : (xs ys : List ℕ) → pointwise eqb xs (take (length xs) ys) ≡ true → (i : ℕ) → i < length xs → get_or xs i 0 ≡ get_or ys i 0
agrees [] ys e i lt = absurd (omega arith)
agrees (x ∷ xs) [] e i lt = absurd (cc)
agrees (x ∷ xs) (y ∷ ys) e zero lt = eqb-true x y (and_parts (eqb x y) (pointwise eqb xs (take (length xs) ys)) e).0
agrees (x ∷ xs) (y ∷ ys) e (suc i) lt = agrees xs ys (and_parts (eqb x y) (pointwise eqb xs (take (length xs) ys)) e).1 i (omega arith)

module _ (magic : List ℕ) (eight : length magic ≡ 8) (bytes : List ℕ) where
  abbrev begins : Bool
  begins = starts_with ◌==◌ magic (take 8 bytes)

  pub another_byte : begins ≡ false → (i : ℕ) × ((i < 8) × ((i < length bytes) × (get_or bytes i 0 ≢ get_or magic i 0)))
  another_byte e =
      let d = differs (take 8 bytes) magic e (omega (arith, eight, length-take 8 bytes)) in
      let early : d.0 < 8 = omega (arith, length-take 8 bytes, d.1.0) in
      let there : d.0 < length bytes = omega (arith, length-take 8 bytes, d.1.0) in
      (d.0, (early, (there, λ same. d.1.1 (get_or-take 8 bytes d.0 0 early ∙ same))))

  pub same_bytes : begins ≡ true → (i : ℕ) → i < 8 → i < length bytes → get_or bytes i 0 ≡ get_or magic i 0
  same_bytes e i early there = sym (get_or-take 8 bytes i 0 early) ∙ agrees (take 8 bytes) magic e i (omega (arith, length-take 8 bytes))
