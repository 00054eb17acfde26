-- The lines of a text, and the tokens of a line (docs/ASSEMBLY.md). A token is its bytes.
use Rattle.std.specs.Prelude.{ℕ, Bool, true, false, not, ◌==◌, ◌&&◌, ◌||◌, nat_le, List, [], ◌∷◌, ◌++◌, ◌≡◌, if◌then◌else◌, ⊤}
use Rattle.std.specs.List.{AllByRecursion, list_all, slice_split}

-- the lines of a text; after a line feed at its end one more line follows, which is empty
abbrev pub lines_of : List ℕ → List (List ℕ)
lines_of text = slice_split (λ c. c == 10) text

-- whether the next byte is `/`
abbrev pub begins_with_slash : List ℕ → Bool
begins_with_slash [] = false
begins_with_slash (c ∷ cs) = c == 47

-- what stands before the first `//`
abbrev pub before_comment : List ℕ → List ℕ
before_comment [] = []
before_comment (c ∷ cs) = if c == 47 && begins_with_slash cs then [] else c ∷ before_comment cs

-- ---- bytes

-- `A` to `Z` and `a` to `z`
abbrev pub is_letter : ℕ → Bool
is_letter c = (nat_le 65 c && nat_le c 90) || (nat_le 97 c && nat_le c 122)

-- `0` to `9`
abbrev pub is_digit : ℕ → Bool
is_digit c = nat_le 48 c && nat_le c 57

-- a letter, a digit or `_`
abbrev pub is_name_byte : ℕ → Bool
is_name_byte c = is_letter c || is_digit c || c == 95

-- `++`, `+=` and `!=`
abbrev pub is_pair : ℕ → ℕ → Bool
is_pair a b = (a == 43 && (b == 43 || b == 61)) || (a == 33 && b == 61)

-- ---- tokens

-- whether there are no bytes
abbrev pub is_nil : List ℕ → Bool
is_nil [] = true
is_nil (c ∷ cs) = false

-- whether the first byte is a letter
abbrev pub begins_with_letter : List ℕ → Bool
begins_with_letter [] = false
begins_with_letter (c ∷ cs) = is_letter c

-- some bytes, all of them digits
abbrev pub is_digits : List ℕ → Bool
is_digits ds = not (is_nil ds) && list_all is_digit ds

-- one byte but a space, or a pair
abbrev pub is_sign : List ℕ → Bool
is_sign [] = false
is_sign (a ∷ []) = not (a == 32)
is_sign (a ∷ b ∷ []) = is_pair a b
is_sign (a ∷ b ∷ c ∷ cs) = false

-- a letter and then letters, digits or `_`; digits; or a sign
abbrev pub is_token : List ℕ → Bool
is_token t = (begins_with_letter t && list_all is_name_byte t) || (is_digits t || is_sign t)

-- the token is as long as it can be: with the next byte it is none
abbrev pub IsLongest : List ℕ → List ℕ → Type 0
IsLongest t [] = ⊤
IsLongest t (c ∷ rest) = is_token (t ++ (c ∷ [])) ≡ false

-- the bytes are these tokens, each as long as it can be, with spaces before, between and after them; there is one list of
-- tokens (a law)
abbrev pub AreTokens : List ℕ → List (List ℕ) → Type 0
AreTokens bytes [] = AllByRecursion (λ c. c ≡ 32) bytes
AreTokens bytes (t ∷ ts) =
    (spaces : List ℕ) × (rest : List ℕ) × (bytes ≡ spaces ++ (t ++ rest)) × AllByRecursion (λ c. c ≡ 32) spaces × (is_token t ≡ true) × IsLongest t rest × AreTokens rest ts
