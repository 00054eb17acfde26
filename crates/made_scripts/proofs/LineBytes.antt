-- Bytes of a line that are no space and no line feed, and the fields of such a line.
use Rattle.std.proofs.Common.{◌≡◌, ℕ, zero, suc, ◌^◌, ◌<◌, ◌≤◌, ◌==◌, true, false, inl, inr, List, [], ◌∷◌, ◌++◌, get_or, Ok, decimal, refl, sym, ap, ◌∙◌, arith, append_assoc}
use Rattle.std.specs.Prelude.{nat_le, nat_lt}
use Rattle.std.specs.List.{All, list_all}
use Rattle.std.specs.Str.Parse.{AllDigits}
use Rattle.std.proofs.lemmas.Bool.{cases_lt}
use Rattle.std.proofs.lemmas.Bool.Decides.{nat_tests}
use Rattle.std.proofs.lemmas.Fmt.{decimal_is_IsNumeral}
use Rattle.std.proofs.lemmas.Str.Parse.{digit_from_value}
use Rattle.std.proofs.lemmas.List.{append-nil}
use Rattle.std.proofs.lemmas.List.Elements.{All-cons, All-append}
use Rattle.std.proofs.lemmas.List.Splits.{slice_split_at, slice_split_none}
use Rattle.hex.specs.Hex.{decode_of, is_hex_digit}
use Rattle.hex.proofs.HexLemmas.{decode_of-ok}
use Rattle.cairo_model.proofs.Chains.{both_left, both_right}
use Rattle.cairo_model.proofs.NumberTests.{is_not}
use Rattle.desk_script.specs.Lines.{line_fields}

-- ---- bytes above the space

-- none is a space or a control character
abbrev pub AreSolid : List ℕ → Type 0
AreSolid bytes = All (λ b. 32 < b) bytes

abbrev pub HasNo : ℕ → List ℕ → Type 0
HasNo c bytes = All (λ b. (b == c) ≡ false) bytes

pub solid_not : (c : ℕ) (bytes : List ℕ) → c ≤ 32 → AreSolid bytes → HasNo c bytes
solid_not c bytes low solid i d lt = is_not (get_or bytes i d) c (λ e. omega (arith, solid i d lt, e, low))

-- those of a text that is written out
pub solid_text : (bytes : List ℕ) → list_all (λ b. nat_lt 32 b) bytes ≡ true → AreSolid bytes
solid_text [] all i d lt = absurd (omega (arith, lt))
solid_text (b ∷ bytes) all zero d lt = let here = both_left (nat_lt 32 b) _ all in grind (arith, nat_tests)
solid_text (b ∷ bytes) all (suc i) d lt = solid_text bytes (both_right (nat_lt 32 b) _ all) i d (omega (arith, lt))

-- those of a number
solid_numeral : (ds : List ℕ) → AllDigits 10 ds → AreSolid ds
solid_numeral [] all i d lt = absurd (omega (arith, lt))
solid_numeral (c ∷ cs) all zero d lt = omega (arith, digit_from_value c all.0)
solid_numeral (c ∷ cs) all (suc i) d lt = solid_numeral cs all.1 i d (omega (arith, lt))

pub solid_decimal : (n : ℕ) → n < 2 ^ 64 → AreSolid (decimal n)
solid_decimal n fits = solid_numeral (decimal n) (decimal_is_IsNumeral n fits).0.1

-- those of hexadecimal digits
no_digit : (c : ℕ) → c ≤ 32 → is_hex_digit c ≡ false
no_digit c low =
    let no_upper : nat_le 65 c ≡ false = grind (arith, nat_tests) in
    let no_lower : nat_le 97 c ≡ false = grind (arith, nat_tests) in
    let no_number : nat_le 48 c ≡ false = grind (arith, nat_tests) in
    rw (no_upper, no_lower, no_number) refl

solid_digit : (c : ℕ) → is_hex_digit c ≡ true → 32 < c
solid_digit c is = elim (cases_lt 32 c) [
  | inl above ↦ above
  | inr low ↦
      let both : true ≡ false = sym is ∙ no_digit c low in
      absurd (cc)
]

pub solid_digits : (digits bytes : List ℕ) → decode_of digits ≡ Ok bytes → AreSolid digits
solid_digits digits bytes decodes i d lt = solid_digit (get_or digits i d) ((decode_of-ok digits bytes decodes).1 i d lt)

-- ---- a line of three fields

abbrev pub fields_text : List ℕ → List ℕ → List ℕ → List ℕ
fields_text a b c = a ++ 32 ∷ (b ++ 32 ∷ c)

module _ (a b c : List ℕ) (is_a : AreSolid a) (is_b : AreSolid b) (is_c : AreSolid c) where
  pub three_fields : line_fields (fields_text a b c) ≡ a ∷ b ∷ c ∷ []
  three_fields =
      let is_space : ℕ → _ = λ x. x == 32 in
      slice_split_at is_space a 32 (b ++ 32 ∷ c) (solid_not 32 a (omega arith) is_a) refl
      ∙ ap (λ (t : List (List ℕ)). a ∷ t)
      (slice_split_at is_space b 32 c (solid_not 32 b (omega arith) is_b) refl ∙ ap (λ (t : List (List ℕ)). b ∷ t) (slice_split_none is_space c (solid_not 32 c (omega arith) is_c)))

  pub no_feed : HasNo 10 (fields_text a b c)
  no_feed =
      let P : ℕ → Type 0 = λ x. (x == 10) ≡ false in
      All-append P a (32 ∷ (b ++ 32 ∷ c)) (solid_not 10 a (omega arith) is_a)
      (All-cons P 32 (b ++ 32 ∷ c) refl (All-append P b (32 ∷ c) (solid_not 10 b (omega arith) is_b) (All-cons P 32 c refl (solid_not 10 c (omega arith) is_c))))

-- as the generator nests what it writes of a job, and of a question
pub submit_nested : (a b c : List ℕ) → a ++ ((32 ∷ (b ++ [])) ++ 32 ∷ (c ++ 10 ∷ [])) ≡ fields_text a b c ++ 10 ∷ []
submit_nested a b c =
    let inner : (b ++ []) ++ 32 ∷ (c ++ 10 ∷ []) ≡ (b ++ 32 ∷ c) ++ 10 ∷ [] = ap (λ (t : List ℕ). t ++ 32 ∷ (c ++ 10 ∷ [])) (append-nil b) ∙ sym (append_assoc b (32 ∷ c) (10 ∷ [])) in
    ap (λ (t : List ℕ). a ++ 32 ∷ t) inner ∙ sym (append_assoc a (32 ∷ (b ++ 32 ∷ c)) (10 ∷ []))

pub question_nested : (a b c : List ℕ) → a ++ ((32 ∷ (b ++ 32 ∷ (c ++ []))) ++ 10 ∷ []) ≡ fields_text a b c ++ 10 ∷ []
question_nested a b c = ap (λ (t : List ℕ). a ++ ((32 ∷ (b ++ 32 ∷ t)) ++ 10 ∷ [])) (append-nil c) ∙ sym (append_assoc a (32 ∷ (b ++ 32 ∷ c)) (10 ∷ []))
