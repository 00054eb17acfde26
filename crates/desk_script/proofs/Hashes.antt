-- A hash is read where there are 64 digits.
use Rattle.std.proofs.Common.{◌≡◌, ◌↔◌, ℕ, ◌==◌, ◌&&◌, Bool, true, false, List, length, cond, Option, Some, None, refl, ap, sym, ◌∙◌, arith}
use Rattle.std.specs.Prelude.{IfSome, is_some, option_map}
use Rattle.std.specs.List.{list_all}
use Rattle.std.proofs.lemmas.Bool.Decides.{nat_tests}
use Rattle.std.proofs.lemmas.List.Sums.{AllPass-from_list_all, list_all-from_AllPass}
use Rattle.builtin_hash.specs.Programs.{hash_digits, words_in_text}
use Rattle.cairo_model.proofs.Chains.{both, both_left, both_right}
use Rattle.hex.specs.Hex.{is_hex_digit}
use Rattle.desk_script.specs.Lines.{IsHash}
use Rattle.desk_script.specs.Working.Reading.{hash_in}

abbrev are_digits : List ℕ → Bool
are_digits field = (length field == hash_digits) && list_all is_hex_digit field

tested : (field : List ℕ) → IsHash field → are_digits field ≡ true
tested field (count, all) = both (length field == hash_digits) _ (grind (arith, nat_tests)) (list_all-from_AllPass is_hex_digit field all)

is_hash : (field : List ℕ) → are_digits field ≡ true → IsHash field
is_hash field passes =
    let count : (length field == hash_digits) ≡ true = both_left _ (list_all is_hex_digit field) passes in
    (grind (arith, nat_tests), AllPass-from_list_all is_hex_digit field (both_right (length field == hash_digits) _ passes))

none_by : {A : Type 0} (b : Bool) (x : A) → ¬ (b ≡ true) → None ≡ cond b (Some x) None
none_by true x not_so = absurd (not_so refl)
none_by false x not_so = refl

no_some : {A : Type 0} (o : Option A) → o ≡ None → ¬ (is_some o ≡ true)
no_some (Some x) is some = absurd (cc)
no_some None is some = absurd (cc)

-- what is read of a field, by when something is
pub hash_known : {H : Type 0} (words : H → List ℕ) (field : List ℕ) (o : Option H) → (is_some o ≡ true) ↔ IsHash field → IfSome o (λ h. words h ≡ words_in_text field) → option_map words o ≡ hash_in field
hash_known words field (Some h) found value =
    ap Some value ∙ sym (ap (λ (b : Bool). cond b (Some (words_in_text field)) None) (tested field (found.0 refl)))
hash_known {H = H} words field None found value = none_by (are_digits field) (words_in_text field) (λ passes. no_some {A = H} None refl (found.1 (is_hash field passes)))

-- a hash or none, as it was read
abbrev pub HashTold : List ℕ → Option (List ℕ) → Type 0
HashTold field (Some words) = IsHash field × (words ≡ words_in_text field)
HashTold field None = ¬ IsHash field

told_by : (b : Bool) (field : List ℕ) → are_digits field ≡ b → HashTold field (cond b (Some (words_in_text field)) None)
told_by true field is = (is_hash field is, refl)
told_by false field is = λ hash. let other : true ≡ false = sym (tested field hash) ∙ is in absurd (cc)

pub hash_told : (field : List ℕ) → HashTold field (hash_in field)
hash_told field = told_by (are_digits field) field refl

pub hash_read : (field : List ℕ) → IsHash field → hash_in field ≡ Some (words_in_text field)
hash_read field hash = ap (λ (b : Bool). cond b (Some (words_in_text field)) None) (tested field hash)
