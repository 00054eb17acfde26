-- Where a text is cut.
use Rattle.std.proofs.Common.{◌≡◌, ℕ, ◌+◌, ◌-◌, ◌==◌, ◌≤◌, ◌<◌, Bool, true, false, not, List, [], ◌∷◌, length, take, drop, get_or, cond, Option, Some, None, unwrap_or, refl, ap, sym, subst, ◌∙◌, arith}
use Rattle.std.proofs.lemmas.List.{take_rest}
use Rattle.std.proofs.lemmas.List.Sums.{position_or_len_is}
use Rattle.std.proofs.lemmas.List.Splits.{length-slice_split, slice_split_first}
use Rattle.desk_script.specs.Working.Reading.{one_in}
use Rattle.memchr.specs.Find.{IsFirstByte, is_byte}
use Rattle.std.specs.List.{onto_first, position_or_len, slice_split}

fails : (b : Bool) → ¬ (b ≡ true) → b ≡ false
fails true not_so = absurd (not_so refl)
fails false not_so = refl

-- what a search finds, and else the length, is where the first such byte stands
pub found_at : (c : ℕ) (xs : List ℕ) (r : Option ℕ) → IsFirstByte (is_byte c) xs r → unwrap_or r (length xs) ≡ position_or_len (λ x. x == c) xs
found_at c xs None is = sym (position_or_len_is (λ x. x == c) xs (length xs) 0 (omega arith) (λ k inside. fails (is_byte c (get_or xs k 0)) (is k (omega arith) inside)) (λ inside. absurd (omega arith)))
found_at c xs (Some i) is = sym (position_or_len_is (λ x. x == c) xs i 0 (omega (arith, is.0.high)) (λ k before. fails (is_byte c (get_or xs k 0)) (is.0.before k (omega arith) before)) (λ inside. is.1))

uncut_by : (b : Bool) (x n : ℕ) (xs : List ℕ) (parts : List (List ℕ)) → length (x ∷ xs) ≤ cond (not b) (1 + n) 0 → (length xs ≤ n → parts ≡ xs ∷ []) → cond b ([] ∷ parts) (onto_first x parts) ≡ (x ∷ xs) ∷ []
uncut_by true x n xs parts long rest = absurd (omega arith)
uncut_by false x n xs parts long rest = ap (onto_first x) (rest (omega arith))

-- a text with no such byte is one part
pub uncut : (c : ℕ) (xs : List ℕ) → length xs ≤ position_or_len (λ x. x == c) xs → slice_split (λ x. x == c) xs ≡ xs ∷ []
uncut c [] long = refl
uncut c (x ∷ xs) long = uncut_by (x == c) x (position_or_len (λ x. x == c) xs) xs (slice_split (λ x. x == c) xs) long (uncut c xs)

pub cut_at : (c end : ℕ) (xs : List ℕ) → end ≡ position_or_len (λ x. x == c) xs → end < length xs
    → slice_split (λ x. x == c) xs ≡ take end xs ∷ slice_split (λ x. x == c) (take (length xs - (end + 1)) (drop (end + 1) xs))
cut_at c end xs is inside =
    let p : ℕ → Bool = λ x. x == c in
    let first : slice_split p xs ≡ take end xs ∷ slice_split p (drop (end + 1) xs) =
    subst (λ (e : ℕ). slice_split p xs ≡ take e xs ∷ slice_split p (drop (e + 1) xs)) (sym is) (slice_split_first p xs 0 (omega (arith, is, inside))) in
    first ∙ ap (λ (ys : List ℕ). take end xs ∷ slice_split p ys) (sym (take_rest xs (end + 1)))

some_parts : (first : List ℕ) (parts : List (List ℕ)) → 0 < length parts → one_in (first ∷ parts) ≡ None
some_parts first [] some = absurd (omega arith)
some_parts first (part ∷ parts) some = refl

-- a part after the first is one too many
pub not_one : (c : ℕ) (first xs : List ℕ) → one_in (first ∷ slice_split (λ x. x == c) xs) ≡ None
not_one c first xs = some_parts first (slice_split (λ x. x == c) xs) (omega (arith, length-slice_split (λ x. x == c) xs))

-- ---- two parts or more
