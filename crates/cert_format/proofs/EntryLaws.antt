-- Entries of a file: their bytes, and what holds of each of them.
use Rattle.std.proofs.Common.{◌≡◌, ℕ, List, [], ◌∷◌, ◌++◌, length, drop, refl, ap, subst, ◌∙◌, append_assoc}
use Rattle.std.specs.List.{AllByRecursion}
use Rattle.std.proofs.lemmas.Grind.{flat_map-append}
use Rattle.std.proofs.lemmas.List.{drop_at}
use Rattle.cert_format.specs.Refusals.{Entry, entry_bytes, entries_bytes, FitsBytes}
use Rattle.cairo_model.proofs.Bytes.{IsBytes, IsBytes-drop}

-- the bytes of two rows of entries, and then the rest
pub in_two : (xs ys : List Entry) (rest : List ℕ) → entries_bytes (xs ++ ys) ++ rest ≡ entries_bytes xs ++ (entries_bytes ys ++ rest)
in_two xs ys rest = ap (λ (t : List ℕ). t ++ rest) (flat_map-append entry_bytes xs ys) ∙ append_assoc (entries_bytes xs) (entries_bytes ys) rest

pub IsBytes-behind : (bytes front rest : List ℕ) → IsBytes bytes → bytes ≡ front ++ rest → IsBytes rest
IsBytes-behind bytes front rest fits parts =
    let behind : drop (length front) bytes ≡ rest = ap (λ (t : List ℕ). drop (length front) t) parts ∙ drop_at front rest (length front) refl in
    subst (λ (t : List ℕ). IsBytes t) behind (IsBytes-drop (length front) bytes fits)

-- ---- what holds of each

pub all_first : {A : Type 0} (P : A → Type 0) (xs ys : List A) → AllByRecursion P (xs ++ ys) → AllByRecursion P xs
all_first P [] ys h = tt
all_first P (x ∷ xs) ys h = (h.0, all_first P xs ys h.1)

pub all_second : {A : Type 0} (P : A → Type 0) (xs ys : List A) → AllByRecursion P (xs ++ ys) → AllByRecursion P ys
all_second P [] ys h = h
all_second P (x ∷ xs) ys h = all_second P xs ys h.1

pub all_both : {A : Type 0} (P : A → Type 0) (xs ys : List A) → AllByRecursion P xs → AllByRecursion P ys → AllByRecursion P (xs ++ ys)
all_both P [] ys h k = k
all_both P (x ∷ xs) ys h k = (h.0, all_both P xs ys h.1 k)

-- bytes can hold each of them
abbrev pub Fit : List Entry → Type 0
Fit entries = AllByRecursion FitsBytes entries
