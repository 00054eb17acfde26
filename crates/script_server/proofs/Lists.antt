-- Lists cut in two, and lists that go along with one another.
use Rattle.std.proofs.Common.{◌≡◌, ℕ, zero, suc, ◌+◌, List, [], ◌∷◌, ◌++◌, map, length, get_or, drop, refl, sym, ap, ap₂, ◌∙◌, arith, append_assoc}
use Rattle.std.specs.List.{AllZip, range_with_len}
use Rattle.std.specs.Prelude.{All}
use Rattle.std.proofs.lemmas.List.Elements.{All-cons, All-head, All-nil, All-tail}

-- ---- going through a list

pub whole_more : {A : Type 0} (done rest rest' whole : List A) (x : A) → done ++ rest ≡ whole → rest ≡ x ∷ rest' → (done ++ x ∷ []) ++ rest' ≡ whole
whole_more done rest rest' whole x is next = append_assoc done (x ∷ []) rest' ∙ (ap (λ ys. done ++ ys) (sym next) ∙ is)

pub zip_more : {A B : Type 0} (R : A → B → Type 0) (xs : List A) (ys : List B) (x : A) (y : B) → AllZip R xs ys → R x y → AllZip R (xs ++ x ∷ []) (ys ++ y ∷ [])
zip_more R [] [] x y h r = (r, tt)
zip_more R [] (b ∷ ys) x y h r = absurd h
zip_more R (a ∷ xs) [] x y h r = absurd h
zip_more R (a ∷ xs) (b ∷ ys) x y h r = (h.0, zip_more R xs ys x y h.1 r)

-- ---- relations along two lists

pub zip_joins : {A B C : Type 0} (R : A → B → Type 0) (S : B → C → Type 0) (T : A → C → Type 0) → ((a : A) (b : B) (c : C) → R a b → S b c → T a c)
    → (xs : List A) (ys : List B) (zs : List C) → AllZip R xs ys → AllZip S ys zs → AllZip T xs zs
zip_joins R S T both [] [] [] h k = tt
zip_joins R S T both [] [] (z ∷ zs) h k = absurd k
zip_joins R S T both [] (y ∷ ys) zs h k = absurd h
zip_joins R S T both (x ∷ xs) [] zs h k = absurd h
zip_joins R S T both (x ∷ xs) (y ∷ ys) [] h k = absurd k
zip_joins R S T both (x ∷ xs) (y ∷ ys) (z ∷ zs) h k = (both x y z h.0 k.0, zip_joins R S T both xs ys zs h.1 k.1)

pub zip_all : {A B : Type 0} (R : A → B → Type 0) (P : A → Type 0) (Q : B → Type 0) → ((a : A) (b : B) → R a b → P a → Q b)
    → (xs : List A) (ys : List B) → AllZip R xs ys → All P xs → All Q ys
zip_all R P Q to [] [] h all = All-nil Q
zip_all R P Q to [] (y ∷ ys) h all = absurd h
zip_all R P Q to (x ∷ xs) [] h all = absurd h
zip_all R P Q to (x ∷ xs) (y ∷ ys) h all = All-cons Q y ys (to x y h.0 (All-head P x xs all)) (zip_all R P Q to xs ys h.1 (All-tail P x xs all))

pub zip_from_map : {A B C : Type 0} (f : A → B) (R : B → C → Type 0) (S : A → C → Type 0) → ((a : A) (c : C) → R (f a) c → S a c)
    → (xs : List A) (ys : List C) → AllZip R (map f xs) ys → AllZip S xs ys
zip_from_map f R S to [] [] h = tt
zip_from_map f R S to [] (y ∷ ys) h = absurd h
zip_from_map f R S to (x ∷ xs) [] h = absurd h
zip_from_map f R S to (x ∷ xs) (y ∷ ys) h = (to x y h.0, zip_from_map f R S to xs ys h.1)

-- ---- cuts

-- lists that are cut after as many elements
pub cut_same : {A : Type 0} (xs us ys vs : List A) → length xs ≡ length us → xs ++ ys ≡ us ++ vs → (xs ≡ us) × (ys ≡ vs)
cut_same [] [] ys vs len is = (refl, is)
cut_same [] (u ∷ us) ys vs len is = absurd (omega (arith, len))
cut_same (x ∷ xs) [] ys vs len is = absurd (omega (arith, len))
cut_same (x ∷ xs) (u ∷ us) ys vs len is =
    let both = cut_same xs us ys vs (omega (arith, len)) (ap (drop 1) is) in
    (ap₂ (λ z zs. z ∷ zs) (ap (λ l. get_or l 0 x) is) both.0, both.1)

pub same_last : {A : Type 0} (x y : A) → x ∷ [] ≡ y ∷ [] → x ≡ y
same_last x y is = ap (λ l. get_or l 0 x) is

-- a list made from numbers that follow one another, the first so many and the others
pub range_cut : {A : Type 0} (f : ℕ → A) (a n m : ℕ) → map f (range_with_len a (n + m)) ≡ map f (range_with_len a n) ++ map f (range_with_len (a + n) m)
range_cut f a zero m = let here : a ≡ a + 0 = omega arith in let all : 0 + m ≡ m = omega arith in ap₂ (λ (b k : ℕ). map f (range_with_len b k)) here all
range_cut f a (suc n) m =
    let count : suc n + m ≡ suc (n + m) = omega arith in
    let on : (a + 1) + n ≡ a + suc n = omega arith in
    ap (λ (k : ℕ). map f (range_with_len a k)) count
    ∙ ap (λ l. f a ∷ l) (range_cut f (a + 1) n m ∙ ap (λ (b : ℕ). map f (range_with_len (a + 1) n) ++ map f (range_with_len b m)) on)
