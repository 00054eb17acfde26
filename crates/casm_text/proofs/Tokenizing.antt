-- The tokens of a text made of tokens and spaces are those tokens, where each begins anew after the one before it.
use Rattle.casm_text.specs.Working.Tokenizing.{tokens_after, goes_on, whole_token}
use Rattle.casm_text.specs.Statements.{Piece, token, space, tokens_in, text_in}
use Rattle.std.proofs.Common.{◌≡◌, ℕ, ◌==◌, Bool, true, false, not, ◌&&◌, List, [], ◌∷◌, ◌++◌, refl, ap, sym, ◌∙◌, rules}
use Rattle.std.proofs.lemmas.List.{append_assoc, append-nil}
use Rattle.std.proofs.lemmas.Bool.{false≢true}

-- the bytes each go on with the token begun before them
abbrev pub goes_along : List ℕ → List ℕ → Bool
goes_along begun [] = true
goes_along begun (c ∷ cs) = goes_on begun c && goes_along (begun ++ (c ∷ [])) cs

-- a whole_token token that begins anew after the token begun
abbrev pub starts_anew : List ℕ → List ℕ → Bool
starts_anew begun [] = false
starts_anew begun (c ∷ cs) = not (goes_on begun c) && (not (c == 32) && goes_along (c ∷ []) cs)

-- each token of the pieces begins anew
abbrev pub apart : List ℕ → List Piece → Bool
apart begun [] = true
apart begun (space ∷ ps) = apart [] ps
apart begun (token t ∷ ps) = starts_anew begun t && apart t ps

pub and_both : (a b : Bool) → a && b ≡ true → (a ≡ true) × (b ≡ true)
and_both true b h = (refl, h)
and_both false b h = absurd (false≢true h)

pub not_false : (a : Bool) → not a ≡ true → a ≡ false
not_false true h = absurd (false≢true h)
not_false false h = refl

-- a space ends each token
space_ends : (begun : List ℕ) → goes_on begun 32 ≡ false
space_ends [] = refl
space_ends (a ∷ more) = search rules

pub along : (begun cs rest : List ℕ) → goes_along begun cs ≡ true → tokens_after begun (cs ++ rest) ≡ tokens_after (begun ++ cs) rest
along begun [] rest h = ap (λ b. tokens_after b rest) (sym (append-nil begun))
along begun (c ∷ cs) rest h =
    let both = and_both (goes_on begun c) (goes_along (begun ++ (c ∷ [])) cs) h in
    let on : goes_on begun c ≡ true = both.0 in
    rw on (along (begun ++ (c ∷ [])) cs rest both.1 ∙ ap (λ b. tokens_after b rest) (append_assoc begun (c ∷ []) cs))

-- a token that begins anew is read whole
pub anew : (begun : List ℕ) (c : ℕ) (cs rest : List ℕ) → goes_on begun c ≡ false → c == 32 ≡ false → goes_along (c ∷ []) cs ≡ true
    → tokens_after begun (c ∷ (cs ++ rest)) ≡ whole_token begun ++ tokens_after (c ∷ cs) rest
anew begun c cs rest fresh solid long = rw (fresh, solid) (ap (λ ts. whole_token begun ++ ts) (along (c ∷ []) cs rest long))

pub tokens_apart : (begun : List ℕ) (ps : List Piece) → apart begun ps ≡ true → tokens_after begun (text_in ps) ≡ whole_token begun ++ tokens_in ps
tokens_apart begun [] h = sym (append-nil (whole_token begun))
tokens_apart begun (space ∷ ps) h =
    let ends : goes_on begun 32 ≡ false = space_ends begun in
    rw ends (ap (λ ts. whole_token begun ++ ts) (tokens_apart [] ps h))
tokens_apart begun (token [] ∷ ps) h = absurd (false≢true h)
tokens_apart begun (token (c ∷ cs) ∷ ps) h =
    let both = and_both (starts_anew begun (c ∷ cs)) (apart (c ∷ cs) ps) h in
    let fresh = and_both (not (goes_on begun c)) (not (c == 32) && goes_along (c ∷ []) cs) both.0 in
    let solid = and_both (not (c == 32)) (goes_along (c ∷ []) cs) fresh.1 in
    anew begun c cs (text_in ps) (not_false _ fresh.0) (not_false _ solid.0) solid.1 ∙ ap (λ ts. whole_token begun ++ ts) (tokens_apart (c ∷ cs) ps both.1)
