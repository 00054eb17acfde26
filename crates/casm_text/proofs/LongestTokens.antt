-- The tokens that are found byte by byte are those that the definition tells.
use Rattle.casm_text.specs.Tokens.{is_letter, is_digit, is_name_byte, is_pair, is_nil, is_digits, is_sign, is_token, begins_with_letter, AreTokens}
use Rattle.casm_text.specs.Working.Tokenizing.{goes_on, tokens_after}
use Rattle.casm_text.proofs.Sound.{both_true}
use Rattle.casm_text.proofs.Tokenizing.{and_both, goes_along, anew}
use Rattle.std.proofs.Common.{◌≡◌, ℕ, ◌==◌, Bool, true, false, not, ◌&&◌, ◌||◌, List, [], ◌∷◌, ◌++◌, refl, ap, sym, subst, ◌∙◌, arith, cond}
use Rattle.std.proofs.lemmas.List.{append_assoc, append-nil}
use Rattle.std.specs.List.{AllByRecursion, list_all}
use Rattle.std.proofs.lemmas.Bool.{false≢true}
use Rattle.std.proofs.lemmas.Bool.Decides.{Decides-eqb, nat_tests}

letter_no_digit : (a : ℕ) → is_letter a ≡ true → is_digit a ≡ false
letter_no_digit a h = grind (arith, nat_tests)

letter_no_pair : (a b : ℕ) → is_letter a ≡ true → is_pair a b ≡ false
letter_no_pair a b h = grind (arith, nat_tests)

digit_no_pair : (a b : ℕ) → is_digit a ≡ true → is_pair a b ≡ false
digit_no_pair a b h = grind (arith, nat_tests)

letter_name : (a : ℕ) → is_letter a ≡ true → is_name_byte a ≡ true
letter_name a h = grind (arith, nat_tests)

letter_no_space : (a : ℕ) → is_letter a ≡ true → a == 32 ≡ false
letter_no_space a h = grind (arith, nat_tests)

digit_no_space : (a : ℕ) → is_digit a ≡ true → a == 32 ≡ false
digit_no_space a h = grind (arith, nat_tests)

pair_no_space : (a b : ℕ) → is_pair a b ≡ true → a == 32 ≡ false
pair_no_space a b h = grind (arith, nat_tests)

-- ---- lists of bytes that pass a test

and_true : (a : Bool) → a && true ≡ a
and_true true = refl
and_true false = refl

all_snoc : (test : ℕ → Bool) (cs : List ℕ) (c : ℕ) → list_all test cs ≡ true → list_all test (cs ++ (c ∷ [])) ≡ test c
all_snoc test [] c h = and_true (test c)
all_snoc test (d ∷ ds) c h =
    let both = and_both (test d) (list_all test ds) h in
    let here : test d ≡ true = both.0 in
    rw here (all_snoc test ds c both.1)

all_front : (test : ℕ → Bool) (cs : List ℕ) (c : ℕ) → list_all test (cs ++ (c ∷ [])) ≡ true → list_all test cs ≡ true
all_front test [] c h = refl
all_front test (d ∷ ds) c h =
    let both = and_both (test d) (list_all test (ds ++ (c ∷ []))) h in
    both_true (test d) (list_all test ds) both.0 (all_front test ds c both.1)

-- ---- the three kinds of tokens, by the first byte

letter_case : (A Dm x : Bool) → A ≡ x → (true && (true && A)) || ((false && Dm) || false) ≡ x
letter_case true Dm x h = h
letter_case false Dm x h = h

by_letter : (L na A D Dm S x : Bool) → L ≡ true → na ≡ true → D ≡ false → S ≡ false → A ≡ x → (L && (na && A)) || ((D && Dm) || S) ≡ x
by_letter L na A D Dm S x l n d s h = rw (l, n, d, s) (letter_case A Dm x h)

digit_case : (Dm x : Bool) → Dm ≡ x → false || ((true && Dm) || false) ≡ x
digit_case true x h = h
digit_case false x h = h

by_digit : (L na A D Dm S x : Bool) → L ≡ false → D ≡ true → S ≡ false → Dm ≡ x → (L && (na && A)) || ((D && Dm) || S) ≡ x
by_digit L na A D Dm S x l d s h = rw (l, d, s) (digit_case Dm x h)

by_sign : (L na A D Dm S x : Bool) → L ≡ false → D ≡ false → S ≡ x → (L && (na && A)) || ((D && Dm) || S) ≡ x
by_sign L na A D Dm S x l d h = rw (l, d) h

letters_do : (L na A D Dm S : Bool) → L ≡ true → na ≡ true → A ≡ true → (L && (na && A)) || ((D && Dm) || S) ≡ true
letters_do L na A D Dm S l n h = rw (l, n, h) refl

or_true : (a : Bool) → a || true ≡ true
or_true true = refl
or_true false = refl

digits_do : (X D Dm S : Bool) → D ≡ true → Dm ≡ true → X || ((D && Dm) || S) ≡ true
digits_do X D Dm S d h = rw (d, h) (or_true X)

sign_does : (X Y S : Bool) → S ≡ true → X || (Y || S) ≡ true
sign_does X Y S s = rw (s, or_true Y) (or_true X)

sign_longer : (a : ℕ) (more : List ℕ) (c : ℕ) → is_sign (a ∷ (more ++ (c ∷ []))) ≡ is_nil more && is_pair a c
sign_longer a [] c = refl
sign_longer a (b ∷ []) c = refl
sign_longer a (b ∷ d ∷ ds) c = refl

no_longer_sign : (a : ℕ) (more : List ℕ) (c : ℕ) → is_pair a c ≡ false → is_sign (a ∷ (more ++ (c ∷ []))) ≡ false
no_longer_sign a [] c h = h
no_longer_sign a (b ∷ []) c h = refl
no_longer_sign a (b ∷ d ∷ ds) c h = refl

by_first_letter : (a : ℕ) (more : List ℕ) (x : Bool) → is_letter a ≡ true → is_sign (a ∷ more) ≡ false → list_all is_name_byte more ≡ x → is_token (a ∷ more) ≡ x
by_first_letter a more x l s h =
    by_letter (is_letter a) (is_name_byte a) (list_all is_name_byte more) (is_digit a) (list_all is_digit more) (is_sign (a ∷ more)) x l (letter_name a l) (letter_no_digit a l) s h

by_first_digit : (a : ℕ) (more : List ℕ) (x : Bool) → is_letter a ≡ false → is_digit a ≡ true → is_sign (a ∷ more) ≡ false → list_all is_digit more ≡ x → is_token (a ∷ more) ≡ x
by_first_digit a more x l d s h =
    by_digit (is_letter a) (is_name_byte a) (list_all is_name_byte more) (is_digit a) (list_all is_digit more) (is_sign (a ∷ more)) x l d s h

by_other : (a : ℕ) (more : List ℕ) (x : Bool) → is_letter a ≡ false → is_digit a ≡ false → is_sign (a ∷ more) ≡ x → is_token (a ∷ more) ≡ x
by_other a more x l d h = by_sign (is_letter a) (is_name_byte a) (list_all is_name_byte more) (is_digit a) (list_all is_digit more) (is_sign (a ∷ more)) x l d h

sign_is_token : (a : ℕ) (more : List ℕ) → is_sign (a ∷ more) ≡ true → is_token (a ∷ more) ≡ true
sign_is_token a more s = sign_does (begins_with_letter (a ∷ more) && list_all is_name_byte (a ∷ more)) (is_digits (a ∷ more)) (is_sign (a ∷ more)) s

letter_rest : (a : ℕ) (more : List ℕ) → is_letter a ≡ true → is_token (a ∷ more) ≡ true → list_all is_name_byte more ≡ true
letter_rest a [] l h = refl
letter_rest a (b ∷ []) l h = sym (by_first_letter a (b ∷ []) (list_all is_name_byte (b ∷ [])) l (letter_no_pair a b l) refl) ∙ h
letter_rest a (b ∷ d ∷ ds) l h = sym (by_first_letter a (b ∷ d ∷ ds) (list_all is_name_byte (b ∷ d ∷ ds)) l refl refl) ∙ h

digit_rest : (a : ℕ) (more : List ℕ) → is_letter a ≡ false → is_digit a ≡ true → is_token (a ∷ more) ≡ true → list_all is_digit more ≡ true
digit_rest a [] l d h = refl
digit_rest a (b ∷ []) l d h = sym (by_first_digit a (b ∷ []) (list_all is_digit (b ∷ [])) l d (digit_no_pair a b d) refl) ∙ h
digit_rest a (b ∷ e ∷ es) l d h = sym (by_first_digit a (b ∷ e ∷ es) (list_all is_digit (b ∷ e ∷ es)) l d refl refl) ∙ h

cond_true : (b x y : Bool) → b ≡ true → cond b x y ≡ x
cond_true b x y h = rw h refl

cond_false : (b x y : Bool) → b ≡ false → cond b x y ≡ y
cond_false b x y h = rw h refl

one_more_by : (a : ℕ) (more : List ℕ) (c : ℕ) (L D : Bool) → is_letter a ≡ L → is_digit a ≡ D → is_token (a ∷ more) ≡ true → is_token (a ∷ (more ++ (c ∷ []))) ≡ goes_on (a ∷ more) c
one_more_by a more c true D l d h =
    by_first_letter a (more ++ (c ∷ [])) (is_name_byte c) l (no_longer_sign a more c (letter_no_pair a c l)) (all_snoc is_name_byte more c (letter_rest a more l h))
    ∙ sym (cond_true (is_letter a) (is_name_byte c) _ l)
one_more_by a more c false true l d h =
    by_first_digit a (more ++ (c ∷ [])) (is_digit c) l d (no_longer_sign a more c (digit_no_pair a c d)) (all_snoc is_digit more c (digit_rest a more l d h))
    ∙ sym (cond_false (is_letter a) (is_name_byte c) _ l ∙ cond_true (is_digit a) (is_digit c) _ d)
one_more_by a more c false false l d h =
    by_other a (more ++ (c ∷ [])) (is_nil more && is_pair a c) l d (sign_longer a more c)
    ∙ sym (cond_false (is_letter a) (is_name_byte c) _ l ∙ cond_false (is_digit a) (is_digit c) _ d)

-- with one more byte a token is one exactly where the byte goes on with it
pub one_more : (a : ℕ) (more : List ℕ) (c : ℕ) → is_token (a ∷ more) ≡ true → is_token (a ∷ (more ++ (c ∷ []))) ≡ goes_on (a ∷ more) c
one_more a more c h = one_more_by a more c (is_letter a) (is_digit a) refl refl h

-- ---- what a token begins with is a token

letters_token : (a : ℕ) (more : List ℕ) → is_letter a ≡ true → list_all is_name_byte more ≡ true → is_token (a ∷ more) ≡ true
letters_token a more l h =
    letters_do (is_letter a) (is_name_byte a) (list_all is_name_byte more) (is_digit a) (list_all is_digit more) (is_sign (a ∷ more)) l (letter_name a l) h

digits_token : (a : ℕ) (more : List ℕ) → is_digit a ≡ true → list_all is_digit more ≡ true → is_token (a ∷ more) ≡ true
digits_token a more d h = digits_do (begins_with_letter (a ∷ more) && list_all is_name_byte (a ∷ more)) (is_digit a) (list_all is_digit more) (is_sign (a ∷ more)) d h

one_less_by : (a : ℕ) (more : List ℕ) (c : ℕ) (L D : Bool) → is_letter a ≡ L → is_digit a ≡ D → is_token (a ∷ (more ++ (c ∷ []))) ≡ true → is_token (a ∷ more) ≡ true
one_less_by a more c true D l d h = letters_token a more l (all_front is_name_byte more c (letter_rest a (more ++ (c ∷ [])) l h))
one_less_by a more c false true l d h = digits_token a more d (all_front is_digit more c (digit_rest a (more ++ (c ∷ [])) l d h))
one_less_by a [] c false false l d h =
    let pair : is_pair a c ≡ true = sym (by_other a (c ∷ []) (is_pair a c) l d refl) ∙ h in
    sign_is_token a [] (ap not (pair_no_space a c pair))
one_less_by a (b ∷ bs) c false false l d h = absurd (false≢true (sym (by_other a ((b ∷ bs) ++ (c ∷ [])) false l d (sign_longer a (b ∷ bs) c)) ∙ h))

pub begins_token : (a : ℕ) (more rest : List ℕ) → is_token (a ∷ (more ++ rest)) ≡ true → is_token (a ∷ more) ≡ true
begins_token a more [] h = ap (λ (cs : List ℕ). is_token (a ∷ cs)) (sym (append-nil more)) ∙ h
begins_token a more (c ∷ rest) h =
    one_less_by a more c (is_letter a) (is_digit a) refl refl (begins_token a (more ++ (c ∷ [])) rest (ap (λ (cs : List ℕ). is_token (a ∷ cs)) (append_assoc more (c ∷ []) rest) ∙ h))

pub goes_all_along : (a : ℕ) (more cs : List ℕ) → is_token (a ∷ (more ++ cs)) ≡ true → goes_along (a ∷ more) cs ≡ true
goes_all_along a more [] h = refl
goes_all_along a more (c ∷ cs) h =
    let longer : is_token (a ∷ ((more ++ (c ∷ [])) ++ cs)) ≡ true = ap (λ (ds : List ℕ). is_token (a ∷ ds)) (append_assoc more (c ∷ []) cs) ∙ h in
    both_true _ _ (sym (one_more a more c (begins_token a more (c ∷ cs) h)) ∙ begins_token a (more ++ (c ∷ [])) cs longer) (goes_all_along a (more ++ (c ∷ [])) cs longer)

-- ---- the tokens found are those of the definition

-- bytes of spaces alone
abbrev pub AreSpaces : List ℕ → Type 0
AreSpaces bytes = AllByRecursion (λ c. c ≡ 32) bytes

skips : (spaces rest : List ℕ) → AreSpaces spaces → tokens_after [] (spaces ++ rest) ≡ tokens_after [] rest
skips [] rest h = refl
skips (c ∷ cs) rest h =
    let space : c ≡ 32 = h.0 in
    rw space (skips cs rest h.1)

no_token_space : (a : ℕ) (b : Bool) → a == 32 ≡ b → is_token (a ∷ []) ≡ true → a == 32 ≡ false
no_token_space a true is h =
    let space = (Decides-eqb a 32).0 is in
    absurd (false≢true (subst (λ (c : ℕ). is_token (c ∷ []) ≡ true) space h))
no_token_space a false is h = is

spaces_only : (spaces : List ℕ) → AreSpaces spaces → tokens_after [] spaces ≡ []
spaces_only spaces h = ap (tokens_after []) (sym (append-nil spaces)) ∙ skips spaces [] h

-- a token as long as it can be ends where the next begins
ends : (a : ℕ) (more : List ℕ) (c : ℕ) (cs : List ℕ) → goes_on (a ∷ more) c ≡ false → tokens_after (a ∷ more) (c ∷ cs) ≡ (a ∷ more) ∷ tokens_after [] (c ∷ cs)
ends a more c cs off = rw off refl

pub only_tokens : (bytes : List ℕ) (ts : List (List ℕ)) → AreTokens bytes ts → tokens_after [] bytes ≡ ts
only_tokens bytes [] h = spaces_only bytes h
only_tokens bytes ([] ∷ ts) (spaces, rest, is, blank, token, longest, more) = absurd (false≢true token)
only_tokens bytes ((a ∷ cs) ∷ ts) (spaces, [], is, blank, token, longest, more) =
    let solid = no_token_space a (a == 32) refl (begins_token a [] cs token) in
    ap (tokens_after []) is ∙ (skips spaces ((a ∷ cs) ++ []) blank ∙ (anew [] a cs [] refl solid (goes_all_along a [] cs token) ∙ ap (λ (us : List (List ℕ)). (a ∷ cs) ∷ us) (only_tokens [] ts more)))
only_tokens bytes ((a ∷ cs) ∷ ts) (spaces, c ∷ rest, is, blank, token, longest, more) =
    let solid = no_token_space a (a == 32) refl (begins_token a [] cs token) in
    let off = sym (one_more a cs c token) ∙ longest in
    ap (tokens_after []) is
    ∙ (skips spaces ((a ∷ cs) ++ (c ∷ rest)) blank
    ∙ (anew [] a cs (c ∷ rest) refl solid (goes_all_along a [] cs token)
    ∙ (ends a cs c rest off ∙ ap (λ (us : List (List ℕ)). (a ∷ cs) ∷ us) (only_tokens (c ∷ rest) ts more))))

after_space : (c : ℕ) (bytes : List ℕ) (ts : List (List ℕ)) → c ≡ 32 → AreTokens bytes ts → AreTokens (c ∷ bytes) ts
after_space c bytes [] space h = (space, h)
after_space c bytes (t ∷ ts) space (spaces, rest, is, blank, token, longest, more) = (c ∷ spaces, rest, ap (λ (l : List ℕ). c ∷ l) is, (space, blank), token, longest, more)

-- from no token begun, and from one
record IsFound (bytes : List ℕ) : Type 0 where
  none : AreTokens bytes (tokens_after [] bytes)
  begun : (a : ℕ) (more : List ℕ) → is_token (a ∷ more) ≡ true → AreTokens ((a ∷ more) ++ bytes) (tokens_after (a ∷ more) bytes)

none_at : (c : ℕ) (cs : List ℕ) (b : Bool) → c == 32 ≡ b → IsFound cs → AreTokens (c ∷ cs) (tokens_after (cond b [] (c ∷ [])) cs)
none_at c cs true is found = after_space c cs (tokens_after [] cs) ((Decides-eqb c 32).0 is) found.none
none_at c cs false is found = found.begun c [] (sign_is_token c [] (ap not is))

begun_at : (a : ℕ) (more : List ℕ) (c : ℕ) (cs : List ℕ) (b : Bool) → goes_on (a ∷ more) c ≡ b → is_token (a ∷ more) ≡ true → AreTokens (c ∷ cs) (tokens_after [] (c ∷ cs)) → IsFound cs
    → AreTokens ((a ∷ more) ++ (c ∷ cs)) (tokens_after (a ∷ more) (c ∷ cs))
begun_at a more c cs true on token here found =
    let longer : is_token (a ∷ (more ++ (c ∷ []))) ≡ true = one_more a more c token ∙ on in
    let told : AreTokens (a ∷ ((more ++ (c ∷ [])) ++ cs)) (tokens_after (a ∷ (more ++ (c ∷ []))) cs) = found.begun a (more ++ (c ∷ [])) longer in
    rw on (subst (λ (l : List ℕ). AreTokens (a ∷ l) (tokens_after (a ∷ (more ++ (c ∷ []))) cs)) (append_assoc more (c ∷ []) cs) told)
begun_at a more c cs false off token here found =
    subst (λ (ts : List (List ℕ)). AreTokens ((a ∷ more) ++ (c ∷ cs)) ts) (sym (ends a more c cs off)) ([], c ∷ cs, refl, tt, token, one_more a more c token ∙ off, here)

found_in : (bytes : List ℕ) → IsFound bytes
found_in [] = record { none = tt; begun = λ a more token. ([], [], refl, tt, token, tt, tt) }
found_in (c ∷ cs) =
    let here : AreTokens (c ∷ cs) (tokens_after [] (c ∷ cs)) = none_at c cs (c == 32) refl (found_in cs) in
    record { none = here; begun = λ a more token. begun_at a more c cs (goes_on (a ∷ more) c) refl token here (found_in cs) }

pub one_token_list : (bytes : List ℕ) (ts us : List (List ℕ)) → AreTokens bytes ts → AreTokens bytes us → ts ≡ us
one_token_list bytes ts us h k = sym (only_tokens bytes ts h) ∙ only_tokens bytes us k

pub found_tokens : (bytes : List ℕ) → AreTokens bytes (tokens_after [] bytes)
found_tokens bytes = (found_in bytes).none
