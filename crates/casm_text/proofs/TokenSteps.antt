-- One byte on, in the loop over a line's bytes.
use Rattle.casm_text.specs.Working.Tokenizing.{most_tokens, goes_on, whole_token, begun_after, ended_at, tokens_after}
use Rattle.std.proofs.Common.{◌≡◌, ℕ, ◌+◌, ◌-◌, ◌<◌, ◌≤◌, ◌==◌, Bool, true, false, List, [], ◌∷◌, ◌++◌, length, take, drop, get_or, refl, ap, sym, ◌∙◌, arith, cond}
use Rattle.std.proofs.lemmas.List.{append_assoc, append-nil, drop_more, take_more, get_or-drop, length-append, length-drop, take_all, take-append-le}

-- the token begun in code at start, before i
abbrev pub begun_in : List ℕ → ℕ → ℕ → List ℕ
begun_in code start i = take (i - start) (drop start code)

-- the tokens found, the token begun from start on, and what is left
pub record Kept (code : List ℕ) (found : List (List ℕ)) (start i : ℕ) : Type 0 where
  pub begun : start ≤ i
  pub within : i ≤ length code
  pub told : found ++ tokens_after (begun_in code start i) (drop i code) ≡ tokens_after [] code

one_on : (code : List ℕ) (found : List (List ℕ)) (start i : ℕ) → Kept code found start i → i < length code
    → (found ++ ended_at (begun_in code start i) (get_or code i 0)) ++ tokens_after (begun_after (begun_in code start i) (get_or code i 0)) (drop (i + 1) code) ≡ tokens_after [] code
one_on code found start i kept inside =
    append_assoc found (ended_at (begun_in code start i) (get_or code i 0)) _
    ∙ (ap (λ (rest : List ℕ). found ++ tokens_after (begun_in code start i) rest) (sym (drop_more code i 0 inside)) ∙ kept.told)

longer : (code : List ℕ) (start i : ℕ) → start ≤ i → i < length code → begun_in code start (i + 1) ≡ begun_in code start i ++ (get_or code i 0 ∷ [])
longer code start i before inside =
    let count : i + 1 - start ≡ i - start + 1 = omega arith in
    let room : i - start < length (drop start code) = omega (arith, length-drop start code) in
    let same : start + (i - start) ≡ i = omega arith in
    ap (λ (n : ℕ). take n (drop start code)) count
    ∙ (take_more (drop start code) (i - start) 0 room
    ∙ ap (λ (x : ℕ). begun_in code start i ++ (x ∷ [])) (get_or-drop start code (i - start) 0 ∙ ap (λ (n : ℕ). get_or code n 0) same))

pub step_on : (code : List ℕ) (found : List (List ℕ)) (start i : ℕ) → Kept code found start i → i < length code → goes_on (begun_in code start i) (get_or code i 0) ≡ true → Kept code found start (i + 1)
step_on code found start i kept inside on =
    let told = one_on code found start i kept inside in
    let same : begun_after (begun_in code start i) (get_or code i 0) ≡ begun_in code start (i + 1) = rw on (sym (longer code start i kept.begun inside)) in
    let none : ended_at (begun_in code start i) (get_or code i 0) ≡ [] = rw on refl in
    record {
      begun = omega (arith, kept.begun);
      within = omega arith;
      told = ap (λ (b : List ℕ). found ++ tokens_after b (drop (i + 1) code)) (sym same)
          ∙ (ap (λ (fs : List (List ℕ)). fs ++ tokens_after (begun_after (begun_in code start i) (get_or code i 0)) (drop (i + 1) code)) (sym (append-nil found) ∙ ap (λ (e : List (List ℕ)). found ++ e) (sym none))
          ∙ told);
    }

one_byte : (code : List ℕ) (i : ℕ) → i < length code → begun_in code i (i + 1) ≡ get_or code i 0 ∷ []
one_byte code i inside =
    let none : i - i ≡ 0 = omega arith in
    longer code i i (omega arith) inside ∙ ap (λ (n : ℕ). take n (drop i code) ++ (get_or code i 0 ∷ [])) none

nothing_begun : (code : List ℕ) (i : ℕ) → begun_in code (i + 1) (i + 1) ≡ []
nothing_begun code i =
    let none : i + 1 - (i + 1) ≡ 0 = omega arith in
    ap (λ (n : ℕ). take n (drop (i + 1) code)) none

-- the token that the byte at i begins
fresh : (b : Bool) (code : List ℕ) (i : ℕ) → i < length code → cond b [] (get_or code i 0 ∷ []) ≡ begun_in code (cond b (i + 1) i) (i + 1)
fresh true code i inside = sym (nothing_begun code i)
fresh false code i inside = sym (one_byte code i inside)

start_within : (b : Bool) (i : ℕ) → cond b (i + 1) i ≤ i + 1
start_within true i = omega arith
start_within false i = omega arith

pub step_end : (code : List ℕ) (found : List (List ℕ)) (start i : ℕ) → Kept code found start i → i < length code → goes_on (begun_in code start i) (get_or code i 0) ≡ false
    → Kept code (found ++ whole_token (begun_in code start i)) (cond (get_or code i 0 == 32) (i + 1) i) (i + 1)
step_end code found start i kept inside off =
    let told = one_on code found start i kept inside in
    let same : begun_after (begun_in code start i) (get_or code i 0) ≡ begun_in code (cond (get_or code i 0 == 32) (i + 1) i) (i + 1) = rw off (fresh (get_or code i 0 == 32) code i inside) in
    let ends : ended_at (begun_in code start i) (get_or code i 0) ≡ whole_token (begun_in code start i) = rw off refl in
    record {
      begun = start_within (get_or code i 0 == 32) i;
      within = omega arith;
      told = ap (λ (b : List ℕ). (found ++ whole_token (begun_in code start i)) ++ tokens_after b (drop (i + 1) code)) (sym same)
          ∙ (ap (λ (e : List (List ℕ)). (found ++ e) ++ tokens_after (begun_after (begun_in code start i) (get_or code i 0)) (drop (i + 1) code)) (sym ends)
          ∙ told);
    }

-- ---- how many tokens are kept

-- as `Kept`, with few tokens found
pub record KeptFew (code : List ℕ) (found : List (List ℕ)) (start i : ℕ) : Type 0 where
  pub kept : Kept code found start i
  pub few : length found ≤ most_tokens

one_at_most : (begun : List ℕ) → length (whole_token begun) ≤ 1
one_at_most [] = omega arith
one_at_most (c ∷ cs) = omega arith

pub few_more : (found : List (List ℕ)) (begun : List ℕ) → length (found ++ whole_token begun) ≤ length found + 1
few_more found begun = omega (arith, length-append found (whole_token begun), one_at_most begun)

-- so many tokens are the first ones
pub first_tokens : (found rest all : List (List ℕ)) → found ++ rest ≡ all → length found ≡ most_tokens + 1 → found ≡ take (most_tokens + 1) all
first_tokens found rest all told count =
    sym (take_all (most_tokens + 1) found (omega (arith, count))) ∙ (sym (take-append-le (most_tokens + 1) found rest (omega (arith, count))) ∙ ap (λ (ts : List (List ℕ)). take (most_tokens + 1) ts) told)
