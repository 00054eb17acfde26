-- The lines that are read off a text are its lines, and a walk over them goes line by line.
use Rattle.std.proofs.Common.{◌≡◌, ℕ, zero, suc, ◌+◌, ◌^◌, ◌<◌, ◌≤◌, Bool, true, false, inl, inr, List, [], ◌∷◌, length, drop, get_or, Option, Some, None, refl, ap, sym, subst, ◌∙◌, arith, cond, ◌==◌}
use Rattle.std.specs.Prelude.{unwrap_or, ◌≢◌}
use Rattle.std.specs.List.{onto_first}
use Rattle.std.proofs.lemmas.Bool.{cases_lt}
use Rattle.std.proofs.lemmas.List.{drop_all, drop_more, length-drop}
use Rattle.casm_text.proofs.LongestTokens.{found_tokens, one_token_list}
use Rattle.casm_text.proofs.OneLine.{read_line, spelled_line}
use Rattle.casm_text.proofs.Sound.{On}
use Rattle.casm_text.specs.Lines.{Line, empty_line, label_line, statement_line, AreLines, IsLine, Spells}
use Rattle.casm_text.specs.Refusals.{HasLine, line_at}
use Rattle.casm_text.specs.Tokens.{before_comment, lines_of}
use Rattle.casm_text.specs.Working.Assembling.{known_line, known_lines, line_of, line_spelled}
use Rattle.casm_text.specs.Working.Parsing.{line_in}
use Rattle.casm_text.specs.Working.Tokenizing.{tokens_of_line}

-- ---- one line

pub line_is : (bytes : List ℕ) (line : Line) → line_of bytes ≡ Some line → IsLine bytes line
line_is bytes line h =
    (tokens_of_line bytes, found_tokens (before_comment bytes), subst (λ (o : Option Line). On (Spells (tokens_of_line bytes)) o) h (read_line (tokens_of_line bytes)))

is_read : (bytes : List ℕ) (line : Line) → IsLine bytes line → line_of bytes ≡ Some line
is_read bytes line (ts, are, spells) =
    let same : ts ≡ tokens_of_line bytes = one_token_list (before_comment bytes) ts (tokens_of_line bytes) are (found_tokens (before_comment bytes)) in
    ap line_in (sym same) ∙ spelled_line ts line spells

known_is : (bytes : List ℕ) (line : Line) → IsLine bytes line → IsLine bytes (known_line bytes)
known_is bytes line is =
    let same : known_line bytes ≡ line = ap (λ (o : Option Line). unwrap_or o empty_line) (is_read bytes line is) in
    subst (λ (l : Line). IsLine bytes l) (sym same) is

pub no_line : (bytes : List ℕ) → line_of bytes ≡ None → ¬ ((line : Line) × IsLine bytes line)
no_line bytes h (line, is) =
    let other : Some line ≡ None = sym (is_read bytes line is) ∙ h in
    absurd (cc)

spelled_or : (ts : List (List ℕ)) (o : Option Line) → On (Spells ts) o → line_spelled (unwrap_or o empty_line) ≡ true
spelled_or ts None h = refl
spelled_or ts (Some empty_line) h = refl
spelled_or ts (Some (label_line name)) h = refl
spelled_or ts (Some (statement_line s)) h = h.1

pub known_spelled : (bytes : List ℕ) → line_spelled (known_line bytes) ≡ true
known_spelled bytes = spelled_or (tokens_of_line bytes) (line_of bytes) (read_line (tokens_of_line bytes))

-- ---- all lines

pub all_lines : (ls : List (List ℕ)) → ((i : ℕ) → i < length ls → HasLine ls i) → AreLines ls (known_lines ls)
all_lines [] h = refl
all_lines (bytes ∷ more) h =
    let here : HasLine (bytes ∷ more) zero = h zero (omega arith) in
    (known_line bytes, known_lines more, refl, known_is bytes here.0 here.1, all_lines more (λ i inside. h (suc i) (omega arith)))

pub line_at_known : (ls : List (List ℕ)) (i : ℕ) → line_at (known_lines ls) i ≡ known_line (get_or ls i [])
line_at_known [] i = refl
line_at_known (l ∷ ls) zero = refl
line_at_known (l ∷ ls) (suc i) = line_at_known ls i

pub length_known : (ls : List (List ℕ)) → length (known_lines ls) ≡ length ls
length_known [] = refl
length_known (l ∷ ls) = ap suc (length_known ls)

-- ---- a walk

-- the lines from this index on are left
pub record Walk (ls : List (List ℕ)) (index : ℕ) (left : List (List ℕ)) : Type 0 where
  pub within : index ≤ length ls
  pub left_is : drop index ls ≡ left

-- the line of this index, and the walk after it
pub record Step (ls : List (List ℕ)) (index : ℕ) (bytes : List ℕ) (after : List (List ℕ)) : Type 0 where
  pub inside : index < length ls
  pub here : get_or ls index [] ≡ bytes
  pub line : line_at (known_lines ls) index ≡ known_line bytes
  pub next : Walk ls (index + 1) after

pub walk_on : (ls : List (List ℕ)) (index : ℕ) (bytes : List ℕ) (left after : List (List ℕ)) → Walk ls index left → left ≡ bytes ∷ after → Step ls index bytes after
walk_on ls index bytes left after walk more =
    let told : drop index ls ≡ bytes ∷ after = walk.left_is ∙ more in
    elim (cases_lt index (length ls)) [
      | inl inside ↦
          let both : get_or ls index [] ∷ drop (index + 1) ls ≡ bytes ∷ after = sym (drop_more ls index [] inside) ∙ told in
          let here : get_or ls index [] ≡ bytes = cc in
          let rest : drop (index + 1) ls ≡ after = cc in
          record { inside = inside; here = here; line = line_at_known ls index ∙ ap known_line here; next = record { within = omega arith; left_is = rest } }
      | inr past ↦
          let none : [] ≡ bytes ∷ after = sym (drop_all index ls past) ∙ told in
          absurd (cc)
    ]

pub walk_ends : (ls : List (List ℕ)) (index : ℕ) → Walk ls index [] → index ≡ length ls
walk_ends ls index walk = omega (arith, walk.within, length-drop index ls, ap length walk.left_is)

-- ---- how many lines there are

onto_length : (c : ℕ) (ls : List (List ℕ)) → 0 < length ls → length (onto_first c ls) ≡ length ls
onto_length c [] some = absurd (omega arith)
onto_length c (l ∷ ls) some = refl

split_count : (b : Bool) (c n : ℕ) (ls : List (List ℕ)) → 0 < length ls → length ls ≤ suc n → (0 < length (cond b ([] ∷ ls) (onto_first c ls))) × (length (cond b ([] ∷ ls) (onto_first c ls)) ≤ suc (suc n))
split_count true c n ls some few = (omega arith, omega arith)
split_count false c n ls some few = (omega (arith, onto_length c ls some), omega (arith, onto_length c ls some))

count_lines : (text : List ℕ) → (0 < length (lines_of text)) × (length (lines_of text) ≤ suc (length text))
count_lines [] = (omega arith, omega arith)
count_lines (c ∷ cs) = split_count (c == 10) c (length cs) (lines_of cs) (count_lines cs).0 (count_lines cs).1

pub few_lines : (text : List ℕ) → length (lines_of text) ≤ length text + 1
few_lines text = omega (arith, (count_lines text).1)

onto_more : (c : ℕ) (ls : List (List ℕ)) (i : ℕ) → get_or (onto_first c ls) (suc i) [] ≡ get_or ls (suc i) []
onto_more c [] i = refl
onto_more c (l ∷ ls) i = refl

filled_more : (b : Bool) (c : ℕ) (cs : List ℕ) (ls : List (List ℕ)) (i : ℕ) → get_or (cond b ([] ∷ ls) (onto_first c ls)) (suc i) [] ≢ [] → ((j : ℕ) → get_or ls j [] ≢ [] → j < length cs) → suc i < suc (length cs)
filled_more true c cs ls i some before = omega (arith, before i some)
filled_more false c cs ls i some before = omega (arith, before (suc i) (λ none. some (onto_more c ls i ∙ none)))

-- a line with a byte in it has as many bytes of the text before it as lines, at least
pub filled_line : (text : List ℕ) (i : ℕ) → get_or (lines_of text) i [] ≢ [] → i < length text
filled_line [] zero some = absurd (some refl)
filled_line [] (suc i) some = absurd (some refl)
filled_line (c ∷ cs) zero some = omega arith
filled_line (c ∷ cs) (suc i) some = filled_more (c == 10) c cs (lines_of cs) i some (filled_line cs)

-- what is true of an empty line is true of any line whose number has more than 32 bits
pub numbered : (text bytes : List ℕ) (index : ℕ) → length text < 2 ^ 32 → get_or (lines_of text) index [] ≡ bytes → bytes ≢ [] → index + 1 < 2 ^ 32
numbered text bytes index short here some = omega (arith, short, filled_line text index (λ none. some (sym here ∙ none)))
