-- The listing of words is a text that assembles to these words.
use Rattle.casm_text.specs.Tokens.{lines_of}
use Rattle.casm_text.specs.Statements.{Statement, word, positive, statement_text, tokens_of}
use Rattle.casm_text.specs.Words.{Second, GivesWords, IsInstructed, statement_fields, statement_numbers, statement_fits, numbers_at}
use Rattle.casm_text.specs.Lines.{Line, empty_line, label_line, statement_line, AreLines, fields_count, statement_size, line_size, offset_at, label_at, label_offset, GivesFrom}
use Rattle.casm_text.specs.Refusals.{line_at, HasGoodLabels, HasGoodRange, Assembles}
use Rattle.casm_text.specs.Listings.{nowhere, IsListed, Lists, listing_text}
use Rattle.casm_text.specs.Tokens.{AreTokens, before_comment}
use Rattle.casm_text.proofs.LongestTokens.{found_tokens}
use Rattle.casm_text.proofs.Clean.{is_clean, all_clean, clean_text, line_of_text}
use Rattle.casm_text.proofs.Tokenizing.{and_both, not_false}
use Rattle.casm_text.proofs.Relisting.{IsListable, listable_plain, listable_word}
use Rattle.casm_text.proofs.Decimals.{decimal_value}
use Rattle.goldi_field.specs.Numbers.{prime}
use Rattle.cairo_word.specs.Word.{Fields}
use Rattle.std.proofs.Common.{◌≡◌, ℕ, zero, suc, ◌+◌, ◌<◌, ◌≤◌, ◌==◌, true, false, not, inl, inr, List, [], ◌∷◌, ◌++◌, length, Option, Some, None, refl, ap, sym, subst, ◌∙◌, arith}
use Rattle.std.specs.Prelude.{decimal, codes}
use Rattle.std.specs.List.{slice_split, onto_first, AllByRecursion}
use Rattle.std.proofs.lemmas.List.{length-append}

-- ---- its lines

split_clean : (xs ys : List ℕ) → all_clean xs ≡ true → slice_split (λ c. c == 10) (xs ++ 10 ∷ ys) ≡ xs ∷ slice_split (λ c. c == 10) ys
split_clean [] ys h = refl
split_clean (x ∷ xs) ys h =
    let both = and_both (is_clean x) (all_clean xs) h in
    let parts = and_both (not (x == 10)) (not (x == 47)) both.0 in
    let no_end : x == 10 ≡ false = not_false _ parts.0 in
    rw no_end (ap (λ ls. onto_first x ls) (split_clean xs ys both.1))

-- the lines of a listing: its statements, and the empty line at the end
abbrev pub listing_lines : List Statement → List Line
listing_lines [] = empty_line ∷ []
listing_lines (s ∷ ss) = statement_line s ∷ listing_lines ss

are_lines : (ss : List Statement) → AllByRecursion IsListable ss → AreLines (lines_of (listing_text ss)) (listing_lines ss)
are_lines [] h = (empty_line, [], refl, ([], tt, refl), refl)
are_lines (s ∷ ss) h =
    let split : lines_of (listing_text (s ∷ ss)) ≡ statement_text s ∷ lines_of (listing_text ss) = split_clean (statement_text s) (listing_text ss) (clean_text s h.0.spelled) in
    let are : AreTokens (before_comment (statement_text s)) (tokens_of s) = subst (AreTokens (before_comment (statement_text s))) (line_of_text s h.0.spelled) (found_tokens (before_comment (statement_text s))) in
    subst (λ (ls : List (List ℕ)). AreLines ls (listing_lines (s ∷ ss))) (sym split) (statement_line s, listing_lines ss, refl, (tokens_of s, are, (refl, h.0.spelled)), are_lines ss h.1)

-- ---- its words

same_words : (f : List ℕ → ℕ) (at : ℕ) (s : Statement) (words : List ℕ) → IsListable s → GivesWords nowhere 0 s words → GivesWords f at s words
same_words f at s words h gives = subst (λ (ns : List ℕ). IsInstructed (statement_fields s) ns words) (sym (h.nameless.still f at)) gives

gives_word : (f : List ℕ → ℕ) (at w : ℕ) → w < prime → GivesWords f at (word (positive (decimal w))) (w ∷ [])
gives_word f at w below = ap (λ n. n ∷ []) (sym (decimal_value w below))

felts_after : (first rest : List ℕ) → AllByRecursion (λ w. w < prime) (first ++ rest) → AllByRecursion (λ w. w < prime) rest
felts_after [] rest h = h
felts_after (w ∷ first) rest h = felts_after first rest h.1

-- one statement of a listing, with its words
pub record IsListedLine (f : List ℕ → ℕ) (words : List ℕ) (s : Statement) (rest : List ℕ) : Type 0 where
  pub first : List ℕ
  pub is : words ≡ first ++ rest
  pub gives : (at : ℕ) → GivesWords f at s first
  pub listable : IsListable s

one_listed : (f : List ℕ → ℕ) (words : List ℕ) (s : Statement) (rest : List ℕ) → AllByRecursion (λ w. w < prime) words → IsListed words s rest → IsListedLine f words s rest
one_listed f words s rest felts (inl (first, is, gives, plain)) =
    let listable = listable_plain s plain in
    record { first = first; is = is; gives = λ at. same_words f at s first listable gives; listable = listable }
one_listed f words s rest felts (inr (w, is, same, none)) =
    let felt = subst (λ (ws : List ℕ). AllByRecursion (λ w. w < prime) ws) is felts in
    record {
      first = w ∷ [];
      is = is;
      gives = λ at. subst (λ (t : Statement). GivesWords f at t (w ∷ [])) (sym same) (gives_word f at w felt.0);
      listable = subst (λ (t : Statement). IsListable t) (sym same) (listable_word w felt.0);
    }

pub record IsRelisted (f : List ℕ → ℕ) (ss : List Statement) (words : List ℕ) : Type 0 where
  pub listable : AllByRecursion IsListable ss
  pub gives : (at : ℕ) → GivesFrom f at (listing_lines ss) words

relisted : (f : List ℕ → ℕ) (ss : List Statement) (words : List ℕ) → AllByRecursion (λ w. w < prime) words → Lists words ss → IsRelisted f ss words
relisted f [] words felts h = record { listable = tt; gives = λ at. h }
relisted f (s ∷ ss) words felts (rest, listed, more) =
    let one = one_listed f words s rest felts listed in
    let felts_in = subst (λ (ws : List ℕ). AllByRecursion (λ w. w < prime) ws) one.is felts in
    let others = relisted f ss rest (felts_after one.first rest felts_in) more in
    record {
      listable = (one.listable, others.listable);
      gives = λ at. (one.first, rest, one.is, one.gives at, others.gives (at + statement_size s));
    }

-- ---- its offsets

pub length_numbers : (f : List ℕ → ℕ) (at : ℕ) (ns : List Second) → length (numbers_at f at ns) ≡ length ns
length_numbers f at [] = refl
length_numbers f at (n ∷ ns) = ap suc (length_numbers f at ns)

length_instructed : (o : Option Fields) (ns words : List ℕ) → IsInstructed o ns words → length words ≡ fields_count o + length ns
length_instructed None ns words h = ap length h ∙ omega arith
length_instructed (Some f) ns words (w, is, same) = ap length same ∙ omega arith

pub gives_size : (f : List ℕ → ℕ) (at : ℕ) (s : Statement) (words : List ℕ) → GivesWords f at s words → length words ≡ statement_size s
gives_size f at s words h =
    let size : length words ≡ fields_count (statement_fields s) + length (numbers_at f at (statement_numbers s)) = length_instructed (statement_fields s) _ words h in
    size ∙ ap (λ n. fields_count (statement_fields s) + n) (length_numbers f at (statement_numbers s))

-- no line ends after the last word
pub ends_within : (f : List ℕ → ℕ) (at : ℕ) (lines : List Line) (words : List ℕ) → GivesFrom f at lines words → (i : ℕ) → offset_at at lines i + line_size (line_at lines i) ≤ at + length words
ends_within f at [] words h i = omega arith
ends_within f at (empty_line ∷ lines) words h zero = omega arith
ends_within f at (empty_line ∷ lines) words h (suc i) =
    subst (λ (n : ℕ). offset_at n lines i + line_size (line_at lines i) ≤ at + length words) (omega arith) (ends_within f at lines words h i)
ends_within f at (label_line name ∷ lines) words h zero = omega arith
ends_within f at (label_line name ∷ lines) words h (suc i) =
    subst (λ (n : ℕ). offset_at n lines i + line_size (line_at lines i) ≤ at + length words) (omega arith) (ends_within f at lines words h i)
ends_within f at (statement_line s ∷ lines) words (first, rest, is, gives, more) zero =
    let size = gives_size f at s first gives in
    let count : length words ≡ length first + length rest = ap length is ∙ length-append first rest in
    omega arith
ends_within f at (statement_line s ∷ lines) words (first, rest, is, gives, more) (suc i) =
    let size = gives_size f at s first gives in
    let count : length words ≡ length first + length rest = ap length is ∙ length-append first rest in
    let within = ends_within f (at + statement_size s) lines rest more i in
    omega arith

-- ---- its labels and ranges

labels_absent : (at : ℕ) (ss : List Statement) (name : List ℕ) → label_at at (listing_lines ss) name ≡ None
labels_absent at [] name = refl
labels_absent at (s ∷ ss) name = labels_absent (at + statement_size s) ss name

labels_good : (lines : List Line) (n : ℕ) (ss : List Statement) → AllByRecursion IsListable ss → (i : ℕ) → HasGoodLabels lines n (line_at (listing_lines ss) i)
labels_good lines n [] h zero = tt
labels_good lines n [] h (suc i) = tt
labels_good lines n (s ∷ ss) h zero = λ name named. absurd (h.0.nameless.none_named name named)
labels_good lines n (s ∷ ss) h (suc i) = labels_good lines n ss h.1 i

abbrev LineFits : Line → Type 0
LineFits empty_line = Unit {0}
LineFits (label_line name) = Unit {0}
LineFits (statement_line s) = statement_fits s ≡ true

fits_at : (ss : List Statement) → AllByRecursion IsListable ss → (i : ℕ) → LineFits (line_at (listing_lines ss) i)
fits_at [] h zero = tt
fits_at [] h (suc i) = tt
fits_at (s ∷ ss) h zero = h.0.fits
fits_at (s ∷ ss) h (suc i) = fits_at ss h.1 i

range_good : (lines : List Line) (i : ℕ) (line : Line) → LineFits line → offset_at 0 lines i + line_size line ≤ 65536 → HasGoodRange lines i line
range_good lines i empty_line fits within = tt
range_good lines i (label_line name) fits within = tt
range_good lines i (statement_line s) fits within = (fits, λ h. omega arith)

-- ---- the law

pub relists : (words : List ℕ) (ss : List Statement) → AllByRecursion (λ w. w < prime) words → length words ≤ 65536 → Lists words ss → Assembles (listing_text ss) words 0
relists words ss felts small lists =
    let lines = listing_lines ss in
    let again = relisted (label_offset (listing_lines ss)) ss words felts lists in
    let code = again.gives 0 in
    let within : (i : ℕ) → offset_at 0 (listing_lines ss) i + line_size (line_at (listing_lines ss) i) ≤ 65536 =
    λ i. omega (arith, ends_within (label_offset (listing_lines ss)) 0 (listing_lines ss) words code i) in
    let no_main : label_at 0 (listing_lines ss) (codes "main") ≡ None = labels_absent 0 ss (codes "main") in
    record {
      lines = listing_lines ss;
      are_lines = are_lines ss again.listable;
      labels = λ i inside. labels_good (listing_lines ss) i ss again.listable i;
      ranges = λ i inside. range_good (listing_lines ss) i (line_at (listing_lines ss) i) (fits_at ss again.listable i) (within i);
      code = (code, rw no_main refl);
    }
