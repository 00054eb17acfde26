-- The rule of ranges, line by line, and the words of the lines gone over.
use Rattle.std.proofs.Common.{◌≡◌, ℕ, zero, suc, ◌+◌, ◌<◌, ◌≤◌, ◌&&◌, Bool, true, nat_le, List, [], ◌∷◌, ◌++◌, length, refl, ap, sym, subst, ◌∙◌, arith, append_assoc, append-nil}
use Rattle.std.proofs.lemmas.Bool.Decides.{nat_tests}
use Rattle.std.proofs.lemmas.List.{length-append}
use Rattle.casm_text.proofs.Bounds.{uncrossed}
use Rattle.casm_text.proofs.Relists.{gives_size}
use Rattle.casm_text.proofs.Sound.{both_true}
use Rattle.casm_text.proofs.Tokenizing.{and_both}
use Rattle.casm_text.specs.Lines.{Line, empty_line, label_line, statement_line, GivesFrom, line_size, offset_at, statement_size}
use Rattle.casm_text.specs.Refusals.{HasGoodRange, line_at, most_words}
use Rattle.casm_text.specs.Statements.{Statement}
use Rattle.casm_text.specs.Words.{statement_fits}
use Rattle.casm_text.specs.Working.Assembling.{LineAdds, range_good}

-- ---- offsets

pub offset_after : (at : ℕ) (lines : List Line) (i : ℕ) → i < length lines → offset_at at lines (suc i) ≡ offset_at at lines i + line_size (line_at lines i)
offset_after at [] i inside = absurd (omega arith)
offset_after at (line ∷ []) zero inside = refl
offset_after at (line ∷ other ∷ lines) zero inside = refl
offset_after at (line ∷ lines) (suc i) inside = offset_after (at + line_size line) lines i (omega arith)

pub offset_on : (at : ℕ) (lines : List Line) (i : ℕ) → i < length lines → offset_at at lines (i + 1) ≡ offset_at at lines i + line_size (line_at lines i)
offset_on at lines i inside =
    let next : i + 1 ≡ suc i = omega arith in
    ap (λ (n : ℕ). offset_at at lines n) next ∙ offset_after at lines i inside

-- ---- the rule

below : (n most : ℕ) → nat_le n most ≡ true → n ≤ most
below n most h = grind (arith, nat_tests)

is_below : (n most : ℕ) → n ≤ most → nat_le n most ≡ true
is_below n most h = grind (arith, nat_tests)

pub ranges_kept : (lines : List Line) (i : ℕ) (line : Line) → range_good (offset_at 0 lines i) line ≡ true → HasGoodRange lines i line
ranges_kept lines i empty_line h = tt
ranges_kept lines i (label_line name) h = tt
ranges_kept lines i (statement_line s) h =
    let both = and_both (statement_fits s) (nat_le (offset_at 0 lines i + statement_size s) most_words) h in
    (both.0, λ crosses. absurd (omega (arith, crosses, below (offset_at 0 lines i + statement_size s) most_words both.1)))

pub kept_ranges : (lines : List Line) (i : ℕ) (line : Line) → offset_at 0 lines i ≤ most_words → HasGoodRange lines i line → range_good (offset_at 0 lines i) line ≡ true
kept_ranges lines i empty_line few h = refl
kept_ranges lines i (label_line name) few h = refl
kept_ranges lines i (statement_line s) few h =
    both_true (statement_fits s) (nat_le (offset_at 0 lines i + statement_size s) most_words) h.0 (is_below (offset_at 0 lines i + statement_size s) most_words (uncrossed (offset_at 0 lines i) (statement_size s) few h.1))

-- a line that keeps it ends within the most words
pub still_few : (at : ℕ) (line : Line) → at ≤ most_words → range_good at line ≡ true → at + line_size line ≤ most_words
still_few at empty_line few h = omega (arith, few)
still_few at (label_line name) few h = omega (arith, few)
still_few at (statement_line s) few h = below (at + statement_size s) most_words (and_both (statement_fits s) (nat_le (at + statement_size s) most_words) h).1

-- ---- words

-- the words so far, and those that the lines left give, are those of all lines
abbrev pub Told : (List ℕ → ℕ) → List Line → List ℕ → List Line → Type 0
Told f lines words left = (rest : List ℕ) → GivesFrom f (length words) left rest → GivesFrom f 0 lines (words ++ rest)

pub told_on : (f : List ℕ → ℕ) (lines : List Line) (before after : List ℕ) (line : Line) (left : List Line) → Told f lines before (line ∷ left) → LineAdds f line before after → Told f lines after left
told_on f lines before after empty_line left told is = subst (λ (words : List ℕ). Told f lines words left) (sym is) told
told_on f lines before after (label_line name) left told is = subst (λ (words : List ℕ). Told f lines words left) (sym is) told
told_on f lines before after (statement_line s) left told (first, gives, is) =
    λ rest more.
    let size : length after ≡ length before + statement_size s = ap length is ∙ (length-append before first ∙ ap (λ (n : ℕ). length before + n) (gives_size f (length before) s first gives)) in
    let there : GivesFrom f (length before + statement_size s) left rest = subst (λ (n : ℕ). GivesFrom f n left rest) size more in
    subst (λ (words : List ℕ). GivesFrom f 0 lines words) (sym (ap (λ (words : List ℕ). words ++ rest) is ∙ append_assoc before first rest)) (told (first ++ rest) (first, rest, refl, gives, there))

pub added : (f : List ℕ → ℕ) (before after : List ℕ) (line : Line) → LineAdds f line before after → length after ≡ length before + line_size line
added f before after empty_line is = omega (arith, ap length is)
added f before after (label_line name) is = omega (arith, ap length is)
added f before after (statement_line s) (first, gives, is) = ap length is ∙ (length-append before first ∙ ap (λ (n : ℕ). length before + n) (gives_size f (length before) s first gives))

pub told_all : (f : List ℕ → ℕ) (lines : List Line) (words : List ℕ) → Told f lines words [] → GivesFrom f 0 lines words
told_all f lines words told = subst (λ (all : List ℕ). GivesFrom f 0 lines all) (append-nil words) (told [] refl)

-- whether a statement that fits ends within the most words
pub ends_within : (f : List ℕ → ℕ) (s : Statement) (before after : List ℕ) (n : ℕ) → n ≡ length after → statement_fits s ≡ true → LineAdds f (statement_line s) before after → nat_le n most_words ≡ range_good (length before) (statement_line s)
ends_within f s before after n is fits adds =
    ap (λ (k : ℕ). nat_le k most_words) (is ∙ added f before after (statement_line s) adds) ∙ ap (λ (b : Bool). b && nat_le (length before + statement_size s) most_words) (sym fits)
