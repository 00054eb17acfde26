-- Whether a text keeps its rules is decided line by line, rule by rule.
use Rattle.std.proofs.Common.{◌≡◌, ℕ, zero, suc, ◌+◌, ◌<◌, ◌≤◌, Bool, true, false, inl, inr, List, [], ◌∷◌, length, get_or, Option, Some, None, is_some, refl, sym, ◌∙◌, arith}
use Rattle.std.specs.Prelude.{◌⊎◌}
use Rattle.std.proofs.lemmas.Bool.{false≢true}
use Rattle.casm_text.proofs.Causes.{label_first, range_first, syntax_first}
use Rattle.casm_text.proofs.KnownLines.{all_lines, line_is, no_line}
use Rattle.casm_text.proofs.RangesOfLines.{kept_ranges, offset_after, ranges_kept, still_few}
use Rattle.casm_text.proofs.Settings.{kept_labels, labels_kept}
use Rattle.casm_text.proofs.Surveying.{up_to}
use Rattle.casm_text.specs.Lines.{Line, AreLines, offset_at}
use Rattle.casm_text.specs.Refusals.{HasLine, IsFirstAsmCause, KeepsTextRules, line_at, most_words}
use Rattle.casm_text.specs.Tokens.{lines_of}
use Rattle.casm_text.specs.Working.Assembling.{KeepsLabels, first_setting, known_lines, labels_good, line_of, range_good}
use Rattle.casm_text.specs.declared.refusal.AsmRefusal.{AsmRefusal}
use Rattle.casm_text.specs.declared.refusal.AsmRefusal.TheVariants.{Syntax, Label, Range}

-- ---- the first index at which a test fails

record FirstBad (good : ℕ → Bool) (count : ℕ) : Type 0 where
  pub index : ℕ
  pub inside : index < count
  pub fails : good index ≡ false
  pub before : (k : ℕ) → k < index → good k ≡ true

abbrev Searched : (ℕ → Bool) → ℕ → Type 0
Searched good count = ((k : ℕ) → k < count → good k ≡ true) ⊎ FirstBad good count

one_more : (good : ℕ → Bool) (n : ℕ) (b : Bool) → good n ≡ b → ((k : ℕ) → k < n → good k ≡ true) → Searched good (suc n)
one_more good n true here before = inl (λ k below. up_to (λ j. good j ≡ true) n k before here (omega (arith, below)))
one_more good n false here before = inr (record { index = n; inside = omega arith; fails = here; before = before })

search_bad : (good : ℕ → Bool) (count : ℕ) → Searched good count
search_bad good zero = inl (λ k below. absurd (omega arith))
search_bad good (suc n) = elim (search_bad good n) [
  | inl all ↦ one_more good n (good n) refl all
  | inr bad ↦ inr (record { index = bad.index; inside = omega (arith, bad.inside); fails = bad.fails; before = bad.before })
]

-- ---- the three rules

abbrev Refused : List ℕ → Type 0
Refused text = (cause : AsmRefusal) × IsFirstAsmCause text cause

is_read : (ls : List (List ℕ)) (i : ℕ) (o : Option Line) → line_of (get_or ls i []) ≡ o → is_some o ≡ true → HasLine ls i
is_read ls i None read some = absurd (false≢true some)
is_read ls i (Some line) read some = (line, line_is (get_or ls i []) line read)

not_read : (ls : List (List ℕ)) (i : ℕ) (o : Option Line) → line_of (get_or ls i []) ≡ o → is_some o ≡ false → ¬ HasLine ls i
not_read ls i None read none is = no_line (get_or ls i []) read is
not_read ls i (Some line) read none is = false≢true (sym none)

abbrev reads : List (List ℕ) → ℕ → Bool
reads ls i = is_some (line_of (get_or ls i []))

unread : (text : List ℕ) → FirstBad (reads (lines_of text)) (length (lines_of text)) → Refused text
unread text bad = (
  Syntax (bad.index + 1),
  syntax_first text bad.index (bad.index + 1) (record {
    is = refl;
    inside = bad.inside;
    fails = not_read (lines_of text) bad.index (line_of (get_or (lines_of text) bad.index [])) refl bad.fails;
    before = λ k below. is_read (lines_of text) k (line_of (get_or (lines_of text) k [])) refl (bad.before k below);
  }),
)

abbrev names_well : List Line → ℕ → Bool
names_well lines i = labels_good (first_setting 0 0 lines) i (line_at lines i)

misnamed : (text : List ℕ) (lines : List Line) → AreLines (lines_of text) lines → FirstBad (names_well lines) (length lines) → Refused text
misnamed text lines are bad = (
  Label (bad.index + 1),
  label_first text lines bad.index (bad.index + 1) are (record {
    is = refl;
    inside = bad.inside;
    fails = λ good. false≢true (sym bad.fails ∙ kept_labels lines bad.index (line_at lines bad.index) refl good);
    before = λ k below. labels_kept lines k (line_at lines k) (bad.before k below);
  }),
)

abbrev in_range : List Line → ℕ → Bool
in_range lines i = range_good (offset_at 0 lines i) (line_at lines i)

offset_none : (lines : List Line) → offset_at 0 lines 0 ≡ 0
offset_none [] = refl
offset_none (line ∷ lines) = refl

few_before : (lines : List Line) (i : ℕ) → i ≤ length lines → ((k : ℕ) → k < i → in_range lines k ≡ true) → offset_at 0 lines i ≤ most_words
few_before lines zero within before = omega (arith, offset_none lines)
few_before lines (suc i) within before =
    let few = few_before lines i (omega arith) (λ k below. before k (omega arith)) in
    omega (arith, offset_after 0 lines i (omega arith), still_few (offset_at 0 lines i) (line_at lines i) few (before i (omega arith)))

out_of_range : (text : List ℕ) (lines : List Line) → AreLines (lines_of text) lines → KeepsLabels lines → FirstBad (in_range lines) (length lines) → Refused text
out_of_range text lines are kept bad = (
  Range (bad.index + 1),
  range_first text lines bad.index (bad.index + 1) are kept (record {
    is = refl;
    inside = bad.inside;
    fails = λ good. false≢true (sym bad.fails ∙ kept_ranges lines bad.index (line_at lines bad.index) (few_before lines bad.index (omega (arith, bad.inside)) bad.before) good);
    before = λ k below. ranges_kept lines k (line_at lines k) (bad.before k below);
  }),
)

by_ranges : (text : List ℕ) (lines : List Line) → AreLines (lines_of text) lines → KeepsLabels lines → KeepsTextRules text ⊎ Refused text
by_ranges text lines are kept = elim (search_bad (in_range lines) (length lines)) [
  | inl all ↦ inl (record { lines = lines; are_lines = are; labels = kept; ranges = λ i inside. ranges_kept lines i (line_at lines i) (all i inside) })
  | inr bad ↦ inr (out_of_range text lines are kept bad)
]

by_labels : (text : List ℕ) (lines : List Line) → AreLines (lines_of text) lines → KeepsTextRules text ⊎ Refused text
by_labels text lines are = elim (search_bad (names_well lines) (length lines)) [
  | inl all ↦ by_ranges text lines are (λ i inside. labels_kept lines i (line_at lines i) (all i inside))
  | inr bad ↦ inr (misnamed text lines are bad)
]

pub kept_or_refused : (text : List ℕ) → KeepsTextRules text ⊎ ((cause : AsmRefusal) × IsFirstAsmCause text cause)
kept_or_refused text = elim (search_bad (reads (lines_of text)) (length (lines_of text))) [
  | inl all ↦ by_labels text (known_lines (lines_of text)) (all_lines (lines_of text) (λ i inside. is_read (lines_of text) i (line_of (get_or (lines_of text) i [])) refl (all i inside)))
  | inr bad ↦ inr (unread text bad)
]
