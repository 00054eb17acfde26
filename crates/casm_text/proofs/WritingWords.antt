-- The third reading of a text, line by line: each line keeps the rule of ranges, and its words are added.
use Rattle.std.proofs.Common.{◌≡◌, ℕ, ◌+◌, ◌<◌, ◌≤◌, Bool, true, false, List, [], ◌∷◌, length, refl, ap, sym, subst, ◌∙◌, arith}
use Rattle.std.specs.Prelude.{◌≢◌}
use Rattle.std.proofs.lemmas.Bool.{false≢true}
use Rattle.casm_text.proofs.Causes.{Stops}
use Rattle.casm_text.proofs.KnownLines.{Walk, length_known, walk_ends, walk_on}
use Rattle.casm_text.proofs.RangesOfLines.{Told, added, kept_ranges, offset_on, ranges_kept, still_few, told_all, told_on}
use Rattle.casm_text.proofs.Surveying.{up_to}
use Rattle.casm_text.specs.Lines.{Line, AreLines, label_offset, line_size, main_of, offset_at}
use Rattle.casm_text.specs.Refusals.{Assembles, HasGoodRange, line_at, most_words}
use Rattle.casm_text.specs.Tokens.{lines_of}
use Rattle.casm_text.specs.Working.Assembling.{KeepsLabels, LineAdds, known_line, known_lines, range_good}

-- the lines of the text, and whether the one of this index keeps the rule
abbrev pub IsInRange : List ℕ → ℕ → Type 0
IsInRange text i = HasGoodRange (known_lines (lines_of text)) i (line_at (known_lines (lines_of text)) i)

-- the lines before this index keep the rule and gave these words, and those from it on are left
pub record Written (text words : List ℕ) (left : List (List ℕ)) (index : ℕ) : Type 0 where
  pub walk : Walk (lines_of text) index left
  pub before : (k : ℕ) → k < index → IsInRange text k
  pub few : length words ≤ most_words
  pub at : length words ≡ offset_at 0 (known_lines (lines_of text)) index
  pub told : Told (label_offset (known_lines (lines_of text))) (known_lines (lines_of text)) words (known_lines left)

offset_none : (lines : List Line) → 0 ≡ offset_at 0 lines 0
offset_none [] = refl
offset_none (line ∷ lines) = refl

good_is : (text words bytes : List ℕ) (index : ℕ) (good : Bool) → length words ≡ offset_at 0 (known_lines (lines_of text)) index → line_at (known_lines (lines_of text)) index ≡ known_line bytes → good ≡ range_good (length words) (known_line bytes)
    → range_good (offset_at 0 (known_lines (lines_of text)) index) (line_at (known_lines (lines_of text)) index) ≡ good
good_is text words bytes index good at line told =
    ap (λ (n : ℕ). range_good n (line_at (known_lines (lines_of text)) index)) (sym at) ∙ (ap (λ (l : Line). range_good (length words) l) line ∙ sym told)

-- one line more
pub written_on : (text words next : List ℕ) (left after : List (List ℕ)) (bytes : List ℕ) (index : ℕ) → Written text words left index → left ≡ bytes ∷ after → true ≡ range_good (length words) (known_line bytes)
    → LineAdds (label_offset (known_lines (lines_of text))) (known_line bytes) words next → Written text next after (index + 1)
written_on text words next left after bytes index w cut good adds =
    let step = walk_on (lines_of text) index bytes left after w.walk cut in
    let here : IsInRange text index = ranges_kept (known_lines (lines_of text)) index (line_at (known_lines (lines_of text)) index) (good_is text words bytes index true w.at step.line good) in
    let size : length next ≡ length words + line_size (known_line bytes) = added (label_offset (known_lines (lines_of text))) words next (known_line bytes) adds in
    record {
      walk = step.next;
      before = λ k below. up_to (IsInRange text) index k w.before here below;
      few = omega (arith, size, still_few (length words) (known_line bytes) w.few (sym good));
      at = size
          ∙ (ap (λ (n : ℕ). n + line_size (known_line bytes)) w.at
          ∙ (ap (λ (l : Line). offset_at 0 (known_lines (lines_of text)) index + line_size l) (sym step.line)
          ∙ sym (offset_on 0 (known_lines (lines_of text)) index (omega (arith, step.inside, length_known (lines_of text))))));
      told = told_on (label_offset (known_lines (lines_of text))) (known_lines (lines_of text)) words next (known_line bytes) (known_lines after)
          (subst (λ (ls : List Line). Told (label_offset (known_lines (lines_of text))) (known_lines (lines_of text)) words ls) (ap known_lines cut) w.told) adds;
    }

-- a line that doesn't keep the rule
pub written_until : (text words : List ℕ) (left after : List (List ℕ)) (bytes : List ℕ) (index n : ℕ) → Written text words left index → left ≡ bytes ∷ after → false ≡ range_good (length words) (known_line bytes) → n ≡ index + 1
    → Stops (length (known_lines (lines_of text))) (IsInRange text) index n
written_until text words left after bytes index n w cut bad is =
    let step = walk_on (lines_of text) index bytes left after w.walk cut in
    record {
      is = is;
      inside = omega (arith, step.inside, length_known (lines_of text));
      fails = λ good. absurd (false≢true (sym (good_is text words bytes index false w.at step.line bad)
          ∙ kept_ranges (known_lines (lines_of text)) index (line_at (known_lines (lines_of text)) index) (omega (arith, w.at, w.few)) good));
      before = w.before;
    }

-- at the end
pub written_all : (text words : List ℕ) (index : ℕ) → AreLines (lines_of text) (known_lines (lines_of text)) → KeepsLabels (known_lines (lines_of text)) → Written text words [] index → Assembles text words (main_of (known_lines (lines_of text)))
written_all text words index are kept w = record {
  lines = known_lines (lines_of text);
  are_lines = are;
  labels = kept;
  ranges = λ i inside. w.before i (omega (arith, inside, length_known (lines_of text), walk_ends (lines_of text) index w.walk));
  code = (told_all (label_offset (known_lines (lines_of text))) (known_lines (lines_of text)) words w.told, refl);
}

pub out_filled : (at : ℕ) (bytes : List ℕ) → false ≡ range_good at (known_line bytes) → bytes ≢ []
out_filled at bytes bad empty = absurd (false≢true (bad ∙ ap (λ (bs : List ℕ). range_good at (known_line bs)) empty))
