-- The second reading of a text, line by line: each line keeps the rule of labels.
use denote.Ref.{Bor}
use Rattle.std.proofs.Common.{◌≡◌, ℕ, ◌+◌, ◌<◌, Bool, true, false, List, [], ◌∷◌, length, Option, refl, ap, sym, ◌∙◌, arith}
use Rattle.std.specs.BTreeMap.{BTreeMap}
use Rattle.std.specs.Prelude.{◌≢◌}
use Rattle.std.proofs.lemmas.Bool.{false≢true}
use Rattle.casm_text.proofs.Causes.{Stops}
use Rattle.casm_text.proofs.KnownLines.{Walk, length_known, walk_ends, walk_on}
use Rattle.casm_text.proofs.Settings.{kept_labels, labels_kept, same_good}
use Rattle.casm_text.proofs.Surveying.{up_to}
use Rattle.casm_text.specs.Lines.{Line}
use Rattle.casm_text.specs.Refusals.{HasGoodLabels, line_at}
use Rattle.casm_text.specs.Tokens.{lines_of}
use Rattle.casm_text.specs.Working.Assembling.{KeepsLabels, Setting, Surveys, first_setting, kept_setting, known_line, known_lines, labels_good}
use Rattle.casm_text.specs.declared.labels.Place.{Place}

-- the line of this index keeps the rule
abbrev pub IsGood : List ℕ → ℕ → Type 0
IsGood text i = HasGoodLabels (known_lines (lines_of text)) i (line_at (known_lines (lines_of text)) i)

-- the lines before this index keep the rule, and those from it on are left
pub record Checked (text : List ℕ) (left : List (List ℕ)) (index : ℕ) : Type 0 where
  pub walk : Walk (lines_of text) index left
  pub before : (k : ℕ) → k < index → IsGood text k

module _ (text : List ℕ) (labels : BTreeMap (Bor (List ℕ)) Place) (survey : Surveys text labels) where
  good_is : (bytes : List ℕ) (index : ℕ) (good : Bool) → line_at (known_lines (lines_of text)) index ≡ known_line bytes → good ≡ labels_good (kept_setting labels) index (known_line bytes)
      → labels_good (first_setting 0 0 (known_lines (lines_of text))) index (line_at (known_lines (lines_of text)) index) ≡ good
  good_is bytes index good line told =
      sym (same_good (kept_setting labels) (first_setting 0 0 (known_lines (lines_of text))) index (line_at (known_lines (lines_of text)) index) survey.settings)
      ∙ (ap (λ (l : Line). labels_good (kept_setting labels) index l) line ∙ sym told)

  -- one line more
  pub checked_on : (left after : List (List ℕ)) (bytes : List ℕ) (index : ℕ) → Checked text left index → left ≡ bytes ∷ after → true ≡ labels_good (kept_setting labels) index (known_line bytes) → Checked text after (index + 1)
  checked_on left after bytes index c cut good =
      let step = walk_on (lines_of text) index bytes left after c.walk cut in
      let here : IsGood text index = labels_kept (known_lines (lines_of text)) index (line_at (known_lines (lines_of text)) index) (good_is bytes index true step.line good) in
      record { walk = step.next; before = λ k below. up_to (IsGood text) index k c.before here below }

  -- a line that doesn't
  pub checked_until : (left after : List (List ℕ)) (bytes : List ℕ) (index n : ℕ) → Checked text left index → left ≡ bytes ∷ after → false ≡ labels_good (kept_setting labels) index (known_line bytes) → n ≡ index + 1
      → Stops (length (known_lines (lines_of text))) (IsGood text) index n
  checked_until left after bytes index n c cut bad is =
      let step = walk_on (lines_of text) index bytes left after c.walk cut in
      record {
        is = is;
        inside = omega (arith, step.inside, length_known (lines_of text));
        fails = λ good. absurd (false≢true (sym (good_is bytes index false step.line bad) ∙ kept_labels (known_lines (lines_of text)) index (line_at (known_lines (lines_of text)) index) refl good));
        before = c.before;
      }

-- at the end
pub checked_all : (text : List ℕ) (index : ℕ) → Checked text [] index → KeepsLabels (known_lines (lines_of text))
checked_all text index c = λ i inside. c.before i (omega (arith, inside, length_known (lines_of text), walk_ends (lines_of text) index c.walk))

pub bad_filled : (settings : List ℕ → Option Setting) (index : ℕ) (bytes : List ℕ) → false ≡ labels_good settings index (known_line bytes) → bytes ≢ []
bad_filled settings index bytes bad empty = absurd (false≢true (bad ∙ ap (λ (bs : List ℕ). labels_good settings index (known_line bs)) empty))
