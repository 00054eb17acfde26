-- The first reading of a text, line by line: each line is one, and where the labels of those gone over stand is kept.
use denote.Ref.{Bor}
use Rattle.std.proofs.Common.{◌≡◌, ℕ, ◌+◌, ◌*◌, ◌^◌, ◌<◌, ◌≤◌, inl, inr, List, [], ◌∷◌, length, get_or, Option, Some, None, refl, ap, ap₂, sym, subst, ◌∙◌, arith}
use Rattle.std.specs.BTreeMap.{BTreeMap}
use Rattle.std.specs.Option.{option_or}
use Rattle.std.specs.Prelude.{unwrap_or, ◌≢◌}
use Rattle.std.proofs.lemmas.Bool.{cases_lt}
use Rattle.casm_text.proofs.KnownLines.{Walk, all_lines, few_lines, line_is, no_line, numbered, walk_ends, walk_on}
use Rattle.casm_text.proofs.Causes.{Stops}
use Rattle.casm_text.proofs.Settings.{settings_on}
use Rattle.casm_text.specs.Lines.{Line, empty_line, IsLine, line_size}
use Rattle.casm_text.specs.Refusals.{HasLine}
use Rattle.casm_text.specs.Tokens.{lines_of}
use Rattle.casm_text.specs.Working.Assembling.{Setting, Surveys, first_setting, kept_setting, known_line, known_lines, line_of, setting_with}
use Rattle.casm_text.specs.declared.labels.Place.{Place}

abbrev Kept : Type 0
Kept = BTreeMap (Bor (List ℕ)) Place

-- the lines before this index are read, and those from it on are left
pub record Surveyed (text : List ℕ) (labels : Kept) (left : List (List ℕ)) (index at : ℕ) : Type 0 where
  pub walk : Walk (lines_of text) index left
  pub before : (k : ℕ) → k < index → HasLine (lines_of text) k
  pub small : at ≤ 2 * index
  pub settings : (name : List ℕ) → option_or (kept_setting labels name) (first_setting index at (known_lines left) name) ≡ first_setting 0 0 (known_lines (lines_of text)) name

or_none : (o : Option Setting) → option_or o None ≡ o
or_none None = refl
or_none (Some s) = refl

-- what was there before and what is there now
pub up_to : (P : ℕ → Type 0) (index k : ℕ) → ((j : ℕ) → j < index → P j) → P index → k < index + 1 → P k
up_to P index k before here below =
    elim (cases_lt k index) [
      | inl early ↦ before k early
      | inr late ↦ subst P (omega (arith, below, late)) here
    ]

read_here : (text bytes : List ℕ) (index : ℕ) (line : Line) → get_or (lines_of text) index [] ≡ bytes → line_of bytes ≡ Some line → HasLine (lines_of text) index
read_here text bytes index line here read = (line, subst (λ (bs : List ℕ). IsLine bs line) (sym here) (line_is bytes line read))

-- one line more
pub surveyed_on : (text : List ℕ) (labels next : Kept) (left after : List (List ℕ)) (bytes : List ℕ) (line : Line) (index at then : ℕ) → Surveyed text labels left index at → left ≡ bytes ∷ after → line_of bytes ≡ Some line
    → ((name : List ℕ) → kept_setting next name ≡ setting_with (kept_setting labels name) index at line name) → then ≡ at + line_size line → line_size line ≤ 2 → Surveyed text next after (index + 1) then
surveyed_on text labels next left after bytes line index at then s cut read kept size few =
    let step = walk_on (lines_of text) index bytes left after s.walk cut in
    let known : known_line bytes ≡ line = ap (λ (o : Option Line). unwrap_or o empty_line) read in
    let lines : known_lines left ≡ line ∷ known_lines after = ap known_lines cut ∙ ap (λ (l : Line). l ∷ known_lines after) known in
    record {
      walk = step.next;
      before = λ k below. up_to (λ (j : ℕ). HasLine (lines_of text) j) index k s.before (read_here text bytes index line step.here read) below;
      small = omega (arith, s.small, size, few);
      settings = λ name.
          ap₂ (λ (o : Option Setting) (n : ℕ). option_or o (first_setting (index + 1) n (known_lines after) name)) (kept name) size
          ∙ (settings_on (kept_setting labels name) index at line (known_lines after) name
          ∙ (ap (λ (ls : List Line). option_or (kept_setting labels name) (first_setting index at ls name)) (sym lines) ∙ s.settings name));
    }

-- at the end
pub surveyed_all : (text : List ℕ) (labels : Kept) (index at : ℕ) → Surveyed text labels [] index at → Surveys text labels
surveyed_all text labels index at s =
    let ends = walk_ends (lines_of text) index s.walk in
    record {
      lines = all_lines (lines_of text) (λ i inside. s.before i (omega (arith, ends, inside)));
      settings = λ name. sym (or_none (kept_setting labels name)) ∙ s.settings name;
    }

-- ---- a line that is none

pub unread_filled : (bytes : List ℕ) → line_of bytes ≡ None → bytes ≢ []
unread_filled bytes h empty =
    let some : Some empty_line ≡ None = ap line_of (sym empty) ∙ h in
    absurd (cc)

pub surveyed_until : (text : List ℕ) (labels : Kept) (left after : List (List ℕ)) (bytes : List ℕ) (index at n : ℕ) → Surveyed text labels left index at → left ≡ bytes ∷ after → line_of bytes ≡ None → n ≡ index + 1
    → Stops (length (lines_of text)) (HasLine (lines_of text)) index n
surveyed_until text labels left after bytes index at n s cut unread is =
    let step = walk_on (lines_of text) index bytes left after s.walk cut in
    record {
      is = is;
      inside = step.inside;
      fails = λ (line, is_line). no_line bytes unread (line, subst (λ (bs : List ℕ). IsLine bs line) step.here is_line);
      before = s.before;
    }

-- ---- numbers

-- the number of a line with a byte in it has 32 bits
pub number_fits : (text : List ℕ) (left after : List (List ℕ)) (bytes : List ℕ) (index : ℕ) → length text < 2 ^ 32 → Walk (lines_of text) index left → left ≡ bytes ∷ after → bytes ≢ [] → index + 1 < 2 ^ 32
number_fits text left after bytes index short walk cut some =
    let step = walk_on (lines_of text) index bytes left after walk cut in
    numbered text bytes index short step.here some

-- the index of each line has
pub index_fits : (text : List ℕ) (left after : List (List ℕ)) (bytes : List ℕ) (index : ℕ) → length text < 2 ^ 32 → Walk (lines_of text) index left → left ≡ bytes ∷ after → index < 2 ^ 32
index_fits text left after bytes index short walk cut =
    let step = walk_on (lines_of text) index bytes left after walk cut in
    omega (arith, short, step.inside, few_lines text)
