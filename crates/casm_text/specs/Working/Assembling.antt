-- Reading a text line by line: its lines, where its labels stand, and what its statements give.
use denote.Ref.{Bor}
use Rattle.std.specs.Prelude.{ℕ, ◌+◌, ◌<◌, ◌==◌, ◌&&◌, Bool, true, nat_le, List, [], ◌∷◌, ◌≡◌, length, map, Option, Some, None, option_map, unwrap_or, is_some, if◌then◌else◌, ◌++◌}
use Rattle.std.specs.Ordering.{nat_cmp}
use Rattle.std.specs.Cmp.Lexicographic.{slice_cmp}
use Rattle.std.specs.BTreeMap.{BTreeMap, get_by}
use Rattle.casm_text.specs.Tokens.{lines_of}
use Rattle.casm_text.specs.Statements.{Statement, is_spelled}
use Rattle.casm_text.specs.Words.{Second, number, distance, GivesWords, IsWordOf, statement_numbers, statement_fits}
use Rattle.casm_text.specs.Lines.{AreLines, Line, empty_line, label_line, statement_line, is_label, line_size, statement_size}
use Rattle.casm_text.specs.Refusals.{HasGoodLabels, line_at, most_words}
use Rattle.casm_text.specs.Working.Parsing.{line_in}
use Rattle.casm_text.specs.Working.Tokenizing.{tokens_of_line}
use Rattle.casm_text.specs.declared.labels.Place.{Place}
use Rattle.cairo_word.specs.Word.{Fields}

-- ---- lines

-- the lines of what is left of a text, if anything is
abbrev pub lines_left : Option (Bor (List ℕ)) → List (List ℕ)
lines_left None = []
lines_left (Some rest) = lines_of rest.now

-- what these bytes are as a line, if anything
abbrev pub line_of : List ℕ → Option Line
line_of bytes = line_in (tokens_of_line bytes)

-- the same, an empty line where they are none
abbrev pub known_line : List ℕ → Line
known_line bytes = unwrap_or (line_of bytes) empty_line

-- each line of a text
abbrev pub known_lines : List (List ℕ) → List Line
known_lines ls = map known_line ls

-- a line's statement is well spelled
abbrev pub line_spelled : Line → Bool
line_spelled empty_line = true
line_spelled (label_line name) = true
line_spelled (statement_line s) = is_spelled s

-- ---- labels

-- the line that sets a label first, counted from 0, and the label's offset
pub record Setting : Type 0 where
  pub line : ℕ
  pub offset : ℕ

-- where these lines set a label first, if any does, the first of them having this index and this offset
abbrev pub first_setting : ℕ → ℕ → List Line → List ℕ → Option Setting
first_setting index at [] name = None
first_setting index at (line ∷ lines) name = if is_label name line then Some (record { line = index; offset = at }) else first_setting (index + 1) (at + line_size line) lines name

-- what is kept of a label
abbrev pub setting_of : Place → Setting
setting_of place = record { line = place.line; offset = place.offset.number }

-- where labels stand, by what is kept of them
abbrev pub kept_setting : BTreeMap (Bor (List ℕ)) Place → List ℕ → Option Setting
kept_setting labels name = option_map setting_of (get_by (λ k. slice_cmp nat_cmp name k.now) labels)

-- a setting before, else this line's
abbrev pub setting_with : Option Setting → ℕ → ℕ → Line → List ℕ → Option Setting
setting_with (Some s) index at line name = Some s
setting_with None index at line name = if is_label name line then Some (record { line = index; offset = at }) else None

-- the offset that a setting gives, 0 where there is none
abbrev pub offset_in : Option Setting → ℕ
offset_in o = unwrap_or (option_map (λ (s : Setting). s.offset) o) 0

-- each label that the statement names is set
abbrev pub names_set : (List ℕ → Option Setting) → List Second → Bool
names_set settings [] = true
names_set settings (number n ∷ ns) = names_set settings ns
names_set settings (distance name ∷ ns) = is_some (settings name) && names_set settings ns

-- whether a label is set first by the line of this index
abbrev pub is_set_at : Option Setting → ℕ → Bool
is_set_at None index = true
is_set_at (Some s) index = s.line == index

-- whether the line of this index keeps the rule of labels
abbrev pub labels_good : (List ℕ → Option Setting) → ℕ → Line → Bool
labels_good settings index empty_line = true
labels_good settings index (label_line name) = is_set_at (settings name) index
labels_good settings index (statement_line s) = names_set settings (statement_numbers s)

-- ---- words

-- whether the line at this offset keeps the rule of ranges
abbrev pub range_good : ℕ → Line → Bool
range_good at empty_line = true
range_good at (label_line name) = true
range_good at (statement_line s) = statement_fits s && nat_le (at + statement_size s) most_words

-- the words went on by those of a statement at this offset
abbrev pub Adds : (List ℕ → ℕ) → ℕ → Statement → List ℕ → List ℕ → Type 0
Adds offset_of at s before after = (first : List ℕ) × GivesWords offset_of at s first × (after ≡ before ++ first)

-- the words went on by those of a line
abbrev pub LineAdds : (List ℕ → ℕ) → Line → List ℕ → List ℕ → Type 0
LineAdds offset_of empty_line before after = after ≡ before
LineAdds offset_of (label_line name) before after = after ≡ before
LineAdds offset_of (statement_line s) before after = Adds offset_of (length before) s before after

-- the words went on by that of these fields, if there are any
abbrev pub PutsWord : Option Fields → List ℕ → List ℕ → Type 0
PutsWord None before after = after ≡ before
PutsWord (Some f) before after = (w : ℕ) × IsWordOf f w × (after ≡ before ++ (w ∷ []))

-- ---- what is known of a text after each reading

-- each line of the text is one, and this is where its labels stand
pub record Surveys (text : List ℕ) (labels : BTreeMap (Bor (List ℕ)) Place) : Type 0 where
  pub lines : AreLines (lines_of text) (known_lines (lines_of text))
  pub settings : (name : List ℕ) → kept_setting labels name ≡ first_setting 0 0 (known_lines (lines_of text)) name

-- each of the lines keeps the rule of labels
abbrev pub KeepsLabels : List Line → Type 0
KeepsLabels lines = (i : ℕ) → i < length lines → HasGoodLabels lines i (line_at lines i)
