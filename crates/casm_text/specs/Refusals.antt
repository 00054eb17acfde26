-- Why a text is refused: the causes by their numbers, and the first that applies (docs/ASSEMBLY.md).
use Rattle.std.specs.Prelude.{ℕ, suc, ◌+◌, ◌<◌, ◌≤◌, true, List, [], ◌∷◌, ◌≡◌, length, get_or, ◌≢◌, ◌⊎◌}
use Rattle.cairo_model.specs.Refusals.FirstFailing.{IsFirstCause, IsFirstFailing}
use Rattle.cairo_model.specs.Limits.{most_cells}
use Rattle.casm_text.specs.Tokens.{lines_of}
use Rattle.casm_text.specs.Words.{Second, number, distance, statement_numbers, statement_fits}
use Rattle.casm_text.specs.declared.refusal.AsmRefusal.{AsmRefusal}
use Rattle.casm_text.specs.declared.refusal.AsmRefusal.TheVariants.{Syntax, Label, Range}
use Rattle.casm_text.specs.Lines.{Line, empty_line, label_line, statement_line, IsLine, AreLines, GivesCode, line_size, offset_at}

-- the number of a refusal
abbrev pub asm_number : AsmRefusal → ℕ
asm_number (Syntax line) = 1
asm_number (Label line) = 2
asm_number (Range line) = 3

-- line number i + 1 of the text is a line of the grammar
abbrev pub HasLine : List (List ℕ) → ℕ → Type 0
HasLine lines i = (line : Line) × IsLine (get_or lines i []) line

-- the line of this index, an empty one past the end
abbrev pub line_at : List Line → ℕ → Line
line_at lines i = get_or lines i empty_line

-- the label that a statement names, if any
abbrev pub Names : List Second → List ℕ → Type 0
Names [] name = ⊥
Names (number n ∷ ns) name = Names ns name
Names (distance other ∷ ns) name = (other ≡ name) ⊎ Names ns name

-- the line names only labels that are there, and sets none that a line before it sets
abbrev pub HasGoodLabels : List Line → ℕ → Line → Type 0
HasGoodLabels lines i empty_line = Unit {0}
HasGoodLabels lines i (label_line name) = (k : ℕ) → k < i → line_at lines k ≢ label_line name
HasGoodLabels lines i (statement_line s) = (name : List ℕ) → Names (statement_numbers s) name → (k : ℕ) × (k < length lines) × (line_at lines k ≡ label_line name)

-- the most words of a text's code: no PIE has room for more
abbrev pub most_words : ℕ
most_words = most_cells

-- its numbers and offsets are in their ranges, and it doesn't hold the word past the most
abbrev pub HasGoodRange : List Line → ℕ → Line → Type 0
HasGoodRange lines i (statement_line s) = (statement_fits s ≡ true) × ¬ ((offset_at 0 lines i ≤ most_words) × (most_words < offset_at 0 lines i + line_size (statement_line s)))
HasGoodRange lines i empty_line = Unit {0}
HasGoodRange lines i (label_line name) = Unit {0}

-- of the lines, this index (one less than the number n) is the least that isn't good
abbrev pub IsFirstBadLine : ℕ → (ℕ → Type 0) → ℕ → Type 0
IsFirstBadLine count Good n = (i : ℕ) × (n ≡ suc i) × IsFirstFailing (λ k. k < count) Good i

-- the cause applies, whichever others do
abbrev pub IsAsmCause : List ℕ → AsmRefusal → Type 0
IsAsmCause text (Syntax n) = IsFirstBadLine (length (lines_of text)) (HasLine (lines_of text)) n
IsAsmCause text (Label n) = (lines : List Line) × AreLines (lines_of text) lines × IsFirstBadLine (length lines) (λ i. HasGoodLabels lines i (line_at lines i)) n
IsAsmCause text (Range n) = (lines : List Line) × AreLines (lines_of text) lines × IsFirstBadLine (length lines) (λ i. HasGoodRange lines i (line_at lines i)) n

-- the cause applies, and none of a lower number does
abbrev pub IsFirstAsmCause : List ℕ → AsmRefusal → Type 0
IsFirstAsmCause text cause = IsFirstCause asm_number (IsAsmCause text) cause

-- the text is of the grammar, keeps each rule, and gives this code
pub record Assembles (text words : List ℕ) (main : ℕ) : Type 0 where
  pub lines : List Line
  pub are_lines : AreLines (lines_of text) lines
  pub labels : (i : ℕ) → i < length lines → HasGoodLabels lines i (line_at lines i)
  pub ranges : (i : ℕ) → i < length lines → HasGoodRange lines i (line_at lines i)
  pub code : GivesCode lines words main

-- the text is of the grammar, and keeps each rule
pub record KeepsTextRules (text : List ℕ) : Type 0 where
  pub lines : List Line
  pub are_lines : AreLines (lines_of text) lines
  pub labels : (i : ℕ) → i < length lines → HasGoodLabels lines i (line_at lines i)
  pub ranges : (i : ℕ) → i < length lines → HasGoodRange lines i (line_at lines i)
