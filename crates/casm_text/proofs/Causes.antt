-- The first cause of a refusal, by what the readings before it have found.
use Rattle.std.proofs.Common.{◌≡◌, ℕ, ◌+◌, ◌<◌, List, length, arith}
use Rattle.casm_text.proofs.OneAssembly.{each_line}
use Rattle.casm_text.proofs.OneLine.{one_text}
use Rattle.casm_text.specs.Lines.{Line, AreLines}
use Rattle.casm_text.specs.Refusals.{HasGoodLabels, HasGoodRange, HasLine, IsAsmCause, IsFirstAsmCause, IsFirstBadLine, asm_number, line_at}
use Rattle.casm_text.specs.Tokens.{lines_of}
use Rattle.casm_text.specs.Working.Assembling.{KeepsLabels}
use Rattle.casm_text.specs.declared.refusal.AsmRefusal.{AsmRefusal}
use Rattle.casm_text.specs.declared.refusal.AsmRefusal.TheVariants.{Syntax, Label, Range}
use Rattle.std.proofs.Common.{sym, subst}

-- the line of this index, whose number is n, is the first that isn't good
pub record Stops (count : ℕ) (Good : ℕ → Type 0) (index n : ℕ) : Type 0 where
  pub is : n ≡ index + 1
  pub inside : index < count
  pub fails : ¬ Good index
  pub before : (k : ℕ) → k < index → Good k

stopped : (count : ℕ) (Good : ℕ → Type 0) (index n : ℕ) → Stops count Good index n → IsFirstBadLine count Good n
stopped count Good index n s = (index, omega (arith, s.is), record { inside = s.inside; fails = s.fails; before = s.before })

no_syntax : (text : List ℕ) (lines : List Line) (n : ℕ) → AreLines (lines_of text) lines → ¬ IsAsmCause text (Syntax n)
no_syntax text lines n are (i, is, first) = absurd (first.fails (each_line (lines_of text) lines are i first.inside))

no_label : (text : List ℕ) (lines : List Line) (n : ℕ) → AreLines (lines_of text) lines → KeepsLabels lines → ¬ IsAsmCause text (Label n)
no_label text lines n are kept (others, are_too, (i, is, first)) =
    let same : others ≡ lines = one_text (lines_of text) others lines are_too are in
    absurd (first.fails (subst (λ (ls : List Line). HasGoodLabels ls i (line_at ls i)) (sym same) (kept i (subst (λ (ls : List Line). i < length ls) same first.inside))))

none_below_syntax : (text : List ℕ) (other : AsmRefusal) → asm_number other < 1 → ¬ IsAsmCause text other
none_below_syntax text (Syntax n) lower h = omega arith
none_below_syntax text (Label n) lower h = omega arith
none_below_syntax text (Range n) lower h = omega arith

none_below_label : (text : List ℕ) (lines : List Line) (other : AsmRefusal) → AreLines (lines_of text) lines → asm_number other < 2 → ¬ IsAsmCause text other
none_below_label text lines (Syntax n) are lower h = no_syntax text lines n are h
none_below_label text lines (Label n) are lower h = omega arith
none_below_label text lines (Range n) are lower h = omega arith

none_below_range : (text : List ℕ) (lines : List Line) (other : AsmRefusal) → AreLines (lines_of text) lines → KeepsLabels lines → asm_number other < 3 → ¬ IsAsmCause text other
none_below_range text lines (Syntax n) are kept lower h = no_syntax text lines n are h
none_below_range text lines (Label n) are kept lower h = no_label text lines n are kept h
none_below_range text lines (Range n) are kept lower h = omega arith

pub syntax_first : (text : List ℕ) (index n : ℕ) → Stops (length (lines_of text)) (HasLine (lines_of text)) index n → IsFirstAsmCause text (Syntax n)
syntax_first text index n s = record { applies = stopped _ _ index n s; none_before = none_below_syntax text }

pub label_first : (text : List ℕ) (lines : List Line) (index n : ℕ) → AreLines (lines_of text) lines → Stops (length lines) (λ i. HasGoodLabels lines i (line_at lines i)) index n → IsFirstAsmCause text (Label n)
label_first text lines index n are s = record { applies = (lines, are, stopped _ _ index n s); none_before = λ other lower. none_below_label text lines other are lower }

pub range_first : (text : List ℕ) (lines : List Line) (index n : ℕ) → AreLines (lines_of text) lines → KeepsLabels lines → Stops (length lines) (λ i. HasGoodRange lines i (line_at lines i)) index n → IsFirstAsmCause text (Range n)
range_first text lines index n are kept s = record { applies = (lines, are, stopped _ _ index n s); none_before = λ other lower. none_below_range text lines other are kept lower }
