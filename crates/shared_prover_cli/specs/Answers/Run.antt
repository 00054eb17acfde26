-- `run`: what the program that the input is the assembly text of runs to (docs/RUNNER.md).
use Rattle.std.specs.Prelude.{ℕ, ◌≡◌, ◌+◌, ◌==◌, List, take, Result, ◌⊎◌}
use Rattle.std.specs.List.{count_by}
use Rattle.std.specs.Str.{IsUtf8, IsValidUpTo}
use Rattle.cairo_model.specs.Limits.{most_steps}
use Rattle.cairo_model.specs.Pie.Records.{PieRecord}
use Rattle.casm_text.specs.Refusals.{Assembles, IsFirstAsmCause}
use Rattle.casm_text.specs.declared.refusal.AsmRefusal.{AsmRefusal}
use Rattle.casm_text.specs.declared.refusal.AsmRefusal.TheVariants.{Syntax}
use Rattle.seg_runner.specs.Answers.{IsRunAnswer}
use Rattle.seg_runner.specs.Refusals.{RunCause}

pub data TextOutcome : Type 0 where
  -- the text has no code, and this is the first cause
  no_code : AsmRefusal → TextOutcome
  -- its code runs to this PIE, or is refused
  ran : Result PieRecord RunCause → TextOutcome

-- the line of the byte with this index: lines end with a line feed, and count from 1
abbrev pub line_of_byte : List ℕ → ℕ → ℕ
line_of_byte bytes index = count_by (λ c. c == 10) (take index bytes) + 1

-- the bytes aren't UTF-8, and line n has the first bad one
abbrev pub IsNoText : List ℕ → ℕ → Type 0
IsNoText bytes n = (index : ℕ) × (IsValidUpTo bytes index × (n ≡ line_of_byte bytes index))

-- the code of a text runs to this, within as many steps as a PIE may have
pub record TextRunsTo (text : List ℕ) (outcome : Result PieRecord RunCause) : Type 0 where
  pub words : List ℕ
  pub main : ℕ
  pub has_code : Assembles text words main
  pub runs : IsRunAnswer words main most_steps outcome

-- bytes that aren't UTF-8 are refused as a line that isn't one of the grammar
abbrev pub IsOutcomeOf : List ℕ → TextOutcome → Type 0
IsOutcomeOf bytes (no_code refusal) = (IsUtf8 bytes × IsFirstAsmCause bytes refusal) ⊎ ((n : ℕ) × (IsNoText bytes n × (refusal ≡ Syntax n)))
IsOutcomeOf bytes (ran outcome) = IsUtf8 bytes × TextRunsTo bytes outcome
