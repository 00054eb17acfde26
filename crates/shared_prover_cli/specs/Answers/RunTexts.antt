-- What answers an assembly text: the file of its PIE, or the line of the refusal; and the reply of `run`.
use Rattle.std.specs.Prelude.{◌≡◌, ℕ, List, [], ◌∷◌, ◌++◌, codes, Ok, Err}
use Rattle.cairo_model.specs.Machine.StepFaults.{step_fault_number}
use Rattle.cairo_model.specs.Pie.Files.{PieBytes}
use Rattle.cairo_model.specs.Texts.Numbers.{numbers_text, value_text}
use Rattle.cairo_model.specs.Texts.Refusals.{replay_text}
use Rattle.casm_text.specs.Refusals.{asm_number}
use Rattle.casm_text.specs.declared.refusal.AsmRefusal.{AsmRefusal}
use Rattle.casm_text.specs.declared.refusal.AsmRefusal.TheVariants.{Syntax, Label, Range}
use Rattle.pie_format.specs.Writing.{file_of}
use Rattle.seg_runner.specs.Refusals.{RunCause, unknown_cell, conflicting, faulty, over_limit, over_size, not_accepted}
use Rattle.shared_prover_cli.specs.Answers.Run.{TextOutcome, IsOutcomeOf, no_code, ran}
use Rattle.shared_prover_cli.specs.Replies.{ReplyRecord}

-- the line that a refusal names
abbrev pub asm_line : AsmRefusal → ℕ
asm_line (Syntax line) = line
asm_line (Label line) = line
asm_line (Range line) = line

-- the number of a refusal and its fields
abbrev pub run_cause_text : RunCause → List ℕ
run_cause_text (unknown_cell n) = numbers_text (1 ∷ n ∷ [])
run_cause_text (conflicting n dst res) = numbers_text (2 ∷ n ∷ []) ++ (value_text dst ++ value_text res)
run_cause_text (faulty n fault) = numbers_text (3 ∷ n ∷ step_fault_number fault ∷ [])
run_cause_text (over_limit n) = numbers_text (4 ∷ n ∷ [])
run_cause_text (over_size n) = numbers_text (5 ∷ n ∷ [])
run_cause_text (not_accepted cause) = numbers_text (6 ∷ []) ++ replay_text cause

abbrev pub outcome_text : TextOutcome → List ℕ
outcome_text (no_code refusal) = codes "refused assembly" ++ numbers_text (asm_number refusal ∷ asm_line refusal ∷ []) ++ 10 ∷ []
outcome_text (ran (Err cause)) = codes "refused execution" ++ run_cause_text cause ++ 10 ∷ []
outcome_text (ran (Ok pie)) = file_of pie

-- 0 where there is a PIE, else 1
abbrev pub outcome_status : TextOutcome → ℕ
outcome_status (no_code refusal) = 1
outcome_status (ran (Err cause)) = 1
outcome_status (ran (Ok pie)) = 0

-- what is written of a PIE is a file of it
abbrev pub IsFileOf : TextOutcome → List ℕ → Type 0
IsFileOf (no_code refusal) text = Unit {0}
IsFileOf (ran (Err cause)) text = Unit {0}
IsFileOf (ran (Ok pie)) text = PieBytes text pie

-- `run`: the file or the line of the one outcome of the text that the input is
pub record RunAnswer (input : List ℕ) (reply : ReplyRecord) : Type 0 where
  pub outcome : TextOutcome
  pub is_outcome : IsOutcomeOf input outcome
  pub has_status : reply.status ≡ outcome_status outcome
  pub has_text : reply.text ≡ outcome_text outcome
  pub is_file : IsFileOf outcome reply.text
