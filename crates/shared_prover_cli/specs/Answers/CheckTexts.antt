-- The lines that answer a certificate, and the reply of `check`.
use Rattle.std.specs.Prelude.{◌≡◌, ℕ, List, [], ◌∷◌, ◌++◌, codes, Option, Some, None}
use Rattle.boot_program.specs.Faults.Records.{FaultCause, at_boot, at_start, at_end, at_range, at_hash, at_row, at_output, at_task}
use Rattle.boot_program.specs.declared.run_fault.RowCause.{RowCause}
use Rattle.boot_program.specs.declared.run_fault.RowCause.TheVariants as causes
use Rattle.cairo_model.specs.Certificate.Records.{CertKind, alone, batch}
use Rattle.cairo_model.specs.Machine.StepFaults.{step_fault_number}
use Rattle.cairo_model.specs.Machine.Values.{place}
use Rattle.cairo_model.specs.Texts.Numbers.{numbers_text, value_text}
use Rattle.cert_format.specs.declared.refusal.CertRefusal.{CertRefusal}
use Rattle.cert_format.specs.declared.refusal.CertRefusal.TheVariants as refusals
use Rattle.shared_prover_cli.specs.Answers.Check.{CheckAnswer, IsCheckOf, accepted, no_certificate, faulty}
use Rattle.shared_prover_cli.specs.Replies.{ReplyRecord}

abbrev pub kind_text : CertKind → List ℕ
kind_text alone = codes "accepted alone"
kind_text batch = codes "accepted batch"

abbrev pub accepted_text : CertKind → ℕ → List ℕ → List ℕ
accepted_text kind steps outputs = kind_text kind ++ numbers_text (steps ∷ []) ++ codes " outputs" ++ numbers_text outputs ++ 10 ∷ []

-- the number of a refusal and its field
abbrev pub certificate_numbers : CertRefusal → List ℕ
certificate_numbers refusals.BadMagic = 1 ∷ []
certificate_numbers (refusals.Truncated length) = 2 ∷ length ∷ []
certificate_numbers (refusals.BadNumber at) = 3 ∷ at ∷ []
certificate_numbers (refusals.Order at) = 4 ∷ at ∷ []
certificate_numbers (refusals.Trailing count) = 5 ∷ count ∷ []

abbrev pub cause_number : RowCause → ℕ
cause_number (causes.Fault fault) = step_fault_number fault
cause_number causes.Next = 11

-- a number after a space, or a dash where there is none
abbrev pub optional_text : Option ℕ → List ℕ
optional_text None = codes " -"
optional_text (Some n) = numbers_text (n ∷ [])

-- the number of a fault and its fields
abbrev pub fault_text : FaultCause → List ℕ
fault_text (at_boot address) = numbers_text (1 ∷ address ∷ [])
fault_text (at_start k) = numbers_text (2 ∷ k ∷ [])
fault_text (at_end k) = numbers_text (3 ∷ k ∷ [])
fault_text (at_range i) = numbers_text (4 ∷ i ∷ [])
fault_text (at_hash i) = numbers_text (5 ∷ i ∷ [])
fault_text (at_row n cause) = numbers_text (6 ∷ n ∷ cause_number cause ∷ [])
fault_text (at_output i stands wanted) = numbers_text (7 ∷ i ∷ []) ++ optional_text stands ++ optional_text wanted
fault_text (at_task i segment offset) = numbers_text (8 ∷ i ∷ []) ++ value_text (place segment offset)

abbrev pub check_text : CheckAnswer → List ℕ
check_text (accepted kind steps outputs) = accepted_text kind steps outputs
check_text (no_certificate refusal) = codes "refused certificate" ++ numbers_text (certificate_numbers refusal) ++ 10 ∷ []
check_text (faulty cause) = codes "refused run" ++ fault_text cause ++ 10 ∷ []

-- 0 where the certificate is accepted, else 1
abbrev pub check_status : CheckAnswer → ℕ
check_status (accepted kind steps outputs) = 0
check_status (no_certificate refusal) = 1
check_status (faulty cause) = 1

-- `check`: the line of the one answer to the certificate that the input is
pub record CheckLine (input : List ℕ) (reply : ReplyRecord) : Type 0 where
  pub answer : CheckAnswer
  pub is_answer : IsCheckOf input answer
  pub has_status : reply.status ≡ check_status answer
  pub has_text : reply.text ≡ check_text answer
