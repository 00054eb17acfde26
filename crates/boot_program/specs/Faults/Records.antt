-- The faults of a certificate as plain data, and their numbers (docs/CERTIFICATE.md).
use Rattle.std.specs.Prelude.{ℕ, Option, option_map}
use Rattle.boot_program.specs.declared.run_fault.RowCause.{RowCause}
use Rattle.boot_program.specs.declared.run_fault.RunFault.{RunFault}
use Rattle.boot_program.specs.declared.run_fault.RunFault.TheVariants as faults

-- a cause, with its fields
pub data FaultCause : Type 0 where
  at_boot : ℕ → FaultCause
  at_start : ℕ → FaultCause
  at_end : ℕ → FaultCause
  at_range : ℕ → FaultCause
  at_hash : ℕ → FaultCause
  at_row : ℕ → RowCause → FaultCause
  at_output : ℕ → Option ℕ → Option ℕ → FaultCause
  -- the task, and the segment and offset of a place
  at_task : ℕ → ℕ → ℕ → FaultCause

abbrev pub fault_number : FaultCause → ℕ
fault_number (at_boot address) = 1
fault_number (at_start k) = 2
fault_number (at_end k) = 3
fault_number (at_range i) = 4
fault_number (at_hash i) = 5
fault_number (at_row n cause) = 6
fault_number (at_output i stands wanted) = 7
fault_number (at_task i segment offset) = 8

-- a fault of the code
abbrev pub fault_cause : RunFault → FaultCause
fault_cause (faults.Boot address) = at_boot address
fault_cause (faults.Start k) = at_start k
fault_cause (faults.End k) = at_end k
fault_cause (faults.Range i) = at_range i
fault_cause (faults.Hash i) = at_hash i
fault_cause (faults.Row n cause) = at_row n cause
fault_cause (faults.Output i stands wanted) = at_output i (option_map (λ f. f.number) stands) (option_map (λ f. f.number) wanted)
fault_cause (faults.Task i at) = at_task i at.segment at.offset
