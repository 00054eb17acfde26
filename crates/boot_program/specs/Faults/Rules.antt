-- The rules of a certificate one by one, each over its memory as a finite map (docs/CERTIFICATE.md).
use Rattle.std.specs.Prelude.{ℕ, ◌≡◌, ◌≢◌, ◌+◌, ◌-◌, ◌<◌, ◌≤◌, ◌==◌, if◌then◌else◌, List, length, slice_index, Option, Some}
use Rattle.builtin_hash.specs.Instances.{IsInstance, cells_per_instance}
use Rattle.builtin_range.specs.Ranges.{IsRangeCell}
use Rattle.cairo_model.specs.Certificate.Acceptance.{cell_below}
use Rattle.cairo_model.specs.Certificate.Records.{CertRecord, SpanRecord, batch}
use Rattle.cairo_model.specs.Machine.FieldMemories.{FieldCell, cell_at}
use Rattle.cairo_model.specs.Machine.Runs.{IsState}
use Rattle.cairo_model.specs.Machine.Steps.{Registers, Step, StepFaultOf, field_arithmetic}
use Rattle.boot_program.specs.Places.{entry_pc}
use Rattle.boot_program.specs.Words.{boot_code, boot_end}
use Rattle.boot_program.specs.declared.run_fault.RowCause.{RowCause}
use Rattle.boot_program.specs.declared.run_fault.RowCause.TheVariants as causes

-- ---- the bootloader

abbrev pub IsBootAddress : ℕ → Type 0
IsBootAddress address = (entry_pc ≤ address) × (address < boot_end)

-- the memory holds the bootloader's word at this address, if it has one there
abbrev pub HasBootWord : (ℕ → Option ℕ) → ℕ → Type 0
HasBootWord m address = (word : ℕ) → boot_code address ≡ Some word → m address ≡ Some word

-- ---- the start and the end

-- a cell that was looked for is there
abbrev pub IsThere : Option ℕ → Type 0
IsThere found = (n : ℕ) × (found ≡ Some n)

-- a rule of the certificate of a batch alone
abbrev pub OfBatch : CertRecord → Type 0 → Type 0
OfBatch cert Rule = cert.kind ≡ batch → Rule

-- the rules of the first state
pub data StartRule : Type 0 where
  has_state : StartRule
  above_frame : StartRule
  output_start : StartRule
  range_start : StartRule
  hash_start : StartRule
  has_caller : StartRule
  has_return : StartRule
  enters_boot : StartRule
  returns_to_boot : StartRule

-- the rule of this number; rule 0 is that there is a state
abbrev pub start_rule : ℕ → StartRule
start_rule k =
    if k == 1 then above_frame
    else (if k == 2 then output_start
    else (if k == 3 then range_start
    else (if k == 4 then hash_start
    else (if k == 5 then has_caller
    else (if k == 6 then has_return
    else (if k == 7 then enters_boot
    else (if k == 8 then returns_to_boot
    else has_state)))))))

abbrev pub IsStartRule : ℕ → Type 0
IsStartRule k = k ≤ 8

abbrev pub StartsBy : CertRecord → Registers ℕ → StartRule → Type 0
StartsBy cert first has_state = Unit {0}
StartsBy cert first above_frame = first.ap ≡ first.fp
StartsBy cert first output_start = cell_below cert.cells first.fp 5 ≡ Some cert.output.start
StartsBy cert first range_start = cell_below cert.cells first.fp 4 ≡ Some cert.range.start
StartsBy cert first hash_start = cell_below cert.cells first.fp 3 ≡ Some cert.hash.start
StartsBy cert first has_caller = IsThere (cell_below cert.cells first.fp 2)
StartsBy cert first has_return = IsThere (cell_below cert.cells first.fp 1)
StartsBy cert first enters_boot = OfBatch cert (first.pc ≡ entry_pc)
StartsBy cert first returns_to_boot = OfBatch cert (cell_below cert.cells first.fp 1 ≡ Some boot_end)

-- there is a first state, and it keeps the rule of this number
abbrev pub KeepsStartRule : CertRecord → ℕ → Type 0
KeepsStartRule cert k = (first : Registers ℕ) × (IsState cert.states 0 first × StartsBy cert first (start_rule k))

-- the rules of the last state
pub data EndRule : Type 0 where
  has_last : EndRule
  returned : EndRule
  restored : EndRule
  output_stop : EndRule
  range_stop : EndRule
  hash_stop : EndRule

-- the rule of this number, from 1 on; rule 0 is again that there is a state, without which no fault of the end applies
abbrev pub end_rule : ℕ → EndRule
end_rule k =
    if k == 1 then returned
    else (if k == 2 then restored
    else (if k == 3 then output_stop
    else (if k == 4 then range_stop
    else (if k == 5 then hash_stop
    else has_last))))

abbrev pub IsEndRule : ℕ → Type 0
IsEndRule k = (1 ≤ k) × (k ≤ 5)

abbrev pub EndsBy : CertRecord → Registers ℕ → Registers ℕ → EndRule → Type 0
EndsBy cert first last has_last = Unit {0}
EndsBy cert first last returned = cell_below cert.cells first.fp 1 ≡ Some last.pc
EndsBy cert first last restored = cell_below cert.cells first.fp 2 ≡ Some last.fp
EndsBy cert first last output_stop = cell_below cert.cells last.ap 3 ≡ Some cert.output.stop
EndsBy cert first last range_stop = cell_below cert.cells last.ap 2 ≡ Some cert.range.stop
EndsBy cert first last hash_stop = cell_below cert.cells last.ap 1 ≡ Some cert.hash.stop

pub record HasEnds (cert : CertRecord) (first last : Registers ℕ) : Type 0 where
  pub is_first : IsState cert.states 0 first
  pub is_last : IsState cert.states (length cert.states - 1) last

-- there are a first and a last state, and they keep the rule of this number
abbrev pub KeepsEndRule : CertRecord → ℕ → Type 0
KeepsEndRule cert k = (first : Registers ℕ) × ((last : Registers ℕ) × (HasEnds cert first last × EndsBy cert first last (end_rule k)))

-- ---- the spans

-- so many above its start is an address of the span
abbrev pub IsInSpan : SpanRecord → ℕ → Type 0
IsInSpan span i = span.start + i < span.stop

-- a range cell stands at this address
abbrev pub RangeCellAt : (ℕ → Option ℕ) → ℕ → Type 0
RangeCellAt m address = (n : ℕ) × ((m address ≡ Some n) × IsRangeCell n)

-- the twenty cells from an address on are an instance, and lie below the stop
pub record WholeInstanceAt (m : ℕ → Option ℕ) (stop address : ℕ) : Type 0 where
  pub numbers : List ℕ
  pub below : address + cells_per_instance ≤ stop
  pub holds : (k : ℕ) → k < cells_per_instance → m (address + k) ≡ Some (slice_index numbers k)
  pub is_instance : IsInstance numbers

-- ---- the rows

-- why a state doesn't lead to another: a step from it has this fault, or gives a third
abbrev pub StopsBy : List FieldCell → Registers ℕ → Registers ℕ → RowCause → Type 0
StopsBy cells state after (causes.Fault fault) = StepFaultOf field_arithmetic (cell_at cells) state fault
StopsBy cells state after causes.Next = (other : Registers ℕ) × (Step field_arithmetic (cell_at cells) state other × (other ≢ after))

-- why the state of this number doesn't lead to the one after it
pub record IsRowCause (cells : List FieldCell) (states : List (Registers ℕ)) (n : ℕ) (cause : RowCause) : Type 0 where
  pub state : Registers ℕ
  pub after : Registers ℕ
  pub is_state : IsState states n state
  pub is_after : IsState states (n + 1) after
  pub stops : StopsBy cells state after cause
