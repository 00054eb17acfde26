-- The order of a batch's run: which states belong to which task, where the bootloader calls them, and where their outputs, range
-- cells and hash instances lie.
use Rattle.std.specs.Prelude.{ℕ, ◌≡◌, ◌↔◌, ◌+◌, ◌-◌, ◌%◌, ◌<◌, ◌≤◌, ◌==◌, if◌then◌else◌, List, length, All, Contains, Some}
use Rattle.builtin_hash.specs.Instances.{cells_per_instance}
use Rattle.cairo_model.specs.Segments.{program_segment, output_segment, range_segment, hash_segment, builtin_mask, builtin_segments}
use Rattle.cairo_model.specs.Machine.Steps.{Registers}
use Rattle.cairo_model.specs.Pie.Records.{segment_size}
use Rattle.cairo_model.specs.Pie.Layouts.{base_of}
use Rattle.cairo_model.specs.Pie.Acceptance.{CheckedRecord}
use Rattle.cairo_model.specs.Certificate.Records.{CertRecord, MarkRecord, SpanRecord}
use Rattle.cairo_model.specs.Certificate.Acceptance.{cell_below}
use Rattle.cairo_model.specs.Machine.Runs.{IsState}
use Rattle.boot_program.specs.Words.{boot_end, boot_calls}
use Rattle.boot_program.specs.Places.{entry_pc}
use Rattle.boot_program.specs.Batch.Standing.{IsMarkOf, IsTask}

-- a row from which this task steps on
pub record IsInsideTask (cert : CertRecord) (tasks : List CheckedRecord) (i row : ℕ) : Type 0 where
  pub mark : MarkRecord
  pub task : CheckedRecord
  pub is_mark : IsMarkOf cert i mark
  pub is_task : IsTask tasks i task
  pub from : mark.row ≤ row
  pub below : row < mark.row + task.pie.steps

abbrev pub IsInside : CertRecord → List CheckedRecord → ℕ → Type 0
IsInside cert tasks row = (i : ℕ) × IsInsideTask cert tasks i row

abbrev pub IsOutside : CertRecord → List CheckedRecord → ℕ → Type 0
IsOutside cert tasks row = ¬ IsInside cert tasks row

-- the instruction at this address calls tasks with these builtins
abbrev pub CallsWith : ℕ → ℕ → Type 0
CallsWith pc mask = Contains boot_calls (pc, mask)

abbrev pub IsCallSite : ℕ → Type 0
IsCallSite pc = (mask : ℕ) × CallsWith pc mask

-- At the call, the three cells just below the builtins' pointers say which program is called: the base of its segment, its
-- main and its length.
pub record CallsTask (cert : CertRecord) (state : Registers ℕ) (mark : MarkRecord) (task : CheckedRecord) : Type 0 where
  pub with_its_builtins : CallsWith state.pc builtin_mask
  pub program : cell_below cert.cells state.ap (length (builtin_segments builtin_mask) + 3) ≡ Some (base_of mark.bases program_segment)
  pub main : cell_below cert.cells state.ap (length (builtin_segments builtin_mask) + 2) ≡ Some task.pie.main
  pub code_length : cell_below cert.cells state.ap (length (builtin_segments builtin_mask) + 1) ≡ Some (segment_size task.pie program_segment)

-- the state of this row calls the task whose states begin at the next row
pub record CallsNext (cert : CertRecord) (tasks : List CheckedRecord) (row : ℕ) (state : Registers ℕ) : Type 0 where
  pub index : ℕ
  pub mark : MarkRecord
  pub task : CheckedRecord
  pub is_mark : IsMarkOf cert index mark
  pub is_task : IsTask tasks index task
  pub begins_next : mark.row ≡ row + 1
  pub calls : CallsTask cert state mark task

-- the span of a builtin, by the builtin's segment
abbrev pub span_of_builtin : CertRecord → ℕ → SpanRecord
span_of_builtin cert segment =
    if segment == output_segment then cert.output
    else (if segment == range_segment then cert.range
    else cert.hash)

-- a task's segment lies in the builtin's span
pub record LiesInSpan (cert : CertRecord) (mark : MarkRecord) (task : CheckedRecord) (segment : ℕ) : Type 0 where
  pub from : (span_of_builtin cert segment).start ≤ base_of mark.bases segment
  pub to : base_of mark.bases segment + segment_size task.pie segment ≤ (span_of_builtin cert segment).stop

-- the segments of a task's builtins lie in the spans, and its instances are whole ones of theirs
pub record LiesInSpans (cert : CertRecord) (mark : MarkRecord) (task : CheckedRecord) : Type 0 where
  pub each : All (LiesInSpan cert mark task) (builtin_segments builtin_mask)
  pub whole : (base_of mark.bases hash_segment - cert.hash.start) % cells_per_instance ≡ 0

pub record InOrder (cert : CertRecord) (tasks : List CheckedRecord) : Type 0 where
  -- a task's first state comes after the bootloader's first, and after all rows inside the tasks before
  pub after_first : (i : ℕ) (mark : MarkRecord) → IsMarkOf cert i mark → 0 < mark.row
  pub after_others : (i j row : ℕ) (mark : MarkRecord) → i < j → IsInsideTask cert tasks i row → IsMarkOf cert j mark → row < mark.row
  -- a state stands in the bootloader exactly outside the tasks, and at its end exactly at the last row
  pub in_boot : (row : ℕ) (state : Registers ℕ) → IsState cert.states row state → ((entry_pc ≤ state.pc) × (state.pc ≤ boot_end)) ↔ IsOutside cert tasks row
  pub at_end : (row : ℕ) (state : Registers ℕ) → IsState cert.states row state → IsOutside cert tasks row → (state.pc ≡ boot_end) ↔ (row + 1 ≡ length cert.states)
  -- and at the site of a call exactly before a task's first state, which is the task that is called
  pub calls : (row : ℕ) (state : Registers ℕ) → IsState cert.states row state → IsOutside cert tasks row → IsCallSite state.pc → CallsNext cert tasks row state
  pub called : (row i : ℕ) (state : Registers ℕ) (mark : MarkRecord) → IsState cert.states row state → IsOutside cert tasks row → IsMarkOf cert i mark → mark.row ≡ row + 1 → IsCallSite state.pc
  -- the tasks' segments lie in the spans
  pub spans : (i : ℕ) (mark : MarkRecord) (task : CheckedRecord) → IsMarkOf cert i mark → IsTask tasks i task → LiesInSpans cert mark task
