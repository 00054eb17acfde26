-- The certificate of a batch in closed form, and how many states and cells it may have.
use Rattle.std.specs.Prelude.{List, [], length, sum, ℕ, ◌*◌, ◌+◌, ◌∷◌, ◌≡◌, ◌≤◌}
use Rattle.boot_program.specs.Cells.{state}
use Rattle.boot_program.specs.Tasks.{task_length}
use Rattle.boot_program.specs.Turns.{turn_length}
use Rattle.boot_program.specs.Words.{boot_words}
use Rattle.cairo_model.specs.Certificate.Records.{CertRecord, MarkRecord, batch}
use Rattle.cairo_model.specs.Pie.Acceptance.{CheckedRecord}
use Rattle.batch_runner.specs.Layout.{bases_at, boot_frame, first_place, hash_from, more_turns, next_place, output_from, program_from, range_from, size, total}
use Rattle.batch_runner.specs.Memory.{all_cells}
use Rattle.batch_runner.specs.Rows.{batch_rows, task_values_at}
use Rattle.batch_plan.specs.Parts.{BatchParts}
use Rattle.boot_program.specs.Places.{entry_pc}
use Rattle.cairo_model.specs.Segments.{program_segment}

-- the states from the entry to the loop over tasks
abbrev pub entry_rows : ℕ
entry_rows = 4

-- the marks of tasks, from the row and the addresses where the first begins: a task's states begin where the bootloader's turn to
-- it ends, and the next turn where its return does
unfoldable pub marks_from : ℕ → BatchParts → List CheckedRecord → List MarkRecord
marks_from before p [] = []
marks_from before p (t ∷ ts) = record { row = before + turn_length (more_turns (size t program_segment)); bases = bases_at t p } ∷ marks_from (before + task_length (task_values_at t p)) (next_place t p) ts

-- the certificate of a batch
abbrev pub cert_of : CheckedRecord → List CheckedRecord → CertRecord
cert_of t ts =
    let all = t ∷ ts in
    record {
      kind = batch;
      output = record { start = output_from all; stop = range_from all };
      range = record { start = range_from all; stop = hash_from all };
      hash = record { start = hash_from all; stop = program_from all };
      tasks = marks_from entry_rows (first_place all) all;
      cells = all_cells all;
      states = state entry_pc boot_frame boot_frame ∷ batch_rows t ts;
    }

-- the certificate is the one of these tasks: a batch has one at least
abbrev pub IsCertOf : List CheckedRecord → CertRecord → Type 0
IsCertOf [] cert = ⊥
IsCertOf (t ∷ ts) cert = cert ≡ cert_of t ts

-- the turns of the loop over hash instances, the steps and the sizes of all tasks
abbrev pub turns_of : List CheckedRecord → ℕ
turns_of ts = total (λ t. more_turns (size t program_segment) + 1) ts

abbrev pub steps_of_batch : List CheckedRecord → ℕ
steps_of_batch ts = total (λ t. t.pie.steps) ts

abbrev pub sizes_of_batch : List CheckedRecord → ℕ
sizes_of_batch ts = total (λ t. sum t.pie.sizes) ts

-- Few states and cells beside the tasks' own and the bootloader's words: so many for a turn, for a task and for the batch.
pub record IsSmall (cert : CertRecord) (ts : List CheckedRecord) : Type 0 where
  pub states : length cert.states ≤ 1 + steps_of_batch ts + 40 * turns_of ts + 200 * length ts + 100
  pub cells : length cert.cells ≤ length boot_words + 60 * turns_of ts + 200 * length ts + 100 + 20 * turns_of ts + 9 * length ts + 1 + sizes_of_batch ts
