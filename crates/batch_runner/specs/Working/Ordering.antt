-- The order of a batch's rows and marks, row by row and mark by mark.
use Rattle.std.specs.Prelude.{List, Some, [], length, suc, ℕ, ◌%◌, ◌+◌, ◌-◌, ◌<◌, ◌∷◌, ◌≡◌, ◌≤◌, ◌⊎◌}
use Rattle.boot_program.specs.Words.{boot_end}
use Rattle.boot_program.specs.Working.Walks.{EachRow}
use Rattle.cairo_model.specs.Certificate.Acceptance.{cell_below}
use Rattle.cairo_model.specs.Certificate.Records.{CertRecord, MarkRecord}
use Rattle.cairo_model.specs.Machine.FieldMemories.{FieldCell}
use Rattle.cairo_model.specs.Machine.Steps.{Registers, last_of}
use Rattle.cairo_model.specs.Pie.Layouts.{base_of}
use Rattle.batch_runner.specs.Working.Tasks.{Task}
use Rattle.batch_runner.specs.Layout.{size}

-- a row inside a task: from its mark's row on, one for each of its steps
unfoldable pub Inside : List MarkRecord → List Task → ℕ → Type 0
Inside [] ts k = ⊥
Inside (m ∷ ms) [] k = ⊥
Inside (m ∷ ms) (t ∷ ts) k = ((m.row ≤ k) × (k < m.row + t.checked.pie.steps)) ⊎ Inside ms ts k

unfoldable pub IsMarkRow : List MarkRecord → ℕ → Type 0
IsMarkRow [] k = ⊥
IsMarkRow (m ∷ ms) k = (m.row ≡ k) ⊎ IsMarkRow ms k

-- Below the builtin pointers stand the program's address, main and the code's length
pub record IsCallOf (cells : List FieldCell) (mark : MarkRecord) (t : Task) (s : Registers ℕ) : Type 0 where
  pub program : cell_below cells s.ap 6 ≡ Some (base_of mark.bases 0)
  pub main : cell_below cells s.ap 5 ≡ Some t.checked.pie.main
  pub length_is : cell_below cells s.ap 4 ≡ Some (size t.checked 0)

-- the row before a mark's row is a call of its task
unfoldable pub CallsAt : List FieldCell → List MarkRecord → List Task → ℕ → Registers ℕ → Type 0
CallsAt cells [] ts k s = ⊥
CallsAt cells (m ∷ ms) [] k s = ⊥
CallsAt cells (m ∷ ms) (t ∷ ts) k s = ((m.row ≡ k) × IsCallOf cells m t s) ⊎ CallsAt cells ms ts k s

-- a row but the last
pub record RowInOrder (cells : List FieldCell) (ms : List MarkRecord) (ts : List Task) (k : ℕ) (s : Registers ℕ) : Type 0 where
  pub inside : Inside ms ts k → boot_end < s.pc
  pub outside : (Inside ms ts k → ⊥) → (1 ≤ s.pc) × (s.pc < boot_end)
  pub site : (Inside ms ts k → ⊥) → s.pc ≡ 105 → CallsAt cells ms ts (suc k) s
  pub mark : IsMarkRow ms (suc k) → (Inside ms ts k → ⊥) × (s.pc ≡ 105)

-- the marks' rows rise, above all rows inside the tasks before
unfoldable pub MarksRise : ℕ → List MarkRecord → List Task → Type 0
MarksRise lo [] ts = Unit {0}
MarksRise lo (m ∷ ms) [] = ⊥
MarksRise lo (m ∷ ms) (t ∷ ts) = (lo ≤ m.row) × MarksRise (m.row + t.checked.pie.steps) ms ts

pub record MarkLies (cert : CertRecord) (mark : MarkRecord) (t : Task) : Type 0 where
  pub output_from : cert.output.start ≤ base_of mark.bases 2
  pub output_to : base_of mark.bases 2 + size t.checked 2 ≤ cert.output.stop
  pub range_from : cert.range.start ≤ base_of mark.bases 3
  pub range_to : base_of mark.bases 3 + size t.checked 3 ≤ cert.range.stop
  pub hash_from : cert.hash.start ≤ base_of mark.bases 4
  pub hash_to : base_of mark.bases 4 + size t.checked 4 ≤ cert.hash.stop
  pub whole : (base_of mark.bases 4 - cert.hash.start) % 20 ≡ 0

unfoldable pub MarksLie : CertRecord → List MarkRecord → List Task → Type 0
MarksLie cert [] ts = Unit {0}
MarksLie cert (m ∷ ms) [] = ⊥
MarksLie cert (m ∷ ms) (t ∷ ts) = MarkLies cert m t × MarksLie cert ms ts

pub record RowsInOrder (cert : CertRecord) (ts : List Task) : Type 0 where
  pub first : Registers ℕ
  pub rest : List (Registers ℕ)
  pub begins : cert.states ≡ first ∷ rest
  pub rows : EachRow (RowInOrder cert.cells cert.tasks ts) 0 first rest
  pub last_outside : Inside cert.tasks ts (length rest) → ⊥
  pub no_mark_after : IsMarkRow cert.tasks (suc (length rest)) → ⊥
  pub last_at_end : (last_of first rest).pc ≡ boot_end
  pub rise : MarksRise 1 cert.tasks ts
  pub spans : MarksLie cert cert.tasks ts
