-- One law for each stretch: from a state at its first place a run through it exists exactly where there are values that its
-- cells hold; it is then the only one, and ends in the state that the values tell.
use Rattle.std.specs.Prelude.{ℕ, ◌≡◌, ◌↔◌, ◌==◌, if◌then◌else◌, List, Option}
use Rattle.goldi_field.specs.Numbers.{sum_of}
use Rattle.cairo_model.specs.Machine.Steps.{Registers, field_arithmetic}
use Rattle.cairo_model.specs.Machine.Runs.{Passes}
use Rattle.cairo_model.specs.Machine.Addresses.{up}
use Rattle.boot_program.specs.Places.{block_pc, branch_pc, call_pc, entry_pc, exit_pc, header_pc, return_pc, tasks_pc}
use Rattle.boot_program.specs.Words.{boot_code}
use Rattle.boot_program.specs.Rows.{SymbolicState, symbolic_state, state_of, rows_from}
use Rattle.boot_program.specs.Cells.{EntryCells, PrologueCells, TaskInputs, BlockCells, HeaderCells, CallCells, ReturnCells, Stops, BranchCells, ExitCells, frame_at, after_block, state}

-- by the steps, the state at the first place, the values, what they ask of the memory, and the last state that they tell
abbrev pub StretchLaw : (ℕ → Option ℕ) → ℕ → SymbolicState → (Values : Type 0) → (Values → Type 0) → (Values → Registers ℕ) → Type 0
StretchLaw m n s Values Holds end = (ts : List (Registers ℕ)) (t : Registers ℕ)
    → Passes field_arithmetic m n (state_of s) ts t ↔ ((x : Values) × Holds x × (ts ≡ rows_from boot_code n m s) × (t ≡ end x))

-- the values of each stretch, which its cells hold
pub record EntryValues : Type 0 where
  pub count : ℕ
  pub output : ℕ
  pub range : ℕ
  pub hash : ℕ

pub record PrologueValues : Type 0 where
  pub hash : ℕ
  pub task : TaskInputs

pub record BlockValues : Type 0 where
  pub instance : ℕ
  pub code : ℕ
  pub left : ℕ
  pub words : ℕ → ℕ
  pub numbers : ℕ → ℕ

pub record HeaderValues : Type 0 where
  pub header : ℕ
  pub range : ℕ
  pub hash : ℕ
  pub program : ℕ
  pub main : ℕ
  pub length : ℕ
  pub words : ℕ → ℕ

pub record ReturnValues : Type 0 where
  pub left : ℕ
  pub header : ℕ
  pub gap : ℕ
  pub distance : ℕ
  pub return : ℕ
  pub caller : ℕ
  pub stops : Stops

pub record ExitValues : Type 0 where
  pub return : ℕ
  pub caller : ℕ

-- The table of the stretches: from where, how many steps, what the memory holds, to where.
pub record StretchLaws (m : ℕ → Option ℕ) : Type 0 where
  pub entry : (a f : ℕ) → StretchLaw m 4 (symbolic_state entry_pc a f) EntryValues (λ x. EntryCells m a f x.count x.output x.range x.hash) (λ x. state tasks_pc (up a 4) f)
  pub prologue : (a f : ℕ) → StretchLaw m 30 (symbolic_state tasks_pc a f) PrologueValues (λ x. PrologueCells m a f x.hash x.task) (λ x. state block_pc (up (frame_at a) 21) (frame_at a))
  pub block : (a f : ℕ) → StretchLaw m 29 (symbolic_state block_pc a f) BlockValues (λ x. BlockCells m a f x.instance x.code x.left x.words x.numbers) (λ x. after_block a f x.left)
  pub header : (a f : ℕ) → StretchLaw m 23 (symbolic_state header_pc a f) HeaderValues (λ x. HeaderCells m a f x.header x.range x.hash x.program x.main x.length x.words) (λ x. state call_pc (up a 14) f)
  pub call : (a f : ℕ) → StretchLaw m 1 (symbolic_state call_pc a f) ℕ (λ begin. CallCells m a f begin) (λ begin. state begin (up a 2) (up a 2))
  pub return : (a f : ℕ) → StretchLaw m 11 (symbolic_state return_pc a f) ReturnValues (λ x. ReturnCells m a f x.left x.header x.gap x.distance x.return x.caller x.stops)
      (λ x. state x.return (up (sum_of a x.gap) 4) x.caller)
  pub branch : (a f : ℕ) → StretchLaw m 1 (symbolic_state branch_pc a f) ℕ (λ left. BranchCells m a f left) (λ left. state (if left == 0 then exit_pc else tasks_pc) a f)
  pub exit : (a f : ℕ) → StretchLaw m 1 (symbolic_state exit_pc a f) ExitValues (λ x. ExitCells m f x.return x.caller) (λ x. state x.return a x.caller)
