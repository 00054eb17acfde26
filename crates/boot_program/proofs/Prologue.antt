-- From the head of the loop over tasks to that of the loop over blocks.
use Rattle.std.proofs.Common.{◌≡◌, ℕ, ◌-◌, Option, Some, true, refl, ap, sym, subst, ◌∙◌}
use Rattle.goldi_field.specs.Numbers.{prime}
use Rattle.cairo_model.specs.Machine.Addresses.{up, down}
use Rattle.boot_program.specs.Places.{block_pc, branch_pc, tasks_pc}
use Rattle.boot_program.specs.Words.{boot_code}
use Rattle.boot_program.specs.Rows.{RowsHold, are_rows, symbolic_after, symbolic_state, state_of, cell_value}
use Rattle.boot_program.specs.Cells.{PrologueCells, PrologueCellsBy, TaskInputs, frame_at, code_end, with_low_bit, with_high_bit, state}
use Rattle.boot_program.proofs.Statements.{there, meets, equals, linked, told, value}
use Rattle.boot_program.proofs.RowLaw.{sum_moved}

pub prologue_rows : (m : ℕ → Option ℕ) (a f : ℕ) → are_rows boot_code 30 m (symbolic_state tasks_pc a f) ≡ true
unfolding are_rows
prologue_rows m a f = refl

-- what the task's frame supplies
abbrev pub supplied_at : (ℕ → Option ℕ) → ℕ → TaskInputs
supplied_at m f = record { program = cell_value m (up f 0); main = cell_value m (up f 1); length = cell_value m (up f 2); low_bit = cell_value m (up f 3); high_bit = cell_value m (up f 4) }

-- the same with each name replaced by what is read
abbrev AtFrame : (ℕ → Option ℕ) → ℕ → ℕ → Type 0
AtFrame m a caller = PrologueCellsBy m a caller (cell_value m (down (frame_at a) 3)) (supplied_at m (frame_at a))
    (cell_value m (up (frame_at a) 14)) (cell_value m (up (frame_at a) 16)) (cell_value m (up (frame_at a) 17))

opening_at : (m : ℕ → Option ℕ) (a caller : ℕ) → m (down (frame_at a) 1) ≡ Some branch_pc → AtFrame m a caller → RowsHold boot_code 30 m (symbolic_state tasks_pc a caller)
unfolding RowsHold
opening_at m a caller returned h = search (there m, meets m, equals m, h)

at_opening : (m : ℕ → Option ℕ) (a caller : ℕ) → RowsHold boot_code 30 m (symbolic_state tasks_pc a caller) → AtFrame m a caller
unfolding RowsHold
at_opening m a caller h = search (linked m, told m, h)

supplied_same : (m : ℕ → Option ℕ) (a caller hash end one two : ℕ) (task : TaskInputs) → PrologueCellsBy m a caller hash task end one two → supplied_at m (frame_at a) ≡ task
supplied_same m a caller hash end one two task h = λ i. record {
  program = value m _ _ h.program i;
  main = value m _ _ h.main i;
  length = value m _ _ h.length i;
  low_bit = value m _ _ h.low_bit i;
  high_bit = value m _ _ h.high_bit i;
}

pub prologue_goes : (m : ℕ → Option ℕ) (a caller hash : ℕ) (task : TaskInputs) → PrologueCells m a caller hash task → RowsHold boot_code 30 m (symbolic_state tasks_pc a caller)
prologue_goes m a caller hash task h =
    let h1 : PrologueCellsBy m a caller (cell_value m (down (frame_at a) 3)) task (code_end task) (with_low_bit task) (with_high_bit task) =
    subst (λ x. PrologueCellsBy m a caller x task (code_end task) (with_low_bit task) (with_high_bit task)) (sym (value m _ _ h.hash_pointer)) h in
    let h2 : PrologueCellsBy m a caller (cell_value m (down (frame_at a) 3)) task (cell_value m (up (frame_at a) 14)) (with_low_bit task) (with_high_bit task) =
    subst (λ x. PrologueCellsBy m a caller (cell_value m (down (frame_at a) 3)) task x (with_low_bit task) (with_high_bit task)) (sym (value m _ _ h.end_is)) h1 in
    let h3 : PrologueCellsBy m a caller (cell_value m (down (frame_at a) 3)) task (cell_value m (up (frame_at a) 14)) (cell_value m (up (frame_at a) 16)) (with_high_bit task) =
    subst (λ x. PrologueCellsBy m a caller (cell_value m (down (frame_at a) 3)) task (cell_value m (up (frame_at a) 14)) x (with_high_bit task)) (sym (value m _ _ h.one_more_is)) h2 in
    let h4 : PrologueCellsBy m a caller (cell_value m (down (frame_at a) 3)) task (cell_value m (up (frame_at a) 14)) (cell_value m (up (frame_at a) 16)) (cell_value m (up (frame_at a) 17)) =
    subst (λ x. PrologueCellsBy m a caller (cell_value m (down (frame_at a) 3)) task (cell_value m (up (frame_at a) 14)) (cell_value m (up (frame_at a) 16)) x) (sym (value m _ _ h.two_more_is)) h3 in
    opening_at m a caller (ap m (sum_moved a 2 (prime - 1)) ∙ h.return_kept) (subst (λ (x : TaskInputs). PrologueCellsBy m a caller (cell_value m (down (frame_at a) 3)) x (cell_value m (up (frame_at a) 14)) (cell_value m (up (frame_at a) 16)) (cell_value m (up (frame_at a) 17)))
    (sym (supplied_same m a caller hash (code_end task) (with_low_bit task) (with_high_bit task) task h)) h4)

pub prologue_gives : (m : ℕ → Option ℕ) (a caller : ℕ) → RowsHold boot_code 30 m (symbolic_state tasks_pc a caller)
    → PrologueCells m a caller (cell_value m (down (frame_at a) 3)) (supplied_at m (frame_at a))
prologue_gives m a caller holds =
    let task = supplied_at m (frame_at a) in
    let hash = cell_value m (down (frame_at a) 3) in
    let h = at_opening m a caller holds in
    let h1 : PrologueCellsBy m a caller hash task (code_end task) (cell_value m (up (frame_at a) 16)) (cell_value m (up (frame_at a) 17)) =
    subst (λ x. PrologueCellsBy m a caller hash task x (cell_value m (up (frame_at a) 16)) (cell_value m (up (frame_at a) 17))) (value m _ _ h.end_sum) h in
    let h2 : PrologueCellsBy m a caller hash task (code_end task) (with_low_bit task) (cell_value m (up (frame_at a) 17)) =
    subst (λ x. PrologueCellsBy m a caller hash task (code_end task) x (cell_value m (up (frame_at a) 17))) (value m _ _ h.one_more_sum) h1 in
    subst (λ x. PrologueCellsBy m a caller hash task (code_end task) (with_low_bit task) x) (value m _ _ h2.two_more_sum) h2

pub prologue_ends : (m : ℕ → Option ℕ) (a caller : ℕ) → state_of (symbolic_after boot_code 30 m (symbolic_state tasks_pc a caller)) ≡ state block_pc (up (frame_at a) 21) (frame_at a)
unfolding symbolic_after
prologue_ends m a caller = refl
