-- From the entry to the head of the loop over tasks.
use Rattle.std.proofs.Common.{Option, refl, subst, sym, true, ℕ, ◌≡◌}
use Rattle.cairo_model.specs.Machine.Addresses.{up, down}
use Rattle.boot_program.specs.Places.{entry_pc, tasks_pc}
use Rattle.boot_program.specs.Words.{boot_code}
use Rattle.boot_program.specs.Rows.{RowsHold, are_rows, symbolic_after, symbolic_state, state_of, cell_value}
use Rattle.boot_program.specs.Cells.{EntryCells, state}
use Rattle.boot_program.proofs.Statements.{there, meets, value}

pub entry_rows : (m : ℕ → Option ℕ) (a f : ℕ) → are_rows boot_code 4 m (symbolic_state entry_pc a f) ≡ true
unfolding are_rows
entry_rows m a f = refl

entry_at : (m : ℕ → Option ℕ) (a f count range hash : ℕ) → EntryCells m a f count (cell_value m (down f 5)) range hash → RowsHold boot_code 4 m (symbolic_state entry_pc a f)
unfolding RowsHold
entry_at m a f count range hash h = search (there m, meets m, h)

pub entry_goes : (m : ℕ → Option ℕ) (a f count output range hash : ℕ) → EntryCells m a f count output range hash → RowsHold boot_code 4 m (symbolic_state entry_pc a f)
entry_goes m a f count output range hash h =
    entry_at m a f count range hash (subst (λ x. EntryCells m a f count x range hash) (sym (value m _ _ h.output_start)) h)

pub entry_gives : (m : ℕ → Option ℕ) (a f : ℕ) → RowsHold boot_code 4 m (symbolic_state entry_pc a f)
    → EntryCells m a f (cell_value m (up (cell_value m (down f 5)) 0)) (cell_value m (down f 5)) (cell_value m (down f 4)) (cell_value m (down f 3))
unfolding RowsHold
entry_gives m a f h = search h

pub entry_ends : (m : ℕ → Option ℕ) (a f : ℕ) → state_of (symbolic_after boot_code 4 m (symbolic_state entry_pc a f)) ≡ state tasks_pc (up a 4) f
unfolding symbolic_after
entry_ends m a f = refl
