-- From the address after the call to the next turn of the loop over tasks, or to the end.
use Rattle.std.proofs.Common.{Option, Some, ap, if◌then◌else◌, refl, subst, sym, true, ℕ, ◌==◌, ◌∙◌, ◌≡◌}
use Rattle.cairo_model.specs.Machine.Addresses.{up, down}
use Rattle.boot_program.specs.Places.{branch_pc, exit_pc, return_pc, tasks_pc}
use Rattle.boot_program.specs.Words.{boot_code}
use Rattle.boot_program.specs.Rows.{RowsHold, are_rows, symbolic_after, symbolic_state, state_of, cell_value}
use Rattle.goldi_field.specs.Numbers.{sum_of}
use Rattle.boot_program.specs.Cells.{ReturnCells, BranchCells, ExitCells, Stops, state}
use Rattle.boot_program.proofs.Statements.{there, meets, equals, told, linked, here, value}

pub return_rows : (m : ℕ → Option ℕ) (a f : ℕ) → are_rows boot_code 11 m (symbolic_state return_pc a f) ≡ true
unfolding are_rows
return_rows m a f = refl

homing_at : (m : ℕ → Option ℕ) (a f return caller : ℕ) (stops : Stops)
    → ReturnCells m a f (cell_value m (down f 6)) (cell_value m (down f 5)) (cell_value m (up f 5)) (cell_value m (up f 9)) return caller stops → RowsHold boot_code 11 m (symbolic_state return_pc a f)
unfolding RowsHold
homing_at m a f return caller stops h = search (there m, meets m, equals m, h)

pub return_goes : (m : ℕ → Option ℕ) (a f left header gap distance return caller : ℕ) (stops : Stops)
    → ReturnCells m a f left header gap distance return caller stops → RowsHold boot_code 11 m (symbolic_state return_pc a f)
return_goes m a f left header gap distance return caller stops h =
    let one : ReturnCells m a f (cell_value m (down f 6)) header gap distance return caller stops =
    subst (λ x. ReturnCells m a f x header gap distance return caller stops) (sym (value m _ _ h.tasks_left)) h in
    let two : ReturnCells m a f (cell_value m (down f 6)) (cell_value m (down f 5)) gap distance return caller stops =
    subst (λ x. ReturnCells m a f (cell_value m (down f 6)) x gap distance return caller stops) (sym (value m _ _ h.header_pointer)) one in
    let three : ReturnCells m a f (cell_value m (down f 6)) (cell_value m (down f 5)) (cell_value m (up f 5)) distance return caller stops =
    subst (λ x. ReturnCells m a f (cell_value m (down f 6)) (cell_value m (down f 5)) x distance return caller stops) (sym (value m _ _ h.gap_is)) two in
    homing_at m a f return caller stops
    (subst (λ x. ReturnCells m a f (cell_value m (down f 6)) (cell_value m (down f 5)) (cell_value m (up f 5)) x return caller stops) (sym (value m _ _ h.distance_is)) three)

pub return_gives : (m : ℕ → Option ℕ) (a f : ℕ) → RowsHold boot_code 11 m (symbolic_state return_pc a f)
    → ReturnCells m a f (cell_value m (down f 6)) (cell_value m (down f 5)) (cell_value m (up f 5)) (cell_value m (up f 9)) (cell_value m (down f 1)) (cell_value m (down f 2))
    (record { output = cell_value m (down a 3); range = cell_value m (down a 2); hash = cell_value m (down a 1) })
unfolding RowsHold
return_gives m a f h = search (linked m, meets m, told m, h)

pub return_ends : (m : ℕ → Option ℕ) (a f gap return caller : ℕ) → m (up f 5) ≡ Some gap → m (down f 1) ≡ Some return → m (down f 2) ≡ Some caller
    → state_of (symbolic_after boot_code 11 m (symbolic_state return_pc a f)) ≡ state return (up (sum_of a gap) 4) caller
unfolding symbolic_after
return_ends m a f gap return caller gap_is return_is caller_is =
    ap (λ x. state (cell_value m (down f 1)) (up (sum_of a x) 4) (cell_value m (down f 2))) (value m _ _ gap_is)
    ∙ ap (λ x. state x (up (sum_of a gap) 4) (cell_value m (down f 2))) (value m _ _ return_is)
    ∙ ap (λ x. state return (up (sum_of a gap) 4) x) (value m _ _ caller_is)

pub branch_rows : (m : ℕ → Option ℕ) (a f : ℕ) → are_rows boot_code 1 m (symbolic_state branch_pc a f) ≡ true
unfolding are_rows
branch_rows m a f = refl

pub branch_goes : (m : ℕ → Option ℕ) (a f left : ℕ) → BranchCells m a f left → RowsHold boot_code 1 m (symbolic_state branch_pc a f)
unfolding RowsHold
branch_goes m a f left h = ((h.idle, tt, here m _ _ h.tasks_left), tt)

pub branch_gives : (m : ℕ → Option ℕ) (a f : ℕ) → RowsHold boot_code 1 m (symbolic_state branch_pc a f) → BranchCells m a f (cell_value m (down a 4))
unfolding RowsHold
branch_gives m a f h = record { tasks_left = h.0.2; idle = h.0.0 }

pub branch_ends : (m : ℕ → Option ℕ) (a f left : ℕ) → m (down a 4) ≡ Some left
    → state_of (symbolic_after boot_code 1 m (symbolic_state branch_pc a f)) ≡ state (if left == 0 then exit_pc else tasks_pc) a f
unfolding symbolic_after
branch_ends m a f left is = ap (λ x. state (if x == 0 then exit_pc else tasks_pc) a f) (value m (down a 4) left is)

pub exit_rows : (m : ℕ → Option ℕ) (a f : ℕ) → are_rows boot_code 1 m (symbolic_state exit_pc a f) ≡ true
unfolding are_rows
exit_rows m a f = refl

pub exit_goes : (m : ℕ → Option ℕ) (a f return caller : ℕ) → ExitCells m f return caller → RowsHold boot_code 1 m (symbolic_state exit_pc a f)
unfolding RowsHold
exit_goes m a f return caller h = ((here m _ _ h.return_is, here m _ _ h.return_is, here m _ _ h.caller_is), tt)

pub exit_gives : (m : ℕ → Option ℕ) (a f : ℕ) → RowsHold boot_code 1 m (symbolic_state exit_pc a f) → ExitCells m f (cell_value m (down f 1)) (cell_value m (down f 2))
unfolding RowsHold
exit_gives m a f h = record { return_is = h.0.0; caller_is = h.0.2 }

pub exit_ends : (m : ℕ → Option ℕ) (a f return caller : ℕ) → m (down f 1) ≡ Some return → m (down f 2) ≡ Some caller
    → state_of (symbolic_after boot_code 1 m (symbolic_state exit_pc a f)) ≡ state return a caller
unfolding symbolic_after
exit_ends m a f return caller return_is caller_is =
    ap (λ x. state x a (cell_value m (down f 2))) (value m _ _ return_is) ∙ ap (λ x. state return a x) (value m _ _ caller_is)
