-- From the end of the loop over blocks to the call, and the call.
use Rattle.std.proofs.Common.{Option, Some, ap, refl, subst, sym, true, ℕ, ◌-◌, ◌≡◌}
use Rattle.cairo_model.specs.Machine.Addresses.{up, down}
use Rattle.boot_program.specs.Places.{call_pc, header_pc}
use Rattle.boot_program.specs.Words.{boot_code}
use Rattle.boot_program.specs.Rows.{RowsHold, are_rows, symbolic_after, symbolic_state, state_of, cell_value}
use Rattle.boot_program.specs.Cells.{HeaderCells, CallCells, state}
use Rattle.boot_program.proofs.Statements.{there, meets, linked, here, value}

pub header_rows : (m : ℕ → Option ℕ) (a f : ℕ) → are_rows boot_code 23 m (symbolic_state header_pc a f) ≡ true
unfolding are_rows
header_rows m a f = refl

calling_at : (m : ℕ → Option ℕ) (a f range program main length : ℕ) (words : ℕ → ℕ)
    → HeaderCells m a f (cell_value m (down f 5)) range (cell_value m (down a 3)) program main length words → RowsHold boot_code 23 m (symbolic_state header_pc a f)
unfolding RowsHold
calling_at m a f range program main length words h = search (there m, meets m, h)

pub header_goes : (m : ℕ → Option ℕ) (a f header range hash program main length : ℕ) (words : ℕ → ℕ)
    → HeaderCells m a f header range hash program main length words → RowsHold boot_code 23 m (symbolic_state header_pc a f)
header_goes m a f header range hash program main length words h =
    let one : HeaderCells m a f (cell_value m (down f 5)) range hash program main length words =
    subst (λ x. HeaderCells m a f x range hash program main length words) (sym (value m _ _ h.header_pointer)) h in
    calling_at m a f range program main length words
    (subst (λ x. HeaderCells m a f (cell_value m (down f 5)) range x program main length words) (sym (value m _ _ h.hash_pointer)) one)

pub header_gives : (m : ℕ → Option ℕ) (a f : ℕ) → RowsHold boot_code 23 m (symbolic_state header_pc a f)
    → HeaderCells m a f (cell_value m (down f 5)) (cell_value m (down f 4)) (cell_value m (down a 3)) (cell_value m (up f 0)) (cell_value m (up f 1)) (cell_value m (up f 2)) (λ i. cell_value m (down (cell_value m (down a 3)) (8 - i)))
unfolding RowsHold
header_gives m a f h = search (linked m, h)

pub header_ends : (m : ℕ → Option ℕ) (a f : ℕ) → state_of (symbolic_after boot_code 23 m (symbolic_state header_pc a f)) ≡ state call_pc (up a 14) f
unfolding symbolic_after
header_ends m a f = refl

pub call_rows : (m : ℕ → Option ℕ) (a f : ℕ) → are_rows boot_code 1 m (symbolic_state call_pc a f) ≡ true
unfolding are_rows
call_rows m a f = refl

pub call_goes : (m : ℕ → Option ℕ) (a f begin : ℕ) → CallCells m a f begin → RowsHold boot_code 1 m (symbolic_state call_pc a f)
unfolding RowsHold
call_goes m a f begin h = ((h.return_kept, here m _ _ h.begins, h.frame_kept), tt)

pub call_gives : (m : ℕ → Option ℕ) (a f : ℕ) → RowsHold boot_code 1 m (symbolic_state call_pc a f) → CallCells m a f (cell_value m (up f 15))
unfolding RowsHold
call_gives m a f h = record { begins = h.0.1; frame_kept = h.0.2; return_kept = h.0.0 }

pub call_ends : (m : ℕ → Option ℕ) (a f begin : ℕ) → m (up f 15) ≡ Some begin → state_of (symbolic_after boot_code 1 m (symbolic_state call_pc a f)) ≡ state begin (up a 2) (up a 2)
unfolding symbolic_after
call_ends m a f begin is = ap (λ x. state x (up a 2) (up a 2)) (value m (up f 15) begin is)
