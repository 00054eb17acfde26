-- What a run from a task's return tells.
use Rattle.std.proofs.Common.{◌≡◌, ℕ, ◌-◌, List, Option, Some, ap, subst, ◌∙◌}
use Rattle.goldi_field.specs.Numbers.{prime, sum_of}
use Rattle.cairo_model.specs.Machine.Steps.{Registers, field_arithmetic, RunFrom, last_of}
use Rattle.cairo_model.specs.Machine.Addresses.{up, down}
use Rattle.cairo_model.specs.Machine.Runs.{GoesOn}
use Rattle.cairo_model.proofs.RunParts.{and_then}
use Rattle.boot_program.specs.Places.{branch_pc, return_pc}
use Rattle.boot_program.specs.Words.{boot_code, boot_end, HasBoot}
use Rattle.boot_program.specs.Rows.{symbolic_state, RowsHold, rows_from, cell_value}
use Rattle.boot_program.specs.Cells.{ReturnCells, state}
use Rattle.boot_program.specs.Turns.{EndedTask, ReachesNextTurn, turn_after}
use Rattle.boot_program.proofs.Return.{return_rows, return_gives, return_ends, branch_rows, branch_ends}
use Rattle.boot_program.proofs.Listed.{boot_stops}
use Rattle.boot_program.proofs.PassingLaws.{BeginsWith, begins, goes_on, ends_too}
use Rattle.boot_program.proofs.RowLaw.{sum_moved}
use Rattle.boot_program.proofs.Statements.{told}

module _ (m : ℕ → Option ℕ) (boot : HasBoot m) (final_ap f caller : ℕ) (return_is : m (down f 1) ≡ Some branch_pc) (caller_is : m (down f 2) ≡ Some caller) where
  return_cells : RowsHold boot_code 11 m (symbolic_state return_pc final_ap f) → (n : EndedTask) × ReturnCells m final_ap f n.left n.header n.gap n.distance branch_pc caller n.stops
  return_cells holds =
      let n : EndedTask = record {
        left = cell_value m (down f 6);
        header = cell_value m (down f 5);
        gap = cell_value m (up f 5);
        distance = cell_value m (up f 9);
        stops = record { output = cell_value m (down final_ap 3); range = cell_value m (down final_ap 2); hash = cell_value m (down final_ap 1) };
      } in
      let raw = return_gives m final_ap f holds in
      let one = subst (λ x. ReturnCells m final_ap f n.left n.header n.gap n.distance x (cell_value m (down f 2)) n.stops) (told m raw.return_kept return_is) raw in
      (n, subst (λ x. ReturnCells m final_ap f n.left n.header n.gap n.distance 8 x n.stops) (told m raw.caller_kept caller_is) one)

  put_together : (ts us : List (Registers ℕ)) (n : EndedTask) (h : ReturnCells m final_ap f n.left n.header n.gap n.distance branch_pc caller n.stops)
      → GoesOn field_arithmetic m (state return_pc final_ap f) (state branch_pc (turn_after final_ap n) caller) (rows_from boot_code 11 m (symbolic_state return_pc final_ap f)) ts us
      → (rest : List (Registers ℕ)) × BeginsWith boot_code m 1 (symbolic_state branch_pc (turn_after final_ap n) caller) us rest → ReachesNextTurn m final_ap f caller ts
  put_together ts us n h on by = record {
    values = n;
    return_cells = h;
    rest = by.0;
    on = and_then field_arithmetic m on (goes_on m boot_code 1 (symbolic_state branch_pc (turn_after final_ap n) caller) by.1
        (branch_ends m (turn_after final_ap n) caller (down n.left 1) (ap m (sum_moved (sum_of final_ap n.gap) 4 (prime - 4)) ∙ h.next_left)));
  }

  pub home_gives : (ts : List (Registers ℕ)) → RunFrom field_arithmetic m (state return_pc final_ap f) ts → (last_of (state return_pc final_ap f) ts).pc ≡ boot_end → ReachesNextTurn m final_ap f caller ts
  home_gives ts run ends = from (begins boot_code boot_end boot_stops m boot 11 (symbolic_state return_pc final_ap f) ts (return_rows m final_ap f) run ends)
    where
      from : (us : List (Registers ℕ)) × BeginsWith boot_code m 11 (symbolic_state return_pc final_ap f) ts us → ReachesNextTurn m final_ap f caller ts
      from by =
          let h = return_cells by.1.holds in
          let on = goes_on m boot_code 11 (symbolic_state return_pc final_ap f) by.1 (return_ends m final_ap f h.0.gap branch_pc caller h.1.gap_is h.1.return_kept h.1.caller_kept) in
          put_together ts by.0 h.0 h.1 on (begins boot_code boot_end boot_stops m boot 1 (symbolic_state branch_pc (turn_after final_ap h.0) caller) by.0 (branch_rows m (turn_after final_ap h.0) caller) on.runs (ends_too m on ends))
