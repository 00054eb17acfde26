use Rattle.std.proofs.Common.{◌≡◌, ℕ, List, Option, map, rules, ap, ap₂, ◌∙◌}
use Rattle.cairo_model.specs.Machine.Values.{Datum}
use Rattle.cairo_model.specs.Machine.Steps.{Registers}
use Rattle.cairo_model.specs.Machine.FieldMemories.{field_cell, cell_at}
use Rattle.cairo_model.specs.Pie.Layouts.{relocated_state}
use Rattle.cairo_model.specs.Views.Machine.{field_registers}
use Rattle.relocator.specs.Working.Lists.{numbers}
use Rattle.cairo_model.specs.Pie.Relocation.{HasCells}
use Rattle.relocator.specs.Placing.{ArePlaced, RunsAsPlaced}
use Rattle.relocator.proofs.RunsPlaced.{starts_inside, runs_as_placed}
use Rattle.relocator.proofs.relocating.relocate.Goals as goal
use Rattle.relocator.proofs.relocating.relocate.Goals.{In_ok-states}

pub place_states-requires-clause-runs : goal.place_states-requires-clause-runs
place_states-requires-clause-runs c = rw (c.pie-pie.ensures, c.states-run.ensures.states) (starts_inside c.args.checked.now c.states-run.ensures.accepted)

bases_are : (c : In_ok-states) → numbers c.as_slice-bases.result.now ≡ c.args.layout.now
bases_are c = ap numbers c.as_slice-bases.ensures.value ∙ c.layout.view_is

states_are : (c : In_ok-states) → map field_registers c.in_ok-states.states.items ≡ map (relocated_state c.args.layout.now) c.args.checked.now.states
states_are c = c.in_ok-states.ensures ∙ ap₂ (λ (bs : List ℕ) (ss : List (Registers Datum)). map (relocated_state bs) ss) (bases_are c) c.states-run.ensures.states

anywhere : (c : In_ok-states) → (field : ℕ → Option ℕ) → HasCells (map field_cell c.in_ok-cells.cells.items) field → RunsAsPlaced c.args.layout.now c.args.checked.now field (map field_registers c.in_ok-states.states.items)
anywhere c field has =
    let placed : ArePlaced c.args.layout.now c.args.checked.now.pie.cells (map field_cell c.in_ok-cells.cells.items) = search rules in
    rw (states_are c) (runs_as_placed c.runs_anywhere.ensures c.args.layout.now c.args.checked.now c.requires c.states-run.ensures.accepted (map field_cell c.in_ok-cells.cells.items) placed field has)

pub returns-clause-runs : goal.returns-clause-runs
returns-clause-runs c = anywhere c (cell_at (map field_cell c.in_ok-cells.cells.items)) (λ a v found. found)

pub returns-clause-runs_anywhere : goal.returns-clause-runs_anywhere
returns-clause-runs_anywhere c field has = anywhere c field has
