-- The isolated run of a PIE, placed.
use Rattle.std.proofs.Common.{ℕ, List, map, Option}
use Rattle.cairo_model.specs.Pie.Records.{PieRecord, KeepsRules}
use Rattle.cairo_model.specs.Machine.FieldMemories.{FieldCell}
use Rattle.cairo_model.specs.Pie.Layouts.{Fits, relocated_state}
use Rattle.cairo_model.specs.Pie.Acceptance.{CheckedRecord, AcceptedWith, start_of}
use Rattle.cairo_model.specs.Pie.Relocation.{HasCells}
use Rattle.relocator.specs.Placing.{ArePlaced, RunsAsPlaced}
use Rattle.relocator.specs.Relocations.{RunsOverField}
use Rattle.relocator.specs.Working.Lists.{StartsInside}

pub starts_inside : (checked : CheckedRecord) → AcceptedWith checked.pie checked.fact checked.states → StartsInside checked.pie checked.states
starts_inside checked accepted = record { rules = accepted.rules; main_in_code = accepted.main_in_code; last = accepted.isolated.last; runs = accepted.isolated.runs }

pub runs_as_placed : ((bases : List ℕ) (pie : PieRecord) → Fits bases pie.sizes → KeepsRules pie → RunsOverField bases pie.cells)
    → (bases : List ℕ) (checked : CheckedRecord) → Fits bases checked.pie.sizes → AcceptedWith checked.pie checked.fact checked.states
    → (out : List FieldCell) → ArePlaced bases checked.pie.cells out → (field : ℕ → Option ℕ) → HasCells out field → RunsAsPlaced bases checked field (map (relocated_state bases) checked.states)
runs_as_placed law bases checked fits accepted out placed field has = record {
  last = accepted.isolated.last;
  home = accepted.isolated.home;
  runs = law bases checked.pie fits accepted.rules field (λ a v found. has _ _ (placed.has_each a v found)) (start_of checked.pie) accepted.isolated.last checked.states accepted.isolated.runs;
}
