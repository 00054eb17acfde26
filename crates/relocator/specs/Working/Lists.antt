-- What the code's lists owe before they are relocated.
use Rattle.std.specs.Prelude.{ℕ, ◌<◌, List, map}
use Rattle.cairo_model.specs.Machine.Values.{Datum}
use Rattle.cairo_model.specs.Machine.Steps.{Registers, value_arithmetic, RunsTo}
use Rattle.cairo_model.specs.Pie.Acceptance.{start_of}
use Rattle.cairo_model.specs.Segments.{program_segment}
use Rattle.cairo_model.specs.Pie.Records.{PieRecord, KeepsRules, memory_of, segment_size}
use Rattle.goldi_field.specs.declared.Felt.{Felt}
use Rattle.cairo_model.specs.declared.pie.PieCell.{PieCell}
use Rattle.cairo_model.specs.declared.state.State.{State}
use Rattle.cairo_model.specs.Views.Machine.{datum}
use Rattle.relocator.specs.Relocations.{IsIn}

abbrev pub numbers : List Felt → List ℕ
numbers fs = map (λ f. f.number) fs

-- a cell, and a state, whose places lie in so many segments
pub record IsCellIn (segments : ℕ) (c : PieCell) : Type 0 where
  pub place_in : c.place.segment < segments
  pub value_in : IsIn segments (datum c.value)

pub record IsStateIn (segments : ℕ) (s : State) : Type 0 where
  pub pc_in : IsIn segments (datum s.pc)
  pub ap_in : IsIn segments (datum s.ap)
  pub fp_in : IsIn segments (datum s.fp)

-- a run over the cells of a PIE, from its start
pub record StartsInside (pie : PieRecord) (states : List (Registers Datum)) : Type 0 where
  pub rules : KeepsRules pie
  pub main_in_code : pie.main < segment_size pie program_segment
  pub last : Registers Datum
  pub runs : RunsTo value_arithmetic (memory_of pie.cells) (start_of pie) states last
