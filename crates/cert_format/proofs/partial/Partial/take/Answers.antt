use Rattle.std.proofs.Common.{sym, ap, ◌∙◌}
use Rattle.cert_format.specs.declared.stage.Stage.{Stage}
use Rattle.cert_format.specs.Working.DraftViews.{partial}
use Rattle.cert_format.specs.Working.Taking.{taken, taken_at}
use Rattle.cert_format.proofs.partial.Partial.take.Goals as goal

pub returns-in-Front : goal.returns-in-Front
unfolding taken
returns-in-Front c = c.take_front.ensures ∙ ap (λ (s : Stage). taken_at s (partial c.args.self.now) c.args.part.now) (sym c.in-Front.is)

pub returns-in_ok-take_mark-in-Marks : goal.returns-in_ok-take_mark-in-Marks
unfolding taken
returns-in_ok-take_mark-in-Marks c = c.in_ok-take_mark-in-Marks.ensures ∙ ap (λ (s : Stage). taken_at s (partial c.args.self.now) c.args.part.now) (sym c.in-Marks.is)

pub returns-in_ok-take_base-in-Bases : goal.returns-in_ok-take_base-in-Bases
unfolding taken
returns-in_ok-take_base-in-Bases c = c.in_ok-take_base-in-Bases.ensures ∙ ap (λ (s : Stage). taken_at s (partial c.args.self.now) c.args.part.now) (sym c.in-Bases.is)

pub returns-in-CellCount : goal.returns-in-CellCount
unfolding taken
returns-in-CellCount c = c.take_cell_count.ensures ∙ ap (λ (s : Stage). taken_at s (partial c.args.self.now) c.args.part.now) (sym c.in-CellCount.is)

pub returns-in_ok-take_cell-in-Cells : goal.returns-in_ok-take_cell-in-Cells
unfolding taken
returns-in_ok-take_cell-in-Cells c = c.in_ok-take_cell-in-Cells.ensures ∙ ap (λ (s : Stage). taken_at s (partial c.args.self.now) c.args.part.now) (sym c.in-Cells.is)

pub returns-in-StateCount : goal.returns-in-StateCount
unfolding taken
returns-in-StateCount c = c.take_state_count.ensures ∙ ap (λ (s : Stage). taken_at s (partial c.args.self.now) c.args.part.now) (sym c.in-StateCount.is)

pub returns-in_ok-take_state-in-States : goal.returns-in_ok-take_state-in-States
unfolding taken
returns-in_ok-take_state-in-States c = c.in_ok-take_state-in-States.ensures ∙ ap (λ (s : Stage). taken_at s (partial c.args.self.now) c.args.part.now) (sym c.in-States.is)

pub returns-in-Foreign : goal.returns-in-Foreign
unfolding taken
returns-in-Foreign c = ap (λ (s : Stage). taken_at s (partial c.args.self.now) c.args.part.now) (sym c.in-Foreign.is)

pub returns-in-End : goal.returns-in-End
unfolding taken
returns-in-End c = ap (λ (s : Stage). taken_at s (partial c.args.self.now) c.args.part.now) (sym c.in-End.is)
