use Rattle.std.proofs.Common.{ℕ, List, Option, ap, ◌∙◌}
use Rattle.desk_core.specs.DeskRecords.{DeskRecord, plain_of}
use Rattle.desk_core.specs.Desks.{job_phase}
use Rattle.desk_core.specs.Working.Telling.{index_in, phase_by}
use Rattle.desk_core.proofs.TellTurn.{phase_told}
use Rattle.desk_core.proofs.desk.Desk.phase_of.Goals as goal

pub returns : goal.returns
returns c =
    c.phase_found.ensures
    ∙ ((λ i. phase_by (c.as_slice.ensures.value i) ((c.index_at.ensures ∙ ap (λ (ps : List (Option ℕ)). index_in ps c.args.client c.args.number) c.as_slice-2.ensures.value) i))
    ∙ (phase_told _ _ _ _ _ c.self.invariant c.args.client c.args.number ∙ ap (λ (d : DeskRecord). job_phase (plain_of d) c.args.client c.args.number) c.self.view_is))
