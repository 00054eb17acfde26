use Rattle.std.proofs.Common.{rules, ap, ◌∙◌, Some}
use Rattle.atomic_table.specs.Table.{rest}
use Rattle.turn_lock.specs.Views.{raised}
use Rattle.turn_lock.proofs.Allowed.{passes_on, alone_carried}
use Rattle.turn_lock.proofs.lock.TurnLock.serve_next.Goals as goal

pub fetch_add-requires : goal.fetch_add-requires
fetch_add-requires g c =
    let turn = c.requires.turn.1 in
    (search rules, search rules, passes_on g.V.Kept.journal g.V.Kept.turns g.V.Kept.width _ _ _ _ turn.ticket c.requires.turn.0 turn.added turn.turn turn.has turn.counts turn.keeps_width turn.grows turn.one)

pub returns-clause-ended : goal.returns-clause-ended
returns-clause-ended g c value added has grows =
    let start = c.args.seat.now.me in
    c.fetch_add.ensures.2 value added (alone_carried start.1 (0, Some value) has) grows ∙ ap (λ slots. (raised start.0 (g.V.Kept.journal value) added, rest slots)) has
