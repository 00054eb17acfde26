use Rattle.std.proofs.Common.{◌-◌, arith, ◌∙◌}
use Rattle.desk_core.proofs.TellTurn.{told_last, told_none}
use Rattle.desk_core.proofs.status.phase_of_job.Goals as goal

pub returns-then-begun-eq0 : goal.returns-then-begun-eq0
returns-then-begun-eq0 c =
    told_none c.args.batches.now c.args.index c.begun_by-begun.result c.begun_by-begun.ensures.few c.begun_by-begun.ensures.point (omega (arith, c.if-begun-eq0.true))

pub returns : goal.returns
returns c =
    c.told_by.ensures
    ∙ told_last c.args.batches.now c.args.index c.begun_by-begun.result c.begun_by-begun.ensures.few c.begun_by-begun.ensures.point c.requires (c.begun_by-begun.result - 1) c.index-batches-begun.result
    (omega (arith, c.if-begun-eq0.false)) c.index-batches-begun.is
