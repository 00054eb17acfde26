use Rattle.std.proofs.Common.{List, false}
use Rattle.cairo_model.specs.Pie.Records.{PieRecord}
use Rattle.desk_core.specs.DeskRecords.{plain_of}
use Rattle.desk_core.specs.GoodDesks.{IsGoodDesk}
use Rattle.batch_workers.specs.Working.Rounds.{HandedBack, HoldsAlone}
use Rattle.batch_workers.proofs.working.handed_back_again.Given as goal

abbrev pub invariant-loop : goal.invariant-loop
invariant-loop l =
    ((pies : List PieRecord) → HoldsAlone l.pass (plain_of l.fn.desk) l.batch pies → HandedBack l.pass l.batch pies l.fn.desk l.desk false)
    × IsGoodDesk l.desk
