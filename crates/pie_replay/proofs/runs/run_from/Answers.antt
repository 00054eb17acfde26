use Rattle.std.proofs.Common.{length-append, arith}
use Rattle.std.proofs.lemmas.List.{map-append}
use Rattle.cairo_model.specs.Views.Machine.{registers}
use Rattle.cairo_model.proofs.RunLaws.{runs_on}
use Rattle.pie_replay.proofs.runs.run_from.Goals as goal

-- the run goes on by one state
pub loop-number-preserved : goal.loop-number-preserved
loop-number-preserved c =
    let items = c.in_ok-push-in-Ok.ensures.items in
    record {
      runs = rw (items, map-append) (runs_on _ _ _ _ (registers c.loop-number.last) (registers c.in-Ok.after) c.loop-number.invariant.runs c.in-Ok.ensures);
      counts = grind (arith, length-append, items, c.loop-number.invariant.counts);
    }
