use Rattle.std.proofs.Common.{rules, ◌∙◌}
use Rattle.std.proofs.lemmas.List.{length-set}
use Rattle.pie_replay.proofs.FullSegments.{stand_more}
use Rattle.pie_replay.proofs.builtins.twenty_numbers.Goals as goal

pub loop-k-preserved : goal.loop-k-preserved
loop-k-preserved c = record {
  twenty = length-set c.loop-k.numbers c.loop-k.k c.value.result ∙ c.loop-k.invariant.twenty;
  stand = stand_more c.args.pie.now.cells 4 c.args.start c.loop-k.numbers c.loop-k.k c.value.result (search rules) c.loop-k.invariant.stand (search rules);
}
