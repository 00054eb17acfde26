use Rattle.std.proofs.Common.{rules, List, [], ◌∷◌, ◌++◌, ap, ◌∙◌, append_assoc}
use Rattle.std.specs.Vec.Iter.{into_iter_items}
use Rattle.desk_core.specs.declared.entry.FullEntry.{FullEntry}
use Rattle.turn_lock.specs.Passes.{Token}
use Rattle.script_server.specs.Working.Threads.{HasCome}
use Rattle.script_server.proofs.Lists.{whole_more, zip_more}
use Rattle.script_server.proofs.joining.join_workers.Goals as goal

pub loop-worker-preserved : goal.loop-worker-preserved
loop-worker-preserved g c =
    let was = c.loop-worker.invariant in
    let p = c.join.result in
    record {
      came = record {
        came = was.came.came ++ p ∷ [];
        are = c.in-Ok.ensures.items ∙ (ap (λ (l : List (Token FullEntry)). l ++ p ∷ []) was.came.are ∙ append_assoc c.args.passes.items was.came.came (p ∷ []));
        each = zip_more HasCome c.loop-worker.yielded was.came.came c.in-Some.worker p was.came.each c.join.ensures;
      };
      whole = whole_more c.loop-worker.yielded (into_iter_items c.loop-worker.worker-iterator) (into_iter_items c.next.new.self) _ c.in-Some.worker was.whole c.in-Some.ensures.steps.0;
      rest = search rules;
      room = search rules;
      kept = search rules;
    }
