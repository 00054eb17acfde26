use Rattle.std.proofs.Common.{rules, [], ◌∷◌, ◌++◌, sym, subst}
use Rattle.std.specs.List.{AllZip}
use Rattle.std.specs.Vec.Iter.{into_iter_items}
use Rattle.std.proofs.lemmas.List.Elements.{All-rest}
use Rattle.script_server.specs.Working.Dealing.{CanStart}
use Rattle.script_server.specs.Working.Threads.{IsWorker}
use Rattle.script_server.proofs.Lists.{whole_more, zip_more}
use Rattle.script_server.proofs.starting.begin_workers.Goals as goal

pub loop-pass-preserved : goal.loop-pass-preserved
loop-pass-preserved g c =
    let was = c.loop-pass.invariant in
    let rest = into_iter_items c.next.new.self in
    record {
      done = subst (AllZip IsWorker (c.loop-pass.yielded ++ c.in-Some.pass ∷ [])) (sym c.in-Ok.ensures.items)
          (zip_more IsWorker c.loop-pass.yielded c.loop-pass.started.items c.in-Some.pass c.begin_worker-one.result was.done c.begin_worker-one.ensures);
      whole = whole_more c.loop-pass.yielded (into_iter_items c.loop-pass.pass-iterator) rest _ c.in-Some.pass was.whole c.in-Some.ensures.steps.0;
      rest = search rules;
      ready = All-rest (CanStart c.args.desk.now.lock) c.in-Some.pass rest _ c.in-Some.ensures.steps.0 was.ready;
      room = search rules;
    }
