use Rattle.std.proofs.Common.{rules, [], ◌∷◌, ◌++◌, map, sym, subst}
use Rattle.std.specs.List.{AllZip}
use Rattle.std.specs.Vec.Iter.{into_iter_items}
use Rattle.std.proofs.lemmas.List.Elements.{All-rest}
use Rattle.desk_script.specs.Views.{line_view}
use Rattle.script_server.specs.Working.Dealing.{IsClientPass}
use Rattle.script_server.specs.Working.Threads.{IsClient}
use Rattle.script_server.proofs.Lists.{whole_more, zip_more}
use Rattle.script_server.proofs.starting.begin_clients.Goals as goal

pub loop-pass-preserved : goal.loop-pass-preserved
loop-pass-preserved g c =
    let was = c.loop-pass.invariant in
    let rest = into_iter_items c.next.new.self in
    let lines = map line_view c.args.script.now.lines.items in
    record {
      done = subst (AllZip (IsClient lines) (c.loop-pass.yielded ++ c.in-Some.pass ∷ [])) (sym c.in-Ok.ensures.items)
          (zip_more (IsClient lines) c.loop-pass.yielded c.loop-pass.started.items c.in-Some.pass c.begin_client-one.result was.done c.begin_client-one.ensures);
      whole = whole_more c.loop-pass.yielded (into_iter_items c.loop-pass.pass-iterator) rest _ c.in-Some.pass was.whole c.in-Some.ensures.steps.0;
      rest = search rules;
      ready = All-rest (IsClientPass c.args.desk.now.lock) c.in-Some.pass rest _ c.in-Some.ensures.steps.0 was.ready;
      room = search rules;
    }
