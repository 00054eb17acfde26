use Rattle.std.proofs.Common.{rules, Bool, [], ◌∷◌, ◌++◌, sym, subst}
use Rattle.std.specs.List.{AllZip}
use Rattle.std.specs.Prelude.{All}
use Rattle.std.specs.Vec.Iter.{into_iter_items}
use Rattle.std.proofs.lemmas.List.Elements.{All-push, All-rest, All-weaker}
use Rattle.desk_core.specs.declared.entry.FullEntry.{FullEntry}
use Rattle.script_server.specs.Working.Threads.{HasGiven, HasGivenDone, IsClientAt}
use Rattle.turn_lock.specs.Journals.{IsPrefix, longer}
use Rattle.turn_lock.specs.Passes.{Token}
use Rattle.script_server.proofs.Closes.{prefix_then, sees_then}
use Rattle.script_server.proofs.Lists.{whole_more, zip_more}
use Rattle.script_server.proofs.Threads.{sees_by_meeting}
use Rattle.script_server.proofs.joining.join_clients.Goals as goal

pub loop-client-preserved : goal.loop-client-preserved
loop-client-preserved g c =
    let was = c.loop-client.invariant in
    let own : Token FullEntry = c.loop-client.own in
    let met : Token FullEntry = c.meet.new.pass in
    let p : Token FullEntry = c.meet.new.other in
    let rest = into_iter_items c.next.new.self in
    let given : HasGiven c.in-Some.client p c.join-pass.result.1 = subst (λ (q : Token FullEntry). HasGiven c.in-Some.client q c.join-pass.result.1) (sym c.meet.ensures.other) c.join-pass.ensures in
    let sees : IsPrefix p.seen met.seen = subst (λ (q : Token FullEntry). IsPrefix q.seen met.seen) (sym c.meet.ensures.other) c.meet.ensures.begins.1 in
    record {
      own = sees_then c.args.own.now own met was.own (sees_by_meeting own met (longer own.seen c.join-pass.result.0.seen) c.meet.ensures.pass c.meet.ensures.begins.0);
      given = λ all.
          let each = c.both-all.ensures all in
          subst (AllZip HasGivenDone (c.loop-client.yielded ++ c.in-Some.client ∷ [])) (sym c.in-Ok.ensures.items)
          (zip_more HasGivenDone c.loop-client.yielded c.loop-client.passes.items c.in-Some.client p (was.given each.0) (subst (λ (b : Bool). HasGiven c.in-Some.client p b) each.1 given));
      met = subst (All (λ (q : Token FullEntry). IsPrefix q.seen met.seen)) (sym c.in-Ok.ensures.items)
          (All-push (λ (q : Token FullEntry). IsPrefix q.seen met.seen) c.loop-client.passes.items p
          (All-weaker (λ (q : Token FullEntry). IsPrefix q.seen own.seen) (λ (q : Token FullEntry). IsPrefix q.seen met.seen) (λ q m. prefix_then q.seen own.seen met.seen m c.meet.ensures.begins.0) c.loop-client.passes.items was.met)
          sees);
      whole = whole_more c.loop-client.yielded (into_iter_items c.loop-client.client-iterator) rest _ c.in-Some.client was.whole c.in-Some.ensures.steps.0;
      rest = search rules;
      locks = All-rest (IsClientAt c.args.desk.now.lock) c.in-Some.client rest _ c.in-Some.ensures.steps.0 was.locks;
      room = search rules;
      kept = search rules;
    }
