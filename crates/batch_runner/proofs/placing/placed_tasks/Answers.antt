use Rattle.std.proofs.Common.{List, [], ◌∷◌, ◌++◌, ap, subst, sym, ◌+◌, ◌∙◌, arith, append-nil, drop}
use Rattle.std.proofs.lemmas.List.{drop_all, get_or_default}
use Rattle.std.proofs.lemmas.List.Elements.{All-get_or}
use Rattle.cairo_model.specs.Pie.Acceptance.{CheckedRecord}
use Rattle.batch_plan.specs.Parts.{BatchParts}
use Rattle.relocator.specs.Working.Lists.{numbers}
use Rattle.batch_runner.specs.Laws.{IsAccepted}
use Rattle.batch_runner.specs.Working.Places.{place_of}
use Rattle.batch_runner.specs.Working.Placing.{PlacedRecord, placed_from}
use Rattle.batch_runner.proofs.PlacedTurns.{ArePlaceable, has_layout, layout_is, placeable_on, placed_on, room}
use Rattle.batch_runner.proofs.placing.placed_tasks.Goals as goal

pub bounds-layouts-i : goal.bounds-layouts-i
bounds-layouts-i c =
    let task = c.index-tasks-i.result in
    let accepted = subst IsAccepted (sym c.index-tasks-i.is) (All-get_or IsAccepted c.args.tasks.now c.loop-i.i task c.loop-i-test.true c.requires.accepted) in
    has_layout c.args.tasks.now c.args.layouts.now c.loop-i.i (place_of c.loop-i.at) task accepted c.loop-i-test.true c.index-tasks-i.is c.loop-i.invariant.1

pub next_place-next-requires-clause-room : goal.next_place-next-requires-clause-room
next_place-next-requires-clause-room c =
    let task = c.index-tasks-i.result in
    let accepted = subst IsAccepted (sym c.index-tasks-i.is) (All-get_or IsAccepted c.args.tasks.now c.loop-i.i task c.loop-i-test.true c.requires.accepted) in
    room c.args.tasks.now c.args.layouts.now c.loop-i.i (place_of c.loop-i.at) task accepted c.loop-i-test.true c.index-tasks-i.is c.loop-i.invariant.1

pub invariant_of-push : goal.invariant_of-push
invariant_of-push c =
    let task = c.index-tasks-i.result in
    let at = place_of c.loop-i.at in
    let accepted = subst IsAccepted (sym c.index-tasks-i.is) (All-get_or IsAccepted c.args.tasks.now c.loop-i.i task c.loop-i-test.true c.requires.accepted) in
    let layout = layout_is c.args.tasks.now c.args.layouts.now c.loop-i.i at task accepted c.loop-i-test.true c.index-tasks-i.is c.loop-i.invariant.1 in
    let inside = has_layout c.args.tasks.now c.args.layouts.now c.loop-i.i at task accepted c.loop-i-test.true c.index-tasks-i.is c.loop-i.invariant.1 in
    record {
      accepted = accepted;
      room = room c.args.tasks.now c.args.layouts.now c.loop-i.i at task accepted c.loop-i-test.true c.index-tasks-i.is c.loop-i.invariant.1;
      is_next = c.next_place-next.ensures;
      are_bases =
          ap numbers c.as_slice.ensures.value ∙ c.layout.view_is ∙ c.index-layouts-i.is ∙ get_or_default c.args.layouts.now c.loop-i.i c.index-layouts-i.result [] inside ∙ layout;
      is_code = c.in_ok-code.ensures;
    }

pub loop-i-preserved : goal.loop-i-preserved
loop-i-preserved c =
    let task = c.index-tasks-i.result in
    let tasks = c.args.tasks.now in
    let at = place_of c.loop-i.at in
    let accepted = subst IsAccepted (sym c.index-tasks-i.is) (All-get_or IsAccepted tasks c.loop-i.i task c.loop-i-test.true c.requires.accepted) in
    let so_far = c.loop-i.placed.items in
    let others = drop (c.loop-i.i + 1) tasks in
    let on = placed_on tasks c.args.layouts.now c.loop-i.i at task accepted c.loop-i-test.true c.index-tasks-i.is c.loop-i.invariant.1 so_far in
    let able = placeable_on tasks c.args.layouts.now c.loop-i.i at task accepted c.loop-i-test.true c.index-tasks-i.is c.loop-i.invariant.1 in (
      ap (λ (xs : List PlacedRecord). xs ++ placed_from (place_of c.next_place-next.result) others) c.in_ok-push.ensures.items
          ∙ ap (λ (q : BatchParts). (so_far ++ record { task = task; place = at } ∷ []) ++ placed_from q others) c.next_place-next.ensures ∙ on ∙ c.loop-i.invariant.0,
      subst (λ (q : BatchParts). ArePlaceable tasks c.args.layouts.now (c.loop-i.i + 1) q) (sym c.next_place-next.ensures) able,
    )

pub returns : goal.returns
unfolding placed_from
returns c =
    let all = drop_all c.loop-i.i c.args.tasks.now (omega (arith, c.loop-i-test.false)) in
    sym (append-nil c.loop-i.placed.items) ∙ ap (λ (ts : List CheckedRecord). c.loop-i.placed.items ++ placed_from (place_of c.loop-i.at) ts) (sym all) ∙ c.loop-i.invariant.0
