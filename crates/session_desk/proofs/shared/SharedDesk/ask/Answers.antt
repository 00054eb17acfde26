use Rattle.desk_core.specs.Journals.{no_pie}
use Rattle.desk_core.specs.declared.event.Event.TheVariants as event
use Rattle.session_desk.proofs.Mine.{leaves_entry}
use Rattle.session_desk.proofs.SeenFacts.{asked_seen}
use Rattle.session_desk.proofs.Turning.{pass_turn}
use Rattle.session_desk.proofs.shared.SharedDesk.ask.Goals as goal

pub returns-clause-mine : goal.returns-clause-mine
returns-clause-mine g c =
    let t = c.turn.ensures in
    leaves_entry (event.Ask c.args.client c.args.fact.now) no_pie c.args.pass.now c.turn.new.pass c.turn.result (record { before = t.before.desk; after = t.after.desk; turn = pass_turn _ _ c.args.pass.now c.turn.new.pass c.turn.result t t.done.0; done = t.done.1 })

pub returns-clause-yes : goal.returns-clause-yes
returns-clause-yes g c =
    let t = c.turn.ensures in
    asked_seen c.args.client c.args.fact.now c.args.pass.now c.turn.new.pass c.turn.result (record { before = t.before.desk; after = t.after.desk; turn = pass_turn _ _ c.args.pass.now c.turn.new.pass c.turn.result t t.done.0; done = t.done.1 })
