use Rattle.desk_core.specs.Journals.{no_pie}
use Rattle.desk_core.specs.declared.event.Event.TheVariants as event
use Rattle.session_desk.proofs.Mine.{leaves_entry}
use Rattle.session_desk.proofs.Turning.{pass_turn}
use Rattle.session_desk.proofs.shared.SharedDesk.give_back.Goals as goal

pub returns-clause-mine : goal.returns-clause-mine
returns-clause-mine g c =
    let t = c.turn.ensures in
    leaves_entry (event.GiveBack c.args.batch) no_pie c.args.pass.now c.turn.new.pass c.turn.result (record { before = t.before.desk; after = t.after.desk; turn = pass_turn _ _ c.args.pass.now c.turn.new.pass c.turn.result t t.done.0; done = t.done.1 })
