use Rattle.std.proofs.Common.{ap}
use Rattle.desk_core.specs.Turns.{offer_note, pie_of}
use Rattle.desk_core.specs.declared.event.Event.TheVariants as event
use Rattle.session_desk.proofs.Mine.{leaves_entry}
use Rattle.session_desk.proofs.Seen.{seen_isolated}
use Rattle.session_desk.proofs.Turning.{pass_turn}
use Rattle.desk_core.specs.declared.entry.FullEntry.{FullEntry}
use Rattle.turn_lock.specs.Passes.{Token}
use Rattle.session_desk.proofs.shared.SharedDesk.submit.Goals as goal

pub returns-clause-mine : goal.returns-clause-mine
returns-clause-mine g c =
    let t = c.turn.ensures in
    leaves_entry (event.Submit c.args.client (offer_note c.args.offer)) (pie_of c.args.offer) c.args.pass.now c.turn.new.pass c.turn.result (record { before = t.before.desk; after = t.after.desk; turn = pass_turn _ _ c.args.pass.now c.turn.new.pass c.turn.result t t.done.0; done = t.done.1 })

pub returns-clause-isolated : goal.returns-clause-isolated
returns-clause-isolated g c =
    let t = c.turn.ensures in
    seen_isolated c.turn.new.pass.seen t.after.desk t.done.0.1 (ap (λ (p : Token FullEntry). p.seen) t.becomes)
