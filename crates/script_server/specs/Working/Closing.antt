-- How the caller's pass closes the desk: again until it is answered.
use Rattle.std.specs.Prelude.{◌≡◌, Ok}
use Rattle.desk_core.specs.Journals.{no_pie}
use Rattle.desk_core.specs.declared.entry.FullEntry.{FullEntry}
use Rattle.desk_core.specs.declared.event.Event.TheVariants as event
use Rattle.desk_core.specs.declared.reply.Reply.TheVariants as reply
use Rattle.script_server.specs.Working.PassLines.{IsSamePass}
use Rattle.session_desk.specs.PassTurns.{EventTurn}
use Rattle.turn_lock.specs.Journals.{IsPrefix}
use Rattle.turn_lock.specs.Passes.{Token}

-- the same pass may have seen more, and has no entry more
pub record SeesOn (old new : Token FullEntry) : Type 0 where
  pub same : IsSamePass old new
  pub mine : new.mine ≡ old.mine
  pub seen : IsPrefix old.seen new.seen

-- the turn that was answered, and the pass before it
pub record PassCloses (old new : Token FullEntry) : Type 0 where
  pub before : Token FullEntry
  pub waited : SeesOn old before
  pub closing : EventTurn event.Close no_pie before new (Ok reply.Closed)
