use Rattle.std.proofs.Common.{List, [], ◌∷◌, ◌++◌, ap, ◌∙◌, subst}
use Rattle.desk_core.specs.GoodDesks.{IsGoodDesk}
use Rattle.desk_core.specs.Journals.{no_pie}
use Rattle.desk_core.specs.declared.entry.Entry.{Entry}
use Rattle.desk_core.specs.declared.event.Event.TheVariants.{Close}
use Rattle.desk_core.specs.declared.reply.Reply.TheVariants.{Closed}
use Rattle.desk_core.proofs.PlainTurns.{closed_leaves}
use Rattle.desk_core.proofs.Turns.{turn_of}
use Rattle.desk_core.proofs.desk.Desk.close.Goals as goal

pub invariant_of-self-2 : goal.invariant_of-self-2
invariant_of-self-2 c =
    (closed_leaves _ c.args.pass c.write.new.entries.items _ _ _ _ c.self.invariant
    (c.write.ensures ∙ ap (λ (es : List Entry). es ++ record { pass = c.args.pass; event = Close; reply = Closed } ∷ []) c.reserve.ensures.items)).kept

pub returns-clause-ok : goal.returns-clause-ok
returns-clause-ok c =
    turn_of _ _ _ c.args.pass Close no_pie Closed c.self.view_is
    ((closed_leaves _ c.args.pass c.write.new.entries.items _ _ _ _ c.self.invariant
    (c.write.ensures ∙ ap (λ (es : List Entry). es ++ record { pass = c.args.pass; event = Close; reply = Closed } ∷ []) c.reserve.ensures.items)).turn)

pub returns-clause-good : goal.returns-clause-good
returns-clause-good c = (
  subst IsGoodDesk c.self.view_is c.self.invariant.good,
  (closed_leaves _ c.args.pass c.write.new.entries.items _ _ _ _ c.self.invariant
      (c.write.ensures ∙ ap (λ (es : List Entry). es ++ record { pass = c.args.pass; event = Close; reply = Closed } ∷ []) c.reserve.ensures.items)).kept.good,
)
