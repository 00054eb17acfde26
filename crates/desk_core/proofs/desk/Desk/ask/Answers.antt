use Rattle.std.proofs.Common.{◌<◌, List, [], ◌∷◌, ◌++◌, sym, ap, ◌∙◌, subst}
use Rattle.desk_core.specs.DeskRecords.{DeskRecord}
use Rattle.desk_core.specs.GoodDesks.{IsGoodDesk}
use Rattle.desk_core.specs.Journals.{no_pie}
use Rattle.desk_core.specs.Working.Steps.{yes_or_no}
use Rattle.desk_core.specs.declared.entry.Entry.{Entry}
use Rattle.desk_core.specs.declared.event.Event.TheVariants.{Ask}
use Rattle.desk_core.proofs.PlainTurns.{asked_leaves}
use Rattle.desk_core.proofs.Turns.{turn_of}
use Rattle.desk_core.proofs.desk.Desk.ask.Goals as goal

pub invariant_of-self-2 : goal.invariant_of-self-2
invariant_of-self-2 c =
    (asked_leaves _ c.args.pass c.args.client c.args.fact.now c.in_ok-copy.copy c.yes_or_no-reply.result c.write.new.entries.items _ _ _ _ c.self.invariant
    (subst (λ (x : DeskRecord). c.args.client < x.clients) (sym c.self.view_is) c.requires) c.in_ok-copy.ensures (c.yes_or_no-reply.ensures ∙ ap yes_or_no c.is_held-held.ensures)
    (c.write.ensures ∙ ap (λ (es : List Entry). es ++ record { pass = c.args.pass; event = Ask c.args.client c.in_ok-copy.copy; reply = c.yes_or_no-reply.result } ∷ []) c.reserve.ensures.items)).kept

pub returns-clause-ok : goal.returns-clause-ok
returns-clause-ok c =
    turn_of _ _ _ c.args.pass (Ask c.args.client c.args.fact.now) no_pie c.yes_or_no-reply.result c.self.view_is
    ((asked_leaves _ c.args.pass c.args.client c.args.fact.now c.in_ok-copy.copy c.yes_or_no-reply.result c.write.new.entries.items _ _ _ _ c.self.invariant
    (subst (λ (x : DeskRecord). c.args.client < x.clients) (sym c.self.view_is) c.requires) c.in_ok-copy.ensures (c.yes_or_no-reply.ensures ∙ ap yes_or_no c.is_held-held.ensures)
    (c.write.ensures ∙ ap (λ (es : List Entry). es ++ record { pass = c.args.pass; event = Ask c.args.client c.in_ok-copy.copy; reply = c.yes_or_no-reply.result } ∷ []) c.reserve.ensures.items)).turn)

pub returns-clause-good : goal.returns-clause-good
returns-clause-good c = (
  subst IsGoodDesk c.self.view_is c.self.invariant.good,
  (asked_leaves _ c.args.pass c.args.client c.args.fact.now c.in_ok-copy.copy c.yes_or_no-reply.result c.write.new.entries.items _ _ _ _ c.self.invariant
      (subst (λ (x : DeskRecord). c.args.client < x.clients) (sym c.self.view_is) c.requires) c.in_ok-copy.ensures (c.yes_or_no-reply.ensures ∙ ap yes_or_no c.is_held-held.ensures)
      (c.write.ensures ∙ ap (λ (es : List Entry). es ++ record { pass = c.args.pass; event = Ask c.args.client c.in_ok-copy.copy; reply = c.yes_or_no-reply.result } ∷ []) c.reserve.ensures.items)).kept.good,
)
