use Rattle.std.proofs.Common.{◌<◌, ℕ, List, [], ◌∷◌, ◌++◌, map, Option, sym, ap, ◌∙◌, subst}
use Rattle.desk_core.specs.DeskRecords.{DeskRecord, plain_batch}
use Rattle.desk_core.specs.GoodDesks.{IsGoodDesk}
use Rattle.desk_core.specs.Journals.{no_pie}
use Rattle.desk_core.specs.SoundDesks.{AreNeighbours}
use Rattle.desk_core.specs.Working.Telling.{index_in, phase_by}
use Rattle.desk_core.specs.declared.batch.Batch.{Batch}
use Rattle.desk_core.specs.declared.entry.Entry.{Entry}
use Rattle.desk_core.specs.declared.event.Event.TheVariants.{Status}
use Rattle.desk_core.specs.declared.reply.Reply.TheVariants.{IsAt}
use Rattle.desk_core.proofs.TellTurn.{told_leaves}
use Rattle.desk_core.proofs.Turns.{turn_of}
use Rattle.desk_core.proofs.desk.Desk.status.Goals as goal

pub phase_found-phase-requires : goal.phase_found-phase-requires
phase_found-phase-requires c = subst (λ (bs : List Batch). AreNeighbours 0 (map plain_batch bs)) (sym c.as_slice-2.ensures.value) c.self.invariant.good.sound.neighbours

pub invariant_of-self-2 : goal.invariant_of-self-2
invariant_of-self-2 c =
    (told_leaves _ c.args.pass c.args.client c.args.number c.phase_found-phase.result c.write.new.entries.items _ _ _ _ c.self.invariant
    (subst (λ (x : DeskRecord). c.args.client < x.clients) (sym c.self.view_is) c.requires)
    (c.phase_found-phase.ensures ∙ (λ i. phase_by (c.as_slice-2.ensures.value i) ((c.index_at-found.ensures ∙ ap (λ (ps : List (Option ℕ)). index_in ps c.args.client c.args.number) c.as_slice.ensures.value) i)))
    (c.write.ensures ∙ ap (λ (es : List Entry). es ++ record { pass = c.args.pass; event = Status c.args.client c.args.number; reply = IsAt c.phase_found-phase.result } ∷ []) c.reserve.ensures.items)).kept

pub returns-clause-ok : goal.returns-clause-ok
returns-clause-ok c =
    turn_of _ _ _ c.args.pass (Status c.args.client c.args.number) no_pie (IsAt c.phase_found-phase.result) c.self.view_is
    ((told_leaves _ c.args.pass c.args.client c.args.number c.phase_found-phase.result c.write.new.entries.items _ _ _ _ c.self.invariant
    (subst (λ (x : DeskRecord). c.args.client < x.clients) (sym c.self.view_is) c.requires)
    (c.phase_found-phase.ensures ∙ (λ i. phase_by (c.as_slice-2.ensures.value i) ((c.index_at-found.ensures ∙ ap (λ (ps : List (Option ℕ)). index_in ps c.args.client c.args.number) c.as_slice.ensures.value) i)))
    (c.write.ensures ∙ ap (λ (es : List Entry). es ++ record { pass = c.args.pass; event = Status c.args.client c.args.number; reply = IsAt c.phase_found-phase.result } ∷ []) c.reserve.ensures.items)).turn)

pub returns-clause-good : goal.returns-clause-good
returns-clause-good c = (
  subst IsGoodDesk c.self.view_is c.self.invariant.good,
  (told_leaves _ c.args.pass c.args.client c.args.number c.phase_found-phase.result c.write.new.entries.items _ _ _ _ c.self.invariant
      (subst (λ (x : DeskRecord). c.args.client < x.clients) (sym c.self.view_is) c.requires)
      (c.phase_found-phase.ensures ∙ (λ i. phase_by (c.as_slice-2.ensures.value i) ((c.index_at-found.ensures ∙ ap (λ (ps : List (Option ℕ)). index_in ps c.args.client c.args.number) c.as_slice.ensures.value) i)))
      (c.write.ensures ∙ ap (λ (es : List Entry). es ++ record { pass = c.args.pass; event = Status c.args.client c.args.number; reply = IsAt c.phase_found-phase.result } ∷ []) c.reserve.ensures.items)).kept.good,
)
