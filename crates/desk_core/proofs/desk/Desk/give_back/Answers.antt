use Rattle.std.proofs.Common.{List, [], ◌∷◌, ◌++◌, ap, ◌∙◌, subst}
use Rattle.desk_core.specs.GoodDesks.{IsGoodDesk}
use Rattle.desk_core.specs.Journals.{no_pie}
use Rattle.desk_core.specs.Working.Steps.{held_number, phase_of_batch}
use Rattle.desk_core.specs.declared.batch.Batch.{Batch}
use Rattle.desk_core.specs.declared.entry.Entry.{Entry}
use Rattle.desk_core.specs.declared.event.Event.TheVariants.{GiveBack}
use Rattle.desk_core.proofs.BackTurn.{back_leaves}
use Rattle.desk_core.proofs.Turns.{turn_of}
use Rattle.desk_core.proofs.desk.Desk.give_back.Goals as goal

pub invariant_of-self-2 : goal.invariant_of-self-2
invariant_of-self-2 c =
    (back_leaves _ c.args.pass c.args.batch c.phase_at-phase.result c.held_by-held.result c.returned_reply-reply.result c.move_batch.new.batches.items c.write.new.entries.items _ _ _ c.self.inside.next c.sealed_again-self-inside.result c.self.invariant
    (c.phase_at-phase.ensures ∙ ap (λ (bs : List Batch). phase_of_batch bs c.args.batch) c.as_slice.ensures.value)
    (c.held_by-held.ensures.held ∙ ap (λ (bs : List Batch). held_number c.args.pass c.args.batch (phase_of_batch bs c.args.batch)) c.as_slice-2.ensures.value)
    c.returned_reply-reply.ensures c.move_batch.ensures c.sealed_again-self-inside.ensures
    (c.write.ensures ∙ ap (λ (es : List Entry). es ++ record { pass = c.args.pass; event = GiveBack c.args.batch; reply = c.returned_reply-reply.result } ∷ []) c.reserve.ensures.items)).kept

pub returns-clause-ok : goal.returns-clause-ok
returns-clause-ok c =
    turn_of _ _ _ c.args.pass (GiveBack c.args.batch) no_pie c.returned_reply-reply.result c.self.view_is
    ((back_leaves _ c.args.pass c.args.batch c.phase_at-phase.result c.held_by-held.result c.returned_reply-reply.result c.move_batch.new.batches.items c.write.new.entries.items _ _ _ c.self.inside.next c.sealed_again-self-inside.result c.self.invariant
    (c.phase_at-phase.ensures ∙ ap (λ (bs : List Batch). phase_of_batch bs c.args.batch) c.as_slice.ensures.value)
    (c.held_by-held.ensures.held ∙ ap (λ (bs : List Batch). held_number c.args.pass c.args.batch (phase_of_batch bs c.args.batch)) c.as_slice-2.ensures.value)
    c.returned_reply-reply.ensures c.move_batch.ensures c.sealed_again-self-inside.ensures
    (c.write.ensures ∙ ap (λ (es : List Entry). es ++ record { pass = c.args.pass; event = GiveBack c.args.batch; reply = c.returned_reply-reply.result } ∷ []) c.reserve.ensures.items)).turn)

pub returns-clause-good : goal.returns-clause-good
returns-clause-good c = (
  subst IsGoodDesk c.self.view_is c.self.invariant.good,
  (back_leaves _ c.args.pass c.args.batch c.phase_at-phase.result c.held_by-held.result c.returned_reply-reply.result c.move_batch.new.batches.items c.write.new.entries.items _ _ _ c.self.inside.next c.sealed_again-self-inside.result c.self.invariant
      (c.phase_at-phase.ensures ∙ ap (λ (bs : List Batch). phase_of_batch bs c.args.batch) c.as_slice.ensures.value)
      (c.held_by-held.ensures.held ∙ ap (λ (bs : List Batch). held_number c.args.pass c.args.batch (phase_of_batch bs c.args.batch)) c.as_slice-2.ensures.value)
      c.returned_reply-reply.ensures c.move_batch.ensures c.sealed_again-self-inside.ensures
      (c.write.ensures ∙ ap (λ (es : List Entry). es ++ record { pass = c.args.pass; event = GiveBack c.args.batch; reply = c.returned_reply-reply.result } ∷ []) c.reserve.ensures.items)).kept.good,
)
