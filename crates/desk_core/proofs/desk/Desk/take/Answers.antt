use Rattle.std.proofs.Common.{◌≤◌, List, [], ◌∷◌, ◌++◌, length, sym, ap, ◌∙◌, arith, subst}
use Rattle.desk_core.specs.DeskRecords.{DeskRecord}
use Rattle.desk_core.specs.GoodDesks.{IsGoodDesk}
use Rattle.desk_core.specs.Journals.{no_pie}
use Rattle.desk_core.specs.Kept.{before_sealed}
use Rattle.desk_core.specs.Turns.{handed_out}
use Rattle.desk_core.specs.Working.Steps.{parcel_at, sealed_number}
use Rattle.desk_core.specs.declared.batch.Batch.{Batch}
use Rattle.desk_core.specs.declared.entry.Entry.{Entry}
use Rattle.desk_core.specs.declared.event.Event.TheVariants.{Take}
use Rattle.desk_core.specs.declared.phase.Phase.TheVariants as phase
use Rattle.desk_core.proofs.NextSealed.{taken_before}
use Rattle.desk_core.proofs.SealTurn.{batches_few}
use Rattle.desk_core.proofs.TakeTurn.{batches_still_few, goes_out, handed, taken_leaves}
use Rattle.desk_core.proofs.Turns.{turn_of}
use Rattle.desk_core.proofs.desk.Desk.take.Goals as goal

pub parcel_at-requires-clause-fits : goal.parcel_at-requires-clause-fits
parcel_at-requires-clause-fits c = goes_out _ c.self.invariant.good c.as_slice-3.result.now c.as_slice-2.result.now c.as_slice-3.ensures.value c.as_slice-2.ensures.value

pub sealed_from-self-inside-requires-clause-few : goal.sealed_from-self-inside-requires-clause-few
sealed_from-self-inside-requires-clause-few c =
    omega (arith, batches_few _ c.self.invariant.good, ap length c.as_slice-4.ensures.value, ap length c.move_batch.ensures, batches_still_few c.self.inside.batches.items c.next_sealed-found.result (phase.Taken c.args.pass))

pub sealed_from-self-inside-requires-clause-so_far : goal.sealed_from-self-inside-requires-clause-so_far
sealed_from-self-inside-requires-clause-so_far c =
    subst (λ (bs : List Batch). c.self.inside.next ≤ before_sealed bs) (sym (c.as_slice-4.ensures.value ∙ c.move_batch.ensures))
    (taken_before c.self.inside.batches.items c.self.inside.next c.next_sealed-found.result (phase.Taken c.args.pass) c.self.invariant.is_next
    (c.next_sealed-found.ensures.found ∙ ap (λ (bs : List Batch). sealed_number c.self.inside.next (length bs)) c.as_slice.ensures.value))

pub invariant_of-self-2 : goal.invariant_of-self-2
invariant_of-self-2 c =
    (taken_leaves _ c.args.pass c.next_sealed-found.result c.taken_reply-reply.result c.move_batch.new.batches.items c.write.new.entries.items _ _ _ c.self.inside.next c.sealed_from-self-inside.result c.self.invariant
    (c.next_sealed-found.ensures.found ∙ ap (λ (bs : List Batch). sealed_number c.self.inside.next (length bs)) c.as_slice.ensures.value)
    c.taken_reply-reply.ensures c.move_batch.ensures (c.sealed_from-self-inside.ensures ∙ ap before_sealed c.as_slice-4.ensures.value)
    (c.write.ensures ∙ ap (λ (es : List Entry). es ++ record { pass = c.args.pass; event = Take; reply = c.taken_reply-reply.result } ∷ []) c.reserve.ensures.items)).kept

pub returns-clause-ok : goal.returns-clause-ok
returns-clause-ok c =
    turn_of _ _ _ c.args.pass Take no_pie c.taken_reply-reply.result c.self.view_is
    ((taken_leaves _ c.args.pass c.next_sealed-found.result c.taken_reply-reply.result c.move_batch.new.batches.items c.write.new.entries.items _ _ _ c.self.inside.next c.sealed_from-self-inside.result c.self.invariant
    (c.next_sealed-found.ensures.found ∙ ap (λ (bs : List Batch). sealed_number c.self.inside.next (length bs)) c.as_slice.ensures.value)
    c.taken_reply-reply.ensures c.move_batch.ensures (c.sealed_from-self-inside.ensures ∙ ap before_sealed c.as_slice-4.ensures.value)
    (c.write.ensures ∙ ap (λ (es : List Entry). es ++ record { pass = c.args.pass; event = Take; reply = c.taken_reply-reply.result } ∷ []) c.reserve.ensures.items)).turn)

pub returns-clause-parcel : goal.returns-clause-parcel
returns-clause-parcel c =
    c.in_ok-parcel.ensures ∙ ((λ i. parcel_at (c.as_slice-2.ensures.value i) (c.as_slice-3.ensures.value i) c.next_sealed-found.result)
    ∙ (handed _ _ _ _ _ c.self.invariant c.next_sealed-found.result c.taken_reply-reply.result c.taken_reply-reply.ensures ∙ ap (λ (d : DeskRecord). handed_out d c.taken_reply-reply.result) c.self.view_is))

pub returns-clause-good : goal.returns-clause-good
returns-clause-good c = (
  subst IsGoodDesk c.self.view_is c.self.invariant.good,
  (taken_leaves _ c.args.pass c.next_sealed-found.result c.taken_reply-reply.result c.move_batch.new.batches.items c.write.new.entries.items _ _ _ c.self.inside.next c.sealed_from-self-inside.result c.self.invariant
      (c.next_sealed-found.ensures.found ∙ ap (λ (bs : List Batch). sealed_number c.self.inside.next (length bs)) c.as_slice.ensures.value)
      c.taken_reply-reply.ensures c.move_batch.ensures (c.sealed_from-self-inside.ensures ∙ ap before_sealed c.as_slice-4.ensures.value)
      (c.write.ensures ∙ ap (λ (es : List Entry). es ++ record { pass = c.args.pass; event = Take; reply = c.taken_reply-reply.result } ∷ []) c.reserve.ensures.items)).kept.good,
)
