use Rattle.std.proofs.Common.{List, [], ◌∷◌, ◌++◌, length, drop, sym, ap, ◌∙◌, arith, subst}
use Rattle.std.specs.Prelude.{All}
use Rattle.std.proofs.lemmas.List.{length-drop, length-map}
use Rattle.cairo_model.specs.Pie.Shapes.{shape_of}
use Rattle.batch_plan.specs.Cuts.{IsPieShape}
use Rattle.desk_core.specs.GoodDesks.{IsGoodDesk}
use Rattle.desk_core.specs.Journals.{no_pie}
use Rattle.desk_core.specs.NextBatch.{longest_cut}
use Rattle.desk_core.specs.Working.Steps.{sealed_batches, sealed_with}
use Rattle.desk_core.specs.declared.batch.Batch.{Batch}
use Rattle.desk_core.specs.declared.entry.Entry.{Entry}
use Rattle.desk_core.specs.declared.event.Event.TheVariants.{Seal}
use Rattle.desk_core.specs.declared.job.Job.{Job}
use Rattle.desk_core.proofs.SealTurn.{batched_inside, batches_few, job_shapes, sealed_leaves, waiting_small}
use Rattle.desk_core.proofs.Turns.{jobs_few, turn_of}
use Rattle.desk_core.proofs.desk.Desk.seal.Goals as goal

pub shapes-requires : goal.shapes-requires
shapes-requires c = omega (arith, batched_inside _ c.self.invariant.good, c.self.invariant.is_batched, ap length c.as_slice.ensures.value)

pub cut_number-count-requires : goal.cut_number-count-requires
cut_number-count-requires c =
    subst (All IsPieShape) (sym (c.as_slice-2.ensures.value ∙ (c.in_ok-waiting.ensures ∙ ap (λ (js : List Job). job_shapes (drop c.self.inside.batched js)) c.as_slice.ensures.value)))
    (waiting_small _ c.self.invariant.good c.self.inside.batched)

pub number_of-number-requires : goal.number_of-number-requires
number_of-number-requires c = omega (arith, batches_few _ c.self.invariant.good, ap length c.reserve.ensures.items, ap length c.as_slice-3.ensures.value)

pub overflow_add-self : goal.overflow_add-self
overflow_add-self c =
    omega (
      arith,
      jobs_few _ c.self.invariant.good,
      batched_inside _ c.self.invariant.good,
      c.self.invariant.is_batched,
      c.cut_number-count.ensures.few,
      ap length c.as_slice-2.ensures.value,
      ap length c.in_ok-waiting.ensures,
      length-map (drop c.self.inside.batched c.as_slice.result.now) (λ (j : Job). shape_of j.checked.pie),
      length-drop c.self.inside.batched c.as_slice.result.now,
      ap length c.as_slice.ensures.value,
    )

pub invariant_of-self-2 : goal.invariant_of-self-2
invariant_of-self-2 c =
    (sealed_leaves _ c.args.pass c.self.inside.batched c.cut_number-count.result c.in_ok-waiting.waiting.items c.sealed_reply-reply.result c.add_batch.new.batches.items c.write.new.entries.items _ _ _ c.self.invariant
    (c.in_ok-waiting.ensures ∙ ap (λ (js : List Job). job_shapes (drop c.self.inside.batched js)) c.as_slice.ensures.value)
    (c.cut_number-count.ensures.value ∙ ap longest_cut c.as_slice-2.ensures.value)
    (c.sealed_reply-reply.ensures ∙ ap (sealed_with c.cut_number-count.result c.self.inside.closed) (c.number_of-number.ensures ∙ ap length (c.as_slice-3.ensures.value ∙ c.reserve.ensures.items)))
    (c.add_batch.ensures ∙ ap (λ (bs : List Batch). sealed_batches bs c.self.inside.batched c.cut_number-count.result) c.reserve.ensures.items)
    (c.write.ensures ∙ ap (λ (es : List Entry). es ++ record { pass = c.args.pass; event = Seal; reply = c.sealed_reply-reply.result } ∷ []) c.reserve-2.ensures.items)).kept

pub returns-clause-ok : goal.returns-clause-ok
returns-clause-ok c =
    turn_of _ _ _ c.args.pass Seal no_pie c.sealed_reply-reply.result c.self.view_is
    ((sealed_leaves _ c.args.pass c.self.inside.batched c.cut_number-count.result c.in_ok-waiting.waiting.items c.sealed_reply-reply.result c.add_batch.new.batches.items c.write.new.entries.items _ _ _ c.self.invariant
    (c.in_ok-waiting.ensures ∙ ap (λ (js : List Job). job_shapes (drop c.self.inside.batched js)) c.as_slice.ensures.value)
    (c.cut_number-count.ensures.value ∙ ap longest_cut c.as_slice-2.ensures.value)
    (c.sealed_reply-reply.ensures ∙ ap (sealed_with c.cut_number-count.result c.self.inside.closed) (c.number_of-number.ensures ∙ ap length (c.as_slice-3.ensures.value ∙ c.reserve.ensures.items)))
    (c.add_batch.ensures ∙ ap (λ (bs : List Batch). sealed_batches bs c.self.inside.batched c.cut_number-count.result) c.reserve.ensures.items)
    (c.write.ensures ∙ ap (λ (es : List Entry). es ++ record { pass = c.args.pass; event = Seal; reply = c.sealed_reply-reply.result } ∷ []) c.reserve-2.ensures.items)).turn)

pub returns-clause-good : goal.returns-clause-good
returns-clause-good c = (
  subst IsGoodDesk c.self.view_is c.self.invariant.good,
  (sealed_leaves _ c.args.pass c.self.inside.batched c.cut_number-count.result c.in_ok-waiting.waiting.items c.sealed_reply-reply.result c.add_batch.new.batches.items c.write.new.entries.items _ _ _ c.self.invariant
      (c.in_ok-waiting.ensures ∙ ap (λ (js : List Job). job_shapes (drop c.self.inside.batched js)) c.as_slice.ensures.value)
      (c.cut_number-count.ensures.value ∙ ap longest_cut c.as_slice-2.ensures.value)
      (c.sealed_reply-reply.ensures ∙ ap (sealed_with c.cut_number-count.result c.self.inside.closed) (c.number_of-number.ensures ∙ ap length (c.as_slice-3.ensures.value ∙ c.reserve.ensures.items)))
      (c.add_batch.ensures ∙ ap (λ (bs : List Batch). sealed_batches bs c.self.inside.batched c.cut_number-count.result) c.reserve.ensures.items)
      (c.write.ensures ∙ ap (λ (es : List Entry). es ++ record { pass = c.args.pass; event = Seal; reply = c.sealed_reply-reply.result } ∷ []) c.reserve-2.ensures.items)).kept.good,
)
