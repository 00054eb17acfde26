use Rattle.std.proofs.Common.{◌≡◌, true, false, List, [], ◌∷◌, ◌++◌, sym, ap, ◌∙◌, subst, rules}
use Rattle.boot_program.specs.Batch.Parcels.{ParcelRecord}
use Rattle.desk_core.specs.GoodDesks.{IsGoodDesk}
use Rattle.desk_core.specs.Working.Registering.{facts_kept, jobs_numbered}
use Rattle.desk_core.specs.Working.Steps.{held_number, phase_of_batch}
use Rattle.desk_core.specs.declared.batch.Batch.{Batch}
use Rattle.desk_core.specs.declared.entry.Entry.{Entry}
use Rattle.desk_core.specs.declared.event.Event.TheVariants.{Register}
use Rattle.desk_core.proofs.RegisterTurn.{found_in, refused_ends, refused_leaves, registered_ends, registered_leaves, registering}
use Rattle.desk_core.proofs.TakeTurn.{goes_out}
use Rattle.desk_core.proofs.desk.Desk.register.Goals as goal

pub jobs_at-kept-requires : goal.jobs_at-kept-requires
jobs_at-kept-requires c = goes_out _ c.self.invariant.good c.as_slice-4.result.now c.as_slice-3.result.now c.as_slice-4.ensures.value c.as_slice-3.ensures.value

pub invariant_of-self-then-not-is_welcome : goal.invariant_of-self-then-not-is_welcome
invariant_of-self-then-not-is_welcome c =
    let told : c.is_welcome.result ≡ false = search rules in
    (refused_leaves _ c.args.pass c.args.batch c.phase_at-phase.result c.held_by-held.result c.first_difference-differs.result c.reply_with-reply.result c.write.new.entries.items _ _ _ _ c.self.invariant
    (c.phase_at-phase.ensures ∙ ap (λ (bs : List Batch). phase_of_batch bs c.args.batch) c.as_slice.ensures.value)
    (c.held_by-held.ensures.held ∙ ap (λ (bs : List Batch). held_number c.args.pass c.args.batch (phase_of_batch bs c.args.batch)) c.as_slice-2.ensures.value)
    (sym c.is_welcome.ensures ∙ told) c.reply_with-reply.ensures
    (c.write.ensures ∙ ap (λ (es : List Entry). es ++ record { pass = c.args.pass; event = Register c.args.batch c.first_difference-differs.result; reply = c.reply_with-reply.result } ∷ []) c.reserve.ensures.items)).kept

pub returns-then-not-is_welcome-clause-end : goal.returns-then-not-is_welcome-clause-end
returns-then-not-is_welcome-clause-end c =
    let told : c.is_welcome.result ≡ false = search rules in
    let given = c.as_slice-5.ensures.value ∙ (ap (λ (p : ParcelRecord). p.tasks) c.behind-certified.view_is ∙ ap (λ (p : ParcelRecord). p.tasks) c.parcel.ensures) in
    let kept = c.jobs_at-kept.ensures.jobs ∙ (λ i. jobs_numbered (c.as_slice-3.ensures.value i) (c.as_slice-4.ensures.value i) c.args.batch) in
    let found = found_in c.as_slice-5.result.now c.args.certified.parcel.tasks c.jobs_at-kept.result.now (jobs_numbered c.self.inside.jobs.items c.self.inside.batches.items c.args.batch) c.first_difference-differs.result given kept c.first_difference-differs.ensures in
    refused_ends _ _ c.args.pass c.args.batch c.args.certified c.held_by-held.result c.first_difference-differs.result c.phase_at-phase.result c.reply_with-reply.result c.refused.result
    (sym c.is_welcome.ensures ∙ told) c.reply_with-reply.ensures c.refused.ensures
    (registering _ _ _ c.args.pass c.args.batch c.args.certified c.first_difference-differs.result c.reply_with-reply.result c.self.view_is found
    (refused_leaves _ c.args.pass c.args.batch c.phase_at-phase.result c.held_by-held.result c.first_difference-differs.result c.reply_with-reply.result c.write.new.entries.items _ _ _ _ c.self.invariant
    (c.phase_at-phase.ensures ∙ ap (λ (bs : List Batch). phase_of_batch bs c.args.batch) c.as_slice.ensures.value)
    (c.held_by-held.ensures.held ∙ ap (λ (bs : List Batch). held_number c.args.pass c.args.batch (phase_of_batch bs c.args.batch)) c.as_slice-2.ensures.value)
    (sym c.is_welcome.ensures ∙ told) c.reply_with-reply.ensures
    (c.write.ensures ∙ ap (λ (es : List Entry). es ++ record { pass = c.args.pass; event = Register c.args.batch c.first_difference-differs.result; reply = c.reply_with-reply.result } ∷ []) c.reserve.ensures.items)).turn)

pub returns-then-not-is_welcome-clause-good : goal.returns-then-not-is_welcome-clause-good
returns-then-not-is_welcome-clause-good c =
    let told : c.is_welcome.result ≡ false = search rules in (
      subst IsGoodDesk c.self.view_is c.self.invariant.good,
      (refused_leaves _ c.args.pass c.args.batch c.phase_at-phase.result c.held_by-held.result c.first_difference-differs.result c.reply_with-reply.result c.write.new.entries.items _ _ _ _ c.self.invariant
          (c.phase_at-phase.ensures ∙ ap (λ (bs : List Batch). phase_of_batch bs c.args.batch) c.as_slice.ensures.value)
          (c.held_by-held.ensures.held ∙ ap (λ (bs : List Batch). held_number c.args.pass c.args.batch (phase_of_batch bs c.args.batch)) c.as_slice-2.ensures.value)
          (sym c.is_welcome.ensures ∙ told) c.reply_with-reply.ensures
          (c.write.ensures ∙ ap (λ (es : List Entry). es ++ record { pass = c.args.pass; event = Register c.args.batch c.first_difference-differs.result; reply = c.reply_with-reply.result } ∷ []) c.reserve.ensures.items)).kept.good,
    )

pub invariant_of-self-2 : goal.invariant_of-self-2
invariant_of-self-2 c =
    let told : c.is_welcome.result ≡ true = search rules in
    let given = c.as_slice-5.ensures.value ∙ (ap (λ (p : ParcelRecord). p.tasks) c.behind-certified.view_is ∙ ap (λ (p : ParcelRecord). p.tasks) c.parcel.ensures) in
    let kept = c.jobs_at-kept.ensures.jobs ∙ (λ i. jobs_numbered (c.as_slice-3.ensures.value i) (c.as_slice-4.ensures.value i) c.args.batch) in
    let found = found_in c.as_slice-5.result.now c.args.certified.parcel.tasks c.jobs_at-kept.result.now (jobs_numbered c.self.inside.jobs.items c.self.inside.batches.items c.args.batch) c.first_difference-differs.result given kept c.first_difference-differs.ensures in
    (registered_leaves _ c.args.pass c.args.batch c.phase_at-phase.result c.held_by-held.result c.first_difference-differs.result c.reply_with-reply.result c.args.certified c.into_parts-cert.result.0 c.into_parts-cert.result.1
    c.add_all.new.self c.in-Ok-facts_of.facts.items c.keep.new.batches.items c.write-2.new.entries.items _ _ _ _ c.self.invariant
    (c.held_by-held.ensures.held ∙ ap (λ (bs : List Batch). held_number c.args.pass c.args.batch (phase_of_batch bs c.args.batch)) c.as_slice-2.ensures.value)
    (sym c.is_welcome.ensures ∙ told) c.reply_with-reply.ensures
    c.into_parts-cert.ensures.cert c.into_parts-cert.ensures.parcel c.into_parts-cert.ensures.accepted c.into_parts-cert.ensures.stand found
    (c.in-Ok-facts_of.ensures ∙ ap facts_kept kept) c.in-Ok-add_all.ensures.added c.keep.ensures
    (c.write-2.ensures ∙ ap (λ (es : List Entry). es ++ record { pass = c.args.pass; event = Register c.args.batch c.first_difference-differs.result; reply = c.reply_with-reply.result } ∷ []) c.reserve.ensures.items)).left.kept

pub returns-clause-end : goal.returns-clause-end
returns-clause-end c =
    let told : c.is_welcome.result ≡ true = search rules in
    let given = c.as_slice-5.ensures.value ∙ (ap (λ (p : ParcelRecord). p.tasks) c.behind-certified.view_is ∙ ap (λ (p : ParcelRecord). p.tasks) c.parcel.ensures) in
    let kept = c.jobs_at-kept.ensures.jobs ∙ (λ i. jobs_numbered (c.as_slice-3.ensures.value i) (c.as_slice-4.ensures.value i) c.args.batch) in
    let found = found_in c.as_slice-5.result.now c.args.certified.parcel.tasks c.jobs_at-kept.result.now (jobs_numbered c.self.inside.jobs.items c.self.inside.batches.items c.args.batch) c.first_difference-differs.result given kept c.first_difference-differs.ensures in
    registered_ends _ _ _ c.args.pass c.args.batch c.args.certified c.first_difference-differs.result c.reply_with-reply.result _ _ _ _ c.self.view_is found
    (registered_leaves _ c.args.pass c.args.batch c.phase_at-phase.result c.held_by-held.result c.first_difference-differs.result c.reply_with-reply.result c.args.certified c.into_parts-cert.result.0 c.into_parts-cert.result.1
    c.add_all.new.self c.in-Ok-facts_of.facts.items c.keep.new.batches.items c.write-2.new.entries.items _ _ _ _ c.self.invariant
    (c.held_by-held.ensures.held ∙ ap (λ (bs : List Batch). held_number c.args.pass c.args.batch (phase_of_batch bs c.args.batch)) c.as_slice-2.ensures.value)
    (sym c.is_welcome.ensures ∙ told) c.reply_with-reply.ensures
    c.into_parts-cert.ensures.cert c.into_parts-cert.ensures.parcel c.into_parts-cert.ensures.accepted c.into_parts-cert.ensures.stand found
    (c.in-Ok-facts_of.ensures ∙ ap facts_kept kept) c.in-Ok-add_all.ensures.added c.keep.ensures
    (c.write-2.ensures ∙ ap (λ (es : List Entry). es ++ record { pass = c.args.pass; event = Register c.args.batch c.first_difference-differs.result; reply = c.reply_with-reply.result } ∷ []) c.reserve.ensures.items))

pub returns-clause-good : goal.returns-clause-good
returns-clause-good c =
    let told : c.is_welcome.result ≡ true = search rules in
    let given = c.as_slice-5.ensures.value ∙ (ap (λ (p : ParcelRecord). p.tasks) c.behind-certified.view_is ∙ ap (λ (p : ParcelRecord). p.tasks) c.parcel.ensures) in
    let kept = c.jobs_at-kept.ensures.jobs ∙ (λ i. jobs_numbered (c.as_slice-3.ensures.value i) (c.as_slice-4.ensures.value i) c.args.batch) in
    let found = found_in c.as_slice-5.result.now c.args.certified.parcel.tasks c.jobs_at-kept.result.now (jobs_numbered c.self.inside.jobs.items c.self.inside.batches.items c.args.batch) c.first_difference-differs.result given kept c.first_difference-differs.ensures in (
      subst IsGoodDesk c.self.view_is c.self.invariant.good,
      (registered_leaves _ c.args.pass c.args.batch c.phase_at-phase.result c.held_by-held.result c.first_difference-differs.result c.reply_with-reply.result c.args.certified c.into_parts-cert.result.0 c.into_parts-cert.result.1
          c.add_all.new.self c.in-Ok-facts_of.facts.items c.keep.new.batches.items c.write-2.new.entries.items _ _ _ _ c.self.invariant
          (c.held_by-held.ensures.held ∙ ap (λ (bs : List Batch). held_number c.args.pass c.args.batch (phase_of_batch bs c.args.batch)) c.as_slice-2.ensures.value)
          (sym c.is_welcome.ensures ∙ told) c.reply_with-reply.ensures
          c.into_parts-cert.ensures.cert c.into_parts-cert.ensures.parcel c.into_parts-cert.ensures.accepted c.into_parts-cert.ensures.stand found
          (c.in-Ok-facts_of.ensures ∙ ap facts_kept kept) c.in-Ok-add_all.ensures.added c.keep.ensures
          (c.write-2.ensures ∙ ap (λ (es : List Entry). es ++ record { pass = c.args.pass; event = Register c.args.batch c.first_difference-differs.result; reply = c.reply_with-reply.result } ∷ []) c.reserve.ensures.items)).left.kept.good,
    )
