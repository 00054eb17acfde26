use Rattle.std.proofs.Common.{◌<◌, List, [], ◌∷◌, ◌++◌, length, sym, ap, ◌∙◌, arith, subst, refl}
use Rattle.std.specs.Prelude.{slice_get, slice_set}
use Rattle.desk_core.specs.DeskRecords.{DeskRecord}
use Rattle.desk_core.specs.GoodDesks.{IsGoodDesk}
use Rattle.desk_core.specs.Turns.{offer_note, pie_of}
use Rattle.desk_core.specs.Working.Steps.{admitted_jobs}
use Rattle.desk_core.specs.Working.Telling.{places_after}
use Rattle.desk_core.specs.declared.entry.Entry.{Entry}
use Rattle.desk_core.specs.declared.event.Event.TheVariants.{Submit}
use Rattle.desk_core.specs.declared.job.Job.{Job}
use Rattle.desk_core.specs.declared.usage.Usage.{Usage}
use Rattle.desk_core.proofs.Isolated.{still_isolated}
use Rattle.desk_core.proofs.SubmitTurn.{place_there, submitted_leaves, small_usage}
use Rattle.desk_core.proofs.Turns.{jobs_few, journal_isolated, turn_of}
use Rattle.desk_core.proofs.Usages.{usage_there}
use Rattle.desk_core.proofs.desk.Desk.submit.Goals as goal

pub usage_at-usage-requires : goal.usage_at-usage-requires
usage_at-usage-requires c = omega (arith, usage_there _ _ _ _ _ c.args.client c.self.invariant (subst (λ (x : DeskRecord). c.args.client < x.clients) (sym c.self.view_is) c.requires), ap length c.as_slice.ensures.value)

pub offered_reply-reply-requires : goal.offered_reply-reply-requires
offered_reply-reply-requires c =
    small_usage _ _ _ _ _ c.args.client c.usage_at-usage.result c.self.invariant (subst (λ (x : DeskRecord). c.args.client < x.clients) (sym c.self.view_is) c.requires)
    (sym c.usage_at-usage.ensures ∙ ap (λ (us : List Usage). slice_get us c.args.client) c.as_slice.ensures.value)

pub used-requires : goal.used-requires
used-requires c =
    small_usage _ _ _ _ _ c.args.client c.usage_at-usage.result c.self.invariant (subst (λ (x : DeskRecord). c.args.client < x.clients) (sym c.self.view_is) c.requires)
    (sym c.usage_at-usage.ensures ∙ ap (λ (us : List Usage). slice_get us c.args.client) c.as_slice.ensures.value)

pub set_usage-requires : goal.set_usage-requires
set_usage-requires c = usage_there _ _ _ _ _ c.args.client c.self.invariant (subst (λ (x : DeskRecord). c.args.client < x.clients) (sym c.self.view_is) c.requires)

pub count_of-count-requires : goal.count_of-count-requires
count_of-count-requires c = omega (arith, jobs_few _ c.self.invariant.good, ap length c.as_slice-2.ensures.value, ap length c.reserve.ensures.items)

pub set_place-requires : goal.set_place-requires
set_place-requires c =
    place_there _ _ _ _ _ c.args.client c.usage_at-usage.result c.in_ok-note.note c.offered_reply-reply.result c.self.invariant (subst (λ (x : DeskRecord). c.args.client < x.clients) (sym c.self.view_is) c.requires)
    (sym c.usage_at-usage.ensures ∙ ap (λ (us : List Usage). slice_get us c.args.client) c.as_slice.ensures.value) c.offered_reply-reply.ensures

pub invariant_of-self-2 : goal.invariant_of-self-2
invariant_of-self-2 c =
    (submitted_leaves _ c.args.pass c.args.client c.args.offer c.offered_reply-reply.result c.in_ok-note.note c.usage_at-usage.result _ c.set_usage.new.usages.items _ c.set_place.new.places.items _ _ c.admit.new.jobs.items c.write.new.entries.items c.self.invariant
    (subst (λ (x : DeskRecord). c.args.client < x.clients) (sym c.self.view_is) c.requires) c.noted.ensures.accepted c.in_ok-note.ensures.note
    (sym c.usage_at-usage.ensures ∙ ap (λ (us : List Usage). slice_get us c.args.client) c.as_slice.ensures.value)
    c.offered_reply-reply.ensures (c.set_usage.ensures ∙ ap (slice_set c.self.inside.usages.items c.args.client) c.used.ensures)
    (c.set_place.ensures ∙ ap (places_after c.self.inside.places.items c.args.client c.in_ok-note.note c.offered_reply-reply.result) (c.count_of-count.ensures ∙ ap length (c.as_slice-2.ensures.value ∙ c.reserve.ensures.items)))
    (c.admit.ensures ∙ ap (λ (js : List Job). admitted_jobs js c.args.client c.args.offer c.offered_reply-reply.result) c.reserve.ensures.items)
    (c.write.ensures ∙ ap (λ (es : List Entry). es ++ record { pass = c.args.pass; event = Submit c.args.client c.in_ok-note.note; reply = c.offered_reply-reply.result } ∷ []) c.reserve-2.ensures.items)).kept

pub returns-clause-ok : goal.returns-clause-ok
returns-clause-ok c =
    turn_of _ _ _ c.args.pass (Submit c.args.client (offer_note c.args.offer)) (pie_of c.args.offer) c.offered_reply-reply.result c.self.view_is
    ((submitted_leaves _ c.args.pass c.args.client c.args.offer c.offered_reply-reply.result c.in_ok-note.note c.usage_at-usage.result _ c.set_usage.new.usages.items _ c.set_place.new.places.items _ _ c.admit.new.jobs.items c.write.new.entries.items c.self.invariant
    (subst (λ (x : DeskRecord). c.args.client < x.clients) (sym c.self.view_is) c.requires) c.noted.ensures.accepted c.in_ok-note.ensures.note
    (sym c.usage_at-usage.ensures ∙ ap (λ (us : List Usage). slice_get us c.args.client) c.as_slice.ensures.value)
    c.offered_reply-reply.ensures (c.set_usage.ensures ∙ ap (slice_set c.self.inside.usages.items c.args.client) c.used.ensures)
    (c.set_place.ensures ∙ ap (places_after c.self.inside.places.items c.args.client c.in_ok-note.note c.offered_reply-reply.result) (c.count_of-count.ensures ∙ ap length (c.as_slice-2.ensures.value ∙ c.reserve.ensures.items)))
    (c.admit.ensures ∙ ap (λ (js : List Job). admitted_jobs js c.args.client c.args.offer c.offered_reply-reply.result) c.reserve.ensures.items)
    (c.write.ensures ∙ ap (λ (es : List Entry). es ++ record { pass = c.args.pass; event = Submit c.args.client c.in_ok-note.note; reply = c.offered_reply-reply.result } ∷ []) c.reserve-2.ensures.items)).turn)

pub returns-clause-good : goal.returns-clause-good
returns-clause-good c = (
  subst IsGoodDesk c.self.view_is c.self.invariant.good,
  (submitted_leaves _ c.args.pass c.args.client c.args.offer c.offered_reply-reply.result c.in_ok-note.note c.usage_at-usage.result _ c.set_usage.new.usages.items _ c.set_place.new.places.items _ _ c.admit.new.jobs.items c.write.new.entries.items c.self.invariant
      (subst (λ (x : DeskRecord). c.args.client < x.clients) (sym c.self.view_is) c.requires) c.noted.ensures.accepted c.in_ok-note.ensures.note
      (sym c.usage_at-usage.ensures ∙ ap (λ (us : List Usage). slice_get us c.args.client) c.as_slice.ensures.value)
      c.offered_reply-reply.ensures (c.set_usage.ensures ∙ ap (slice_set c.self.inside.usages.items c.args.client) c.used.ensures)
      (c.set_place.ensures ∙ ap (places_after c.self.inside.places.items c.args.client c.in_ok-note.note c.offered_reply-reply.result) (c.count_of-count.ensures ∙ ap length (c.as_slice-2.ensures.value ∙ c.reserve.ensures.items)))
      (c.admit.ensures ∙ ap (λ (js : List Job). admitted_jobs js c.args.client c.args.offer c.offered_reply-reply.result) c.reserve.ensures.items)
      (c.write.ensures ∙ ap (λ (es : List Entry). es ++ record { pass = c.args.pass; event = Submit c.args.client c.in_ok-note.note; reply = c.offered_reply-reply.result } ∷ []) c.reserve-2.ensures.items)).kept.good,
)

pub returns-clause-isolated : goal.returns-clause-isolated
returns-clause-isolated c =
    journal_isolated _
    ((submitted_leaves _ c.args.pass c.args.client c.args.offer c.offered_reply-reply.result c.in_ok-note.note c.usage_at-usage.result _ c.set_usage.new.usages.items _ c.set_place.new.places.items _ _ c.admit.new.jobs.items c.write.new.entries.items c.self.invariant
    (subst (λ (x : DeskRecord). c.args.client < x.clients) (sym c.self.view_is) c.requires) c.noted.ensures.accepted c.in_ok-note.ensures.note
    (sym c.usage_at-usage.ensures ∙ ap (λ (us : List Usage). slice_get us c.args.client) c.as_slice.ensures.value)
    c.offered_reply-reply.ensures (c.set_usage.ensures ∙ ap (slice_set c.self.inside.usages.items c.args.client) c.used.ensures)
    (c.set_place.ensures ∙ ap (places_after c.self.inside.places.items c.args.client c.in_ok-note.note c.offered_reply-reply.result) (c.count_of-count.ensures ∙ ap length (c.as_slice-2.ensures.value ∙ c.reserve.ensures.items)))
    (c.admit.ensures ∙ ap (λ (js : List Job). admitted_jobs js c.args.client c.args.offer c.offered_reply-reply.result) c.reserve.ensures.items)
    (c.write.ensures ∙ ap (λ (es : List Entry). es ++ record { pass = c.args.pass; event = Submit c.args.client c.in_ok-note.note; reply = c.offered_reply-reply.result } ∷ []) c.reserve-2.ensures.items)).kept.good)

pub returns-in_err-note-clause-isolated : goal.returns-in_err-note-clause-isolated
returns-in_err-note-clause-isolated c = journal_isolated _ c.self.invariant.good

pub returns-in_err-reserve-clause-isolated : goal.returns-in_err-reserve-clause-isolated
returns-in_err-reserve-clause-isolated c = still_isolated _ c.self.invariant.good _ _ c.reserve.ensures.items refl

pub returns-in_err-reserve-2-clause-isolated : goal.returns-in_err-reserve-2-clause-isolated
returns-in_err-reserve-2-clause-isolated c = still_isolated _ c.self.invariant.good _ _ c.reserve.ensures.items c.reserve-2.ensures.items
