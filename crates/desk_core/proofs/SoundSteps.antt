-- What Next gives keeps a desk sound.
use Rattle.std.proofs.Common.{◌≡◌, ◌≢◌, ℕ, ◌==◌, Bool, true, false, cond, [], ◌∷◌, ◌++◌, length, refl, ap, ◌∙◌, subst}
use Rattle.std.specs.Prelude.{Option, Some, None, slice_index_or}
use Rattle.std.proofs.lemmas.List.Quantifiers.{position-Some}
use Rattle.cairo_model.specs.Pie.Records.{PieRecord}
use Rattle.cairo_model.specs.declared.shape.Shape.{Shape}
use Rattle.desk_core.specs.Desks.{PlainDesk, PlainBatch, shapes_of, waiting_jobs, phase_at, first_sealed, is_sealed, is_taken_by}
use Rattle.desk_core.specs.SoundDesks.{AreSmall, IsSound, KeepsLimits, SoundIsKept}
use Rattle.desk_core.specs.Journals.{move_of, NamesClient, IsOfferOf}
use Rattle.desk_core.specs.Quotas.{is_admitted, quota_reply}
use Rattle.desk_core.specs.Next.{reply_to, after_event, with_job, after_take, after_register}
use Rattle.desk_core.specs.declared.event.Event.{Event}
use Rattle.desk_core.specs.declared.event.Event.TheVariants as event
use Rattle.desk_core.specs.declared.event.OfferNote.TheVariants as note
use Rattle.desk_core.specs.declared.phase.Phase.{Phase}
use Rattle.desk_core.specs.declared.phase.Phase.TheVariants as phase
use Rattle.desk_core.specs.declared.reply.Reply.{Reply}
use Rattle.desk_core.specs.declared.reply.Reply.TheVariants as reply
use Rattle.desk_core.proofs.BatchLemmas.{in_list}
use Rattle.desk_core.proofs.IsolationLemmas.{of_its_pie}
use Rattle.desk_core.proofs.QuotaLemmas.{keeps_limits}
use Rattle.desk_core.proofs.SoundLemmas.{sound_with_job, sound_sealed, sound_still, sound_registers}

either_sound : (b : Bool) (x y : PlainDesk) → (b ≡ true → IsSound x) → (b ≡ false → IsSound y) → IsSound (cond b x y)
either_sound true x y p q = p refl
either_sound false x y p q = q refl

unclosed : (closed : Bool) (r : Reply) → is_admitted (cond closed reply.Closed r) ≡ true → is_admitted r ≡ true
unclosed true r e = absurd (cc)
unclosed false r e = e

sealed_is : (p : Phase) → is_sealed p ≡ true → p ≡ phase.Sealed
sealed_is phase.Sealed e = refl
sealed_is (phase.Taken k) e = absurd (cc)
sealed_is phase.Registered e = absurd (cc)
sealed_is phase.NoBatch e = absurd (cc)

pub taken_is : (pass : ℕ) (p : Phase) → is_taken_by pass p ≡ true → (p ≢ phase.NoBatch) × (p ≢ phase.Registered)
taken_is pass phase.Sealed e = absurd (cc)
taken_is pass (phase.Taken k) e = ((λ q. cc), (λ q. cc))
taken_is pass phase.Registered e = absurd (cc)
taken_is pass phase.NoBatch e = absurd (cc)

no_batch : PlainBatch
no_batch = record { first = 0; count = 0; phase = phase.NoBatch }

pub first_is_sealed : (d : PlainDesk) (b : ℕ) → first_sealed d ≡ Some b → phase_at d b ≡ phase.Sealed
first_is_sealed d b e =
    let h = position-Some (λ (x : PlainBatch). is_sealed x.phase) d.batches b no_batch e in
    in_list d.batches b no_batch h.0 ∙ sealed_is (slice_index_or d.batches b no_batch).phase h.1

sound_taken : (d : PlainDesk) → IsSound d → (pass : ℕ) (o : Option ℕ) → first_sealed d ≡ o → IsSound (after_take d pass o)
sound_taken d s pass None e = s
sound_taken d s pass (Some b) e =
    let is = first_is_sealed d b e in
    sound_still d s b (phase.Taken pass) (λ q. cc) (λ q. cc) (λ q. cc) (λ q. cc)

sound_registered : (d : PlainDesk) → IsSound d → (b : ℕ) (o : Option ℕ) → phase_at d b ≢ phase.NoBatch → IsSound (after_register d b o)
sound_registered d s b None there = sound_registers d s b there
sound_registered d s b (Some i) there = s

sound_after : (d : PlainDesk) (pass : ℕ) (e : Event) (pie : PieRecord) → IsSound d → AreSmall d.jobs → NamesClient d.clients e
    → (is_admitted (reply_to d pass e) ≡ true → IsOfferOf pie e) → IsSound (after_event d pass e pie)
unfolding reply_to after_event
sound_after d pass (event.Submit client (note.Refused r)) pie s small named fits = s
sound_after d pass (event.Submit client (note.Accepted shape fact)) pie s small named fits =
    either_sound (is_admitted (cond d.closed reply.Closed (quota_reply (shapes_of client d.jobs) shape))) (with_job d client pie) d
    (λ is.
    sound_with_job d s client pie named
    (subst (λ (x : Shape). KeepsLimits (shapes_of client d.jobs ++ x ∷ [])) (fits is).0 (keeps_limits (shapes_of client d.jobs) shape (unclosed d.closed _ is))))
    (λ is. s)
sound_after d pass event.Seal pie s small named fits = either_sound (length (waiting_jobs d) == 0) d _ (λ is. s) (λ is. sound_sealed d s small is)
sound_after d pass event.Take pie s small named fits = sound_taken d s pass (first_sealed d) refl
sound_after d pass (event.Register b differs) pie s small named fits =
    either_sound (is_taken_by pass (phase_at d b)) _ d (λ is. sound_registered d s b differs (taken_is pass (phase_at d b) is).0) (λ is. s)
sound_after d pass (event.GiveBack b) pie s small named fits =
    either_sound (is_taken_by pass (phase_at d b)) _ d
    (λ is.
    let t = taken_is pass (phase_at d b) is in
    sound_still d s b phase.Sealed (λ q. cc) t.0 (λ q. cc) t.1)
    (λ is. s)
sound_after d pass (event.Ask client fact) pie s small named fits = s
sound_after d pass (event.Status client number) pie s small named fits = s
sound_after d pass event.Close pie s small named fits = record { clients = s.clients; numbered = s.numbered; limited = s.limited; neighbours = s.neighbours; inside = s.inside; batches = s.batches; registered = s.registered }

pub sound_is_kept : SoundIsKept
sound_is_kept d e s small new =
    sound_after d e.entry.pass e.entry.event (move_of e).pie s small new.names (λ is. of_its_pie (is_admitted e.entry.reply) e.pie e.entry.event new.has_pie (ap is_admitted new.replies ∙ is))
