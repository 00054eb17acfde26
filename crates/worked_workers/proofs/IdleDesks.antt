-- A desk to which nothing but an offer was made has no batch.
use Rattle.std.proofs.Common.{◌≡◌, ℕ, Bool, true, false, cond, List, [], refl, sym, ap, ◌∙◌}
use Rattle.std.specs.Prelude.{slice_get}
use Rattle.std.specs.Option.{option_map_or}
use Rattle.cairo_model.specs.Pie.Records.{PieRecord}
use Rattle.desk_core.specs.DeskRecords.{DeskRecord, plain_of}
use Rattle.desk_core.specs.Desks.{PlainBatch, PlainDesk}
use Rattle.desk_core.specs.Next.{after_event, submit_reply, with_job}
use Rattle.desk_core.specs.Quotas.{is_admitted}
use Rattle.desk_core.specs.Turns.{IsNewDesk, IsTurn}
use Rattle.desk_core.specs.declared.event.Event.TheVariants as event
use Rattle.desk_core.specs.declared.event.OfferNote.{OfferNote}
use Rattle.desk_core.specs.declared.phase.Phase.TheVariants as phase
use Rattle.desk_core.specs.declared.reply.Reply.{Reply}
use Rattle.batch_workers.specs.Works.{IsIdle}

either_way : (t : Bool) (d : PlainDesk) (client : ℕ) (pie : PieRecord) → (cond t (with_job d client pie) d).batches ≡ d.batches
either_way true d client pie = refl
either_way false d client pie = refl

pub idle_offered : (clients pass client : ℕ) (old new : DeskRecord) (n : OfferNote) (pie : PieRecord) (r : Reply) → IsNewDesk clients old → IsTurn old new pass (event.Submit client n) pie r → IsIdle 1 (plain_of new)
unfolding after_event
idle_offered clients pass client old new n pie r is turn b taken =
    let same : (plain_of new).batches ≡ (plain_of old).batches = ap (λ (d : PlainDesk). d.batches) turn.becomes ∙ either_way (is_admitted (submit_reply (plain_of old) client n)) (plain_of old) client pie in
    let empty : (plain_of old).batches ≡ [] = ap (λ (d : DeskRecord). (plain_of d).batches) is in
    let none : phase.NoBatch ≡ phase.Taken 1 = sym (ap (λ (bs : List PlainBatch). option_map_or (λ (x : PlainBatch). x.phase) (slice_get bs b) phase.NoBatch) (same ∙ empty)) ∙ taken in
    cc
