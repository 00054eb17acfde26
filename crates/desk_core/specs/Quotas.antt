-- What a client's offers are answered by its own earlier offers alone.
use Rattle.std.specs.Prelude.{ℕ, ◌+◌, Bool, true, false, List, [], ◌∷◌, ◌++◌, length, nat_lt, if◌then◌else◌}
use Rattle.cairo_model.specs.declared.shape.Shape.{Shape}
use Rattle.batch_plan.specs.Cuts.{cells_together, steps_together}
use Rattle.desk_core.specs.Limits.{most_client_cells, most_client_pies, most_client_steps}
use Rattle.desk_core.specs.declared.event.OfferNote.{OfferNote}
use Rattle.desk_core.specs.declared.event.OfferNote.TheVariants as note
use Rattle.desk_core.specs.declared.reply.QuotaKind.TheVariants.{Pies, Steps, Sizes}
use Rattle.desk_core.specs.declared.reply.Reply.{Reply}
use Rattle.desk_core.specs.declared.reply.Reply.TheVariants as reply

-- the first limit that so many PIEs, steps and cells exceed, and where there is none, the number of the PIE that was offered
abbrev pub reply_by_totals : ℕ → ℕ → ℕ → ℕ → Reply
reply_by_totals number pies steps cells =
    if nat_lt most_client_pies pies then reply.Quota Pies pies most_client_pies
    else (if nat_lt most_client_steps steps then reply.Quota Steps steps most_client_steps
    else (if nat_lt most_client_cells cells then reply.Quota Sizes cells most_client_cells
    else reply.Admitted number))

-- the reply to one more PIE, of this shape, where the client had PIEs of these shapes admitted
unfoldable pub quota_reply : List Shape → Shape → Reply
quota_reply admitted shape =
    reply_by_totals (length admitted) (length admitted + 1) (steps_together admitted + shape.steps) (cells_together admitted + shape.size)

abbrev pub is_admitted : Reply → Bool
is_admitted (reply.Admitted number) = true
is_admitted (reply.Refused r) = false
is_admitted reply.Closed = false
is_admitted (reply.Quota kind count limit) = false
is_admitted (reply.SealedBatch b) = false
is_admitted (reply.NothingWaiting closed) = false
is_admitted (reply.TakenBatch b) = false
is_admitted reply.NothingSealed = false
is_admitted reply.Registered = false
is_admitted (reply.NotTaken p) = false
is_admitted (reply.Stranger i) = false
is_admitted reply.Returned = false
is_admitted reply.Yes = false
is_admitted reply.No = false
is_admitted (reply.IsAt p) = false

-- the reply to an offer, where the client had PIEs of these shapes admitted
abbrev pub own_reply : List Shape → OfferNote → Reply
own_reply admitted (note.Accepted shape fact) = quota_reply admitted shape
own_reply admitted (note.Refused r) = reply.Refused r

-- the shapes of those that are admitted after it
abbrev pub admitted_after : List Shape → OfferNote → List Shape
admitted_after admitted (note.Accepted shape fact) = if is_admitted (quota_reply admitted shape) then admitted ++ shape ∷ [] else admitted
admitted_after admitted (note.Refused r) = admitted

-- the replies to offers in order, each by those before it
abbrev pub replies_to : List Shape → List OfferNote → List Reply
replies_to admitted [] = []
replies_to admitted (n ∷ ns) = own_reply admitted n ∷ replies_to (admitted_after admitted n) ns

-- the replies that one client's offers have by themselves
abbrev pub own_verdict : List OfferNote → List Reply
own_verdict notes = replies_to [] notes
