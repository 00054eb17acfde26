-- The offer that the bytes of a file make (docs/SERVICE.md).
use Rattle.std.specs.Prelude.{◌≡◌, ℕ, List}
use Rattle.cairo_model.specs.Refusals.Verdicts.{IsVerdict, Verdict, admitted}
use Rattle.cairo_model.specs.Views.Refusals.{refused}
use Rattle.desk_core.specs.declared.offer.Offer.{Offer}
use Rattle.desk_core.specs.declared.offer.Offer.TheVariants as offer

-- the verdict that an offer says
abbrev pub offered_verdict : Offer → Verdict
offered_verdict (offer.Accepted checked) = admitted checked
offered_verdict (offer.Refused r) = refused r

-- The offer is that of these bytes: it says the verdict on them. So it is accepted, with the PIE that these bytes are, exactly where
-- they are admitted, and refused with r exactly where r is the verdict.
abbrev pub OffersBytes : List ℕ → Offer → Type 0
OffersBytes bytes o = IsVerdict bytes (offered_verdict o)

-- bytes make one offer: two of the same bytes say the same
abbrev pub BytesHaveOneOffer : Type 0
BytesHaveOneOffer = (bytes : List ℕ) (o p : Offer) → OffersBytes bytes o → OffersBytes bytes p → offered_verdict o ≡ offered_verdict p
