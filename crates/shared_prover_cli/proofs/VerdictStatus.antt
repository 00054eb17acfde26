-- What a refusal is answered with.
use Rattle.std.proofs.Common.{◌≡◌, ℕ, List, refl}
use Rattle.cairo_model.specs.Views.Refusals.{refused}
use Rattle.cairo_model.specs.declared.refusal.Refusal.{Refusal}
use Rattle.cairo_model.specs.declared.refusal.Refusal.TheVariants.{Read, Replay}
use Rattle.shared_prover_cli.specs.Answers.List.{IsListedFor}
use Rattle.shared_prover_cli.specs.Answers.Place.{IsPlaced}
use Rattle.shared_prover_cli.specs.Texts.{verdict_status, verdict_text}

pub refused_status : (refusal : Refusal) → 1 ≡ verdict_status (refused refusal)
refused_status (Read r) = refl
refused_status (Replay r) = refl

pub refused_placed : (refusal : Refusal) (text : List ℕ) → text ≡ verdict_text (refused refusal) → IsPlaced (refused refusal) text
refused_placed (Read r) text is = is
refused_placed (Replay r) text is = is

pub refused_listed : (refusal : Refusal) (text : List ℕ) → text ≡ verdict_text (refused refusal) → IsListedFor (refused refusal) text
refused_listed (Read r) text is = is
refused_listed (Replay r) text is = is
