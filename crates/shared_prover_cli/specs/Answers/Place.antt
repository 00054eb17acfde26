-- `place`: the certificate of the PIE that the input is a file of.
use Rattle.std.specs.Prelude.{◌≡◌, ℕ, List}
use Rattle.cairo_model.specs.Certificate.Records.{CertRecord}
use Rattle.cairo_model.specs.Refusals.Verdicts.{IsVerdict, Verdict, admitted, no_file, not_alone}
use Rattle.cert_format.specs.Spelling.{spelling}
use Rattle.relocator.specs.LoneCertificates.{IsLoneCertificate}
use Rattle.shared_prover_cli.specs.Replies.{ReplyRecord}
use Rattle.shared_prover_cli.specs.Texts.{verdict_status, verdict_text}

-- the bytes of the certificate of an admitted PIE alone, or the line of the refusal
abbrev pub IsPlaced : Verdict → List ℕ → Type 0
IsPlaced (admitted found) text = (cert : CertRecord) × (IsLoneCertificate found cert × (text ≡ spelling cert))
IsPlaced (no_file refusal) text = text ≡ verdict_text (no_file refusal)
IsPlaced (not_alone cause) text = text ≡ verdict_text (not_alone cause)

pub record PlaceAnswer (input : List ℕ) (reply : ReplyRecord) : Type 0 where
  pub verdict : Verdict
  pub is_verdict : IsVerdict input verdict
  pub has_status : reply.status ≡ verdict_status verdict
  pub has_text : IsPlaced verdict reply.text
