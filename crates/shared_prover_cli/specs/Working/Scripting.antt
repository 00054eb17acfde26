-- Parts of the answers to a script.
use Rattle.std.specs.Prelude.{◌≡◌, ℕ, List, All, Some}
use Rattle.cairo_model.specs.Certificate.Records.{CertRecord}
use Rattle.cert_format.specs.Spelling.{CertBytes}
use Rattle.desk_core.specs.declared.batch.Batch.{Batch}
use Rattle.desk_script.specs.declared.kinds.ScriptRefusal.{ScriptRefusal}
use Rattle.shared_prover_cli.specs.Answers.Scripts.{bad_line_text}
use Rattle.shared_prover_cli.specs.Replies.{ReplyRecord}

-- the reply names this bad line
pub record NamesBadLine (refusal : ScriptRefusal) (reply : ReplyRecord) : Type 0 where
  pub has_status : reply.status ≡ 3
  pub has_text : reply.text ≡ bad_line_text refusal

-- the batch keeps a certificate
abbrev pub IsCertified : Batch → Type 0
IsCertified batch = (cert : CertRecord) × (batch.cert ≡ Some cert)

abbrev pub AllCertified : List Batch → Type 0
AllCertified batches = All IsCertified batches

-- the bytes are the file of the certificate that the batch keeps
abbrev pub IsFileOfBatch : Batch → List ℕ → Type 0
IsFileOfBatch batch bytes = (cert : CertRecord) × (batch.cert ≡ Some cert) × CertBytes bytes cert
