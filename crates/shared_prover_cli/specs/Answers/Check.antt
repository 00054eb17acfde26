-- `check`: what is answered to a certificate, by the first cause that applies (docs/CERTIFICATE.md).
use Rattle.std.specs.Prelude.{ℕ, ◌≡◌, ◌+◌, List, length}
use Rattle.cairo_model.specs.Certificate.Records.{CertKind, CertRecord}
use Rattle.cairo_model.specs.Certificate.Acceptance.{SpanHolds}
use Rattle.boot_program.specs.Faults.Causes.{AcceptsRun, IsFirstRunFault}
use Rattle.boot_program.specs.Faults.Records.{FaultCause}
use Rattle.cert_format.specs.Refusals.{IsFirstCertCause}
use Rattle.cert_format.specs.Spelling.{CertBytes}
use Rattle.cert_format.specs.declared.refusal.CertRefusal.{CertRefusal}

pub data CheckAnswer : Type 0 where
  -- one of this kind, which is accepted with so many steps and these outputs
  accepted : CertKind → ℕ → List ℕ → CheckAnswer
  -- no certificate has these bytes, and this is the first cause
  no_certificate : CertRefusal → CheckAnswer
  -- it isn't accepted, and this is the first fault
  faulty : FaultCause → CheckAnswer

abbrev pub IsCheckOf : List ℕ → CheckAnswer → Type 0
IsCheckOf bytes (no_certificate refusal) = IsFirstCertCause bytes refusal × ((cert : CertRecord) → ¬ CertBytes bytes cert)
IsCheckOf bytes (faulty cause) = (cert : CertRecord) × (CertBytes bytes cert × (IsFirstRunFault cert cause × (¬ AcceptsRun cert)))
IsCheckOf bytes (accepted kind steps outputs) = (cert : CertRecord) × (CertBytes bytes cert × ((cert.kind ≡ kind) × (AcceptsRun cert × ((length cert.states ≡ steps + 1) × SpanHolds cert.cells cert.output outputs))))
