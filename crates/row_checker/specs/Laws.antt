-- Laws of the faults of certificates.
use Rattle.std.specs.Prelude.{◌≡◌, List}
use Rattle.cairo_model.specs.Certificate.Records.{CertRecord}
use Rattle.cairo_model.specs.Pie.Acceptance.{CheckedRecord}
use Rattle.boot_program.specs.Batch.Acceptance.{AcceptsBatch}
use Rattle.boot_program.specs.Batch.Standing.{AllStandIn}
use Rattle.boot_program.specs.Faults.Causes.{AcceptsRun, IsBatchCause, IsFirstBatchFault, IsFirstRunFault, IsRunCause}
use Rattle.boot_program.specs.Faults.Records.{FaultCause}

abbrev pub AcceptedHasNoFault : Type 0
AcceptedHasNoFault = (cert : CertRecord) → AcceptsRun cert → (cause : FaultCause) → ¬ IsRunCause cert cause

abbrev pub OneFirstRunFault : Type 0
OneFirstRunFault = (cert : CertRecord) (c d : FaultCause) → IsFirstRunFault cert c → IsFirstRunFault cert d → c ≡ d

abbrev pub CertifiedHasNoFault : Type 0
CertifiedHasNoFault = (cert : CertRecord) (tasks : List CheckedRecord) → AcceptsBatch cert tasks → AllStandIn cert tasks → (cause : FaultCause) → ¬ IsBatchCause cert tasks cause

abbrev pub OneFirstBatchFault : Type 0
OneFirstBatchFault = (cert : CertRecord) (tasks : List CheckedRecord) (c d : FaultCause) → IsFirstBatchFault cert tasks c → IsFirstBatchFault cert tasks d → c ≡ d
