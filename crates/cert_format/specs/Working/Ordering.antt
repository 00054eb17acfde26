-- What a certificate keeps beside its numbers: ordered spans and rising addresses.
use Rattle.std.specs.Prelude.{◌≤◌}
use Rattle.cairo_model.specs.Certificate.Records.{CertRecord}
use Rattle.cairo_model.specs.Machine.FieldMemories.{AddressesRise}

pub record IsOrdered (c : CertRecord) : Type 0 where
  pub output : c.output.start ≤ c.output.stop
  pub range : c.range.start ≤ c.range.stop
  pub hash : c.hash.start ≤ c.hash.stop
  pub rise : AddressesRise c.cells
