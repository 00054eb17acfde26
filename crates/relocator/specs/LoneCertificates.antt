-- The certificate of a PIE alone (docs/CERTIFICATE.md, 'Placing').
use Rattle.std.specs.Prelude.{ℕ, ◌≡◌, ◌+◌, List, [], map, slice_index}
use Rattle.cairo_model.specs.Segments.{output_segment, range_segment, hash_segment}
use Rattle.cairo_model.specs.Pie.Acceptance.{CheckedRecord}
use Rattle.cairo_model.specs.Certificate.Records.{CertRecord, SpanRecord, alone}
use Rattle.cairo_model.specs.Pie.Layouts.{base_of, lone_bases, relocated_state}
use Rattle.relocator.specs.Placing.{ArePlaced}

-- a segment's stretch of addresses, from its base to its base and size
abbrev pub stretch_of : List ℕ → List ℕ → ℕ → SpanRecord
stretch_of bases sizes segment = record { start = base_of bases segment; stop = base_of bases segment + slice_index sizes segment }

-- of kind alone, with the cells, the states and the three spans where the layout alone puts them
pub record IsLoneCertificate (checked : CheckedRecord) (cert : CertRecord) : Type 0 where
  pub kind : cert.kind ≡ alone
  pub tasks : cert.tasks ≡ []
  pub cells : ArePlaced (lone_bases checked.pie.sizes) checked.pie.cells cert.cells
  pub states : cert.states ≡ map (relocated_state (lone_bases checked.pie.sizes)) checked.states
  pub output : cert.output ≡ stretch_of (lone_bases checked.pie.sizes) checked.pie.sizes output_segment
  pub range : cert.range ≡ stretch_of (lone_bases checked.pie.sizes) checked.pie.sizes range_segment
  pub hash : cert.hash ≡ stretch_of (lone_bases checked.pie.sizes) checked.pie.sizes hash_segment
