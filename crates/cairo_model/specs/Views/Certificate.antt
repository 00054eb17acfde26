-- Certificates of the code as plain data.
use Rattle.cairo_model.specs.Certificate.Records.{CertKind, alone, batch, SpanRecord}
use Rattle.cairo_model.specs.declared.certificate.Kind.{Kind}
use Rattle.cairo_model.specs.declared.certificate.Kind.TheVariants as kinds
use Rattle.cairo_model.specs.declared.span.Span.{Span}

abbrev pub kind_of : Kind → CertKind
kind_of kinds.Alone = alone
kind_of kinds.Batch = batch

abbrev pub span_of : Span → SpanRecord
span_of s = record { start = s.start.number; stop = s.stop.number }
