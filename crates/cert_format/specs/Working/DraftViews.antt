-- What the reader keeps of a file, as plain data.
use Rattle.std.specs.Prelude.{map}
use Rattle.goldi_field.specs.declared.Felt.{Felt}
use Rattle.cairo_model.specs.Certificate.Records.{SpanRecord}
use Rattle.cairo_model.specs.Views.Certificate.{kind_of}
use Rattle.cairo_model.specs.Machine.FieldMemories.{field_cell}
use Rattle.cairo_model.specs.Views.Machine.{field_registers}
use Rattle.cert_format.specs.Feeding.{FrontRecord, Partial}
use Rattle.cert_format.specs.declared.front.Front.{Front}
use Rattle.cert_format.specs.declared.partial.Partial.{Partial as Kept}

abbrev pub stretch : Felt × Felt → SpanRecord
stretch s = record { start = s.0.number; stop = s.1.number }

abbrev pub front_of : Front → FrontRecord
front_of f = record { kind = kind_of f.kind; output = stretch f.output; range = stretch f.range; hash = stretch f.hash }

abbrev pub partial : Kept → Partial
partial p = record { place = p.place; stage = p.stage; bad = p.bad; front = front_of p.front; tasks = p.tasks.items; row = p.row; bases = map (λ f. f.number) p.bases.items; marks_end = p.marks_end; cells = map field_cell p.cells.items; states = map field_registers p.states.items }
