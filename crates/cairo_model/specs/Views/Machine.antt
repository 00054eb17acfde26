-- The types of the code as plain data.
use Rattle.cairo_model.specs.Machine.Values.{Datum, number, place}
use Rattle.cairo_model.specs.Machine.Steps.{Registers}
use Rattle.cairo_model.specs.declared.value.Value.{Value}
use Rattle.cairo_model.specs.declared.value.Value.TheVariants as val
use Rattle.cairo_model.specs.declared.state.FieldState.{FieldState}
use Rattle.cairo_model.specs.declared.state.State.{State}
use Rattle.std.specs.Prelude.{ℕ}

abbrev pub datum : Value → Datum
datum (val.Number n) = number n.number
datum (val.At p) = place p.segment p.offset

abbrev pub field_registers : FieldState → Registers ℕ
field_registers s = record { pc = s.pc.number; ap = s.ap.number; fp = s.fp.number }

abbrev pub registers : State → Registers Datum
registers s = record { pc = datum s.pc; ap = datum s.ap; fp = datum s.fp }
