use Rattle.std.proofs.Common.{◌≡◌, map, drop, None}
use Rattle.cairo_model.specs.Machine.FieldMemories.{field_cell}
use Rattle.cert_format.specs.Reading.{fallen_at}
use Rattle.cert_format.proofs.order.fallen_address.Given as goal

abbrev pub invariant-loop-address : goal.invariant-loop-address
invariant-loop-address l = fallen_at l.whole l.left l.before (map field_cell (drop l.address-index l.cells)) ≡ fallen_at l.whole l.from_cells None (map field_cell l.cells)
