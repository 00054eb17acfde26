use Rattle.std.proofs.Common.{map}
use Rattle.cairo_model.specs.Machine.FieldMemories.{AddressesRise, field_cell}
use Rattle.worked_machine.proofs.steps.memory_of.Given as goal

abbrev pub invariant-loop-address : goal.invariant-loop-address
invariant-loop-address l = AddressesRise (map field_cell l.cells.items)
