-- The memory and the registers of the code as plain data.
use Rattle.cairo_model.specs.Machine.Values.{Datum, place}
use Rattle.cairo_model.specs.Views.Machine.{registers}
use Rattle.cairo_model.specs.declared.place.Place.{Place}
use Rattle.cairo_model.specs.declared.state.State.{State}
use Rattle.seg_memory.specs.Memory.{MemoryRecord, memory_in}
use Rattle.seg_runner.specs.Memories.{GrowingMemory}
use Rattle.seg_runner.specs.Steps.{Configuration}

abbrev pub growing : MemoryRecord → GrowingMemory
growing m = record { sizes = m.sizes; cells = memory_in m }

abbrev pub place_datum : Place → Datum
place_datum at = place at.segment at.offset

abbrev pub configuration : MemoryRecord → State → Configuration
configuration m s = record { memory = growing m; registers = registers s }
