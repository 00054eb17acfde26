use Rattle.std.proofs.Common.{◌≡◌, ◌++◌, length, map, take}
use Rattle.std.specs.List.{flat_map}
use Rattle.std.specs.Int.{w32, to_be_bytes}
use Rattle.cairo_model.specs.Views.Machine.{field_registers}
use Rattle.cert_format.specs.Spelling.{state_bytes}
use Rattle.cert_format.proofs.writing.put_states.Given as goal

abbrev pub invariant-loop-state : goal.invariant-loop-state
invariant-loop-state l = l.out.items ≡ l.fn.out.items ++ (to_be_bytes w32 (length l.states) ++ flat_map state_bytes (map field_registers (take l.state-index l.states)))
