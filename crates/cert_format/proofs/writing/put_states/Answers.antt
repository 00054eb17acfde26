use Rattle.std.proofs.Common.{length}
use Rattle.std.specs.Int.{w32, to_be_bytes}
use Rattle.cairo_model.specs.Views.Machine.{field_registers}
use Rattle.cert_format.specs.Spelling.{state_bytes}
use Rattle.cairo_model.proofs.Appending.{one_more}
use Rattle.cert_format.proofs.writing.put_states.Goals as goal

pub loop-state-preserved : goal.loop-state-preserved
loop-state-preserved c = one_more field_registers state_bytes c.args.out.now.items (to_be_bytes w32 (length c.args.states.now)) c.loop-state.out.items c.put_state.new.out.items c.args.states.now c.loop-state.state-index c.state-item.result
    c.loop-state-test.true c.state-item.is c.loop-state.invariant c.in_ok-put_state.ensures
