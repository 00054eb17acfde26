use Rattle.std.proofs.Common.{◌≡◌, Ok, Some, rules}
use Rattle.cairo_model.specs.Machine.Steps.{register_in}
use Rattle.cairo_model.specs.Views.Machine.{registers}
use Rattle.cairo_model.specs.declared.state.State.{State}
use Rattle.cairo_word.specs.Instructions.{fields}
use Rattle.seg_runner.proofs.KeptCells.{first_kept, last_kept}
use Rattle.seg_runner.proofs.Transitions.{stands_whole}
use Rattle.seg_runner.proofs.Parts.{if_ok, step_ends}
use Rattle.seg_runner.specs.Steps.{concluded, operand_at, run_step}
use Rattle.seg_runner.specs.Working.Seen.{configuration, growing, place_datum}
use Rattle.seg_runner.proofs.stepping.step.Goals as goal

-- the instruction and its operands stand as the parts of the step left them
pub concluded-requires : goal.concluded-requires
concluded-requires c =
    let n = c.args.number in
    let now = configuration c.args.memory.now c.args.state in
    let f = fields c.in_ok-instruction.instruction in
    let x = place_datum c.in_ok-dst.dst in
    let y = place_datum c.in_ok-op0.op0 in
    let z = place_datum c.in_ok-op1.op1 in
    let first = growing c.put_first.new.memory in
    let last = growing c.put_last.new.memory in
    let dst_at : operand_at (register_in now.registers f.dst_reg) f.off_dst ≡ Some x = search rules in
    let op0_at : operand_at (register_in now.registers f.op0_reg) f.off_op0 ≡ Some y = search rules in
    stands_whole n now f first last x y z c.in_ok-instruction.ensures.ok dst_at op0_at
    (first_kept n now.memory f now.registers x y first c.in_ok-put_first.ensures.ok) c.in_ok-op1.ensures.ok (last_kept n first f x y z last c.in_ok-put_last.ensures.ok)

pub returns-clause-ok : goal.returns-clause-ok
returns-clause-ok c =
    let now = configuration c.args.memory.now c.args.state in
    let f = fields c.in_ok-instruction.instruction in
    let x = place_datum c.in_ok-dst.dst in
    let y = place_datum c.in_ok-op0.op0 in
    let z = place_datum c.in_ok-op1.op1 in
    let last = growing c.put_last.new.memory in
    let dst_at : operand_at (register_in now.registers f.dst_reg) f.off_dst ≡ Some x = search rules in
    let op0_at : operand_at (register_in now.registers f.op0_reg) f.off_op0 ≡ Some y = search rules in
    if_ok (λ (t : State). concluded c.args.number last f now.registers x y z ≡ Ok (registers t)) (λ (t : State). run_step c.args.number now ≡ Ok (configuration c.put_last.new.memory t)) c.concluded.result
    (λ t is. step_ends c.args.number now f x y z (growing c.put_first.new.memory) last c.in_ok-instruction.ensures.ok dst_at op0_at c.in_ok-put_first.ensures.ok c.in_ok-op1.ensures.ok c.in_ok-put_last.ensures.ok (registers t) is)
    c.concluded.ensures.ok
