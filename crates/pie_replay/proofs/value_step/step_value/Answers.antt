use Rattle.std.proofs.Common.{◌≡◌, Ok, Err, MatchResult, Result, Some, sym, subst, rules}
use Rattle.cairo_model.specs.Machine.Steps.{Registers, value_arithmetic, found, op1_from, register_in, spelled}
use Rattle.cairo_model.specs.Machine.Values.{Datum}
use Rattle.cairo_model.specs.Views.Machine.{datum, registers}
use Rattle.cairo_model.specs.declared.fault.StepFault.{StepFault}
use Rattle.cairo_model.specs.declared.state.State.{State}
use Rattle.cairo_word.specs.Instructions.{fields}
use Rattle.seg_memory.specs.Memory.{memory_in}
use Rattle.pie_replay.proofs.Operands.{next_of_operands}
use Rattle.pie_replay.proofs.value_step.step_value.Goals as goal

pub returns : goal.returns
returns c =
    let m = memory_in c.args.memory.now in
    let s = registers c.args.state in
    let f = fields c.in_ok-instruction.instruction in
    let dst = datum c.in_ok-dst.dst in
    let op0 = datum c.in_ok-op0.op0 in
    let op1 = datum c.in_ok-op1.op1 in
    let fetched : m s.pc ≡ Some (datum c.in_ok-cell.cell) = search rules in
    let decoded : spelled value_arithmetic (datum c.in_ok-cell.cell) ≡ Some f = search rules in
    let has_dst : found value_arithmetic m (register_in s f.dst_reg) f.off_dst ≡ Some dst = search rules in
    let has_op0 : found value_arithmetic m (register_in s f.op0_reg) f.off_op0 ≡ Some op0 = search rules in
    let has_op1 : found value_arithmetic m (op1_from f s op0) f.off_op1 ≡ Some op1 = search rules in
    subst (λ (r : Result (Registers Datum) StepFault). MatchResult c.next_state.result (λ (after : State). r ≡ Ok (registers after)) (λ (fault : StepFault). r ≡ Err fault))
    (sym (next_of_operands m f s (datum c.in_ok-cell.cell) dst op0 op1 fetched decoded has_dst has_op0 has_op1)) c.next_state.ensures
