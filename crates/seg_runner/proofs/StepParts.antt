-- What a step does: it keeps what stands, and is the machine's transition over the memory that it leaves.
use Rattle.std.proofs.Common.{◌≡◌, ℕ, Ok, subst}
use Rattle.cairo_model.proofs.Chains.{required_gives}
use Rattle.cairo_model.proofs.Outcomes.{bind_gives, ok_is}
use Rattle.cairo_model.specs.Machine.Steps.{next, register_in, value_arithmetic}
use Rattle.cairo_model.specs.declared.fault.StepFault.TheVariants.{Dst, Op0}
use Rattle.seg_runner.proofs.KeptCells.{KeepsCells, first_kept, last_kept, then_kept}
use Rattle.seg_runner.proofs.SoundSteps.{concluded_by, from_dst, from_fields, from_op0, from_op1, from_puts}
use Rattle.seg_runner.specs.Refusals.{faulty}
use Rattle.seg_runner.specs.Steps.{Configuration, concluded, fetched_fields, op1_at, operand_at, run_step, with_first_puts, with_last_puts}

pub record StepDoes (now after : Configuration) : Type 0 where
  pub keeps : KeepsCells now.memory after.memory
  pub moves : next value_arithmetic after.memory.cells now.registers ≡ Ok after.registers

pub step_parts : (n : ℕ) (now after : Configuration) → run_step n now ≡ Ok after → StepDoes now after
unfolding run_step
step_parts n now after e =
    bind_gives (fetched_fields n now) (λ f. from_fields n now f) after e (λ f is_f e.
    required_gives (faulty n Dst) (operand_at (register_in now.registers f.dst_reg) f.off_dst) (from_dst n now f) after e (λ dst is_dst e.
    required_gives (faulty n Op0) (operand_at (register_in now.registers f.op0_reg) f.off_op0) (from_op0 n now f dst) after e (λ op0 is_op0 e.
    bind_gives (with_first_puts n now.memory f now.registers dst op0) (from_puts n now f dst op0) after e (λ first is_first e.
    bind_gives (op1_at n first f now.registers op0) (from_op1 n now f dst op0 first) after e (λ op1 is_op1 e.
    bind_gives (with_last_puts n first f dst op0 op1) _ after e (λ last is_last e.
    bind_gives (concluded n last f now.registers dst op0 op1) _ after e (λ t is_t e.
    let made : Configuration = record { memory = last; registers = t } in
    subst (StepDoes now) (ok_is made after e) (record {
      keeps = then_kept now.memory first last (first_kept n now.memory f now.registers dst op0 first is_first) (last_kept n first f dst op0 op1 last is_last);
      moves = concluded_by n last f now.registers dst op0 op1 t is_t;
    }))))))))
