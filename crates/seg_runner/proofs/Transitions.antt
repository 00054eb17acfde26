-- The machine's transition over a memory in which an instruction and its cells stand.
use Rattle.std.proofs.Common.{◌≡◌, ℕ, ◌==◌, Bool, true, false, if◌then◌else◌, Option, Some, option_and_then, ℤ, Ok, refl, sym, ap, ◌∙◌}
use Rattle.cairo_word.specs.Word.{Fields}
use Rattle.cairo_model.proofs.Outcomes.{and_then_gives, required_is, some_is}
use Rattle.cairo_model.proofs.Chains.{required_gives}
use Rattle.cairo_model.specs.Machine.Steps.{Registers, value_arithmetic, moved, offset_number, found, register_in, spelled, op1_from, next}
use Rattle.cairo_model.specs.Machine.Values.{Datum, number, place}
use Rattle.cairo_model.specs.declared.fault.StepFault.TheVariants.{Fetch, Word, Op1}
use Rattle.pie_replay.specs.Transitions.{moved_on}
use Rattle.pie_replay.proofs.Operands.{next_of_operands, required_on}
use Rattle.seg_runner.specs.Steps.{Configuration, concluded, consistent, fetched_fields, op1_at, op1_base, operand_at, as_place, refused_at}
use Rattle.seg_runner.specs.Memories.{GrowingMemory}
use Rattle.seg_runner.specs.Refusals.{faulty, unknown_cell}
use Rattle.seg_runner.specs.Working.Running.{IsInstruction}
use Rattle.seg_runner.proofs.KeptCells.{KeepsCells}
use Rattle.seg_runner.proofs.Parts.{bound_on}

-- ---- operands

place_is : (v x : Datum) → as_place v ≡ Some x → v ≡ x
place_is (number a) x e = absurd (cc)
place_is (place s o) x e = some_is (place s o) x e

-- what stands at the address of an operand is what the machine finds there
pub found_at : (m : Datum → Option Datum) (from : Datum) (offset : ℤ) (x : Datum) → operand_at from offset ≡ Some x → found value_arithmetic m from offset ≡ m x
found_at m from offset x e =
    and_then_gives (moved value_arithmetic from (offset_number offset)) as_place x e (λ v is same.
    ap (option_and_then m) is ∙ ap m (place_is v x same))

-- the base of op1 is the machine's, where op0 stands
base_is : (f : Fields) (s : Registers Datum) (before : Option Datum) (op0 base : Datum) (b : Bool) → (f.op1_src == 0) ≡ b → ((v : Datum) → before ≡ Some v → op0 ≡ v) → op1_base f s before ≡ Some base → op1_from f s op0 ≡ base
base_is f s before op0 base true from_op0 same e =
    ap (λ (c : Bool). if c then op0 else (if f.op1_src == 1 then s.pc else (if f.op1_src == 2 then s.fp else s.ap))) from_op0
    ∙ same base (sym (ap (λ (c : Bool). if c then before else Some (if f.op1_src == 1 then s.pc else (if f.op1_src == 2 then s.fp else s.ap))) from_op0) ∙ e)
base_is f s before op0 base false other same e =
    ap (λ (c : Bool). if c then op0 else (if f.op1_src == 1 then s.pc else (if f.op1_src == 2 then s.fp else s.ap))) other
    ∙ some_is _ base (sym (ap (λ (c : Bool). if c then before else Some (if f.op1_src == 1 then s.pc else (if f.op1_src == 2 then s.fp else s.ap))) other) ∙ e)

-- ---- the transition

module _ (m : Datum → Option Datum) (f : Fields) (s : Registers Datum) (x y z dst op0 op1 : Datum) (is : IsInstruction m f s x y z) (has_dst : m x ≡ Some dst) (has_op0 : m y ≡ Some op0) (has_op1 : m z ≡ Some op1) where
  pub next_is : next value_arithmetic m s ≡ moved_on f s dst op0 op1
  next_is =
      next_of_operands m f s is.cell dst op0 op1 is.is_fetched is.is_decoded
      (found_at m (register_in s f.dst_reg) f.off_dst x is.dst_at ∙ has_dst)
      (found_at m (register_in s f.op0_reg) f.off_op0 y is.op0_at ∙ has_op0)
      (found_at m (op1_from f s op0) f.off_op1 z (is.op1_at op0 has_op0) ∙ has_op1)

-- ---- where the parts of a step gave them

module _ (n : ℕ) (now : Configuration) (f : Fields) (first last : GrowingMemory) (x y z : Datum)
    (fetched : fetched_fields n now ≡ Ok f) (dst_at : operand_at (register_in now.registers f.dst_reg) f.off_dst ≡ Some x) (op0_at : operand_at (register_in now.registers f.op0_reg) f.off_op0 ≡ Some y)
    (begun : KeepsCells now.memory first) (addressed : op1_at n first f now.registers y ≡ Ok z) (kept : KeepsCells first last) where
  pub stands_whole : IsInstruction last.cells f now.registers x y z
  stands_whole =
      required_gives (faulty n Fetch) (now.memory.cells now.registers.pc) _ f fetched (λ cell there decoded.
      required_is (faulty n Word) (spelled value_arithmetic cell) f decoded (λ spells.
      record {
        cell = cell;
        is_fetched = kept now.registers.pc cell (begun now.registers.pc cell there);
        is_decoded = spells;
        dst_at = dst_at;
        op0_at = op0_at;
        op1_at = λ op0 stands.
            required_gives (unknown_cell n) (op1_base f now.registers (first.cells y)) _ z addressed (λ base is_base rest.
            required_is (faulty n Op1) (operand_at base f.off_op1) z rest (λ at.
            ap (λ (b : Datum). operand_at b f.off_op1) (base_is f now.registers (first.cells y) op0 base (f.op1_src == 0) refl (λ v before. some_is op0 v (sym stands ∙ kept y v before)) is_base) ∙ at));
      }))

-- ---- the end of a step

pub concluded_is : (n : ℕ) (g : GrowingMemory) (f : Fields) (s : Registers Datum) (x y z dst op0 op1 : Datum) → IsInstruction g.cells f s x y z
    → g.cells x ≡ Some dst → g.cells y ≡ Some op0 → g.cells z ≡ Some op1 → consistent n f dst op0 op1 ≡ Ok true
    → refused_at n (moved_on f s dst op0 op1) ≡ concluded n g f s x y z
unfolding concluded
concluded_is n g f s x y z dst op0 op1 is has_dst has_op0 has_op1 holds = sym (
    required_on (unknown_cell n) (g.cells x) _ dst has_dst
    ∙ required_on (unknown_cell n) (g.cells y) _ op0 has_op0
    ∙ required_on (unknown_cell n) (g.cells z) _ op1 has_op1
    ∙ bound_on (consistent n f dst op0 op1) _ true holds
    ∙ ap (refused_at n) (next_is g.cells f s x y z dst op0 op1 is has_dst has_op0 has_op1))
