-- Why a step is not possible: the table of faults, each with its cause on its own (docs/MACHINE.md).
use Rattle.std.specs.Prelude.{ℕ, ◌≡◌, ◌≢◌, ◌⊎◌, ◌↔◌, Option, Some, None}
use Rattle.cairo_word.specs.Word.{Fields}
use Rattle.cairo_model.specs.Machine.Steps.{Arithmetic, Registers, StepFaultOf, spelled, found, register_in, op1_from, result_of, after, next_pc, next_ap, next_fp}
use Rattle.cairo_model.specs.Refusals.FirstFailing.{IsFirstCause}
use Rattle.cairo_model.specs.declared.fault.StepFault.{StepFault}
use Rattle.cairo_model.specs.declared.fault.StepFault.TheVariants.{Fetch, Word, Dst, Op0, Op1, Res, Jump, Call, Assert, Frame}

-- the lines of the table, in their order
abbrev pub step_fault_number : StepFault → ℕ
step_fault_number Fetch = 1
step_fault_number Word = 2
step_fault_number Dst = 3
step_fault_number Op0 = 4
step_fault_number Op1 = 5
step_fault_number Res = 6
step_fault_number Jump = 7
step_fault_number Call = 8
step_fault_number Assert = 9
step_fault_number Frame = 10

module _ {V : Type 0} (A : Arithmetic V) (m : V → Option V) (s : Registers V) where
  -- ---- what an instruction reads, as far as it is there

  -- the cell at pc spells these fields
  pub record HasFields (f : Fields) : Type 0 where
    pub cell : V
    pub is_there : m s.pc ≡ Some cell
    pub spells : spelled A cell ≡ Some f

  abbrev pub HasDst : Fields → V → Type 0
  HasDst f dst = found A m (register_in s f.dst_reg) f.off_dst ≡ Some dst

  abbrev pub HasOp0 : Fields → V → Type 0
  HasOp0 f op0 = found A m (register_in s f.op0_reg) f.off_op0 ≡ Some op0

  -- the second operand, whose address may count from the first
  abbrev pub HasOp1 : Fields → V → V → Type 0
  HasOp1 f op0 op1 = found A m (op1_from f s op0) f.off_op1 ≡ Some op1

  -- an instruction, its three cells and its result
  pub record HasResult (f : Fields) (dst op0 op1 res : V) : Type 0 where
    pub fields : HasFields f
    pub has_dst : HasDst f dst
    pub has_op0 : HasOp0 f op0
    pub has_op1 : HasOp1 f op0 op1
    pub is_result : result_of A f op0 op1 ≡ Some res

  -- ---- the causes

  -- the cell at pc is no number that decodes
  pub record IsNoWord : Type 0 where
    pub cell : V
    pub is_there : m s.pc ≡ Some cell
    pub spells_none : spelled A cell ≡ None

  -- the address of dst is undefined or has no cell; so for op0 and op1
  pub record LacksDst : Type 0 where
    pub f : Fields
    pub fields : HasFields f
    pub lacks : found A m (register_in s f.dst_reg) f.off_dst ≡ None

  pub record LacksOp0 : Type 0 where
    pub f : Fields
    pub fields : HasFields f
    pub lacks : found A m (register_in s f.op0_reg) f.off_op0 ≡ None

  pub record LacksOp1 : Type 0 where
    pub f : Fields
    pub op0 : V
    pub fields : HasFields f
    pub has_op0 : HasOp0 f op0
    pub lacks : found A m (op1_from f s op0) f.off_op1 ≡ None

  -- the result is undefined
  pub record LacksResult : Type 0 where
    pub f : Fields
    pub op0 : V
    pub op1 : V
    pub fields : HasFields f
    pub has_op0 : HasOp0 f op0
    pub has_op1 : HasOp1 f op0 op1
    pub lacks : result_of A f op0 op1 ≡ None

  -- the next program counter is undefined
  pub record LacksJump : Type 0 where
    pub f : Fields
    pub dst : V
    pub op0 : V
    pub op1 : V
    pub res : V
    pub has_result : HasResult f dst op0 op1 res
    pub lacks : next_pc A f s dst op1 res ≡ None

  -- at a call op0 isn't the return address, or dst isn't the present frame pointer
  pub record BreaksCall : Type 0 where
    pub f : Fields
    pub dst : V
    pub op0 : V
    pub fields : HasFields f
    pub has_dst : HasDst f dst
    pub has_op0 : HasOp0 f op0
    pub is_call : f.opcode ≡ 1
    pub breaks : (after A f s ≢ Some op0) ⊎ (dst ≢ s.fp)

  -- at an assertion the result isn't dst
  pub record BreaksAssert : Type 0 where
    pub f : Fields
    pub dst : V
    pub op0 : V
    pub op1 : V
    pub res : V
    pub has_result : HasResult f dst op0 op1 res
    pub is_assert : f.opcode ≡ 4
    pub breaks : res ≢ dst

  -- the next allocation pointer or the next frame pointer is undefined
  pub record LacksFrame : Type 0 where
    pub f : Fields
    pub dst : V
    pub op0 : V
    pub op1 : V
    pub res : V
    pub has_result : HasResult f dst op0 op1 res
    pub lacks : (next_ap A f s res ≡ None) ⊎ (next_fp A f s dst ≡ None)

  abbrev pub IsStepCause : StepFault → Type 0
  IsStepCause Fetch = m s.pc ≡ None
  IsStepCause Word = IsNoWord
  IsStepCause Dst = LacksDst
  IsStepCause Op0 = LacksOp0
  IsStepCause Op1 = LacksOp1
  IsStepCause Res = LacksResult
  IsStepCause Jump = LacksJump
  IsStepCause Call = BreaksCall
  IsStepCause Assert = BreaksAssert
  IsStepCause Frame = LacksFrame

-- the computed fault is the first cause that applies
abbrev pub FaultFormsAgree : {V : Type 0} → Arithmetic V → Type 0
FaultFormsAgree {V} A = (m : V → Option V) (s : Registers V) (fault : StepFault) → StepFaultOf A m s fault ↔ IsFirstCause step_fault_number (IsStepCause A m s) fault
