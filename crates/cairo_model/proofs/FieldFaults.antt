-- Over the field a result, a jump and a frame are always defined.
use Rattle.std.proofs.Common.{◌≡◌, ◌≢◌, ℕ, Option, None, Err}
use Rattle.cairo_word.specs.Word.{Fields}
use Rattle.cairo_model.specs.Machine.Steps.{Arithmetic, Registers, field_arithmetic, next, spelled, found, register_in, op1_from, keeps_call, keeps_assert, result_of, next_pc, next_ap, next_fp}
use Rattle.cairo_model.specs.declared.fault.StepFault.{StepFault}
use Rattle.cairo_model.specs.declared.fault.StepFault.TheVariants.{Fetch, Word, Dst, Op0, Op1, Res, Jump, Call, Assert, Frame}
use Rattle.cairo_model.specs.Laws.{NeverInField}
use Rattle.cairo_model.proofs.Chains.{required_fails, demanded_fails, either_is, some_is, no_fault}

result_is : (f : Fields) (op0 op1 : ℕ) → result_of field_arithmetic f op0 op1 ≢ None
result_is f op0 op1 = search (either_is, some_is)

pc_is : (f : Fields) (s : Registers ℕ) (dst op1 res : ℕ) → next_pc field_arithmetic f s dst op1 res ≢ None
pc_is f s dst op1 res = search (either_is, some_is)

ap_is : (f : Fields) (s : Registers ℕ) (res : ℕ) → next_ap field_arithmetic f s res ≢ None
ap_is f s res = search (either_is, some_is)

fp_is : (f : Fields) (s : Registers ℕ) (dst : ℕ) → next_fp field_arithmetic f s dst ≢ None
fp_is f s dst = search (either_is, some_is)

-- the faults that a look-up or a demand gives
record IsOther (d : StepFault) : Type 0 where
  fetch : Fetch ≢ d
  word : Word ≢ d
  dst : Dst ≢ d
  op0 : Op0 ≢ d
  op1 : Op1 ≢ d
  call : Call ≢ d
  assert : Assert ≢ d

-- an arithmetic in which nothing is undefined
record IsTotal {V : Type 0} (A : Arithmetic V) : Type 0 where
  result : (f : Fields) (op0 op1 : V) → result_of A f op0 op1 ≢ None
  pc : (f : Fields) (s : Registers V) (dst op1 res : V) → next_pc A f s dst op1 res ≢ None
  ap : (f : Fields) (s : Registers V) (res : V) → next_ap A f s res ≢ None
  fp : (f : Fields) (s : Registers V) (dst : V) → next_fp A f s dst ≢ None

never : {V : Type 0} (A : Arithmetic V) → IsTotal A → (d : StepFault) → IsOther d → (m : V → Option V) (s : Registers V) → next A m s ≡ Err d → ⊥
unfolding next
never A total d other m s fails =
    required_fails Fetch (m s.pc) _ d fails (λ _. other.fetch) (λ cell _ in_word.
    required_fails Word (spelled A cell) _ d in_word (λ _. other.word) (λ f _ in_dst.
    required_fails Dst (found A m (register_in s f.dst_reg) f.off_dst) _ d in_dst (λ _. other.dst) (λ dst _ in_op0.
    required_fails Op0 (found A m (register_in s f.op0_reg) f.off_op0) _ d in_op0 (λ _. other.op0) (λ op0 _ in_op1.
    required_fails Op1 (found A m (op1_from f s op0) f.off_op1) _ d in_op1 (λ _. other.op1) (λ op1 _ in_res.
    required_fails Res (result_of A f op0 op1) _ d in_res (λ none _. total.result f op0 op1 none) (λ res _ in_jump.
    required_fails Jump (next_pc A f s dst op1 res) _ d in_jump (λ none _. total.pc f s dst op1 res none) (λ pc _ in_call.
    demanded_fails Call (keeps_call A f s dst op0) _ d in_call (λ _. other.call) (λ _ in_assert.
    demanded_fails Assert (keeps_assert A f dst res) _ d in_assert (λ _. other.assert) (λ _ in_ap.
    required_fails Frame (next_ap A f s res) _ d in_ap (λ none _. total.ap f s res none) (λ ap _ in_fp.
    required_fails Frame (next_fp A f s dst) _ d in_fp (λ none _. total.fp f s dst none) (λ fp _ at_end.
    no_fault (record { pc = pc; ap = ap; fp = fp }) d at_end)))))))))))

field_total : IsTotal field_arithmetic
field_total = record { result = result_is; pc = pc_is; ap = ap_is; fp = fp_is }

other_res : IsOther Res
other_res = record { fetch = λ e. absurd (cc); word = λ e. absurd (cc); dst = λ e. absurd (cc); op0 = λ e. absurd (cc); op1 = λ e. absurd (cc); call = λ e. absurd (cc); assert = λ e. absurd (cc) }

other_jump : IsOther Jump
other_jump = record { fetch = λ e. absurd (cc); word = λ e. absurd (cc); dst = λ e. absurd (cc); op0 = λ e. absurd (cc); op1 = λ e. absurd (cc); call = λ e. absurd (cc); assert = λ e. absurd (cc) }

other_frame : IsOther Frame
other_frame = record { fetch = λ e. absurd (cc); word = λ e. absurd (cc); dst = λ e. absurd (cc); op0 = λ e. absurd (cc); op1 = λ e. absurd (cc); call = λ e. absurd (cc); assert = λ e. absurd (cc) }

pub never_in_field : (m : ℕ → Option ℕ) (s : Registers ℕ) → NeverInField m s
never_in_field m s = record { res = never field_arithmetic field_total Res other_res m s; jump = never field_arithmetic field_total Jump other_jump m s; frame = never field_arithmetic field_total Frame other_frame m s }
