-- A step whose cells are found is the transition from their values.
use Rattle.std.proofs.Common.{◌≡◌, Option, Some, Result, refl, ◌∙◌}
use Rattle.cairo_word.specs.Word.{Fields}
use Rattle.cairo_model.specs.Machine.Steps.{Registers, value_arithmetic, ◌>>=◌, required, found, register_in, spelled, op1_from, next}
use Rattle.cairo_model.specs.Machine.Values.{Datum}
use Rattle.cairo_model.specs.declared.fault.StepFault.TheVariants.{Fetch, Word, Dst, Op0, Op1}
use Rattle.pie_replay.specs.Transitions.{moved_on}

pub required_on : {A B E : Type 0} (e : E) (o : Option A) (f : A → Result B E) (x : A) → o ≡ Some x → required e o >>= f ≡ f x
required_on e o f x is = rw is refl

pub next_of_operands : (m : Datum → Option Datum) (f : Fields) (s : Registers Datum) (cell dst op0 op1 : Datum) → m s.pc ≡ Some cell → spelled value_arithmetic cell ≡ Some f
    → found value_arithmetic m (register_in s f.dst_reg) f.off_dst ≡ Some dst → found value_arithmetic m (register_in s f.op0_reg) f.off_op0 ≡ Some op0
    → found value_arithmetic m (op1_from f s op0) f.off_op1 ≡ Some op1 → next value_arithmetic m s ≡ moved_on f s dst op0 op1
unfolding next moved_on
next_of_operands m f s cell dst op0 op1 fetched decoded has_dst has_op0 has_op1 =
    required_on Fetch (m s.pc) _ cell fetched
    ∙ required_on Word (spelled value_arithmetic cell) _ f decoded
    ∙ required_on Dst (found value_arithmetic m (register_in s f.dst_reg) f.off_dst) _ dst has_dst
    ∙ required_on Op0 (found value_arithmetic m (register_in s f.op0_reg) f.off_op0) _ op0 has_op0
    ∙ required_on Op1 (found value_arithmetic m (op1_from f s op0) f.off_op1) _ op1 has_op1
