-- A step and a run from their parts.
use Rattle.std.proofs.Common.{◌≡◌, ℕ, Option, Some, List, Result, Ok, Err, IfOk, refl, sym, ap, ◌∙◌}
use Rattle.cairo_word.specs.Word.{Fields}
use Rattle.cairo_model.proofs.Outcomes.{bind_goes}
use Rattle.cairo_model.specs.Machine.Steps.{Registers, ◌>>=◌, register_in}
use Rattle.cairo_model.specs.Machine.Values.{Datum}
use Rattle.cairo_model.specs.declared.fault.StepFault.TheVariants.{Dst, Op0}
use Rattle.pie_replay.proofs.Operands.{required_on}
use Rattle.seg_runner.specs.Deductions.{by_hash, caller_frame, return_address}
use Rattle.seg_runner.specs.Endings.{completed}
use Rattle.seg_runner.specs.Memories.{GrowingMemory, put_where_absent}
use Rattle.seg_runner.specs.Refusals.{RunCause, faulty}
use Rattle.seg_runner.specs.Starts.{started}
use Rattle.seg_runner.specs.Steps.{Configuration, concluded, fetched_fields, op1_at, operand_at, run_step, with_first_puts, with_last_puts}
use Rattle.seg_runner.specs.Working.Running.{RunEnd, ended, run_of, runs_on}

pub bound_on : {A B E : Type 0} (r : Result A E) (f : A → Result B E) (x : A) → r ≡ Ok x → r >>= f ≡ f x
bound_on r f x is = rw is refl

pub bind_stops : {A B E : Type 0} (r : Result A E) (f : A → Result B E) (e : E) → r ≡ Err e → r >>= f ≡ Err e
bind_stops r f e is = rw is refl

pub bind_fails : {A B E : Type 0} (r : Result A E) (f : A → Result B E) (e : E) (x : A) → r ≡ Ok x → f x ≡ Err e → r >>= f ≡ Err e
bind_fails r f e x is rest = rw is rest

pub if_ok : {A E : Type 0} (P Q : A → Type 0) (r : Result A E) → ((x : A) → P x → Q x) → IfOk r P → IfOk r Q
if_ok P Q (Ok x) step p = step x p
if_ok P Q (Err e) step p = tt

-- ---- a step

pub first_puts : (n : ℕ) (m a b c : GrowingMemory) (f : Fields) (s : Registers Datum) (x y : Datum) (back frame : Option Datum) → back ≡ return_address f s → frame ≡ caller_frame f s
    → put_where_absent n m x (by_hash m x) ≡ Ok a → put_where_absent n a y (by_hash a y) ≡ Ok b → put_where_absent n b y back ≡ Ok c
    → put_where_absent n c x frame ≡ with_first_puts n m f s x y
unfolding with_first_puts
first_puts n m a b c f s x y back frame is_back is_frame at_x at_y with_back = sym (
    bound_on (put_where_absent n m x (by_hash m x)) _ a at_x
    ∙ bound_on (put_where_absent n a y (by_hash a y)) _ b at_y
    ∙ bound_on (put_where_absent n b y (return_address f s)) _ c (ap (put_where_absent n b y) (sym is_back) ∙ with_back)
    ∙ ap (put_where_absent n c x) (sym is_frame))

module _ (n : ℕ) (now : Configuration) (f : Fields) (x y z : Datum) (first last : GrowingMemory)
    (fetched : fetched_fields n now ≡ Ok f) (dst_at : operand_at (register_in now.registers f.dst_reg) f.off_dst ≡ Some x) (op0_at : operand_at (register_in now.registers f.op0_reg) f.off_op0 ≡ Some y)
    (begun : with_first_puts n now.memory f now.registers x y ≡ Ok first) (op1_is : op1_at n first f now.registers y ≡ Ok z) (put : with_last_puts n first f x y z ≡ Ok last) where
  pub step_is : run_step n now ≡ (concluded n last f now.registers x y z >>= λ registers. Ok (record { memory = last; registers = registers }))
  unfolding run_step
  step_is =
      bound_on (fetched_fields n now) _ f fetched
      ∙ required_on (faulty n Dst) (operand_at (register_in now.registers f.dst_reg) f.off_dst) _ x dst_at
      ∙ required_on (faulty n Op0) (operand_at (register_in now.registers f.op0_reg) f.off_op0) _ y op0_at
      ∙ bound_on (with_first_puts n now.memory f now.registers x y) _ first begun
      ∙ bound_on (op1_at n first f now.registers y) _ z op1_is
      ∙ bound_on (with_last_puts n first f x y z) _ last put

  pub step_ends : (t : Registers Datum) → concluded n last f now.registers x y z ≡ Ok t → run_step n now ≡ Ok (record { memory = last; registers = t })
  step_ends t e = step_is ∙ bound_on (concluded n last f now.registers x y z) _ t e

-- ---- a run

module _ (words : List ℕ) (main limit : ℕ) where
  pub no_start : (cause : RunCause) → started words main ≡ Err cause → run_of words main limit ≡ Err cause
  unfolding run_of
  no_start cause e = bind_stops (started words main) _ cause e

  module _ (start : Configuration) (starts : started words main ≡ Ok start) where
    pub run_stops : (cause : RunCause) → runs_on limit 0 start ≡ Err cause → run_of words main limit ≡ Err cause
    unfolding run_of
    run_stops cause e = bind_fails (started words main) _ cause start starts (bind_stops (runs_on limit 0 start) _ cause e)

    pub run_fails : (end : RunEnd) (cause : RunCause) → runs_on limit 0 start ≡ Ok end → completed end.steps end.memory ≡ Err cause → run_of words main limit ≡ Err cause
    unfolding run_of
    run_fails end cause home e =
        bind_fails (started words main) _ cause start starts
        (bind_fails (runs_on limit 0 start) _ cause end home
        (bind_stops (completed end.steps end.memory) _ cause e))

    pub run_ends : (end : RunEnd) (memory : GrowingMemory) → runs_on limit 0 start ≡ Ok end → completed end.steps end.memory ≡ Ok memory → run_of words main limit ≡ Ok (ended end.steps memory)
    unfolding run_of
    run_ends end memory home e =
        bind_goes (started words main) _ (ended end.steps memory) start starts
        (bind_goes (runs_on limit 0 start) _ (ended end.steps memory) end home
        (bind_goes (completed end.steps end.memory) _ (ended end.steps memory) memory e refl))
