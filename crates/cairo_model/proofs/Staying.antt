-- A fact on values that arithmetic keeps holds of the registers after a step.
use Rattle.std.proofs.Common.{◌≡◌, ℕ, Bool, true, false, ◌==◌, if◌then◌else◌, Option, Some, None, ℤ, subst, option_and_then}
use Rattle.cairo_word.specs.Word.{Fields, instruction_size}
use Rattle.cairo_model.specs.Machine.Steps.{Arithmetic, Registers, Moves, moved, found, register_in, op1_from, result_of, offset_number}

pub record Closed {V : Type 0} (A : Arithmetic V) (Good : V → Type 0) : Type 0 where
  pub sums : (a b c : V) → Good a → Good b → A.sum a b ≡ Some c → Good c
  pub moves : (a : V) (n : ℕ) (c : V) → Good a → moved A a n ≡ Some c → Good c
  pub products : (a b c : V) → A.product a b ≡ Some c → Good c

pub record GoodRegisters {V : Type 0} (Good : V → Type 0) (s : Registers V) : Type 0 where
  pub pc : Good s.pc
  pub ap : Good s.ap
  pub fp : Good s.fp

either : {V R : Type 0} (b : Bool) (o p : Option V) (x : V) → (o ≡ Some x → R) → (p ≡ Some x → R) → (if b then o else p) ≡ Some x → R
either true o p x l r e = l e
either false o p x l r e = r e

one : {V : Type 0} (Good : V → Type 0) (u x : V) → Good u → Some u ≡ Some x → Good x
one Good u x good e = subst Good (cc) good

found_in : {X Y R : Type 0} (o : Option X) (f : X → Option Y) (y : Y) → option_and_then f o ≡ Some y → ((x : X) → f x ≡ Some y → R) → R
found_in (Some x) f y eq go = go x eq
found_in None f y eq go = absurd (cc)

module _ {V : Type 0} (A : Arithmetic V) (Good : V → Type 0) (closed : Closed A Good) (m : V → Option V) (good : (a v : V) → m a ≡ Some v → Good v) where
  found_good : (from : V) (offset : ℤ) (x : V) → found A m from offset ≡ Some x → Good x
  found_good from offset x e = found_in (moved A from (offset_number offset)) m x e (λ a cell. good a x cell)

  result_good : (f : Fields) (op0 op1 x : V) → Good op0 → Good op1 → result_of A f op0 op1 ≡ Some x → Good x
  result_good f op0 op1 x g h e =
      either (f.pc_update == 4) _ _ x (one Good op1 x h)
      (either (f.res_logic == 0) _ _ x (one Good op1 x h)
      (either (f.res_logic == 1) _ _ x (closed.sums op0 op1 x g h) (closed.products op0 op1 x))) e

  pub step_good : (s t : Registers V) → GoodRegisters Good s → Moves A m s t → GoodRegisters Good t
  step_good s t g by =
      let dst = found_good (register_in s by.f.dst_reg) by.f.off_dst by.dst by.has_dst in
      let op0 = found_good (register_in s by.f.op0_reg) by.f.off_op0 by.op0 by.has_op0 in
      let op1 = found_good (op1_from by.f s by.op0) by.f.off_op1 by.op1 by.has_op1 in
      let res = result_good by.f by.op0 by.op1 by.res op0 op1 by.has_result in
      record {
        pc = either (by.f.pc_update == 0) _ _ t.pc (closed.moves s.pc (instruction_size by.f) t.pc g.pc)
            (either (by.f.pc_update == 1) _ _ t.pc (one Good by.res t.pc res)
            (either (by.f.pc_update == 2) _ _ t.pc (closed.sums s.pc by.res t.pc g.pc res)
            (either (A.is_zero by.dst) _ _ t.pc (closed.moves s.pc (instruction_size by.f) t.pc g.pc) (closed.sums s.pc by.op1 t.pc g.pc op1)))) by.leads_to;
        ap = either (by.f.opcode == 1) _ _ t.ap (closed.moves s.ap 2 t.ap g.ap)
            (either (by.f.ap_update == 0) _ _ t.ap (one Good s.ap t.ap g.ap)
            (either (by.f.ap_update == 1) _ _ t.ap (closed.sums s.ap by.res t.ap g.ap res) (closed.moves s.ap 1 t.ap g.ap))) by.allocates;
        fp = either (by.f.opcode == 1) _ _ t.fp (closed.moves s.ap 2 t.fp g.ap)
            (either (by.f.opcode == 2) _ _ t.fp (one Good by.dst t.fp dst) (one Good s.fp t.fp g.fp)) by.frames;
      }
