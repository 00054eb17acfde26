-- A step in one arithmetic carried over to another, by a map that keeps what the machine uses.
use Rattle.std.proofs.Common.{◌≡◌, ℕ, Bool, true, false, ◌==◌, if◌then◌else◌, Option, Some, ℤ, refl, ap, subst}
use Rattle.cairo_word.specs.Word.{Fields, instruction_size}
use Rattle.cairo_word.specs.declared.word.Reg.{Reg}
use Rattle.cairo_word.specs.declared.word.Reg.TheVariants.{Ap, Fp}
use Rattle.cairo_model.specs.Machine.Steps.{Arithmetic, Registers, Moves, moved, found, spelled, register_in, after, op1_from, result_of, next_pc, next_ap, next_fp, offset_number, decoded}
use Rattle.cairo_model.proofs.Outcomes.{some_is, and_then_gives, and_then_goes}

-- A map from one arithmetic to another that keeps what is defined. It need keep the test for zero at good values alone.
pub record Carries {V W : Type 0} (A : Arithmetic V) (B : Arithmetic W) (h : V → W) (Good : V → Type 0) : Type 0 where
  pub sums : (a b c : V) → A.sum a b ≡ Some c → B.sum (h a) (h b) ≡ Some (h c)
  pub products : (a b c : V) → A.product a b ≡ Some c → B.product (h a) (h b) ≡ Some (h c)
  pub numerals : (n : ℕ) → h (A.numeral n) ≡ B.numeral n
  pub reads : (a : V) (n : ℕ) → A.read a ≡ Some n → B.read (h a) ≡ Some n
  pub zeros : (a : V) → Good a → A.is_zero a ≡ B.is_zero (h a)

-- a choice is carried over where both sides are
chosen : {V W : Type 0} (h : V → W) (b : Bool) (o p : Option V) (o' p' : Option W) (x : V) →
    (o ≡ Some x → o' ≡ Some (h x)) → (p ≡ Some x → p' ≡ Some (h x)) → (if b then o else p) ≡ Some x → (if b then o' else p') ≡ Some (h x)
chosen h true o p o' p' x l r e = l e
chosen h false o p o' p' x l r e = r e

choice : {V W : Type 0} (h : V → W) (b : Bool) (u v : V) → h (if b then u else v) ≡ (if b then h u else h v)
choice h true u v = refl
choice h false u v = refl

kept : {V W : Type 0} (h : V → W) (u x : V) → Some u ≡ Some x → ◌≡◌ {A = Option W} (Some (h u)) (Some (h x))
kept h u x e = ap (λ y. Some (h y)) (some_is u x e)

choice_of_four : {V W : Type 0} (h : V → W) (a b c : Bool) (t u v w : V) →
    h (if a then t else (if b then u else (if c then v else w))) ≡ (if a then h t else (if b then h u else (if c then h v else h w)))
choice_of_four h true b c t u v w = refl
choice_of_four h false true c t u v w = refl
choice_of_four h false false true t u v w = refl
choice_of_four h false false false t u v w = refl

abbrev pub state_of : {V W : Type 0} → (V → W) → Registers V → Registers W
state_of h s = record { pc = h s.pc; ap = h s.ap; fp = h s.fp }

module _ {V W : Type 0} (A : Arithmetic V) (B : Arithmetic W) (h : V → W) (Good : V → Type 0) (carries : Carries A B h Good) where
  moved_carried : (v : V) (n : ℕ) (x : V) → moved A v n ≡ Some x → moved B (h v) n ≡ Some (h x)
  moved_carried v n x e = subst (λ (k : W). B.sum (h v) k ≡ Some (h x)) (carries.numerals n) (carries.sums v (A.numeral n) x e)

  after_carried : (f : Fields) (s : Registers V) (x : V) → after A f s ≡ Some x → after B f (state_of h s) ≡ Some (h x)
  after_carried f s x e = moved_carried s.pc (instruction_size f) x e

  from_carried : (f : Fields) (s : Registers V) (op0 : V) → h (op1_from f s op0) ≡ op1_from f (state_of h s) (h op0)
  from_carried f s op0 = choice_of_four h (f.op1_src == 0) (f.op1_src == 1) (f.op1_src == 2) op0 s.pc s.fp s.ap

  spelled_carried : (cell : V) (f : Fields) → spelled A cell ≡ Some f → spelled B (h cell) ≡ Some f
  spelled_carried cell f e =
      and_then_gives (A.read cell) decoded f e (λ word reads decodes.
      and_then_goes (B.read (h cell)) decoded word f (carries.reads cell word reads) decodes)

  result_carried : (f : Fields) (op0 op1 x : V) → result_of A f op0 op1 ≡ Some x → result_of B f (h op0) (h op1) ≡ Some (h x)
  result_carried f op0 op1 x e =
      chosen h (f.pc_update == 4) _ _ _ _ x (kept h op1 x)
      (chosen h (f.res_logic == 0) _ _ _ _ x (kept h op1 x)
      (chosen h (f.res_logic == 1) _ _ _ _ x (carries.sums op0 op1 x) (carries.products op0 op1 x))) e

  jump_carried : (f : Fields) (s : Registers V) (dst op1 x : V) → Good dst →
      (if A.is_zero dst then after A f s else A.sum s.pc op1) ≡ Some x →
      (if B.is_zero (h dst) then after B f (state_of h s) else B.sum (h s.pc) (h op1)) ≡ Some (h x)
  jump_carried f s dst op1 x good e =
      subst (λ (b : Bool). (if b then after B f (state_of h s) else B.sum (h s.pc) (h op1)) ≡ Some (h x)) (carries.zeros dst good)
      (chosen h (A.is_zero dst) (after A f s) (A.sum s.pc op1) (after B f (state_of h s)) (B.sum (h s.pc) (h op1)) x (after_carried f s x) (carries.sums s.pc op1 x) e)

  pc_carried : (f : Fields) (s : Registers V) (dst op1 res x : V) → Good dst → next_pc A f s dst op1 res ≡ Some x → next_pc B f (state_of h s) (h dst) (h op1) (h res) ≡ Some (h x)
  pc_carried f s dst op1 res x good e =
      chosen h (f.pc_update == 0) _ _ _ _ x (after_carried f s x)
      (chosen h (f.pc_update == 1) _ _ _ _ x (kept h res x)
      (chosen h (f.pc_update == 2) _ _ _ _ x (carries.sums s.pc res x) (jump_carried f s dst op1 x good))) e

  ap_carried : (f : Fields) (s : Registers V) (res x : V) → next_ap A f s res ≡ Some x → next_ap B f (state_of h s) (h res) ≡ Some (h x)
  ap_carried f s res x e =
      chosen h (f.opcode == 1) _ _ _ _ x (moved_carried s.ap 2 x)
      (chosen h (f.ap_update == 0) _ _ _ _ x (kept h s.ap x)
      (chosen h (f.ap_update == 1) _ _ _ _ x (carries.sums s.ap res x) (moved_carried s.ap 1 x))) e

  fp_carried : (f : Fields) (s : Registers V) (dst x : V) → next_fp A f s dst ≡ Some x → next_fp B f (state_of h s) (h dst) ≡ Some (h x)
  fp_carried f s dst x e =
      chosen h (f.opcode == 1) _ _ _ _ x (moved_carried s.ap 2 x)
      (chosen h (f.opcode == 2) _ _ _ _ x (kept h dst x) (kept h s.fp x)) e

  module _ (m : V → Option V) (n : W → Option W) (contained : (a v : V) → m a ≡ Some v → n (h a) ≡ Some (h v)) (good : (a v : V) → m a ≡ Some v → Good v) where
    found_carried : (from : V) (offset : ℤ) (x : V) → found A m from offset ≡ Some x → found B n (h from) offset ≡ Some (h x)
    found_carried from offset x e =
        and_then_gives (moved A from (offset_number offset)) m x e (λ a at cell.
        and_then_goes (moved B (h from) (offset_number offset)) n (h a) (h x) (moved_carried from (offset_number offset) a at) (contained a x cell))

    found_good : (from : V) (offset : ℤ) (x : V) → found A m from offset ≡ Some x → Good x
    found_good from offset x e = and_then_gives (moved A from (offset_number offset)) m x e (λ a at cell. good a x cell)

    register_carried : (s : Registers V) (reg : Reg) (offset : ℤ) (x : V) → found A m (register_in s reg) offset ≡ Some x → found B n (register_in (state_of h s) reg) offset ≡ Some (h x)
    register_carried s Ap offset x e = found_carried s.ap offset x e
    register_carried s Fp offset x e = found_carried s.fp offset x e

    pub step_carried : (s t : Registers V) → Moves A m s t → Moves B n (state_of h s) (state_of h t)
    step_carried s t by = record {
      cell = h by.cell;
      f = by.f;
      dst = h by.dst;
      op0 = h by.op0;
      op1 = h by.op1;
      res = h by.res;
      is_fetched = contained s.pc by.cell by.is_fetched;
      is_decoded = spelled_carried by.cell by.f by.is_decoded;
      has_dst = register_carried s by.f.dst_reg by.f.off_dst by.dst by.has_dst;
      has_op0 = register_carried s by.f.op0_reg by.f.off_op0 by.op0 by.has_op0;
      has_op1 = subst (λ (from : W). found B n from by.f.off_op1 ≡ Some (h by.op1)) (from_carried by.f s by.op0) (found_carried (op1_from by.f s by.op0) by.f.off_op1 by.op1 by.has_op1);
      has_result = result_carried by.f by.op0 by.op1 by.res by.has_result;
      calls = λ is. (after_carried by.f s by.op0 (by.calls is).0, ap h (by.calls is).1);
      asserts = λ is. ap h (by.asserts is);
      leads_to = pc_carried by.f s by.dst by.op1 by.res t.pc (found_good (register_in s by.f.dst_reg) by.f.off_dst by.dst by.has_dst) by.leads_to;
      allocates = ap_carried by.f s by.res t.ap by.allocates;
      frames = fp_carried by.f s by.dst t.fp by.frames;
    }
