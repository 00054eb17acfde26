-- A row by cases is a step of the machine, and a step is a row by cases.
use Rattle.std.proofs.Common.{◌≡◌, ℕ, suc, ◌+◌, ◌-◌, ◌<◌, ◌^◌, ◌==◌, Bool, true, false, ◌&&◌, ◌||◌, not, if◌then◌else◌, pos, negsuc, ◌-ℤ◌, Option, Some, inl, inr, refl, sym, ap, ◌∙◌, arith, lit<}
use Rattle.std.proofs.lemmas.Bool.{cases_lt}
use Rattle.std.proofs.Math.Nat.{mod-lt}
use Rattle.cairo_word.specs.Word.{Fields, instruction_size}
use Rattle.cairo_word.specs.declared.word.Reg.TheVariants.{Ap, Fp}
use Rattle.goldi_field.specs.Numbers.{prime, sum_of}
use Rattle.cairo_model.specs.Machine.Steps.{Registers, field_arithmetic, Moves, Step, found, register_in, op1_from, offset_number, result_of, next_pc, next_ap, next_fp, after}
use Rattle.cairo_model.proofs.Inversion.{moves, moved_so, field_exact}
use Rattle.cairo_step.specs.Equations.{◌⊕◌, ◌⊖◌, ◌⊗◌, half}
use Rattle.cairo_step.specs.Working.Split.{Split, split_of, apart, one_of, register_at, z_cell, result_in, pc_after, pc_in, ap_in, fp_in}
use Rattle.cairo_step.proofs.Words.{pair, triple, fields_in, Allowed, first_of_three, last_of_three, decoded_gives, decodes, both, both_left, both_right}
use Rattle.cairo_step.proofs.Cased.{Leads, Cased, eq_is, is_eq}

-- ---- addresses

below_half : (a k : ℕ) → a + suc k ≡ 32768 → pos a -ℤ pos 32768 ≡ negsuc k
below_half a k e = grind arith

above_half : (a k : ℕ) → a ≡ 32768 + k → pos a -ℤ pos 32768 ≡ pos k
above_half a k e = grind arith

offset_so : (from a : ℕ) → a < 2 ^ 16 → sum_of from (offset_number (pos a -ℤ pos 32768)) ≡ from ⊕ a ⊖ half
offset_so from a less = elim (cases_lt a 32768) [
  | inl low ↦
      let is = below_half a (32767 - a) (omega arith) in
      let number : sum_of from (prime - (32767 - a + 1)) ≡ from ⊕ a ⊖ half = omega arith in
      ap (λ z. sum_of from (offset_number z)) is ∙ number
  | inr high ↦
      let is = above_half a (a - 32768) (omega arith) in
      let number : sum_of from (a - 32768) ≡ from ⊕ a ⊖ half = omega arith in
      ap (λ z. sum_of from (offset_number z)) is ∙ number
]

register_so : (b : Bool) (s : Registers ℕ) → register_in s (if b then Fp else Ap) ≡ register_at b s
register_so true s = refl
register_so false s = refl

from_by : (a b c : Bool) (y pc fp at : ℕ) → one_of a b c ≡ true
    → (if triple a b c == 0 then y else (if triple a b c == 1 then pc else (if triple a b c == 2 then fp else at))) ≡ (if a then pc else (if b then fp else (if c then at else y)))
from_by true true c y pc fp at e = absurd (cc)
from_by true false true y pc fp at e = absurd (cc)
from_by true false false y pc fp at e = refl
from_by false true true y pc fp at e = absurd (cc)
from_by false true false y pc fp at e = refl
from_by false false true y pc fp at e = refl
from_by false false false y pc fp at e = refl

module _ (m : ℕ → Option ℕ) (s : Registers ℕ) where
  cell_so : (b : Bool) (a : ℕ) → a < 2 ^ 16 → found field_arithmetic m (register_in s (if b then Fp else Ap)) (pos a -ℤ pos 32768) ≡ m (register_at b s ⊕ a ⊖ half)
  cell_so b a less = ap m (offset_so _ a less ∙ ap (λ n. n ⊕ a ⊖ half) (register_so b s))

  op1_so : (q : Split) (y : ℕ) → q.a2 < 2 ^ 16 → Allowed q → found field_arithmetic m (op1_from (fields_in q) s y) (pos q.a2 -ℤ pos 32768) ≡ m (z_cell q s y)
  op1_so q y less a = ap m (offset_so _ q.a2 less ∙ ap (λ n. n ⊕ q.a2 ⊖ half) (from_by q.f2 q.f3 q.f4 y s.pc s.fp s.ap a.op1))

-- ---- values

no_result : (f9 f5 f6 o v : Bool) → not (f9 && (f5 || f6 || o || v)) ≡ true → f9 ≡ true → (f5 ≡ false) × (f6 ≡ false)
no_result true true f6 o v e is = absurd (cc)
no_result true false true o v e is = absurd (cc)
no_result true false false o v e is = (refl, refl)
no_result false f5 f6 o v e is = absurd (cc)

result_by : (j a b : Bool) (sum product z : ℕ) → apart a b ≡ true → (j ≡ true → (a ≡ false) × (b ≡ false))
    → (if j then Some z else (if pair a b == 0 then Some z else (if pair a b == 1 then Some sum else Some product))) ≡ Some (if a then sum else (if b then product else z))
result_by true true b sum product z e none = absurd (let f = (none refl).0 in cc)
result_by true false true sum product z e none = absurd (let f = (none refl).1 in cc)
result_by true false false sum product z e none = refl
result_by false true true sum product z e none = absurd (cc)
result_by false true false sum product z e none = refl
result_by false false true sum product z e none = refl
result_by false false false sum product z e none = refl

result_so : (q : Split) → Allowed q → (y z : ℕ) → result_of field_arithmetic (fields_in q) y z ≡ Some (result_in q y z)
result_so q a y z = result_by (triple q.f7 q.f8 q.f9 == 4) q.f5 q.f6 (y ⊕ z) (y ⊗ z) z a.res
    (λ is. no_result q.f9 q.f5 q.f6 _ _ a.jump (sym (last_of_three q.f7 q.f8 q.f9 a.pc) ∙ is))

after_so : (q : Split) → Allowed q → (s : Registers ℕ) → sum_of s.pc (instruction_size (fields_in q)) ≡ pc_after q s
after_so q a s = let size = first_of_three q.f2 q.f3 q.f4 a.op1 in λ i. s.pc ⊕ (if size i then 2 else 1)

pc_by : (a b c nil : Bool) (next res less far : ℕ) → one_of a b c ≡ true
    → (if triple a b c == 0 then Some next else (if triple a b c == 1 then Some res else (if triple a b c == 2 then Some less else (if nil then Some next else Some far))))
    ≡ Some (if a then res else (if b then less else (if c && not nil then far else next)))
pc_by true true c nil next res less far e = absurd (cc)
pc_by true false true nil next res less far e = absurd (cc)
pc_by true false false nil next res less far e = refl
pc_by false true true nil next res less far e = absurd (cc)
pc_by false true false nil next res less far e = refl
pc_by false false true true next res less far e = refl
pc_by false false true false next res less far e = refl
pc_by false false false nil next res less far e = refl

pc_so : (q : Split) → Allowed q → (s : Registers ℕ) (x z r : ℕ) → next_pc field_arithmetic (fields_in q) s x z r ≡ Some (pc_in q s x z r)
pc_so q a s x z r =
    pc_by q.f7 q.f8 q.f9 (x == 0) (sum_of s.pc (instruction_size (fields_in q))) r (s.pc ⊕ r) (s.pc ⊕ z) a.pc
    ∙ ap (λ n. Some (if q.f7 then r else (if q.f8 then s.pc ⊕ r else (if q.f9 && not (x == 0) then s.pc ⊕ z else n)))) (after_so q a s)

ap_by : (calls a b : Bool) (two stay more one : ℕ) → apart a b ≡ true
    → (if calls then Some two else (if pair a b == 0 then Some stay else (if pair a b == 1 then Some more else Some one)))
    ≡ Some (if calls then two else (if a then more else (if b then one else stay)))
ap_by true a b two stay more one e = refl
ap_by false true true two stay more one e = absurd (cc)
ap_by false true false two stay more one e = refl
ap_by false false true two stay more one e = refl
ap_by false false false two stay more one e = refl

ap_so : (q : Split) → Allowed q → (s : Registers ℕ) (r : ℕ) → next_ap field_arithmetic (fields_in q) s r ≡ Some (ap_in q s r)
ap_so q a s r =
    ap_by (triple q.f12 q.f13 q.f14 == 1) q.f10 q.f11 (s.ap ⊕ 2) s.ap (s.ap ⊕ r) (s.ap ⊕ 1) a.ap
    ∙ ap (λ b. Some (if b then s.ap ⊕ 2 else (if q.f10 then s.ap ⊕ r else (if q.f11 then s.ap ⊕ 1 else s.ap)))) (first_of_three q.f12 q.f13 q.f14 a.opcode)

fp_by : (a b c : Bool) (two x stay : ℕ) → one_of a b c ≡ true
    → (if triple a b c == 1 then Some two else (if triple a b c == 2 then Some x else Some stay)) ≡ Some (if a then two else (if b then x else stay))
fp_by true true c two x stay e = absurd (cc)
fp_by true false true two x stay e = absurd (cc)
fp_by true false false two x stay e = refl
fp_by false true true two x stay e = absurd (cc)
fp_by false true false two x stay e = refl
fp_by false false true two x stay e = refl
fp_by false false false two x stay e = refl

fp_so : (q : Split) → Allowed q → (s : Registers ℕ) (x : ℕ) → next_fp field_arithmetic (fields_in q) s x ≡ Some (fp_in q s x)
fp_so q a s x = fp_by q.f12 q.f13 q.f14 (s.ap ⊕ 2) x s.fp a.opcode

-- ---- what a call and an assertion ask

keeps_gives : (a b c p q : Bool) → one_of a b c ≡ true → (if a then p else (if c then q else true)) ≡ true → (triple a b c ≡ 1 → p ≡ true) × (triple a b c ≡ 4 → q ≡ true)
keeps_gives true true c p q e k = absurd (cc)
keeps_gives true false true p q e k = absurd (cc)
keeps_gives true false false p q e k = (λ _. k, λ is. absurd (omega (arith, is)))
keeps_gives false true true p q e k = absurd (cc)
keeps_gives false true false p q e k = (λ is. absurd (omega (arith, is)), λ is. absurd (omega (arith, is)))
keeps_gives false false true p q e k = (λ is. absurd (omega (arith, is)), λ _. k)
keeps_gives false false false p q e k = (λ is. absurd (omega (arith, is)), λ is. absurd (omega (arith, is)))

keeps_so : (a b c p q : Bool) → one_of a b c ≡ true → (triple a b c ≡ 1 → p ≡ true) → (triple a b c ≡ 4 → q ≡ true) → (if a then p else (if c then q else true)) ≡ true
keeps_so true true c p q e one four = absurd (cc)
keeps_so true false true p q e one four = absurd (cc)
keeps_so true false false p q e one four = one refl
keeps_so false true true p q e one four = absurd (cc)
keeps_so false true false p q e one four = refl
keeps_so false false true p q e one four = four refl
keeps_so false false false p q e one four = refl

some_is : (x y : ℕ) → Some x ≡ Some y → x ≡ y
some_is x y e = cc

-- ---- rows and steps

module _ (m : ℕ → Option ℕ) (s t : Registers ℕ) where
  pub row_steps : Cased m s t → Step field_arithmetic m s t
  row_steps by =
      let q = split_of by.w in
      let a = by.is_allowed in
      let r = result_in q by.y by.z in
      let keeps = keeps_gives q.f12 q.f13 q.f14 (by.x == s.fp && by.y == pc_after q s) (by.x == r) a.opcode by.leads.keeps in
      moved_so field_arithmetic field_exact m s t (record {
        cell = by.w;
        f = fields_in q;
        dst = by.x;
        op0 = by.y;
        op1 = by.z;
        res = r;
        is_fetched = by.is_fetched;
        is_decoded = decodes by.w by.has_low_bits a;
        has_dst = cell_so m s q.f0 q.a0 (mod-lt _ (lit< tt)) ∙ by.has_x;
        has_op0 = cell_so m s q.f1 q.a1 (mod-lt _ (lit< tt)) ∙ by.has_y;
        has_op1 = op1_so m s q by.y (mod-lt _ (lit< tt)) a ∙ by.has_z;
        has_result = result_so q a by.y by.z;
        calls = λ is. (
          ap Some (after_so q a s ∙ sym (eq_is _ _ (both_right (by.x == s.fp) _ (keeps.0 is)))),
          eq_is _ _ (both_left (by.x == s.fp) _ (keeps.0 is)),
        );
        asserts = λ is. sym (eq_is _ _ (keeps.1 is));
        leads_to = pc_so q a s by.x by.z r ∙ ap Some (sym by.leads.pc);
        allocates = ap_so q a s r ∙ ap Some (sym by.leads.ap);
        frames = fp_so q a s by.x ∙ ap Some (sym by.leads.fp);
      })

  module _ (by : Moves field_arithmetic m s t) (q : Split) (same : by.f ≡ fields_in q) (a : Allowed q) where
    res_is : by.res ≡ result_in q by.op0 by.op1
    res_is = some_is _ _ (sym by.has_result ∙ ap (λ (f : Fields). result_of field_arithmetic f by.op0 by.op1) same ∙ result_so q a by.op0 by.op1)

    leads_with : (r : ℕ) → by.res ≡ r → Leads q s t by.dst by.op0 by.op1 r
    leads_with r is = record {
      pc = some_is _ _ (sym by.leads_to ∙ ap (λ (f : Fields). next_pc field_arithmetic f s by.dst by.op1 by.res) same ∙ pc_so q a s by.dst by.op1 by.res ∙ ap (λ n. Some (pc_in q s by.dst by.op1 n)) is);
      ap = some_is _ _ (sym by.allocates ∙ ap (λ (f : Fields). next_ap field_arithmetic f s by.res) same ∙ ap_so q a s by.res ∙ ap (λ n. Some (ap_in q s n)) is);
      fp = some_is _ _ (sym by.frames ∙ ap (λ (f : Fields). next_fp field_arithmetic f s by.dst) same ∙ fp_so q a s by.dst);
      keeps = keeps_so q.f12 q.f13 q.f14 (by.dst == s.fp && by.op0 == pc_after q s) (by.dst == r) a.opcode
          (λ one. let asked = by.calls (ap (λ (f : Fields). f.opcode) same ∙ one) in
          let next : Some by.op0 ≡ Some (pc_after q s) = sym asked.0 ∙ ap (λ (f : Fields). after field_arithmetic f s) same ∙ ap Some (after_so q a s) in
          both _ _ (is_eq by.dst s.fp asked.1) (is_eq by.op0 (pc_after q s) (some_is _ _ next)))
          (λ four. is_eq by.dst r (sym (by.asserts (ap (λ (f : Fields). f.opcode) same ∙ four)) ∙ is));
    }

  pub steps_row : Step field_arithmetic m s t → Cased m s t
  steps_row step =
      let by = moves field_arithmetic field_exact m s t step in
      let q = split_of by.cell in
      let word = decoded_gives by.cell by.f by.is_decoded in
      let a = word.1 in
      let same = word.2 in
      record {
        w = by.cell;
        is_fetched = by.is_fetched;
        has_low_bits = word.0;
        is_allowed = a;
        x = by.dst;
        y = by.op0;
        z = by.op1;
        has_x = sym (ap (λ (f : Fields). found field_arithmetic m (register_in s f.dst_reg) f.off_dst) same ∙ cell_so m s q.f0 q.a0 (mod-lt _ (lit< tt))) ∙ by.has_dst;
        has_y = sym (ap (λ (f : Fields). found field_arithmetic m (register_in s f.op0_reg) f.off_op0) same ∙ cell_so m s q.f1 q.a1 (mod-lt _ (lit< tt))) ∙ by.has_op0;
        has_z = sym (ap (λ (f : Fields). found field_arithmetic m (op1_from f s by.op0) f.off_op1) same ∙ op1_so m s q by.op0 (mod-lt _ (lit< tt)) a) ∙ by.has_op1;
        leads = leads_with by q same a (result_in q by.op0 by.op1) (res_is by q same a);
      }
