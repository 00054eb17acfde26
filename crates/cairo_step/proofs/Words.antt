-- A word's parts: the numbers of which it is the sum are its quotients, and its fields and its fault are those of its
-- flags.
use Rattle.std.proofs.Common.{◌≡◌, ℕ, zero, suc, ◌+◌, ◌*◌, ◌/◌, ◌%◌, ◌^◌, ◌<◌, ◌==◌, nat_le, Bool, true, false, ◌&&◌, ◌||◌, not, if◌then◌else◌, pos, ◌-ℤ◌, Option, Some, None, is_some, refl, sym, ap, ◌∙◌, arith, lit<}
use Rattle.std.proofs.Math.Nat.{mod-lt}
use Rattle.std.proofs.lemmas.Bool.Decides.{nat_tests}
use Rattle.cairo_word.specs.Word.{Fields, fields_of, bits_of, register_of, fields_fault_of, word_fault_of, is_choice, is_jump_mix, is_call_mix}
use Rattle.cairo_word.specs.declared.word.Reg.TheVariants.{Ap, Fp}
use Rattle.cairo_word.specs.declared.word.WordFault.{WordFault}
use Rattle.cairo_model.specs.Machine.Steps.{decoded}
use Rattle.cairo_step.specs.Equations.{WordParts, word_of, AreParts}
use Rattle.cairo_step.specs.Working.Split.{Split, split_of, offset_in, flag_in, bit, parts_of, apart, one_of, are_choices, jumps_alone, calls_alone, is_allowed}

-- ---- the parts as numbers

bit_back : (n : ℕ) → n < 2 → bit (n == 1) ≡ n
bit_back zero less = refl
bit_back (suc zero) less = refl
bit_back (suc (suc n)) less = absurd (omega arith)

pub bit_below : (b : Bool) → bit b < 2
bit_below true = lit< tt
bit_below false = lit< tt

flag_bit : (w place : ℕ) → bit (flag_in w place) ≡ w / 2 ^ place % 2
flag_bit w place = bit_back (w / 2 ^ place % 2) (mod-lt _ (lit< tt))

pub parts_back : (p : WordParts) → AreParts p → parts_of (split_of (word_of p)) ≡ p
parts_back p are =
    let w = word_of p in
    let a0 : offset_in w 0 ≡ p.a0 = omega arith in
    let a1 : offset_in w 16 ≡ p.a1 = omega arith in
    let a2 : offset_in w 32 ≡ p.a2 = omega arith in
    let f0 : w / 2 ^ 48 % 2 ≡ p.f0 = omega arith in
    let f1 : w / 2 ^ 49 % 2 ≡ p.f1 = omega arith in
    let f2 : w / 2 ^ 50 % 2 ≡ p.f2 = omega arith in
    let f3 : w / 2 ^ 51 % 2 ≡ p.f3 = omega arith in
    let f4 : w / 2 ^ 52 % 2 ≡ p.f4 = omega arith in
    let f5 : w / 2 ^ 53 % 2 ≡ p.f5 = omega arith in
    let f6 : w / 2 ^ 54 % 2 ≡ p.f6 = omega arith in
    let f7 : w / 2 ^ 55 % 2 ≡ p.f7 = omega arith in
    let f8 : w / 2 ^ 56 % 2 ≡ p.f8 = omega arith in
    let f9 : w / 2 ^ 57 % 2 ≡ p.f9 = omega arith in
    let f10 : w / 2 ^ 58 % 2 ≡ p.f10 = omega arith in
    let f11 : w / 2 ^ 59 % 2 ≡ p.f11 = omega arith in
    let f12 : w / 2 ^ 60 % 2 ≡ p.f12 = omega arith in
    let f13 : w / 2 ^ 61 % 2 ≡ p.f13 = omega arith in
    let f14 : w / 2 ^ 62 % 2 ≡ p.f14 = omega arith in
    λ i. record {
      a0 = a0 i;
      a1 = a1 i;
      a2 = a2 i;
      f0 = (flag_bit w 48 ∙ f0) i;
      f1 = (flag_bit w 49 ∙ f1) i;
      f2 = (flag_bit w 50 ∙ f2) i;
      f3 = (flag_bit w 51 ∙ f3) i;
      f4 = (flag_bit w 52 ∙ f4) i;
      f5 = (flag_bit w 53 ∙ f5) i;
      f6 = (flag_bit w 54 ∙ f6) i;
      f7 = (flag_bit w 55 ∙ f7) i;
      f8 = (flag_bit w 56 ∙ f8) i;
      f9 = (flag_bit w 57 ∙ f9) i;
      f10 = (flag_bit w 58 ∙ f10) i;
      f11 = (flag_bit w 59 ∙ f11) i;
      f12 = (flag_bit w 60 ∙ f12) i;
      f13 = (flag_bit w 61 ∙ f13) i;
      f14 = (flag_bit w 62 ∙ f14) i;
    }

pub are_parts_of : (w : ℕ) → AreParts (parts_of (split_of w))
are_parts_of w = record {
  a0 = mod-lt _ (lit< tt);
  a1 = mod-lt _ (lit< tt);
  a2 = mod-lt _ (lit< tt);
  f0 = bit_below (flag_in w 48);
  f1 = bit_below (flag_in w 49);
  f2 = bit_below (flag_in w 50);
  f3 = bit_below (flag_in w 51);
  f4 = bit_below (flag_in w 52);
  f5 = bit_below (flag_in w 53);
  f6 = bit_below (flag_in w 54);
  f7 = bit_below (flag_in w 55);
  f8 = bit_below (flag_in w 56);
  f9 = bit_below (flag_in w 57);
  f10 = bit_below (flag_in w 58);
  f11 = bit_below (flag_in w 59);
  f12 = bit_below (flag_in w 60);
  f13 = bit_below (flag_in w 61);
  f14 = bit_below (flag_in w 62);
}

pub word_back : (w : ℕ) → w < 2 ^ 63 → w ≡ word_of (parts_of (split_of w))
word_back w less =
    let f0 = flag_bit w 48 in
    let f1 = flag_bit w 49 in
    let f2 = flag_bit w 50 in
    let f3 = flag_bit w 51 in
    let f4 = flag_bit w 52 in
    let f5 = flag_bit w 53 in
    let f6 = flag_bit w 54 in
    let f7 = flag_bit w 55 in
    let f8 = flag_bit w 56 in
    let f9 = flag_bit w 57 in
    let f10 = flag_bit w 58 in
    let f11 = flag_bit w 59 in
    let f12 = flag_bit w 60 in
    let f13 = flag_bit w 61 in
    let f14 = flag_bit w 62 in
    omega (arith, f0, f1, f2, f3, f4, f5, f6, f7, f8, f9, f10, f11, f12, f13, f14)

-- ---- the fields by the flags

abbrev pub pair : Bool → Bool → ℕ
pair a b = bit a + 2 * bit b

abbrev pub triple : Bool → Bool → Bool → ℕ
triple a b c = bit a + 2 * bit b + 4 * bit c

abbrev pub fields_in : Split → Fields
fields_in q = record {
  off_dst = pos q.a0 -ℤ pos 32768;
  off_op0 = pos q.a1 -ℤ pos 32768;
  off_op1 = pos q.a2 -ℤ pos 32768;
  dst_reg = if q.f0 then Fp else Ap;
  op0_reg = if q.f1 then Fp else Ap;
  op1_src = triple q.f2 q.f3 q.f4;
  res_logic = pair q.f5 q.f6;
  pc_update = triple q.f7 q.f8 q.f9;
  ap_update = pair q.f10 q.f11;
  opcode = triple q.f12 q.f13 q.f14;
}

register_is : (n : ℕ) → n < 2 → register_of n ≡ (if n == 1 then Fp else Ap)
register_is zero less = refl
register_is (suc zero) less = refl
register_is (suc (suc n)) less = absurd (omega arith)

pub fields_are : (w : ℕ) → fields_of w ≡ fields_in (split_of w)
fields_are w =
    let f2 = flag_bit w 50 in
    let f3 = flag_bit w 51 in
    let f4 = flag_bit w 52 in
    let f5 = flag_bit w 53 in
    let f6 = flag_bit w 54 in
    let f7 = flag_bit w 55 in
    let f8 = flag_bit w 56 in
    let f9 = flag_bit w 57 in
    let f10 = flag_bit w 58 in
    let f11 = flag_bit w 59 in
    let f12 = flag_bit w 60 in
    let f13 = flag_bit w 61 in
    let f14 = flag_bit w 62 in
    let op1_src : bits_of w 50 3 ≡ triple (flag_in w 50) (flag_in w 51) (flag_in w 52) = omega (arith, f2, f3, f4) in
    let res_logic : bits_of w 53 2 ≡ pair (flag_in w 53) (flag_in w 54) = omega (arith, f5, f6) in
    let pc_update : bits_of w 55 3 ≡ triple (flag_in w 55) (flag_in w 56) (flag_in w 57) = omega (arith, f7, f8, f9) in
    let ap_update : bits_of w 58 2 ≡ pair (flag_in w 58) (flag_in w 59) = omega (arith, f10, f11) in
    let opcode : bits_of w 60 3 ≡ triple (flag_in w 60) (flag_in w 61) (flag_in w 62) = omega (arith, f12, f13, f14) in
    let dst_reg = register_is (w / 2 ^ 48 % 2) (mod-lt _ (lit< tt)) in
    let op0_reg = register_is (w / 2 ^ 49 % 2) (mod-lt _ (lit< tt)) in
    λ i. record {
      off_dst = pos (offset_in w 0) -ℤ pos 32768;
      off_op0 = pos (offset_in w 16) -ℤ pos 32768;
      off_op1 = pos (offset_in w 32) -ℤ pos 32768;
      dst_reg = dst_reg i;
      op0_reg = op0_reg i;
      op1_src = op1_src i;
      res_logic = res_logic i;
      pc_update = pc_update i;
      ap_update = ap_update i;
      opcode = opcode i;
    }

-- ---- the fault by the flags

pub both_left : (a b : Bool) → a && b ≡ true → a ≡ true
both_left true b e = refl
both_left false b e = e

pub both_right : (a b : Bool) → a && b ≡ true → b ≡ true
both_right true b e = e
both_right false b e = absurd (cc)

pub both : (a b : Bool) → a ≡ true → b ≡ true → a && b ≡ true
both a b p q = rw (p, q)

choice_is : (a b c : Bool) → is_choice (triple a b c) ≡ one_of a b c
choice_is true true true = refl
choice_is true true false = refl
choice_is true false true = refl
choice_is true false false = refl
choice_is false true true = refl
choice_is false true false = refl
choice_is false false true = refl
choice_is false false false = refl

all_of_two : (a b : Bool) → not (pair a b == 3) ≡ apart a b
all_of_two true true = refl
all_of_two true false = refl
all_of_two false true = refl
all_of_two false false = refl

pub some_of_two : (a b : Bool) → not (pair a b == 0) ≡ a || b
some_of_two true true = refl
some_of_two true false = refl
some_of_two false true = refl
some_of_two false false = refl

some_of_three : (a b c : Bool) → not (triple a b c == 0) ≡ a || (b || c)
some_of_three true true true = refl
some_of_three true true false = refl
some_of_three true false true = refl
some_of_three true false false = refl
some_of_three false true true = refl
some_of_three false true false = refl
some_of_three false false true = refl
some_of_three false false false = refl

pub first_of_two : (a b : Bool) → apart a b ≡ true → (pair a b == 1) ≡ a
first_of_two true true e = absurd (cc)
first_of_two true false e = refl
first_of_two false true e = refl
first_of_two false false e = refl

pub first_of_three : (a b c : Bool) → one_of a b c ≡ true → (triple a b c == 1) ≡ a
first_of_three true true c e = absurd (cc)
first_of_three true false true e = absurd (cc)
first_of_three true false false e = refl
first_of_three false true true e = absurd (cc)
first_of_three false true false e = refl
first_of_three false false true e = refl
first_of_three false false false e = refl

pub last_of_three : (a b c : Bool) → one_of a b c ≡ true → (triple a b c == 4) ≡ c
last_of_three true true c e = absurd (cc)
last_of_three true false true e = absurd (cc)
last_of_three true false false e = refl
last_of_three false true true e = absurd (cc)
last_of_three false true false e = refl
last_of_three false false true e = refl
last_of_three false false false e = refl

-- what flags keep that exclude each other
pub record Allowed (q : Split) : Type 0 where
  pub op1 : one_of q.f2 q.f3 q.f4 ≡ true
  pub res : apart q.f5 q.f6 ≡ true
  pub pc : one_of q.f7 q.f8 q.f9 ≡ true
  pub ap : apart q.f10 q.f11 ≡ true
  pub opcode : one_of q.f12 q.f13 q.f14 ≡ true
  pub jump : jumps_alone q ≡ true
  pub call : calls_alone q ≡ true

pub allowed : (q : Split) → is_allowed q ≡ true → Allowed q
allowed q is =
    let op1 = both_left _ _ is in
    let mixes = both_right (are_choices q) _ is in
    let from_res = both_right (one_of q.f2 q.f3 q.f4) _ op1 in
    let from_pc = both_right (apart q.f5 q.f6) _ from_res in
    let from_ap = both_right (one_of q.f7 q.f8 q.f9) _ from_pc in
    record {
      op1 = both_left _ _ op1;
      res = both_left _ _ from_res;
      pc = both_left _ _ from_pc;
      ap = both_left _ _ from_ap;
      opcode = both_right (apart q.f10 q.f11) _ from_ap;
      jump = both_left _ _ mixes;
      call = both_right (jumps_alone q) _ mixes;
    }

pub is_allowed_so : (q : Split) → Allowed q → is_allowed q ≡ true
is_allowed_so q a = both _ _ (both _ _ a.op1 (both _ _ a.res (both _ _ a.pc (both _ _ a.ap a.opcode)))) (both _ _ a.jump a.call)

jump_mix_is : (q : Split) → apart q.f10 q.f11 ≡ true → one_of q.f7 q.f8 q.f9 ≡ true
    → not (is_jump_mix (pair q.f5 q.f6) (triple q.f7 q.f8 q.f9) (pair q.f10 q.f11) (triple q.f12 q.f13 q.f14)) ≡ jumps_alone q
jump_mix_is q ap pc =
    let jumps = last_of_three q.f7 q.f8 q.f9 pc in
    let results = some_of_two q.f5 q.f6 in
    let opcodes = some_of_three q.f12 q.f13 q.f14 in
    let moves = first_of_two q.f10 q.f11 ap in
    λ i. not (jumps i && (results i || opcodes i || moves i))

call_mix_is : (q : Split) → one_of q.f12 q.f13 q.f14 ≡ true → not (is_call_mix (pair q.f10 q.f11) (triple q.f12 q.f13 q.f14)) ≡ calls_alone q
call_mix_is q opcode =
    let calls = first_of_three q.f12 q.f13 q.f14 opcode in
    let moves = some_of_two q.f10 q.f11 in
    λ i. not (calls i && moves i)

not_true : (b : Bool) → not b ≡ true → b ≡ false
not_true true e = absurd (cc)
not_true false e = refl

not_so : (b : Bool) → b ≡ false → not b ≡ true
not_so b e = rw e

no_fault_here : (b : Bool) (x : WordFault) (rest : Option WordFault) → (if b then Some x else rest) ≡ None → (b ≡ false) × (rest ≡ None)
no_fault_here true x rest e = absurd (cc)
no_fault_here false x rest e = (refl, e)

no_fault_so : (b : Bool) (x : WordFault) (rest : Option WordFault) → b ≡ false → rest ≡ None → (if b then Some x else rest) ≡ None
no_fault_so b x rest p q = rw (p, q)

not_false : (b : Bool) → not b ≡ false → b ≡ true
not_false true e = refl
not_false false e = absurd (cc)

so_not : (b : Bool) → b ≡ true → not b ≡ false
so_not b e = rw e

pub sound_allowed : (q : Split) → fields_fault_of (fields_in q) ≡ None → Allowed q
sound_allowed q none =
    let one = no_fault_here (not (is_choice (triple q.f2 q.f3 q.f4))) _ _ none in
    let two = no_fault_here (pair q.f5 q.f6 == 3) _ _ one.1 in
    let three = no_fault_here (not (is_choice (triple q.f7 q.f8 q.f9))) _ _ two.1 in
    let four = no_fault_here (pair q.f10 q.f11 == 3) _ _ three.1 in
    let five = no_fault_here (not (is_choice (triple q.f12 q.f13 q.f14))) _ _ four.1 in
    let six = no_fault_here (is_jump_mix (pair q.f5 q.f6) (triple q.f7 q.f8 q.f9) (pair q.f10 q.f11) (triple q.f12 q.f13 q.f14)) _ _ five.1 in
    let seven = no_fault_here (is_call_mix (pair q.f10 q.f11) (triple q.f12 q.f13 q.f14)) _ _ six.1 in
    let pc = sym (choice_is q.f7 q.f8 q.f9) ∙ not_false _ three.0 in
    let moves = sym (all_of_two q.f10 q.f11) ∙ not_so _ four.0 in
    let opcode = sym (choice_is q.f12 q.f13 q.f14) ∙ not_false _ five.0 in
    record {
      op1 = sym (choice_is q.f2 q.f3 q.f4) ∙ not_false _ one.0;
      res = sym (all_of_two q.f5 q.f6) ∙ not_so _ two.0;
      pc = pc;
      ap = moves;
      opcode = opcode;
      jump = sym (jump_mix_is q moves pc) ∙ not_so _ six.0;
      call = sym (call_mix_is q opcode) ∙ not_so _ seven.0;
    }

pub allowed_sound : (q : Split) → Allowed q → fields_fault_of (fields_in q) ≡ None
allowed_sound q a =
    no_fault_so (not (is_choice (triple q.f2 q.f3 q.f4))) _ _ (so_not _ (choice_is q.f2 q.f3 q.f4 ∙ a.op1))
    (no_fault_so (pair q.f5 q.f6 == 3) _ _ (not_true _ (all_of_two q.f5 q.f6 ∙ a.res))
    (no_fault_so (not (is_choice (triple q.f7 q.f8 q.f9))) _ _ (so_not _ (choice_is q.f7 q.f8 q.f9 ∙ a.pc))
    (no_fault_so (pair q.f10 q.f11 == 3) _ _ (not_true _ (all_of_two q.f10 q.f11 ∙ a.ap))
    (no_fault_so (not (is_choice (triple q.f12 q.f13 q.f14))) _ _ (so_not _ (choice_is q.f12 q.f13 q.f14 ∙ a.opcode))
    (no_fault_so (is_jump_mix (pair q.f5 q.f6) (triple q.f7 q.f8 q.f9) (pair q.f10 q.f11) (triple q.f12 q.f13 q.f14)) _ _ (not_true _ (jump_mix_is q a.ap a.pc ∙ a.jump))
    (no_fault_so (is_call_mix (pair q.f10 q.f11) (triple q.f12 q.f13 q.f14)) _ _ (not_true _ (call_mix_is q a.opcode ∙ a.call)) refl))))))

-- ---- words that are decoded

high_bit : (w : ℕ) → nat_le (2 ^ 63) w ≡ false → w < 2 ^ 63
high_bit w e = grind (arith, nat_tests)

low_bits : (w : ℕ) → w < 2 ^ 63 → nat_le (2 ^ 63) w ≡ false
low_bits w e = grind (arith, nat_tests)

decoded_is : (w : ℕ) (f : Fields) → decoded w ≡ Some f → (word_fault_of w ≡ None) × (f ≡ fields_of w)
decoded_is w f e = undecided (word_fault_of w) (fields_of w) f e
  where
    undecided : (o : Option WordFault) (u f : Fields) → (if is_some o then None else Some u) ≡ Some f → (o ≡ None) × (f ≡ u)
    undecided None u f e = (refl, cc)
    undecided (Some x) u f e = absurd (cc)

decodes_so : (w : ℕ) (f : Fields) → word_fault_of w ≡ None → f ≡ fields_of w → decoded w ≡ Some f
decodes_so w f none is = undecided (word_fault_of w) (fields_of w) f none is
  where
    undecided : (o : Option WordFault) (u f : Fields) → o ≡ None → f ≡ u → (if is_some o then None else Some u) ≡ Some f
    undecided o u f none is = rw (none, is)

-- what a word that is decoded keeps
pub decoded_gives : (w : ℕ) (f : Fields) → decoded w ≡ Some f → (w < 2 ^ 63) × Allowed (split_of w) × (f ≡ fields_in (split_of w))
decoded_gives w f e =
    let whole = decoded_is w f e in
    let rest = no_fault_here (nat_le (2 ^ 63) w) _ _ whole.0 in
    (high_bit w rest.0, sound_allowed (split_of w) (ap fields_fault_of (sym (fields_are w)) ∙ rest.1), whole.1 ∙ fields_are w)

pub decodes : (w : ℕ) → w < 2 ^ 63 → Allowed (split_of w) → decoded w ≡ Some (fields_in (split_of w))
decodes w less a =
    decodes_so w (fields_in (split_of w))
    (no_fault_so (nat_le (2 ^ 63) w) _ _ (low_bits w less) (ap fields_fault_of (fields_are w) ∙ allowed_sound (split_of w) a))
    (sym (fields_are w))
