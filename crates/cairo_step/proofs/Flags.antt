-- Products of flags are 0 exactly where the flags exclude each other.
use Rattle.std.proofs.Common.{◌≡◌, Bool, true, false, ◌&&◌, ◌||◌, not, refl, arith}
use Rattle.cairo_step.specs.Equations.{◌⊗◌, Excludes}
use Rattle.cairo_step.specs.Working.Split.{Split, bit, parts_of, apart, one_of}
use Rattle.cairo_step.proofs.Words.{Allowed}

apart_by : (a b : Bool) → bit a ⊗ bit b ≡ 0 → apart a b ≡ true
apart_by true true e = absurd (omega (arith, e))
apart_by true false e = refl
apart_by false b e = refl

product_by : (a b : Bool) → apart a b ≡ true → bit a ⊗ bit b ≡ 0
product_by true true e = absurd (cc)
product_by true false e = refl
product_by false true e = refl
product_by false false e = refl

one_by : (a b c : Bool) → apart a b ≡ true → apart a c ≡ true → apart b c ≡ true → one_of a b c ≡ true
one_by true true c ab ac bc = absurd (cc)
one_by true false true ab ac bc = absurd (cc)
one_by true false false ab ac bc = refl
one_by false true true ab ac bc = absurd (cc)
one_by false true false ab ac bc = refl
one_by false false c ab ac bc = refl

one_gives : (a b c : Bool) → one_of a b c ≡ true → (apart a b ≡ true) × (apart a c ≡ true) × (apart b c ≡ true)
one_gives true true c e = absurd (cc)
one_gives true false true e = absurd (cc)
one_gives true false false e = (refl, refl, refl)
one_gives false true true e = absurd (cc)
one_gives false true false e = (refl, refl, refl)
one_gives false false c e = (refl, refl, refl)

-- one flag with none of six
record AloneOf (j a b c d e f : Bool) : Type 0 where
  first : apart j a ≡ true
  second : apart j b ≡ true
  third : apart j c ≡ true
  fourth : apart j d ≡ true
  fifth : apart j e ≡ true
  sixth : apart j f ≡ true

alone_by : (j a b c d e f : Bool) → AloneOf j a b c d e f → not (j && (a || b || (c || (d || e)) || f)) ≡ true
alone_by false a b c d e f by = refl
alone_by true true b c d e f by = by.first
alone_by true false true c d e f by = by.second
alone_by true false false true d e f by = by.third
alone_by true false false false true e f by = by.fourth
alone_by true false false false false true f by = by.fifth
alone_by true false false false false false true by = by.sixth
alone_by true false false false false false false by = refl

alone_gives : (j a b c d e f : Bool) → not (j && (a || b || (c || (d || e)) || f)) ≡ true → AloneOf j a b c d e f
alone_gives false a b c d e f is = record { first = refl; second = refl; third = refl; fourth = refl; fifth = refl; sixth = refl }
alone_gives true true b c d e f is = absurd (cc)
alone_gives true false true c d e f is = absurd (cc)
alone_gives true false false true d e f is = absurd (cc)
alone_gives true false false false true e f is = absurd (cc)
alone_gives true false false false false true f is = absurd (cc)
alone_gives true false false false false false true is = absurd (cc)
alone_gives true false false false false false false is = record { first = refl; second = refl; third = refl; fourth = refl; fifth = refl; sixth = refl }

two_by : (j a b : Bool) → apart j a ≡ true → apart j b ≡ true → not (j && (a || b)) ≡ true
two_by false a b p q = refl
two_by true true b p q = p
two_by true false b p q = q

two_gives : (j a b : Bool) → not (j && (a || b)) ≡ true → (apart j a ≡ true) × (apart j b ≡ true)
two_gives false a b is = (refl, refl)
two_gives true true b is = absurd (cc)
two_gives true false true is = absurd (cc)
two_gives true false false is = (refl, refl)

pub allowed_by : (q : Split) → Excludes (parts_of q) → Allowed q
allowed_by q e = record {
  op1 = one_by q.f2 q.f3 q.f4 (apart_by q.f2 q.f3 e.f2_f3) (apart_by q.f2 q.f4 e.f2_f4) (apart_by q.f3 q.f4 e.f3_f4);
  res = apart_by q.f5 q.f6 e.f5_f6;
  pc = one_by q.f7 q.f8 q.f9 (apart_by q.f7 q.f8 e.f7_f8) (apart_by q.f7 q.f9 e.f7_f9) (apart_by q.f8 q.f9 e.f8_f9);
  ap = apart_by q.f10 q.f11 e.f10_f11;
  opcode = one_by q.f12 q.f13 q.f14 (apart_by q.f12 q.f13 e.f12_f13) (apart_by q.f12 q.f14 e.f12_f14) (apart_by q.f13 q.f14 e.f13_f14);
  jump = alone_by q.f9 q.f5 q.f6 q.f12 q.f13 q.f14 q.f10 (record {
    first = apart_by q.f9 q.f5 e.f9_f5;
    second = apart_by q.f9 q.f6 e.f9_f6;
    third = apart_by q.f9 q.f12 e.f9_f12;
    fourth = apart_by q.f9 q.f13 e.f9_f13;
    fifth = apart_by q.f9 q.f14 e.f9_f14;
    sixth = apart_by q.f9 q.f10 e.f9_f10;
  });
  call = two_by q.f12 q.f10 q.f11 (apart_by q.f12 q.f10 e.f12_f10) (apart_by q.f12 q.f11 e.f12_f11);
}

pub excludes_by : (q : Split) → Allowed q → Excludes (parts_of q)
excludes_by q a =
    let op1 = one_gives q.f2 q.f3 q.f4 a.op1 in
    let pc = one_gives q.f7 q.f8 q.f9 a.pc in
    let opcode = one_gives q.f12 q.f13 q.f14 a.opcode in
    let jump = alone_gives q.f9 q.f5 q.f6 q.f12 q.f13 q.f14 q.f10 a.jump in
    let call = two_gives q.f12 q.f10 q.f11 a.call in
    record {
      f2_f3 = product_by q.f2 q.f3 op1.0;
      f2_f4 = product_by q.f2 q.f4 op1.1;
      f3_f4 = product_by q.f3 q.f4 op1.2;
      f5_f6 = product_by q.f5 q.f6 a.res;
      f7_f8 = product_by q.f7 q.f8 pc.0;
      f7_f9 = product_by q.f7 q.f9 pc.1;
      f8_f9 = product_by q.f8 q.f9 pc.2;
      f10_f11 = product_by q.f10 q.f11 a.ap;
      f12_f13 = product_by q.f12 q.f13 opcode.0;
      f12_f14 = product_by q.f12 q.f14 opcode.1;
      f13_f14 = product_by q.f13 q.f14 opcode.2;
      f9_f5 = product_by q.f9 q.f5 jump.first;
      f9_f6 = product_by q.f9 q.f6 jump.second;
      f9_f10 = product_by q.f9 q.f10 jump.sixth;
      f9_f12 = product_by q.f9 q.f12 jump.third;
      f9_f13 = product_by q.f9 q.f13 jump.fourth;
      f9_f14 = product_by q.f9 q.f14 jump.fifth;
      f12_f10 = product_by q.f12 q.f10 call.0;
      f12_f11 = product_by q.f12 q.f11 call.1;
    }
