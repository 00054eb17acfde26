-- The same by cases, as a row is tested: a word's parts by quotients, its flags as tests, and each equation by the flags
-- that are set.
use Rattle.std.specs.Prelude.{ℕ, ◌/◌, ◌%◌, ◌^◌, ◌==◌, Bool, true, false, ◌&&◌, ◌||◌, not, nat_lt, if◌then◌else◌, Option, Some, None}
use Rattle.cairo_model.specs.Machine.Steps.{Registers}
use Rattle.cairo_step.specs.Equations.{◌⊕◌, ◌⊖◌, ◌⊗◌, WordParts, half}

pub record Split : Type 0 where
  pub a0 : ℕ
  pub a1 : ℕ
  pub a2 : ℕ
  pub f0 : Bool
  pub f1 : Bool
  pub f2 : Bool
  pub f3 : Bool
  pub f4 : Bool
  pub f5 : Bool
  pub f6 : Bool
  pub f7 : Bool
  pub f8 : Bool
  pub f9 : Bool
  pub f10 : Bool
  pub f11 : Bool
  pub f12 : Bool
  pub f13 : Bool
  pub f14 : Bool

-- the 16 bits of a word from a place on
abbrev pub offset_in : ℕ → ℕ → ℕ
offset_in w place = w / 2 ^ place % 2 ^ 16

-- whether the bit at a place is set
abbrev pub flag_in : ℕ → ℕ → Bool
flag_in w place = w / 2 ^ place % 2 == 1

abbrev pub split_of : ℕ → Split
split_of w = record {
  a0 = offset_in w 0;
  a1 = offset_in w 16;
  a2 = offset_in w 32;
  f0 = flag_in w 48;
  f1 = flag_in w 49;
  f2 = flag_in w 50;
  f3 = flag_in w 51;
  f4 = flag_in w 52;
  f5 = flag_in w 53;
  f6 = flag_in w 54;
  f7 = flag_in w 55;
  f8 = flag_in w 56;
  f9 = flag_in w 57;
  f10 = flag_in w 58;
  f11 = flag_in w 59;
  f12 = flag_in w 60;
  f13 = flag_in w 61;
  f14 = flag_in w 62;
}

-- none of two flags with another
abbrev pub apart : Bool → Bool → Bool
apart a b = not (a && b)

-- at most one of three flags
abbrev pub one_of : Bool → Bool → Bool → Bool
one_of a b c = not (a && (b || c)) && not (b && c)

-- each group has one flag at most
abbrev pub are_choices : Split → Bool
are_choices q = one_of q.f2 q.f3 q.f4 && (apart q.f5 q.f6 && (one_of q.f7 q.f8 q.f9 && (apart q.f10 q.f11 && one_of q.f12 q.f13 q.f14)))

-- a conditional jump has no result, no opcode and no move of ap by a result
abbrev pub jumps_alone : Split → Bool
jumps_alone q = not (q.f9 && (q.f5 || q.f6 || (q.f12 || (q.f13 || q.f14)) || q.f10))

-- a call moves ap in its own way alone
abbrev pub calls_alone : Split → Bool
calls_alone q = not (q.f12 && (q.f10 || q.f11))

abbrev pub is_allowed : Split → Bool
is_allowed q = are_choices q && (jumps_alone q && calls_alone q)

abbrev pub register_at : Bool → Registers ℕ → ℕ
register_at f s = if f then s.fp else s.ap

abbrev pub x_cell : Split → Registers ℕ → ℕ
x_cell q s = register_at q.f0 s ⊕ q.a0 ⊖ half

abbrev pub y_cell : Split → Registers ℕ → ℕ
y_cell q s = register_at q.f1 s ⊕ q.a1 ⊖ half

abbrev pub z_from : Split → Registers ℕ → ℕ → ℕ
z_from q s y = if q.f2 then s.pc else (if q.f3 then s.fp else (if q.f4 then s.ap else y))

abbrev pub z_cell : Split → Registers ℕ → ℕ → ℕ
z_cell q s y = z_from q s y ⊕ q.a2 ⊖ half

abbrev pub result_in : Split → ℕ → ℕ → ℕ
result_in q y z = if q.f5 then y ⊕ z else (if q.f6 then y ⊗ z else z)

-- the address after the instruction
abbrev pub pc_after : Split → Registers ℕ → ℕ
pc_after q s = s.pc ⊕ (if q.f2 then 2 else 1)

abbrev pub pc_in : Split → Registers ℕ → ℕ → ℕ → ℕ → ℕ
pc_in q s x z r =
    if q.f7 then r
    else (if q.f8 then s.pc ⊕ r
    else (if q.f9 && not (x == 0) then s.pc ⊕ z
    else pc_after q s))

abbrev pub ap_in : Split → Registers ℕ → ℕ → ℕ
ap_in q s r =
    if q.f12 then s.ap ⊕ 2
    else (if q.f10 then s.ap ⊕ r
    else (if q.f11 then s.ap ⊕ 1
    else s.ap))

abbrev pub fp_in : Split → Registers ℕ → ℕ → ℕ
fp_in q s x = if q.f12 then s.ap ⊕ 2 else (if q.f13 then x else s.fp)

-- what a call and an assertion ask
abbrev pub keeps_opcode : Split → Registers ℕ → ℕ → ℕ → ℕ → Bool
keeps_opcode q s x y r =
    if q.f12 then x == s.fp && y == pc_after q s
    else (if q.f14 then x == r else true)

abbrev pub leads_to : Split → Registers ℕ → Registers ℕ → ℕ → ℕ → ℕ → ℕ → Bool
leads_to q s t x y z r = t.pc == pc_in q s x z r && t.ap == ap_in q s r && t.fp == fp_in q s x && keeps_opcode q s x y r

-- a cell is there and passes a test
abbrev pub passes : Option ℕ → (ℕ → Bool) → Bool
passes None test = false
passes (Some x) test = test x

unfoldable pub is_row : (ℕ → Option ℕ) → Registers ℕ → Registers ℕ → Bool
is_row m s t =
    passes (m s.pc) (λ w. nat_lt w (2 ^ 63) && is_allowed (split_of w)
    && passes (m (x_cell (split_of w) s)) (λ x.
    passes (m (y_cell (split_of w) s)) (λ y.
    passes (m (z_cell (split_of w) s y)) (λ z.
    leads_to (split_of w) s t x y z (result_in (split_of w) y z)))))

-- the parts as numbers
abbrev pub bit : Bool → ℕ
bit b = if b then 1 else 0

abbrev pub parts_of : Split → WordParts
parts_of q = record {
  a0 = q.a0;
  a1 = q.a1;
  a2 = q.a2;
  f0 = bit q.f0;
  f1 = bit q.f1;
  f2 = bit q.f2;
  f3 = bit q.f3;
  f4 = bit q.f4;
  f5 = bit q.f5;
  f6 = bit q.f6;
  f7 = bit q.f7;
  f8 = bit q.f8;
  f9 = bit q.f9;
  f10 = bit q.f10;
  f11 = bit q.f11;
  f12 = bit q.f12;
  f13 = bit q.f13;
  f14 = bit q.f14;
}
