-- The equations of a row hold exactly where the row goes by cases.
use Rattle.std.proofs.Common.{◌≡◌, ◌≢◌, ℕ, ◌+◌, ◌*◌, ◌%◌, ◌-◌, ◌<◌, ◌==◌, Bool, true, false, ◌&&◌, ◌||◌, not, if◌then◌else◌, Option, refl, sym, ap, ◌∙◌, subst, arith, lit<}
use Rattle.std.proofs.lemmas.Bool.Decides.{nat_tests}
use Rattle.std.proofs.Math.Nat.{mod-lt}
use Rattle.goldi_field.specs.Numbers.{prime, IsFelt, IsInverse}
use Rattle.goldi_field.proofs.Prime.{zero_product, inverse}
use Rattle.cairo_model.specs.Machine.Steps.{Registers}
use Rattle.cairo_model.specs.Certificate.Records.{AreRegisters}
use Rattle.cairo_model.specs.Machine.FieldMemories.{IsFieldMemory}
use Rattle.cairo_step.specs.Equations.{◌⊕◌, ◌⊖◌, ◌⊗◌, WordParts, Equations, Moved, Excludes, x_address, y_address, z_address, row_result, half}
use Rattle.cairo_step.specs.Working.Split.{Split, split_of, bit, parts_of, apart, one_of, x_cell, y_cell, z_cell, result_in, ap_in, fp_in}
use Rattle.cairo_step.proofs.Words.{Allowed, parts_back, are_parts_of, word_back, both, both_left, both_right}
use Rattle.cairo_step.proofs.Flags.{allowed_by, excludes_by}
use Rattle.cairo_step.proofs.Cased.{Leads, Cased, eq_is, is_eq}

-- ---- sums in which flags choose

select : (b : Bool) (u v : ℕ) → IsFelt u → IsFelt v → bit b ⊗ u ⊕ (1 ⊖ bit b) ⊗ v ≡ (if b then u else v)
select true u v fu fv = omega arith
select false u v fu fv = omega arith

select_four : (a b c : Bool) (pc fp at y : ℕ) → IsFelt pc → IsFelt fp → IsFelt at → IsFelt y → one_of a b c ≡ true
    → bit a ⊗ pc ⊕ bit b ⊗ fp ⊕ bit c ⊗ at ⊕ (1 ⊖ bit a ⊖ bit b ⊖ bit c) ⊗ y ≡ (if a then pc else (if b then fp else (if c then at else y)))
select_four true true c pc fp at y fpc ffp fat fy e = absurd (cc)
select_four true false true pc fp at y fpc ffp fat fy e = absurd (cc)
select_four true false false pc fp at y fpc ffp fat fy e = omega arith
select_four false true true pc fp at y fpc ffp fat fy e = absurd (cc)
select_four false true false pc fp at y fpc ffp fat fy e = omega arith
select_four false false true pc fp at y fpc ffp fat fy e = omega arith
select_four false false false pc fp at y fpc ffp fat fy e = omega arith

one_times : (n : ℕ) → IsFelt n → 1 ⊗ n ≡ n
one_times n f = omega arith

product_alone : (u z n : ℕ) → n < prime → 0 ⊗ u ⊕ n ⊕ (1 ⊖ 0 ⊖ 1) ⊗ z ≡ n
product_alone u z n f = omega arith

-- a product whose first factor is 0
no_times : (u n : ℕ) → 0 ⊗ u ⊗ n ≡ 0
no_times u n = ap (λ k. k ⊗ n) (at_zero u) ∙ at_zero n
  where
    at_zero : (k : ℕ) → 0 ⊗ k ≡ 0
    at_zero k = omega arith

select_result : (a b : Bool) (y z : ℕ) → IsFelt y → IsFelt z → apart a b ≡ true
    → bit a ⊗ (y ⊕ z) ⊕ bit b ⊗ y ⊗ z ⊕ (1 ⊖ bit a ⊖ bit b) ⊗ z ≡ (if a then y ⊕ z else (if b then y ⊗ z else z))
select_result true true y z fy fz e = absurd (cc)
select_result true false y z fy fz e = let nothing = no_times y z in omega arith
select_result false true y z fy fz e = product_alone (y ⊕ z) z (1 ⊗ y ⊗ z) (mod-lt _ (lit< tt)) ∙ ap (λ n. n ⊗ z) (one_times y fy)
select_result false false y z fy fz e = let nothing = no_times y z in omega arith

select_ap : (a b c : Bool) (at r : ℕ) → IsFelt at → IsFelt r → apart a b ≡ true → not (c && (a || b)) ≡ true
    → at ⊕ bit a ⊗ r ⊕ bit b ⊕ 2 ⊗ bit c ≡ (if c then at ⊕ 2 else (if a then at ⊕ r else (if b then at ⊕ 1 else at)))
select_ap true true c at r fat fr e alone = absurd (cc)
select_ap true false true at r fat fr e alone = absurd (cc)
select_ap true false false at r fat fr e alone = omega arith
select_ap false true true at r fat fr e alone = absurd (cc)
select_ap false true false at r fat fr e alone = omega arith
select_ap false false true at r fat fr e alone = omega arith
select_ap false false false at r fat fr e alone = omega arith

select_fp : (a b c : Bool) (fp at x : ℕ) → IsFelt fp → IsFelt x → one_of a b c ≡ true
    → (1 ⊖ bit a ⊖ bit b) ⊗ fp ⊕ bit b ⊗ x ⊕ bit a ⊗ (at ⊕ 2) ≡ (if a then at ⊕ 2 else (if b then x else fp))
select_fp true true c fp at x ffp fx e = absurd (cc)
select_fp true false true fp at x ffp fx e = absurd (cc)
select_fp true false false fp at x ffp fx e = omega arith
select_fp false true true fp at x ffp fx e = absurd (cc)
select_fp false true false fp at x ffp fx e = omega arith
select_fp false false true fp at x ffp fx e = omega arith
select_fp false false false fp at x ffp fx e = omega arith

-- ---- the next pc

-- the three lines on it
record PcLines (a b c d : Bool) (pc next x z r v : ℕ) : Type 0 where
  moves : (1 ⊖ bit c) ⊗ next ≡ (1 ⊖ bit a ⊖ bit b ⊖ bit c) ⊗ (pc ⊕ 1 ⊕ bit d) ⊕ bit a ⊗ r ⊕ bit b ⊗ (pc ⊕ r)
  branches : bit c ⊗ x ⊗ (next ⊖ pc ⊖ z) ≡ 0
  falls_through : bit c ⊗ (x ⊗ v ⊖ 1) ⊗ (next ⊖ pc ⊖ 1 ⊖ bit d) ≡ 0

-- an inverse, or 0 for 0
record InverseOrZero (x v : ℕ) : Type 0 where
  none : x ≡ 0 → v ≡ 0
  some : x ≢ 0 → IsInverse x v

size_so : (d : Bool) (pc : ℕ) → pc ⊕ 1 ⊕ bit d ≡ pc ⊕ (if d then 2 else 1)
size_so true pc = omega arith
size_so false pc = omega arith

-- a difference that is 0
step_is : (next pc k : ℕ) → IsFelt next → next ⊖ pc ⊖ k ≡ 0 → IsFelt pc → IsFelt k → next ≡ pc ⊕ k
step_is next pc k fn e fpc fk = omega arith

is_step : (next pc k : ℕ) → IsFelt pc → IsFelt k → next ≡ pc ⊕ k → next ⊖ pc ⊖ k ≡ 0
is_step next pc k fpc fk e = omega arith

size_is : (next pc : ℕ) (d : Bool) → IsFelt next → IsFelt pc → next ⊖ pc ⊖ 1 ⊖ bit d ≡ 0 → next ≡ pc ⊕ (if d then 2 else 1)
size_is next pc true fn fpc e = omega arith
size_is next pc false fn fpc e = omega arith

is_size : (next pc : ℕ) (d : Bool) → IsFelt pc → next ≡ pc ⊕ (if d then 2 else 1) → next ⊖ pc ⊖ 1 ⊖ bit d ≡ 0
is_size next pc true fpc e = omega arith
is_size next pc false fpc e = omega arith

not_is : (n k : ℕ) → (n == k) ≡ false → n ≢ k
not_is n k e = grind (arith, nat_tests)

by_test : {R : Type 0} (b : Bool) → (b ≡ true → R) → (b ≡ false → R) → R
by_test true l r = l refl
by_test false l r = r refl

-- where x is 0 the factor in the last line is -1, and else 0
factor_at_zero : (x v : ℕ) → x ≡ 0 → 1 ⊗ (x ⊗ v ⊖ 1) ≡ prime - 1
factor_at_zero x v e = ap (λ n. 1 ⊗ (n ⊗ v ⊖ 1)) e ∙ at_zero v
  where
    at_zero : (v : ℕ) → 1 ⊗ (0 ⊗ v ⊖ 1) ≡ prime - 1
    at_zero v = omega arith

factor_else : (x v n : ℕ) → x ⊗ v ≡ 1 → 1 ⊗ (x ⊗ v ⊖ 1) ⊗ n ≡ 0
factor_else x v n e = ap (λ k. 1 ⊗ (k ⊖ 1) ⊗ n) e ∙ at_one n
  where
    at_one : (n : ℕ) → 1 ⊗ (1 ⊖ 1) ⊗ n ≡ 0
    at_one n = omega arith

times_zero : (k n : ℕ) → n ≡ 0 → k ⊗ n ≡ 0
times_zero k n e = ap (λ j. k ⊗ j) e ∙ at_zero k
  where
    at_zero : (k : ℕ) → k ⊗ 0 ≡ 0
    at_zero k = omega arith

zero_times : (x n : ℕ) → x ≡ 0 → 1 ⊗ x ⊗ n ≡ 0
zero_times x n e = ap (λ j. 1 ⊗ j ⊗ n) e ∙ at_zero n
  where
    at_zero : (n : ℕ) → 1 ⊗ 0 ⊗ n ≡ 0
    at_zero n = omega arith

below : (n : ℕ) → IsFelt (n % prime)
below n = mod-lt n (lit< tt)

module _ (d : Bool) (pc next x z r v : ℕ) (fpc : IsFelt pc) (fnext : IsFelt next) (fx : IsFelt x) (fz : IsFelt z) (fr : IsFelt r) (inv : InverseOrZero x v) where
  jump_gives : 1 ⊗ x ⊗ (next ⊖ pc ⊖ z) ≡ 0 → 1 ⊗ (x ⊗ v ⊖ 1) ⊗ (next ⊖ pc ⊖ 1 ⊖ bit d) ≡ 0
      → (nil : Bool) → (x == 0) ≡ nil → next ≡ (if not nil then pc ⊕ z else pc ⊕ (if d then 2 else 1))
  jump_gives far near true is =
      let product : (prime - 1) ⊗ (next ⊖ pc ⊖ 1 ⊖ bit d) ≡ 0 = sym (ap (λ k. k ⊗ (next ⊖ pc ⊖ 1 ⊖ bit d)) (factor_at_zero x v (eq_is x 0 is))) ∙ near in
      size_is next pc d fnext fpc (zero_product (prime - 1) (next ⊖ pc ⊖ 1 ⊖ bit d) (lit< tt) (below _) (λ e. absurd (omega (arith, e))) product)
  jump_gives far near false is =
      let product : x ⊗ (next ⊖ pc ⊖ z) ≡ 0 = sym (ap (λ k. k ⊗ (next ⊖ pc ⊖ z)) (one_times x fx)) ∙ far in
      step_is next pc z fnext (zero_product x (next ⊖ pc ⊖ z) fx (below _) (not_is x 0 is) product) fpc fz

  jump_goes : (nil : Bool) → (x == 0) ≡ nil → next ≡ (if not nil then pc ⊕ z else pc ⊕ (if d then 2 else 1))
      → (1 ⊗ x ⊗ (next ⊖ pc ⊖ z) ≡ 0) × (1 ⊗ (x ⊗ v ⊖ 1) ⊗ (next ⊖ pc ⊖ 1 ⊖ bit d) ≡ 0)
  jump_goes true is e = (zero_times x _ (eq_is x 0 is), times_zero _ _ (is_size next pc d fpc e))
  jump_goes false is e = (times_zero _ _ (is_step next pc z fpc fz e), factor_else x v _ (inv.some (not_is x 0 is)).1)

  pc_gives : (a b c : Bool) → one_of a b c ≡ true → PcLines a b c d pc next x z r v
      → next ≡ (if a then r else (if b then pc ⊕ r else (if c && not (x == 0) then pc ⊕ z else pc ⊕ (if d then 2 else 1))))
  pc_gives true true c e by = absurd (cc)
  pc_gives true false true e by = absurd (cc)
  pc_gives true false false e by = let moves = by.moves in omega arith
  pc_gives false true true e by = absurd (cc)
  pc_gives false true false e by = let moves = by.moves in omega arith
  pc_gives false false true e by = jump_gives by.branches by.falls_through (x == 0) refl
  pc_gives false false false e by = let moves = by.moves in let whole : next ≡ pc ⊕ 1 ⊕ bit d = omega arith in whole ∙ size_so d pc

  pc_goes : (a b c : Bool) → one_of a b c ≡ true
      → next ≡ (if a then r else (if b then pc ⊕ r else (if c && not (x == 0) then pc ⊕ z else pc ⊕ (if d then 2 else 1))))
      → PcLines a b c d pc next x z r v
  pc_goes true true c e is = absurd (cc)
  pc_goes true false true e is = absurd (cc)
  pc_goes true false false e is = record { moves = omega arith; branches = no_times x _; falls_through = no_times (x ⊗ v ⊖ 1) _ }
  pc_goes false true true e is = absurd (cc)
  pc_goes false true false e is = record { moves = omega arith; branches = no_times x _; falls_through = no_times (x ⊗ v ⊖ 1) _ }
  pc_goes false false true e is = let both_lines = jump_goes (x == 0) refl is in record { moves = omega arith; branches = both_lines.0; falls_through = both_lines.1 }
  pc_goes false false false e is = let whole : next ≡ pc ⊕ 1 ⊕ bit d = is ∙ sym (size_so d pc) in record { moves = omega arith; branches = no_times x _; falls_through = no_times (x ⊗ v ⊖ 1) _ }

-- ---- what a call and an assertion ask

record KeepsLines (a c d : Bool) (pc fp x y r : ℕ) : Type 0 where
  keeps_fp : bit a ⊗ (x ⊖ fp) ≡ 0
  keeps_pc : bit a ⊗ (y ⊖ pc ⊖ 1 ⊖ bit d) ≡ 0
  asserts : bit c ⊗ (x ⊖ r) ≡ 0

module _ (d : Bool) (pc fp x y r : ℕ) (fpc : IsFelt pc) (ffp : IsFelt fp) (fx : IsFelt x) (fy : IsFelt y) (fr : IsFelt r) where
  keeps_gives : (a b c : Bool) → one_of a b c ≡ true → KeepsLines a c d pc fp x y r
      → (if a then x == fp && y == pc ⊕ (if d then 2 else 1) else (if c then x == r else true)) ≡ true
  keeps_gives true true c e by = absurd (cc)
  keeps_gives true false true e by = absurd (cc)
  keeps_gives true false false e by =
      let first = by.keeps_fp in
      let same : x ≡ fp = omega arith in
      let away : y ⊖ pc ⊖ 1 ⊖ bit d ≡ 0 = sym (one_times (y ⊖ pc ⊖ 1 ⊖ bit d) (below _)) ∙ by.keeps_pc in
      both _ _ (is_eq x fp same) (is_eq y (pc ⊕ (if d then 2 else 1)) (size_is y pc d fy fpc away))
  keeps_gives false true true e by = absurd (cc)
  keeps_gives false true false e by = refl
  keeps_gives false false true e by = let last = by.asserts in let same : x ≡ r = omega arith in is_eq x r same
  keeps_gives false false false e by = refl

  keeps_goes : (a b c : Bool) → one_of a b c ≡ true
      → (if a then x == fp && y == pc ⊕ (if d then 2 else 1) else (if c then x == r else true)) ≡ true → KeepsLines a c d pc fp x y r
  keeps_goes true true c e is = absurd (cc)
  keeps_goes true false true e is = absurd (cc)
  keeps_goes true false false e is =
      let same : x ≡ fp = eq_is x fp (both_left (x == fp) _ is) in
      let next : y ≡ pc ⊕ (if d then 2 else 1) = eq_is y _ (both_right (x == fp) _ is) in
      record { keeps_fp = omega arith; keeps_pc = times_zero 1 _ (is_size y pc d fpc next); asserts = omega arith }
  keeps_goes false true true e is = absurd (cc)
  keeps_goes false true false e is = record { keeps_fp = omega arith; keeps_pc = omega arith; asserts = omega arith }
  keeps_goes false false true e is = let same : x ≡ r = eq_is x r is in record { keeps_fp = omega arith; keeps_pc = omega arith; asserts = omega arith }
  keeps_goes false false false e is = record { keeps_fp = omega arith; keeps_pc = omega arith; asserts = omega arith }

-- ---- the three cells and the lines between states, at the parts of a word

result_felt : (q : Split) (y z : ℕ) → IsFelt z → IsFelt (result_in q y z)
result_felt q y z fz = by_flags q.f5 q.f6
  where
    by_flags : (a b : Bool) → IsFelt (if a then y ⊕ z else (if b then y ⊗ z else z))
    by_flags true b = below (y + z)
    by_flags false true = below (y * z)
    by_flags false false = fz

module _ (q : Split) (a : Allowed q) (s t : Registers ℕ) (fs : AreRegisters s) (ft : AreRegisters t) where
  x_same : x_address (parts_of q) s ≡ x_cell q s
  x_same = ap (λ n. n ⊕ q.a0 ⊖ half) (select q.f0 s.fp s.ap fs.fp fs.ap)

  y_same : y_address (parts_of q) s ≡ y_cell q s
  y_same = ap (λ n. n ⊕ q.a1 ⊖ half) (select q.f1 s.fp s.ap fs.fp fs.ap)

  z_same : (y : ℕ) → IsFelt y → z_address (parts_of q) s y ≡ z_cell q s y
  z_same y fy = ap (λ n. n ⊕ q.a2 ⊖ half) (select_four q.f2 q.f3 q.f4 s.pc s.fp s.ap y fs.pc fs.fp fs.ap fy a.op1)

  result_same : (y z : ℕ) → IsFelt y → IsFelt z → row_result (parts_of q) y z ≡ result_in q y z
  result_same y z fy fz = select_result q.f5 q.f6 y z fy fz a.res

  module _ (x y z r v : ℕ) (fx : IsFelt x) (fy : IsFelt y) (fz : IsFelt z) (fr : IsFelt r) (inv : InverseOrZero x v) where
    ap_same : s.ap ⊕ bit q.f10 ⊗ r ⊕ bit q.f11 ⊕ 2 ⊗ bit q.f12 ≡ ap_in q s r
    ap_same = select_ap q.f10 q.f11 q.f12 s.ap r fs.ap fr a.ap a.call

    fp_same : (1 ⊖ bit q.f12 ⊖ bit q.f13) ⊗ s.fp ⊕ bit q.f13 ⊗ x ⊕ bit q.f12 ⊗ (s.ap ⊕ 2) ≡ fp_in q s x
    fp_same = select_fp q.f12 q.f13 q.f14 s.fp s.ap x fs.fp fx a.opcode

    moved_leads : Moved (parts_of q) s t x y z r v → Leads q s t x y z r
    moved_leads by = record {
      pc = pc_gives q.f2 s.pc t.pc x z r v fs.pc ft.pc fx fz fr inv q.f7 q.f8 q.f9 a.pc (record { moves = by.pc; branches = by.branches; falls_through = by.falls_through });
      ap = by.ap ∙ ap_same;
      fp = by.fp ∙ fp_same;
      keeps = keeps_gives q.f2 s.pc s.fp x y r fs.pc fs.fp fx fy fr q.f12 q.f13 q.f14 a.opcode (record { keeps_fp = by.call_keeps_fp; keeps_pc = by.call_keeps_pc; asserts = by.asserts });
    }

    leads_moved : Leads q s t x y z r → Moved (parts_of q) s t x y z r v
    leads_moved by =
        let pc = pc_goes q.f2 s.pc t.pc x z r v fs.pc ft.pc fx fz fr inv q.f7 q.f8 q.f9 a.pc by.pc in
        let keeps = keeps_goes q.f2 s.pc s.fp x y r fs.pc fs.fp fx fy fr q.f12 q.f13 q.f14 a.opcode by.keeps in
        record {
          pc = pc.moves;
          branches = pc.branches;
          falls_through = pc.falls_through;
          ap = by.ap ∙ sym ap_same;
          fp = by.fp ∙ sym fp_same;
          call_keeps_fp = keeps.keeps_fp;
          call_keeps_pc = keeps.keeps_pc;
          asserts = keeps.asserts;
        }

-- ---- rows

-- each number has an inverse, or is 0
inverse_or_zero : (x : ℕ) → IsFelt x → (v : ℕ) × InverseOrZero x v
inverse_or_zero x fx = by_zero (x == 0) refl
  where
    by_zero : (nil : Bool) → (x == 0) ≡ nil → (v : ℕ) × InverseOrZero x v
    by_zero true is = (0, record { none = λ _. refl; some = λ no. absurd (no (eq_is x 0 is)) })
    by_zero false is = let found = inverse x fx (not_is x 0 is) in (found.0, record { none = λ e. absurd (not_is x 0 is e); some = λ _. found.1 })

module _ (m : ℕ → Option ℕ) (s t : Registers ℕ) (felts : IsFieldMemory m) (fs : AreRegisters s) (ft : AreRegisters t) where
  pub equations_row : Equations m s t → Cased m s t
  equations_row e =
      let q = split_of e.w in
      let same : e.p ≡ parts_of q = sym (parts_back e.p e.are_parts) ∙ ap (λ n. parts_of (split_of n)) (sym e.is_word) in
      let a : Allowed q = allowed_by q (subst Excludes same e.excludes) in
      let fx = felts _ e.x e.has_x in
      let fy = felts _ e.y e.has_y in
      let fz = felts _ e.z e.has_z in
      let inv : InverseOrZero e.x e.v = record { none = e.no_inverse; some = e.inverse } in
      let r_same : row_result e.p e.y e.z ≡ result_in q e.y e.z = ap (λ (p : WordParts). row_result p e.y e.z) same ∙ result_same q a s t fs ft e.y e.z fy fz in
      let moved : Moved (parts_of q) s t e.x e.y e.z (result_in q e.y e.z) e.v =
      subst (λ (p : WordParts). Moved p s t e.x e.y e.z (result_in q e.y e.z) e.v) same (subst (λ (r : ℕ). Moved e.p s t e.x e.y e.z r e.v) r_same e.moved) in
      record {
        w = e.w;
        is_fetched = e.is_fetched;
        has_low_bits = e.has_low_bits;
        is_allowed = a;
        x = e.x;
        y = e.y;
        z = e.z;
        has_x = sym (ap m (ap (λ (p : WordParts). x_address p s) same ∙ x_same q a s t fs ft)) ∙ e.has_x;
        has_y = sym (ap m (ap (λ (p : WordParts). y_address p s) same ∙ y_same q a s t fs ft)) ∙ e.has_y;
        has_z = sym (ap m (ap (λ (p : WordParts). z_address p s e.y) same ∙ z_same q a s t fs ft e.y fy)) ∙ e.has_z;
        leads = moved_leads q a s t fs ft e.x e.y e.z (result_in q e.y e.z) e.v fx fy fz (result_felt q e.y e.z fz) inv moved;
      }

  pub row_equations : Cased m s t → Equations m s t
  row_equations by =
      let q = split_of by.w in
      let a = by.is_allowed in
      let fx = felts _ by.x by.has_x in
      let fy = felts _ by.y by.has_y in
      let fz = felts _ by.z by.has_z in
      let inv = inverse_or_zero by.x fx in
      record {
        w = by.w;
        p = parts_of q;
        is_fetched = by.is_fetched;
        has_low_bits = by.has_low_bits;
        are_parts = are_parts_of by.w;
        is_word = word_back by.w by.has_low_bits;
        excludes = excludes_by q a;
        x = by.x;
        y = by.y;
        z = by.z;
        has_x = ap m (x_same q a s t fs ft) ∙ by.has_x;
        has_y = ap m (y_same q a s t fs ft) ∙ by.has_y;
        has_z = ap m (z_same q a s t fs ft by.y fy) ∙ by.has_z;
        v = inv.0;
        no_inverse = inv.1.none;
        inverse = inv.1.some;
        moved = subst (λ (r : ℕ). Moved (parts_of q) s t by.x by.y by.z r inv.0) (sym (result_same q a s t fs ft by.y by.z fy fz))
            (leads_moved q a s t fs ft by.x by.y by.z (result_in q by.y by.z) inv.0 fx fy fz (result_felt q by.y by.z fz) inv.1 by.leads);
      }
