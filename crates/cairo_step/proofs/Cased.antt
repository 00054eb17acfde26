-- A row by cases: what the test of a row goes through.
use Rattle.std.proofs.Common.{◌≡◌, ℕ, ◌<◌, ◌^◌, ◌==◌, nat_lt, Bool, true, ◌&&◌, Option, Some, None, refl, arith}
use Rattle.std.proofs.lemmas.Bool.Decides.{nat_tests}
use Rattle.cairo_model.specs.Machine.Steps.{Registers}
use Rattle.cairo_step.specs.Working.Split.{Split, split_of, is_allowed, x_cell, y_cell, z_cell, result_in, pc_in, ap_in, fp_in, keeps_opcode, leads_to, passes, is_row}
use Rattle.cairo_step.proofs.Words.{both, both_left, both_right, Allowed, allowed, is_allowed_so}

pub eq_is : (n k : ℕ) → (n == k) ≡ true → n ≡ k
eq_is n k e = grind (arith, nat_tests)

pub is_eq : (n k : ℕ) → n ≡ k → (n == k) ≡ true
is_eq n k e = grind (arith, nat_tests)

pub record Leads (q : Split) (s t : Registers ℕ) (x y z r : ℕ) : Type 0 where
  pub pc : t.pc ≡ pc_in q s x z r
  pub ap : t.ap ≡ ap_in q s r
  pub fp : t.fp ≡ fp_in q s x
  pub keeps : keeps_opcode q s x y r ≡ true

pub record Cased (m : ℕ → Option ℕ) (s t : Registers ℕ) : Type 0 where
  pub w : ℕ
  pub is_fetched : m s.pc ≡ Some w
  pub has_low_bits : w < 2 ^ 63
  pub is_allowed : Allowed (split_of w)
  pub x : ℕ
  pub y : ℕ
  pub z : ℕ
  pub has_x : m (x_cell (split_of w) s) ≡ Some x
  pub has_y : m (y_cell (split_of w) s) ≡ Some y
  pub has_z : m (z_cell (split_of w) s y) ≡ Some z
  pub leads : Leads (split_of w) s t x y z (result_in (split_of w) y z)

passes_gives : {R : Type 0} (o : Option ℕ) (test : ℕ → Bool) → passes o test ≡ true → ((x : ℕ) → o ≡ Some x → test x ≡ true → R) → R
passes_gives None test e go = absurd (cc)
passes_gives (Some x) test e go = go x refl e

passes_so : (o : Option ℕ) (test : ℕ → Bool) (x : ℕ) → o ≡ Some x → test x ≡ true → passes o test ≡ true
passes_so o test x is rest = rw is rest

below_is : (n k : ℕ) → nat_lt n k ≡ true → n < k
below_is n k e = grind (arith, nat_tests)

is_below : (n k : ℕ) → n < k → nat_lt n k ≡ true
is_below n k e = grind (arith, nat_tests)

leads_gives : (q : Split) (s t : Registers ℕ) (x y z r : ℕ) → leads_to q s t x y z r ≡ true → Leads q s t x y z r
leads_gives q s t x y z r e =
    let three = both_left (t.pc == pc_in q s x z r && t.ap == ap_in q s r && t.fp == fp_in q s x) _ e in
    let two = both_left (t.pc == pc_in q s x z r && t.ap == ap_in q s r) _ three in
    record {
      pc = eq_is _ _ (both_left (t.pc == pc_in q s x z r) _ two);
      ap = eq_is _ _ (both_right (t.pc == pc_in q s x z r) _ two);
      fp = eq_is _ _ (both_right (t.pc == pc_in q s x z r && t.ap == ap_in q s r) _ three);
      keeps = both_right (t.pc == pc_in q s x z r && t.ap == ap_in q s r && t.fp == fp_in q s x) _ e;
    }

leads_so : (q : Split) (s t : Registers ℕ) (x y z r : ℕ) → Leads q s t x y z r → leads_to q s t x y z r ≡ true
leads_so q s t x y z r by = both _ _ (both _ _ (both _ _ (is_eq _ _ by.pc) (is_eq _ _ by.ap)) (is_eq _ _ by.fp)) by.keeps

module _ (m : ℕ → Option ℕ) (s t : Registers ℕ) where
  pub row_gives : is_row m s t ≡ true → Cased m s t
  unfolding is_row
  row_gives e =
      passes_gives (m s.pc) _ e (λ w is_fetched from_low.
      let two = both_left (nat_lt w (2 ^ 63) && is_allowed (split_of w)) _ from_low in
      let from_x = both_right (nat_lt w (2 ^ 63) && is_allowed (split_of w)) _ from_low in
      passes_gives (m (x_cell (split_of w) s)) _ from_x (λ x has_x from_y.
      passes_gives (m (y_cell (split_of w) s)) _ from_y (λ y has_y from_z.
      passes_gives (m (z_cell (split_of w) s y)) _ from_z (λ z has_z end.
      record {
        w = w;
        is_fetched = is_fetched;
        has_low_bits = below_is w (2 ^ 63) (both_left (nat_lt w (2 ^ 63)) _ two);
        is_allowed = allowed (split_of w) (both_right (nat_lt w (2 ^ 63)) _ two);
        x = x;
        y = y;
        z = z;
        has_x = has_x;
        has_y = has_y;
        has_z = has_z;
        leads = leads_gives (split_of w) s t x y z _ end;
      }))))

  pub row_so : Cased m s t → is_row m s t ≡ true
  unfolding is_row
  row_so by =
      passes_so (m s.pc) _ by.w by.is_fetched
      (both (nat_lt by.w (2 ^ 63) && is_allowed (split_of by.w)) _
      (both _ _ (is_below by.w (2 ^ 63) by.has_low_bits) (is_allowed_so (split_of by.w) by.is_allowed))
      (passes_so (m (x_cell (split_of by.w) s)) _ by.x by.has_x
      (passes_so (m (y_cell (split_of by.w) s)) _ by.y by.has_y
      (passes_so (m (z_cell (split_of by.w) s by.y)) _ by.z by.has_z (leads_so (split_of by.w) s t by.x by.y by.z _ by.leads)))))
