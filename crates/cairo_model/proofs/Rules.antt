-- The computed step and the rule with its fields by number say the same.
use Rattle.std.proofs.Common.{◌≡◌, ◌≢◌, ℕ, ◌<◌, ◌==◌, not, Bool, true, false, nat_le, ◌^◌, if◌then◌else◌, Option, Some, None, is_some, refl, sym, subst, arith, lit<}
use Rattle.std.proofs.Math.Nat.{mod-lt}
use Rattle.std.proofs.lemmas.Bool.Decides.{nat_tests}
use Rattle.cairo_word.specs.Word.{Fields, fields_of, word_fault_of, mixture_fault_of, is_choice, is_jump_mix, bits_of}
use Rattle.cairo_word.specs.declared.word.WordFault.{WordFault}
use Rattle.cairo_model.specs.Machine.Steps.{IsExact}
use Rattle.cairo_model.proofs.Outcomes.{and_then_gives, and_then_goes, not_false}
use Rattle.cairo_model.proofs.Inversion.{moves, moved_so}
use Rattle.cairo_model.proofs.NumberTests.{eq_is, is_eq, is_not, not_is, pick}
use Rattle.cairo_model.specs.Laws.{RuleAgrees}
use Rattle.cairo_model.specs.Machine.Steps.{Arithmetic, Registers, Moves, Transition, moved, found, after, decoded, result_of}

first_of : {X : Type 0} (P : X → Type 0) (b : Bool) (u v : X) → b ≡ true → P (if b then u else v) → P u
first_of P true u v is p = p
first_of P false u v is p = absurd (cc)

second_of : {X : Type 0} (P : X → Type 0) (b : Bool) (u v : X) → b ≡ false → P (if b then u else v) → P v
second_of P true u v is p = absurd (cc)
second_of P false u v is p = p

-- what the fields of a defined word keep
pub record Shaped (a b c d e : ℕ) : Type 0 where
  op1 : is_choice a ≡ true
  res : b < 3
  pc : is_choice c ≡ true
  ap : d < 3
  opcode : is_choice e ≡ true
  jumps : c ≡ 4 → (b ≡ 0) × ((e ≡ 0) × (d ≢ 1))

no_fault_here : (b : Bool) (x : WordFault) (rest : Option WordFault) → (if b then Some x else rest) ≡ None → (b ≡ false) × (rest ≡ None)
no_fault_here true x rest e = absurd (cc)
no_fault_here false x rest e = (refl, e)

jump_mix : (b c d e : ℕ) → is_jump_mix b c d e ≡ false → c ≡ 4 → (b ≡ 0) × ((e ≡ 0) × (d ≢ 1))
jump_mix b c d e none is =
    let p : b ≡ 0 = grind (arith, nat_tests, none) in
    let q : e ≡ 0 = grind (arith, nat_tests, none) in
    (p, (q, λ r. absurd (grind (arith, nat_tests, none))))

last_choice : (n : ℕ) → is_choice n ≡ true → n ≢ 0 → n ≢ 1 → n ≢ 2 → n ≡ 4
last_choice n is a b c = grind (arith, nat_tests, is)

shaped : (a b c d e : ℕ) → b < 4 → d < 4 → mixture_fault_of a b c d e ≡ None → Shaped a b c d e
shaped a b c d e small less none =
    let one = no_fault_here (not (is_choice a)) _ _ none in
    let two = no_fault_here (b == 3) _ _ one.1 in
    let three = no_fault_here (not (is_choice c)) _ _ two.1 in
    let four = no_fault_here (d == 3) _ _ three.1 in
    let five = no_fault_here (not (is_choice e)) _ _ four.1 in
    let six = no_fault_here (is_jump_mix b c d e) _ _ five.1 in
    let apart : b ≢ 3 = not_is b 3 two.0 in
    let apart_too : d ≢ 3 = not_is d 3 four.0 in
    record {
      op1 = not_false (is_choice a) one.0;
      res = omega (arith, apart);
      pc = not_false (is_choice c) three.0;
      ap = omega (arith, apart_too);
      opcode = not_false (is_choice e) five.0;
      jumps = jump_mix b c d e six.0;
    }

-- a word that is decoded has no fault
decoded_is : (word : ℕ) (f : Fields) → decoded word ≡ Some f → (word_fault_of word ≡ None) × (f ≡ fields_of word)
decoded_is word f e = undecided (word_fault_of word) (fields_of word) f e
  where
    undecided : (o : Option WordFault) (u f : Fields) → (if is_some o then None else Some u) ≡ Some f → (o ≡ None) × (f ≡ u)
    undecided None u f e = (refl, cc)
    undecided (Some x) u f e = absurd (cc)

decodes_so : (word : ℕ) (f : Fields) → word_fault_of word ≡ None → f ≡ fields_of word → decoded word ≡ Some f
decodes_so word f none is = undecided (word_fault_of word) (fields_of word) f none is
  where
    undecided : (o : Option WordFault) (u f : Fields) → o ≡ None → f ≡ u → (if is_some o then None else Some u) ≡ Some f
    undecided o u f none is = rw (none, is)

some_same : {X : Type 0} (x y : X) → Some x ≡ Some y → y ≡ x
some_same x y e = cc

some_so : {X : Type 0} (x y : X) → y ≡ x → Some x ≡ Some y
some_so x y e = rw e

other : (n j k : ℕ) → n ≡ j → (j == k) ≡ false → (n == k) ≡ false
other n j k e p = rw e p

-- choices by a number of three, and of four
abbrev three : {X : Type 0} → ℕ → X → X → X → X
three n u v w = if n == 0 then u else (if n == 1 then v else w)

abbrev four : {X : Type 0} → ℕ → X → X → X → X → X
four n u v w x = if n == 0 then u else (if n == 1 then v else (if n == 2 then w else x))

record Three {X : Type 0} (P : X → Type 0) (n : ℕ) (u v w : X) : Type 0 where
  zeroth : n ≡ 0 → P u
  first : n ≡ 1 → P v
  second : n ≡ 2 → P w

record Four {X : Type 0} (P : X → Type 0) (n : ℕ) (u v w x : X) : Type 0 where
  zeroth : n ≡ 0 → P u
  first : n ≡ 1 → P v
  second : n ≡ 2 → P w
  fourth : n ≡ 4 → P x

three_gives : {X : Type 0} (P : X → Type 0) (n : ℕ) (u v w : X) → P (three n u v w) → Three P n u v w
three_gives P n u v w p = record {
  zeroth = λ e. first_of P (n == 0) u _ (is_eq n 0 e) p;
  first = λ e. first_of P (n == 1) v w (is_eq n 1 e) (second_of P (n == 0) u _ (other n 1 0 e refl) p);
  second = λ e. second_of P (n == 1) v w (other n 2 1 e refl) (second_of P (n == 0) u _ (other n 2 0 e refl) p);
}

four_gives : {X : Type 0} (P : X → Type 0) (n : ℕ) (u v w x : X) → P (four n u v w x) → Four P n u v w x
four_gives P n u v w x p = record {
  zeroth = λ e. first_of P (n == 0) u _ (is_eq n 0 e) p;
  first = λ e. first_of P (n == 1) v _ (is_eq n 1 e) (second_of P (n == 0) u _ (other n 1 0 e refl) p);
  second = λ e. first_of P (n == 2) w x (is_eq n 2 e) (second_of P (n == 1) v _ (other n 2 1 e refl) (second_of P (n == 0) u _ (other n 2 0 e refl) p));
  fourth = λ e. second_of P (n == 2) w x (other n 4 2 e refl) (second_of P (n == 1) v _ (other n 4 1 e refl) (second_of P (n == 0) u _ (other n 4 0 e refl) p));
}

last_of_three : (n : ℕ) → n < 3 → n ≢ 0 → n ≢ 1 → n ≡ 2
last_of_three n lt a b = omega (arith, a, b)

three_goes : {X : Type 0} (P : X → Type 0) (n : ℕ) (u v w : X) → n < 3 → Three P n u v w → P (three n u v w)
three_goes P n u v w lt by =
    pick P (n == 0) u _ (λ e. by.zeroth (eq_is n 0 e)) (λ a.
    pick P (n == 1) v w (λ e. by.first (eq_is n 1 e)) (λ b. by.second (last_of_three n lt (not_is n 0 a) (not_is n 1 b))))

four_goes : {X : Type 0} (P : X → Type 0) (n : ℕ) (u v w x : X) → is_choice n ≡ true → Four P n u v w x → P (four n u v w x)
four_goes P n u v w x is by =
    pick P (n == 0) u _ (λ e. by.zeroth (eq_is n 0 e)) (λ a.
    pick P (n == 1) v _ (λ e. by.first (eq_is n 1 e)) (λ b.
    pick P (n == 2) w x (λ e. by.second (eq_is n 2 e)) (λ c. by.fourth (last_choice n is (not_is n 0 a) (not_is n 1 b) (not_is n 2 c)))))

module _ {V : Type 0} (A : Arithmetic V) (m : V → Option V) (s t : Registers V) where
  pub follows : Moves A m s t → Transition A m s t
  follows by = and_then_gives (A.read by.cell) decoded by.f by.is_decoded (λ word reads decodes.
      let f = by.f in
      let whole = decoded_is word f decodes in
      let op1 = four_gives (λ (from : V). found A m from f.off_op1 ≡ Some by.op1) f.op1_src by.op0 s.pc s.fp s.ap by.has_op1 in
      let result = λ (p : f.pc_update ≢ 4). three_gives (λ (o : Option V). o ≡ Some by.res) f.res_logic (Some by.op1) (A.sum by.op0 by.op1) (A.product by.op0 by.op1)
      (second_of (λ (o : Option V). o ≡ Some by.res) (f.pc_update == 4) (Some by.op1) (three f.res_logic (Some by.op1) (A.sum by.op0 by.op1) (A.product by.op0 by.op1)) (is_not f.pc_update 4 p) by.has_result) in
      let branch = if A.is_zero by.dst then after A f s else A.sum s.pc by.op1 in
      let pc = four_gives (λ (o : Option V). o ≡ Some t.pc) f.pc_update (after A f s) (Some by.res) (A.sum s.pc by.res) branch by.leads_to in
      let ap_kept = λ (p : f.opcode ≢ 1). three_gives (λ (o : Option V). o ≡ Some t.ap) f.ap_update (Some s.ap) (A.sum s.ap by.res) (moved A s.ap 1)
      (second_of (λ (o : Option V). o ≡ Some t.ap) (f.opcode == 1) (moved A s.ap 2) (three f.ap_update (Some s.ap) (A.sum s.ap by.res) (moved A s.ap 1)) (is_not f.opcode 1 p) by.allocates) in
      let fp_kept = λ (p : (f.opcode == 1) ≡ false). second_of (λ (o : Option V). o ≡ Some t.fp) (f.opcode == 1) (moved A s.ap 2) (if f.opcode == 2 then Some by.dst else Some s.fp) p by.frames in
      record {
        cell = by.cell;
        word = word;
        f = f;
        dst = by.dst;
        op0 = by.op0;
        op1 = by.op1;
        res = by.res;
        is_fetched = by.is_fetched;
        is_number = reads;
        is_defined = whole.0;
        has_fields = whole.1;
        dst_is = by.has_dst;
        op0_is = by.has_op0;
        from_op0 = op1.zeroth;
        from_pc = op1.first;
        from_fp = op1.second;
        from_ap = op1.fourth;
        plain = λ p e. some_same by.op1 by.res ((result p).zeroth e);
        adds = λ p. (result p).first;
        multiplies = λ p. (result p).second;
        goes_on = pc.zeroth;
        jumps_to = λ e. some_same by.res t.pc (pc.first e);
        jumps_by = pc.second;
        falls_through = λ e zero. first_of (λ (o : Option V). o ≡ Some t.pc) (A.is_zero by.dst) (after A f s) (A.sum s.pc by.op1) zero (pc.fourth e);
        branches = λ e zero. second_of (λ (o : Option V). o ≡ Some t.pc) (A.is_zero by.dst) (after A f s) (A.sum s.pc by.op1) zero (pc.fourth e);
        calls = by.calls;
        opens = λ e. (
          first_of (λ (o : Option V). o ≡ Some t.ap) (f.opcode == 1) (moved A s.ap 2) _ (is_eq f.opcode 1 e) by.allocates,
          first_of (λ (o : Option V). o ≡ Some t.fp) (f.opcode == 1) (moved A s.ap 2) _ (is_eq f.opcode 1 e) by.frames,
        );
        restores = λ e. some_same by.dst t.fp (first_of (λ (o : Option V). o ≡ Some t.fp) (f.opcode == 2) (Some by.dst) (Some s.fp) (is_eq f.opcode 2 e) (fp_kept (other f.opcode 2 1 e refl)));
        asserts = by.asserts;
        keeps_fp = λ p q. some_same s.fp t.fp (second_of (λ (o : Option V). o ≡ Some t.fp) (f.opcode == 2) (Some by.dst) (Some s.fp) (is_not f.opcode 2 q) (fp_kept (is_not f.opcode 1 p)));
        keeps_ap = λ p e. some_same s.ap t.ap ((ap_kept p).zeroth e);
        moves_ap = λ p. (ap_kept p).first;
        steps_ap = λ p. (ap_kept p).second;
      })

shape_of : (f : Fields) (word : ℕ) → word_fault_of word ≡ None → f ≡ fields_of word → Shaped f.op1_src f.res_logic f.pc_update f.ap_update f.opcode
shape_of f word none is =
    let rest = no_fault_here (nat_le (2 ^ 63) word) _ _ none in
    subst (λ (g : Fields). Shaped g.op1_src g.res_logic g.pc_update g.ap_update g.opcode) (sym is)
    (shaped (bits_of word 50 3) (bits_of word 53 2) (bits_of word 55 3) (bits_of word 58 2) (bits_of word 60 3) (mod-lt _ (lit< tt)) (mod-lt _ (lit< tt)) rest.1)

by_test : {R : Type 0} (b : Bool) → (b ≡ true → R) → (b ≡ false → R) → R
by_test true l r = l refl
by_test false l r = r refl

module _ {V : Type 0} (A : Arithmetic V) (m : V → Option V) (s t : Registers V) (by : Transition A m s t) where
  shape : Shaped by.f.op1_src by.f.res_logic by.f.pc_update by.f.ap_update by.f.opcode
  shape = shape_of by.f by.word by.is_defined by.has_fields

  -- the rule with a result that serves wherever one is used
  moves_with : (res : V) → result_of A by.f by.op0 by.op1 ≡ Some res → (by.f.opcode ≡ 4 → res ≡ by.dst) → (by.f.pc_update ≡ 1 → t.pc ≡ res)
      → (by.f.pc_update ≡ 2 → A.sum s.pc res ≡ Some t.pc) → (by.f.opcode ≢ 1 → by.f.ap_update ≡ 1 → A.sum s.ap res ≡ Some t.ap) → Moves A m s t
  moves_with res has_result asserts jumps_to jumps_by moves_ap = record {
    cell = by.cell;
    f = by.f;
    dst = by.dst;
    op0 = by.op0;
    op1 = by.op1;
    res = res;
    is_fetched = by.is_fetched;
    is_decoded = and_then_goes (A.read by.cell) decoded by.word by.f by.is_number (decodes_so by.word by.f by.is_defined by.has_fields);
    has_dst = by.dst_is;
    has_op0 = by.op0_is;
    has_op1 = four_goes (λ (from : V). found A m from by.f.off_op1 ≡ Some by.op1) by.f.op1_src by.op0 s.pc s.fp s.ap shape.op1
        (record { zeroth = by.from_op0; first = by.from_pc; second = by.from_fp; fourth = by.from_ap });
    has_result = has_result;
    calls = by.calls;
    asserts = asserts;
    leads_to = four_goes (λ (o : Option V). o ≡ Some t.pc) by.f.pc_update (after A by.f s) (Some res) (A.sum s.pc res) (if A.is_zero by.dst then after A by.f s else A.sum s.pc by.op1) shape.pc
        (record {
          zeroth = by.goes_on;
          first = λ e. some_so res t.pc (jumps_to e);
          second = jumps_by;
          fourth = λ e. pick (λ (o : Option V). o ≡ Some t.pc) (A.is_zero by.dst) (after A by.f s) (A.sum s.pc by.op1) (by.falls_through e) (by.branches e);
        });
    allocates = pick (λ (o : Option V). o ≡ Some t.ap) (by.f.opcode == 1) (moved A s.ap 2) (three by.f.ap_update (Some s.ap) (A.sum s.ap res) (moved A s.ap 1))
        (λ e. (by.opens (eq_is by.f.opcode 1 e)).0)
        (λ no. let apart = not_is by.f.opcode 1 no in
        three_goes (λ (o : Option V). o ≡ Some t.ap) by.f.ap_update (Some s.ap) (A.sum s.ap res) (moved A s.ap 1) shape.ap
        (record { zeroth = λ e. some_so s.ap t.ap (by.keeps_ap apart e); first = moves_ap apart; second = by.steps_ap apart }));
    frames = pick (λ (o : Option V). o ≡ Some t.fp) (by.f.opcode == 1) (moved A s.ap 2) (if by.f.opcode == 2 then Some by.dst else Some s.fp)
        (λ e. (by.opens (eq_is by.f.opcode 1 e)).1)
        (λ no. pick (λ (o : Option V). o ≡ Some t.fp) (by.f.opcode == 2) (Some by.dst) (Some s.fp)
        (λ e. some_so by.dst t.fp (by.restores (eq_is by.f.opcode 2 e)))
        (λ also. some_so s.fp t.fp (by.keeps_fp (not_is by.f.opcode 1 no) (not_is by.f.opcode 2 also))));
  }

  pub moves_as : Moves A m s t
  moves_as = by_test (by.f.pc_update == 4)
      (λ yes. let is = eq_is by.f.pc_update 4 yes in
      moves_with by.op1
      (pick (λ (o : Option V). o ≡ Some by.op1) (by.f.pc_update == 4) (Some by.op1) (three by.f.res_logic (Some by.op1) (A.sum by.op0 by.op1) (A.product by.op0 by.op1)) (λ _. refl) (λ no. absurd (cc)))
      (λ e. let zero = (shape.jumps is).1.0 in absurd (omega arith))
      (λ e. absurd (omega arith))
      (λ e. absurd (omega arith))
      (λ p e. absurd ((shape.jumps is).1.1 e)))
      (λ no. let apart = not_is by.f.pc_update 4 no in
      moves_with by.res
      (pick (λ (o : Option V). o ≡ Some by.res) (by.f.pc_update == 4) (Some by.op1) (three by.f.res_logic (Some by.op1) (A.sum by.op0 by.op1) (A.product by.op0 by.op1))
      (λ yes. absurd (cc))
      (λ _. three_goes (λ (o : Option V). o ≡ Some by.res) by.f.res_logic (Some by.op1) (A.sum by.op0 by.op1) (A.product by.op0 by.op1) shape.res
      (record { zeroth = λ e. some_so by.op1 by.res (by.plain apart e); first = by.adds apart; second = by.multiplies apart })))
      by.asserts by.jumps_to by.jumps_by by.moves_ap)

pub rule_agrees : {V : Type 0} (A : Arithmetic V) → IsExact A → RuleAgrees A
rule_agrees A exact m s t = (λ step. follows A m s t (moves A exact m s t step), λ by. moved_so A exact m s t (moves_as A m s t by))
