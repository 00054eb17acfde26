-- The computed step and the rule in its own words say the same.
use Rattle.std.proofs.Common.{◌≡◌, ℕ, true, ◌&&◌, ◌==◌, Option, Some, None, Ok, refl, ap, ◌∙◌, arith}
use Rattle.std.proofs.lemmas.Bool.Decides.{nat_tests}
use Rattle.cairo_word.specs.Word.{Fields}
use Rattle.cairo_model.specs.Machine.Steps.{IsExact}
use Rattle.cairo_model.specs.Machine.Values.{Datum, number, place, same_datum}
use Rattle.cairo_model.specs.Machine.Steps.{Arithmetic, Registers, field_arithmetic, value_arithmetic, next, Moves, is_value, keeps_call, after}
use Rattle.cairo_model.specs.declared.fault.StepFault.TheVariants.{Fetch, Word, Dst, Op0, Op1, Res, Jump, Call, Assert, Frame}
use Rattle.cairo_model.specs.Laws.{Agree}
use Rattle.cairo_model.proofs.Chains.{required_gives, demanded_gives, ok_same, required_goes, demanded_goes, demand_met, demand_holds, both_left, both_right, both}

module _ {V : Type 0} (A : Arithmetic V) (exact : IsExact A) where
  value_is : (o : Option V) (v : V) → is_value A o v ≡ true → o ≡ Some v
  value_is None v e = absurd (cc)
  value_is (Some u) v e = ap Some (exact.same_is u v e)

  pub is_that_value : (o : Option V) (v : V) → o ≡ Some v → is_value A o v ≡ true
  is_that_value o v e = rw e (exact.is_same v v refl)

  pub call_met : (f : Fields) (s : Registers V) (dst op0 : V) → keeps_call A f s dst op0 ≡ true → f.opcode ≡ 1 → (after A f s ≡ Some op0) × (dst ≡ s.fp)
  call_met f s dst op0 keeps is =
      let demand = demand_met f.opcode 1 (is_value A (after A f s) op0 && A.same dst s.fp) keeps is in
      (value_is (after A f s) op0 (both_left _ _ demand), exact.same_is dst s.fp (both_right (is_value A (after A f s) op0) _ demand))

  call_holds : (f : Fields) (s : Registers V) (dst op0 : V) → (f.opcode ≡ 1 → (after A f s ≡ Some op0) × (dst ≡ s.fp)) → keeps_call A f s dst op0 ≡ true
  call_holds f s dst op0 calls = demand_holds f.opcode 1 (is_value A (after A f s) op0 && A.same dst s.fp)
      (λ is. both _ _ (is_that_value (after A f s) op0 (calls is).0) (exact.is_same dst s.fp (calls is).1))

  pub moves : (m : V → Option V) (s t : Registers V) → next A m s ≡ Ok t → Moves A m s t
  unfolding next
  moves m s t step =
      required_gives Fetch _ _ t step (λ cell is_fetched from_word.
      required_gives Word _ _ t from_word (λ f is_decoded from_dst.
      required_gives Dst _ _ t from_dst (λ dst has_dst from_op0.
      required_gives Op0 _ _ t from_op0 (λ op0 has_op0 from_op1.
      required_gives Op1 _ _ t from_op1 (λ op1 has_op1 from_res.
      required_gives Res _ _ t from_res (λ res has_result from_jump.
      required_gives Jump _ _ t from_jump (λ pc leads_to from_call.
      demanded_gives Call _ _ t from_call (λ call from_assert.
      demanded_gives Assert _ _ t from_assert (λ assert from_ap.
      required_gives Frame _ _ t from_ap (λ ap_next allocates from_fp.
      required_gives Frame _ _ t from_fp (λ fp frames end.
      let same = ok_same _ t end in
      record {
        cell = cell;
        f = f;
        dst = dst;
        op0 = op0;
        op1 = op1;
        res = res;
        is_fetched = is_fetched;
        is_decoded = is_decoded;
        has_dst = has_dst;
        has_op0 = has_op0;
        has_op1 = has_op1;
        has_result = has_result;
        calls = call_met f s dst op0 call;
        asserts = λ is. exact.same_is res dst (demand_met f.opcode 4 _ assert is);
        leads_to = leads_to ∙ ap (λ (r : Registers V). Some r.pc) same;
        allocates = allocates ∙ ap (λ (r : Registers V). Some r.ap) same;
        frames = frames ∙ ap (λ (r : Registers V). Some r.fp) same;
      })))))))))))

  pub moved_so : (m : V → Option V) (s t : Registers V) → Moves A m s t → next A m s ≡ Ok t
  unfolding next
  moved_so m s t by =
      required_goes Fetch _ _ t by.cell by.is_fetched
      (required_goes Word _ _ t by.f by.is_decoded
      (required_goes Dst _ _ t by.dst by.has_dst
      (required_goes Op0 _ _ t by.op0 by.has_op0
      (required_goes Op1 _ _ t by.op1 by.has_op1
      (required_goes Res _ _ t by.res by.has_result
      (required_goes Jump _ _ t t.pc by.leads_to
      (demanded_goes Call _ _ t (call_holds by.f s by.dst by.op0 by.calls)
      (demanded_goes Assert _ _ t (demand_holds by.f.opcode 4 _ (λ is. exact.is_same by.res by.dst (by.asserts is)))
      (required_goes Frame _ _ t t.ap by.allocates
      (required_goes Frame _ _ t t.fp by.frames refl))))))))))

  pub agree : Agree A
  agree m s t = (moves m s t, moved_so m s t)

pub field_exact : IsExact field_arithmetic
field_exact = record { same_is = λ a b e. grind (arith, nat_tests); is_same = λ a b e. grind (arith, nat_tests) }

same_parts : (a b c d : ℕ) → (a == c) && (b == d) ≡ true → place a b ≡ place c d
same_parts a b c d e =
    let p : a ≡ c = grind (arith, nat_tests) in
    let q : b ≡ d = grind (arith, nat_tests) in
    rw (p, q)

same_data : (a b : Datum) → same_datum a b ≡ true → a ≡ b
same_data (number a) (number b) e = ap number (field_exact.same_is a b e)
same_data (number a) (place s o) e = absurd (cc)
same_data (place s o) (number b) e = absurd (cc)
same_data (place s o) (place t q) e = same_parts s o t q e

same_self : (a : Datum) → same_datum a a ≡ true
same_self (number a) = field_exact.is_same a a refl
same_self (place s o) = both _ _ (field_exact.is_same s s refl) (field_exact.is_same o o refl)

pub value_exact : IsExact value_arithmetic
value_exact = record { same_is = same_data; is_same = λ a b e. rw e (same_self b) }
