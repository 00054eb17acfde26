-- The computed fault of a step is the first cause that applies, for any arithmetic.
use Rattle.std.proofs.Common.{◌≡◌, ◌≢◌, ◌⊎◌, ℕ, ◌+◌, ◌<◌, ◌==◌, Bool, true, false, ◌&&◌, if◌then◌else◌, Option, Some, None, Result, Ok, Err, inl, inr, refl, sym, ap, subst, ◌∙◌, arith}
use Rattle.std.proofs.lemmas.Bool.{and_cases}
use Rattle.cairo_word.specs.Word.{Fields}
use Rattle.cairo_model.specs.Machine.Steps.{Arithmetic, Registers, IsExact, next, Moves, spelled, found, register_in, op1_from, result_of, after, next_pc, next_ap, next_fp, is_value, keeps_call, keeps_assert}
use Rattle.cairo_model.specs.Machine.StepFaults.{step_fault_number, HasFields, HasResult, IsStepCause, FaultFormsAgree}
use Rattle.cairo_model.specs.Refusals.FirstFailing.{IsFirstCause, NoneBelow}
use Rattle.cairo_model.specs.declared.fault.StepFault.{StepFault}
use Rattle.cairo_model.specs.declared.fault.StepFault.TheVariants.{Fetch, Word, Dst, Op0, Op1, Res, Jump, Call, Assert, Frame}
use Rattle.cairo_model.proofs.Chains.{required_fails, demanded_fails, demand_met, demand_missed, no_fault}
use Rattle.cairo_model.proofs.Firsts.{none_below_next, one_first_cause}
use Rattle.cairo_model.proofs.Inversion.{moves, call_met, is_that_value}

-- the fault of a number
abbrev fault_at : ℕ → StepFault
fault_at n =
    if n == 1 then Fetch
    else (if n == 2 then Word
    else (if n == 3 then Dst
    else (if n == 4 then Op0
    else (if n == 5 then Op1
    else (if n == 6 then Res
    else (if n == 7 then Jump
    else (if n == 8 then Call
    else (if n == 9 then Assert
    else Frame))))))))

at_number : (d : StepFault) → fault_at (step_fault_number d) ≡ d
at_number Fetch = refl
at_number Word = refl
at_number Dst = refl
at_number Op0 = refl
at_number Op1 = refl
at_number Res = refl
at_number Jump = refl
at_number Call = refl
at_number Assert = refl
at_number Frame = refl

same_fault : (d e : StepFault) → step_fault_number d ≡ step_fault_number e → d ≡ e
same_fault d e same = sym (at_number d) ∙ ap fault_at same ∙ at_number e

none_first : (d : StepFault) → step_fault_number d < 1 → ⊥
none_first Fetch lt = omega arith
none_first Word lt = omega arith
none_first Dst lt = omega arith
none_first Op0 lt = omega arith
none_first Op1 lt = omega arith
none_first Res lt = omega arith
none_first Jump lt = omega arith
none_first Call lt = omega arith
none_first Assert lt = omega arith
none_first Frame lt = omega arith

some_same : {A : Type 0} (x y : A) → Some x ≡ Some y → x ≡ y
some_same x y e = cc

untrue : {R : Type 0} (b : Bool) → b ≡ true → b ≡ false → R
untrue b is isnt = absurd (cc)

not_both : {A R : Type 0} (o : Option A) (x : A) → o ≡ Some x → o ≡ None → R
not_both o x is none = absurd (cc)

module _ {V : Type 0} (A : Arithmetic V) (exact : IsExact A) (m : V → Option V) (s : Registers V) where
  abbrev Cause : StepFault → Type 0
  Cause = IsStepCause A m s

  abbrev Passed : ℕ → Type 0
  Passed = NoneBelow step_fault_number Cause

  passes : (d : StepFault) → Passed (step_fault_number d) → ¬ Cause d → Passed (step_fault_number d + 1)
  passes d none absent = none_below_next step_fault_number Cause (step_fault_number d) none (λ other same. subst (λ (e : StepFault). ¬ Cause e) (same_fault d other (sym same)) absent)

  first_of : (d e : StepFault) → Passed (step_fault_number d) → Cause d → d ≡ e → IsFirstCause step_fault_number Cause e
  first_of d e none applies same = subst (IsFirstCause step_fault_number Cause) same (record { applies = applies; none_before = none })

  -- ---- what was read is the same each time

  abbrev dst_in : Fields → Option V
  dst_in f = found A m (register_in s f.dst_reg) f.off_dst

  abbrev op0_in : Fields → Option V
  op0_in f = found A m (register_in s f.op0_reg) f.off_op0

  abbrev op1_in : Fields → V → Option V
  op1_in f op0 = found A m (op1_from f s op0) f.off_op1

  same_fields : (f g : Fields) → HasFields A m s f → HasFields A m s g → f ≡ g
  same_fields f g one other =
      let cell = some_same one.cell other.cell (sym one.is_there ∙ other.is_there) in
      some_same f g (sym one.spells ∙ ap (spelled A) cell ∙ other.spells)

  same_from : (h : Fields → Option V) (f g : Fields) (x y : V) → f ≡ g → h f ≡ Some x → h g ≡ Some y → x ≡ y
  same_from h f g x y same one other = some_same x y (sym one ∙ ap h same ∙ other)

  same_op1 : (f g : Fields) (u v x y : V) → f ≡ g → u ≡ v → op1_in f u ≡ Some x → op1_in g v ≡ Some y → x ≡ y
  same_op1 f g u v x y same op0 one other = some_same x y (sym one ∙ (λ i. op1_in (same i) (op0 i)) ∙ other)

  record Same (f g : Fields) (dst dst' op0 op0' op1 op1' res res' : V) : Type 0 where
    fields : f ≡ g
    dst_is : dst ≡ dst'
    op0_is : op0 ≡ op0'
    op1_is : op1 ≡ op1'
    res_is : res ≡ res'

  same_result : (f g : Fields) (dst dst' op0 op0' op1 op1' res res' : V) → HasResult A m s f dst op0 op1 res → HasResult A m s g dst' op0' op1' res' → Same f g dst dst' op0 op0' op1 op1' res res'
  same_result f g dst dst' op0 op0' op1 op1' res res' one other =
      let fields = same_fields f g one.fields other.fields in
      let zeroth = same_from op0_in f g op0 op0' fields one.has_op0 other.has_op0 in
      let first = same_op1 f g op0 op0' op1 op1' fields zeroth one.has_op1 other.has_op1 in
      record {
        fields = fields;
        dst_is = same_from dst_in f g dst dst' fields one.has_dst other.has_dst;
        op0_is = zeroth;
        op1_is = first;
        res_is = some_same res res' (sym one.is_result ∙ (λ i. result_of A (fields i) (zeroth i) (first i)) ∙ other.is_result);
      }

  -- ---- what is there rules its cause out

  not_word : (f : Fields) → HasFields A m s f → ¬ Cause Word
  not_word f has cause =
      let cell = some_same cause.cell has.cell (sym cause.is_there ∙ has.is_there) in
      not_both (spelled A has.cell) f has.spells (sym (ap (spelled A) cell) ∙ cause.spells_none)

  not_dst : (f : Fields) (dst : V) → HasFields A m s f → dst_in f ≡ Some dst → ¬ Cause Dst
  not_dst f dst has is cause = not_both (dst_in f) dst is (ap dst_in (same_fields f cause.f has cause.fields) ∙ cause.lacks)

  not_op0 : (f : Fields) (op0 : V) → HasFields A m s f → op0_in f ≡ Some op0 → ¬ Cause Op0
  not_op0 f op0 has is cause = not_both (op0_in f) op0 is (ap op0_in (same_fields f cause.f has cause.fields) ∙ cause.lacks)

  not_op1 : (f : Fields) (op0 op1 : V) → HasFields A m s f → op0_in f ≡ Some op0 → op1_in f op0 ≡ Some op1 → ¬ Cause Op1
  not_op1 f op0 op1 has is_op0 is cause =
      let fields = same_fields f cause.f has cause.fields in
      let zeroth = same_from op0_in f cause.f op0 cause.op0 fields is_op0 cause.has_op0 in
      not_both (op1_in f op0) op1 is ((λ i. op1_in (fields i) (zeroth i)) ∙ cause.lacks)

  module _ (f : Fields) (dst op0 op1 res : V) (has : HasResult A m s f dst op0 op1 res) where
    not_res : ¬ Cause Res
    not_res cause =
        let fields = same_fields f cause.f has.fields cause.fields in
        let zeroth = same_from op0_in f cause.f op0 cause.op0 fields has.has_op0 cause.has_op0 in
        let first = same_op1 f cause.f op0 cause.op0 op1 cause.op1 fields zeroth has.has_op1 cause.has_op1 in
        not_both (result_of A f op0 op1) res has.is_result ((λ i. result_of A (fields i) (zeroth i) (first i)) ∙ cause.lacks)

    not_jump : (pc : V) → next_pc A f s dst op1 res ≡ Some pc → ¬ Cause Jump
    not_jump pc is cause =
        let same = same_result f cause.f dst cause.dst op0 cause.op0 op1 cause.op1 res cause.res has cause.has_result in
        not_both (next_pc A f s dst op1 res) pc is ((λ i. next_pc A (same.fields i) s (same.dst_is i) (same.op1_is i) (same.res_is i)) ∙ cause.lacks)

    not_call : (f.opcode ≡ 1 → (after A f s ≡ Some op0) × (dst ≡ s.fp)) → ¬ Cause Call
    not_call calls cause =
        let fields = same_fields f cause.f has.fields cause.fields in
        let dst_is = same_from dst_in f cause.f dst cause.dst fields has.has_dst cause.has_dst in
        let op0_is = same_from op0_in f cause.f op0 cause.op0 fields has.has_op0 cause.has_op0 in
        let kept = calls (ap (λ (g : Fields). g.opcode) fields ∙ cause.is_call) in
        elim cause.breaks [
          | inl moved ↦ moved (sym (ap (λ (g : Fields). after A g s) fields) ∙ kept.0 ∙ ap Some op0_is)
          | inr framed ↦ framed (sym dst_is ∙ kept.1)
        ]

    not_assert : (f.opcode ≡ 4 → res ≡ dst) → ¬ Cause Assert
    not_assert asserts cause =
        let same = same_result f cause.f dst cause.dst op0 cause.op0 op1 cause.op1 res cause.res has cause.has_result in
        let is : f.opcode ≡ 4 = ap (λ (g : Fields). g.opcode) same.fields ∙ cause.is_assert in
        cause.breaks (sym same.res_is ∙ asserts is ∙ same.dst_is)

    not_frame : (ap_next fp : V) → next_ap A f s res ≡ Some ap_next → next_fp A f s dst ≡ Some fp → ¬ Cause Frame
    not_frame ap_next fp allocates frames cause =
        let same = same_result f cause.f dst cause.dst op0 cause.op0 op1 cause.op1 res cause.res has cause.has_result in
        elim cause.lacks [
          | inl no_ap ↦ not_both (next_ap A f s res) ap_next allocates ((λ i. next_ap A (same.fields i) s (same.res_is i)) ∙ no_ap)
          | inr no_fp ↦ not_both (next_fp A f s dst) fp frames ((λ i. next_fp A (same.fields i) s (same.dst_is i)) ∙ no_fp)
        ]

    -- where a demand fails, it is broken
    call_broken : keeps_call A f s dst op0 ≡ false → Cause Call
    call_broken fails =
        let missed = demand_missed f.opcode 1 (is_value A (after A f s) op0 && A.same dst s.fp) fails in
        record {
          f = f;
          dst = dst;
          op0 = op0;
          fields = has.fields;
          has_dst = has.has_dst;
          has_op0 = has.has_op0;
          is_call = missed.0;
          breaks = call_parts missed.1;
        }
      where
        call_parts : (is_value A (after A f s) op0 && A.same dst s.fp) ≡ false → (after A f s ≢ Some op0) ⊎ (dst ≢ s.fp)
        call_parts fails = elim (and_cases (is_value A (after A f s) op0) (A.same dst s.fp) fails) [
          | inl moved ↦ inl (λ is. untrue (is_value A (after A f s) op0) (is_that_value A exact (after A f s) op0 is) moved)
          | inr framed ↦ inr (λ is. untrue (A.same dst s.fp) (exact.is_same dst s.fp is) framed)
        ]

    assert_broken : keeps_assert A f dst res ≡ false → Cause Assert
    assert_broken fails =
        let missed = demand_missed f.opcode 4 (A.same res dst) fails in
        record { f = f; dst = dst; op0 = op0; op1 = op1; res = res; has_result = has; is_assert = missed.0; breaks = λ is. untrue (A.same res dst) (exact.is_same res dst is) missed.1 }

  -- ---- both ways

  to_first : (d : StepFault) → next A m s ≡ Err d → IsFirstCause step_fault_number Cause d
  unfolding next
  to_first d fails =
      let at_fetch : Passed 1 = λ other lt. absurd (none_first other lt) in
      required_fails Fetch (m s.pc) _ d fails (first_of Fetch d at_fetch) (λ cell there in_word.
      let at_word : Passed 2 = passes Fetch at_fetch (not_both (m s.pc) cell there) in
      required_fails Word (spelled A cell) _ d in_word (λ none. first_of Word d at_word (record { cell = cell; is_there = there; spells_none = none })) (λ f spells in_dst.
      let has : HasFields A m s f = record { cell = cell; is_there = there; spells = spells } in
      let at_dst : Passed 3 = passes Word at_word (not_word f has) in
      required_fails Dst (dst_in f) _ d in_dst (λ none. first_of Dst d at_dst (record { f = f; fields = has; lacks = none })) (λ dst has_dst in_op0.
      let at_op0 : Passed 4 = passes Dst at_dst (not_dst f dst has has_dst) in
      required_fails Op0 (op0_in f) _ d in_op0 (λ none. first_of Op0 d at_op0 (record { f = f; fields = has; lacks = none })) (λ op0 has_op0 in_op1.
      let at_op1 : Passed 5 = passes Op0 at_op0 (not_op0 f op0 has has_op0) in
      required_fails Op1 (op1_in f op0) _ d in_op1 (λ none. first_of Op1 d at_op1 (record { f = f; op0 = op0; fields = has; has_op0 = has_op0; lacks = none })) (λ op1 has_op1 in_res.
      let at_res : Passed 6 = passes Op1 at_op1 (not_op1 f op0 op1 has has_op0 has_op1) in
      required_fails Res (result_of A f op0 op1) _ d in_res (λ none. first_of Res d at_res (record { f = f; op0 = op0; op1 = op1; fields = has; has_op0 = has_op0; has_op1 = has_op1; lacks = none })) (λ res is_result in_jump.
      let result : HasResult A m s f dst op0 op1 res = record { fields = has; has_dst = has_dst; has_op0 = has_op0; has_op1 = has_op1; is_result = is_result } in
      let at_jump : Passed 7 = passes Res at_res (not_res f dst op0 op1 res result) in
      required_fails Jump (next_pc A f s dst op1 res) _ d in_jump (λ none. first_of Jump d at_jump (record { f = f; dst = dst; op0 = op0; op1 = op1; res = res; has_result = result; lacks = none })) (λ pc leads_to in_call.
      let at_call : Passed 8 = passes Jump at_jump (not_jump f dst op0 op1 res result pc leads_to) in
      demanded_fails Call (keeps_call A f s dst op0) _ d in_call (λ broken. first_of Call d at_call (call_broken f dst op0 op1 res result broken)) (λ call in_assert.
      let at_assert : Passed 9 = passes Call at_call (not_call f dst op0 op1 res result (call_met A exact f s dst op0 call)) in
      demanded_fails Assert (keeps_assert A f dst res) _ d in_assert (λ broken. first_of Assert d at_assert (assert_broken f dst op0 op1 res result broken)) (λ assert in_ap.
      let at_frame : Passed 10 = passes Assert at_assert (not_assert f dst op0 op1 res result (λ is. exact.same_is res dst (demand_met f.opcode 4 _ assert is))) in
      required_fails Frame (next_ap A f s res) _ d in_ap (λ none. first_of Frame d at_frame (record { f = f; dst = dst; op0 = op0; op1 = op1; res = res; has_result = result; lacks = inl none })) (λ ap_next allocates in_fp.
      required_fails Frame (next_fp A f s dst) _ d in_fp (λ none. first_of Frame d at_frame (record { f = f; dst = dst; op0 = op0; op1 = op1; res = res; has_result = result; lacks = inr none })) (λ fp frames at_end.
      absurd (no_fault (record { pc = pc; ap = ap_next; fp = fp }) d at_end))))))))))))

  -- where a step is possible, no cause applies
  module _ (t : Registers V) (by : Moves A m s t) where
    fields_read : HasFields A m s by.f
    fields_read = record { cell = by.cell; is_there = by.is_fetched; spells = by.is_decoded }

    result_read : HasResult A m s by.f by.dst by.op0 by.op1 by.res
    result_read = record { fields = fields_read; has_dst = by.has_dst; has_op0 = by.has_op0; has_op1 = by.has_op1; is_result = by.has_result }

    no_cause : (d : StepFault) → ¬ Cause d
    no_cause Fetch = not_both (m s.pc) by.cell by.is_fetched
    no_cause Word = not_word by.f fields_read
    no_cause Dst = not_dst by.f by.dst fields_read by.has_dst
    no_cause Op0 = not_op0 by.f by.op0 fields_read by.has_op0
    no_cause Op1 = not_op1 by.f by.op0 by.op1 fields_read by.has_op0 by.has_op1
    no_cause Res = not_res by.f by.dst by.op0 by.op1 by.res result_read
    no_cause Jump = not_jump by.f by.dst by.op0 by.op1 by.res result_read t.pc by.leads_to
    no_cause Call = not_call by.f by.dst by.op0 by.op1 by.res result_read by.calls
    no_cause Assert = not_assert by.f by.dst by.op0 by.op1 by.res result_read by.asserts
    no_cause Frame = not_frame by.f by.dst by.op0 by.op1 by.res result_read t.ap t.fp by.allocates by.frames

  answer : (r : Result (Registers V) StepFault) → next A m s ≡ r → (d : StepFault) → IsFirstCause step_fault_number Cause d → r ≡ Err d
  answer (Ok t) is d first = absurd (no_cause t (moves A exact m s t is) d first.applies)
  answer (Err e) is d first = ap Err (one_first_cause step_fault_number Cause (λ c e same _ _. same_fault c e same) e d (to_first e is) first)

pub fault_forms_agree : {V : Type 0} (A : Arithmetic V) → IsExact A → FaultFormsAgree A
fault_forms_agree A exact m s d = (to_first A exact m s d, answer A exact m s (next A m s) refl d)
