-- The machine steps through a row exactly where the memory holds what the row asks, and to one state.
use Rattle.std.proofs.Common.{◌≡◌, ℕ, zero, suc, ◌+◌, ◌==◌, Bool, true, false, not, ◌&&◌, if◌then◌else◌, List, [], ◌∷◌, length, Option, Some, None, is_some, unwrap_or, option_and_then, refl, sym, ap, ◌∙◌, subst, arith}
use Rattle.std.specs.Prelude.{◌↔◌}
use Rattle.std.proofs.lemmas.Bool.Decides.{nat_tests}
use Rattle.cairo_word.specs.Word.{Fields, fields_of, instruction_size}
use Rattle.cairo_word.specs.declared.word.Reg.{Reg}
use Rattle.cairo_word.specs.declared.word.Reg.TheVariants.{Ap, Fp}
use Rattle.goldi_field.specs.Numbers.{sum_of, product_of}
use Rattle.cairo_model.specs.Machine.Steps.{Registers, field_arithmetic, Moves, Step, RunFrom, last_of, decoded, spelled, offset_number, register_in, op1_from, found, result_of, next_pc, next_ap, next_fp}
use Rattle.cairo_model.proofs.Inversion.{moves, moved_so, field_exact}
use Rattle.cairo_model.proofs.NumberTests.{pick, eq_is, not_is}
use Rattle.cairo_model.proofs.Outcomes.{some_is}
use Rattle.boot_program.specs.Words.{HasCode}
use Rattle.boot_program.specs.Rows.{cell_value, decoded_at, instruction_at, SymbolicState, shifted, above, state_of, register_address, dst_address, op0_address, op0_value, op1_address, code_operand, op1_value, res_value, dst_value, Where, RowHolds, next_symbolic, is_row, are_rows, RowsHold, rows_from, symbolic_after}

-- what stands there
at_is : (m : ℕ → Option ℕ) (x v : ℕ) → m x ≡ Some v → cell_value m x ≡ v
at_is m x v e = ap (λ o. unwrap_or o 0) e

pub sum_moved : (a i k : ℕ) → sum_of (sum_of a i) k ≡ sum_of a (sum_of i k)
sum_moved a i k = omega arith

above_moved : (base : ℕ) (shift : Option ℕ) (k : ℕ) → sum_of (above base shift) k ≡ above base (shifted shift k)
above_moved base None k = refl
above_moved base (Some i) k = sum_moved base i k

register_moved : (s : SymbolicState) (r : Reg) (k : ℕ) → sum_of (register_in (state_of s) r) k ≡ register_address s r k
register_moved s Ap k = above_moved s.base s.shift k
register_moved s Fp k = refl

-- the result and the next pc, which are always defined
result_by_tests : (jumps copies adds : Bool) (a b : ℕ) →
    (if jumps then Some b else (if copies then Some b else (if adds then Some (sum_of a b) else Some (product_of a b))))
    ≡ Some (if jumps then b else (if copies then b else (if adds then sum_of a b else product_of a b)))
result_by_tests true copies adds a b = refl
result_by_tests false true adds a b = refl
result_by_tests false false true a b = refl
result_by_tests false false false a b = refl

pc_by_tests : (goes_on jumps steps nil : Bool) (next res less far : ℕ) →
    (if goes_on then Some next else (if jumps then Some res else (if steps then Some less else (if nil then Some next else Some far))))
    ≡ Some (if goes_on then next else (if jumps then res else (if steps then less else (if nil then next else far))))
pc_by_tests true jumps steps nil next res less far = refl
pc_by_tests false true steps nil next res less far = refl
pc_by_tests false false true nil next res less far = refl
pc_by_tests false false false true next res less far = refl
pc_by_tests false false false false next res less far = refl

-- the next ap and fp of a place are those of its state
ap_by_tests : (calls keeps moves code : Bool) (base : ℕ) (shift : Option ℕ) (res : ℕ) → (keeps ≡ true → moves ≡ false) →
    (if calls then Some (sum_of (above base shift) 2) else (if keeps then Some (above base shift) else (if moves then Some (sum_of (above base shift) res) else Some (sum_of (above base shift) 1))))
    ≡ Some (above (if calls then above base (shifted shift 2) else (if moves && not code then above base (shifted shift res) else base))
    (if calls then None else (if keeps then shift else (if moves then (if code then shifted shift res else None) else shifted shift 1))))
ap_by_tests true keeps moves code base shift res apart = ap Some (above_moved base shift 2)
ap_by_tests false true true code base shift res apart = absurd (let e = apart refl in cc)
ap_by_tests false true false code base shift res apart = refl
ap_by_tests false false true true base shift res apart = ap Some (above_moved base shift res)
ap_by_tests false false true false base shift res apart = ap Some (above_moved base shift res)
ap_by_tests false false false code base shift res apart = ap Some (above_moved base shift 1)

apart_tests : (n : ℕ) → (n == 0) ≡ true → (n == 1) ≡ false
apart_tests n e = grind (arith, nat_tests)

fp_by_tests : (calls returns : Bool) (base : ℕ) (shift : Option ℕ) (dst fp : ℕ) →
    (if calls then Some (sum_of (above base shift) 2) else (if returns then Some dst else Some fp))
    ≡ Some (if calls then above base (shifted shift 2) else (if returns then dst else fp))
fp_by_tests true returns base shift dst fp = ap Some (above_moved base shift 2)
fp_by_tests false true base shift dst fp = refl
fp_by_tests false false base shift dst fp = refl

apart_code : (n : ℕ) → (n == 1) ≡ true → (n == 0) ≡ false
apart_code n e = grind (arith, nat_tests)

-- op1 by where it stands: from op0, in the code, from fp, or from ap
module _ (m : ℕ → Option ℕ) (op0 pc fp base k code : ℕ) (shift : Option ℕ) where
  operand_cell : Bool → Bool → ℕ
  operand_cell z w = if z then sum_of op0 k else (if w then sum_of fp k else above base (shifted shift k))

  operand_from : Bool → Bool → Bool → ℕ
  operand_from z o w = if z then op0 else (if o then pc else (if w then fp else above base shift))

  same_cell : (z w : Bool) → sum_of (operand_from z false w) k ≡ operand_cell z w
  unfolding operand_cell operand_from
  same_cell true w = refl
  same_cell false true = refl
  same_cell false false = above_moved base shift k

  operand_value : Bool → Bool → Bool → ℕ
  operand_value z o w = if o then code else cell_value m (operand_cell z w)

  operand_goes : (z o w : Bool) → (o ≡ true → z ≡ false) → (o ≡ true → m (sum_of pc k) ≡ Some code)
      → Where (not o) (m (operand_cell z w) ≡ Some (operand_value z o w)) → m (sum_of (operand_from z o w) k) ≡ Some (operand_value z o w)
  unfolding operand_cell operand_from operand_value
  operand_goes true true w apart in_code there = absurd (let e = apart refl in cc)
  operand_goes false true w apart in_code there = in_code refl
  operand_goes z false w apart in_code there = ap m (same_cell z w) ∙ there

  operand_gives : (z o w : Bool) → (o ≡ true → z ≡ false) → (o ≡ true → m (sum_of pc k) ≡ Some code) → (v : ℕ)
      → m (sum_of (operand_from z o w) k) ≡ Some v → (operand_value z o w ≡ v) × Where (not o) (m (operand_cell z w) ≡ Some (operand_value z o w))
  unfolding operand_cell operand_from operand_value
  operand_gives true true w apart in_code v is = absurd (let e = apart refl in cc)
  operand_gives false true w apart in_code v is = (some_is _ _ (sym (in_code refl) ∙ is), tt)
  operand_gives z false w apart in_code v is =
      let here : m (operand_cell z w) ≡ Some v = sym (ap m (same_cell z w)) ∙ is in
      let same : cell_value m (operand_cell z w) ≡ v = at_is m (operand_cell z w) v here in
      (same, here ∙ ap Some (sym same))

-- what a step goes through, by the fields of its word
record Gone (m : ℕ → Option ℕ) (s : SymbolicState) (t : Registers ℕ) (f : Fields) : Type 0 where
  dst : ℕ
  op0 : ℕ
  op1 : ℕ
  res : ℕ
  has_dst : m (sum_of (register_in (state_of s) f.dst_reg) (offset_number f.off_dst)) ≡ Some dst
  has_op0 : m (sum_of (register_in (state_of s) f.op0_reg) (offset_number f.off_op0)) ≡ Some op0
  has_op1 : found field_arithmetic m (op1_from f (state_of s) op0) f.off_op1 ≡ Some op1
  has_result : result_of field_arithmetic f op0 op1 ≡ Some res
  calls : f.opcode ≡ 1 → (Some (sum_of s.pc (instruction_size f)) ≡ Some op0) × (dst ≡ s.fp)
  asserts : f.opcode ≡ 4 → res ≡ dst
  leads_to : next_pc field_arithmetic f (state_of s) dst op1 res ≡ Some t.pc
  allocates : next_ap field_arithmetic f (state_of s) res ≡ Some t.ap
  frames : next_fp field_arithmetic f (state_of s) dst ≡ Some t.fp

gone : (m : ℕ → Option ℕ) (s : SymbolicState) (t : Registers ℕ) (by : Moves field_arithmetic m (state_of s) t) → Gone m s t by.f
gone m s t by = record {
  dst = by.dst;
  op0 = by.op0;
  op1 = by.op1;
  res = by.res;
  has_dst = by.has_dst;
  has_op0 = by.has_op0;
  has_op1 = by.has_op1;
  has_result = by.has_result;
  calls = by.calls;
  asserts = by.asserts;
  leads_to = by.leads_to;
  allocates = by.allocates;
  frames = by.frames;
}

same_state : (t u : Registers ℕ) → t.pc ≡ u.pc → t.ap ≡ u.ap → t.fp ≡ u.fp → t ≡ u
same_state t u pc ap_same fp = λ i. record { pc = pc i; ap = ap_same i; fp = fp i }

fields_are : (word cell : ℕ) (f g : Fields) → decoded word ≡ Some f → Some cell ≡ Some word → spelled field_arithmetic cell ≡ Some g → g ≡ f
fields_are word cell f g spells same other =
    let e : cell ≡ word = some_is cell word same in
    let is : decoded word ≡ Some g = subst (λ (w : ℕ). decoded w ≡ Some g) e other in
    fields_same (sym is ∙ spells)
  where
    fields_same : Some g ≡ Some f → g ≡ f
    fields_same both = cc

module _ (code : ℕ → Option ℕ) (m : ℕ → Option ℕ) (f : Fields) (s : SymbolicState) where
  ap_next : next_ap field_arithmetic f (state_of s) (res_value code m f s) ≡ Some (state_of (next_symbolic code m f s)).ap
  ap_next = ap_by_tests (f.opcode == 1) (f.ap_update == 0) (f.ap_update == 1) (f.op1_src == 1) s.base s.shift (res_value code m f s) (apart_tests f.ap_update)

  result_next : result_of field_arithmetic f (op0_value m f s) (op1_value code m f s) ≡ Some (res_value code m f s)
  result_next = result_by_tests (f.pc_update == 4) (f.res_logic == 0) (f.res_logic == 1) (op0_value m f s) (op1_value code m f s)

  pc_next : next_pc field_arithmetic f (state_of s) (dst_value code m f s) (op1_value code m f s) (res_value code m f s) ≡ Some (next_symbolic code m f s).pc
  pc_next = pc_by_tests (f.pc_update == 0) (f.pc_update == 1) (f.pc_update == 2) (dst_value code m f s == 0)
      (sum_of s.pc (instruction_size f)) (res_value code m f s) (sum_of s.pc (res_value code m f s)) (sum_of s.pc (op1_value code m f s))

  fp_next : next_fp field_arithmetic f (state_of s) (dst_value code m f s) ≡ Some (next_symbolic code m f s).fp
  fp_next = fp_by_tests (f.opcode == 1) (f.opcode == 2) s.base s.shift (dst_value code m f s) s.fp

  -- the word that an operand in the code is
  InCode : Type 0
  InCode = f.op1_src ≡ 1 → m (sum_of s.pc (offset_number f.off_op1)) ≡ Some (unwrap_or (code_operand code f s) 0)

  op1_goes : InCode → Where (not (f.op1_src == 1)) (m (op1_address m f s) ≡ Some (op1_value code m f s))
      → found field_arithmetic m (op1_from f (state_of s) (op0_value m f s)) f.off_op1 ≡ Some (op1_value code m f s)
  unfolding InCode operand_cell operand_from operand_value
  op1_goes in_code there = operand_goes m (op0_value m f s) s.pc s.fp s.base (offset_number f.off_op1) (unwrap_or (code_operand code f s) 0) s.shift
      (f.op1_src == 0) (f.op1_src == 1) (f.op1_src == 2) (apart_code f.op1_src) (λ e. in_code (eq_is f.op1_src 1 e)) there

  op1_gives : InCode → (v : ℕ) → found field_arithmetic m (op1_from f (state_of s) (op0_value m f s)) f.off_op1 ≡ Some v
      → (op1_value code m f s ≡ v) × Where (not (f.op1_src == 1)) (m (op1_address m f s) ≡ Some (op1_value code m f s))
  unfolding InCode operand_cell operand_from operand_value
  op1_gives in_code v is = operand_gives m (op0_value m f s) s.pc s.fp s.base (offset_number f.off_op1) (unwrap_or (code_operand code f s) 0) s.shift
      (f.op1_src == 0) (f.op1_src == 1) (f.op1_src == 2) (apart_code f.op1_src) (λ e. in_code (eq_is f.op1_src 1 e)) v is

  -- the other two operands
  op0_gives : (v : ℕ) → m (op0_address f s) ≡ Some v → (f.opcode ≡ 1 → Some (sum_of s.pc (instruction_size f)) ≡ Some v) → op0_value m f s ≡ v
  op0_gives v is calls = pick (λ u. u ≡ v) (f.opcode == 1) (sum_of s.pc (instruction_size f)) (cell_value m (op0_address f s))
      (λ e. some_is _ _ (calls (eq_is f.opcode 1 e))) (λ _. at_is m (op0_address f s) v is)

  dst_gives : (v : ℕ) → m (dst_address f s) ≡ Some v → (f.opcode ≡ 4 → res_value code m f s ≡ v) → (f.opcode ≡ 1 → v ≡ s.fp) → dst_value code m f s ≡ v
  dst_gives v is asserts calls = pick (λ u. u ≡ v) (f.opcode == 4) (res_value code m f s) (if f.opcode == 1 then s.fp else cell_value m (dst_address f s))
      (λ e. asserts (eq_is f.opcode 4 e))
      (λ _. pick (λ u. u ≡ v) (f.opcode == 1) s.fp (cell_value m (dst_address f s)) (λ e. sym (calls (eq_is f.opcode 1 e))) (λ _. at_is m (dst_address f s) v is))

  dst_asserts : f.opcode ≡ 4 → res_value code m f s ≡ dst_value code m f s
  dst_asserts e = pick (λ u. res_value code m f s ≡ u) (f.opcode == 4) (res_value code m f s) (if f.opcode == 1 then s.fp else cell_value m (dst_address f s))
      (λ _. refl) (λ no. absurd (not_is f.opcode 4 no e))

  dst_calls : f.opcode ≡ 1 → dst_value code m f s ≡ s.fp
  dst_calls e = pick (λ u. u ≡ s.fp) (f.opcode == 4) (res_value code m f s) (if f.opcode == 1 then s.fp else cell_value m (dst_address f s))
      (λ four. absurd (let is = eq_is f.opcode 4 four in omega arith))
      (λ _. pick (λ u. u ≡ s.fp) (f.opcode == 1) s.fp (cell_value m (dst_address f s)) (λ _. refl) (λ no. absurd (not_is f.opcode 1 no e)))

  op0_calls : f.opcode ≡ 1 → Some (sum_of s.pc (instruction_size f)) ≡ Some (op0_value m f s)
  op0_calls e = pick (λ u. Some (sum_of s.pc (instruction_size f)) ≡ Some u) (f.opcode == 1) (sum_of s.pc (instruction_size f)) (cell_value m (op0_address f s))
      (λ _. refl) (λ no. absurd (not_is f.opcode 1 no e))

  -- the row, where the word at pc spells these fields
  module _ (word : ℕ) (fetched : m s.pc ≡ Some word) (spells : decoded word ≡ Some f) (in_code : InCode) where
    row_moves : RowHolds code m f s → Moves field_arithmetic m (state_of s) (state_of (next_symbolic code m f s))
    row_moves holds = record {
      cell = word;
      f = f;
      dst = dst_value code m f s;
      op0 = op0_value m f s;
      op1 = op1_value code m f s;
      res = res_value code m f s;
      is_fetched = fetched;
      is_decoded = spells;
      has_dst = ap m (register_moved s f.dst_reg (offset_number f.off_dst)) ∙ holds.2;
      has_op0 = ap m (register_moved s f.op0_reg (offset_number f.off_op0)) ∙ holds.0;
      has_op1 = op1_goes in_code holds.1;
      has_result = result_next;
      calls = λ e. (op0_calls e, dst_calls e);
      asserts = dst_asserts;
      leads_to = pc_next;
      allocates = ap_next;
      frames = fp_next;
    }

    row_goes : RowHolds code m f s → Step field_arithmetic m (state_of s) (state_of (next_symbolic code m f s))
    row_goes holds = moved_so field_arithmetic field_exact m _ _ (row_moves holds)

    row_gone : (t : Registers ℕ) → Gone m s t f → RowHolds code m f s × (t ≡ state_of (next_symbolic code m f s))
    row_gone t by =
        let here0 : m (op0_address f s) ≡ Some by.op0 = sym (ap m (register_moved s f.op0_reg (offset_number f.off_op0))) ∙ by.has_op0 in
        let op0 : op0_value m f s ≡ by.op0 = op0_gives by.op0 here0 (λ e. (by.calls e).0) in
        let found1 : found field_arithmetic m (op1_from f (state_of s) (op0_value m f s)) f.off_op1 ≡ Some by.op1 =
        ap (λ (v : ℕ). found field_arithmetic m (op1_from f (state_of s) v) f.off_op1) op0 ∙ by.has_op1 in
        let op1 = op1_gives in_code by.op1 found1 in
        let result : result_of field_arithmetic f (op0_value m f s) (op1_value code m f s) ≡ Some by.res =
        ap (λ (v : ℕ). result_of field_arithmetic f v (op1_value code m f s)) op0 ∙ ap (λ (v : ℕ). result_of field_arithmetic f by.op0 v) op1.0 ∙ by.has_result in
        let res : res_value code m f s ≡ by.res = some_is _ _ (sym result_next ∙ result) in
        let here : m (dst_address f s) ≡ Some by.dst = sym (ap m (register_moved s f.dst_reg (offset_number f.off_dst))) ∙ by.has_dst in
        let dst : dst_value code m f s ≡ by.dst = dst_gives by.dst here (λ e. res ∙ by.asserts e) (λ e. (by.calls e).1) in
        let pc : next_pc field_arithmetic f (state_of s) (dst_value code m f s) (op1_value code m f s) (res_value code m f s) ≡ Some t.pc =
        ap (λ (v : ℕ). next_pc field_arithmetic f (state_of s) v (op1_value code m f s) (res_value code m f s)) dst
        ∙ ap (λ (v : ℕ). next_pc field_arithmetic f (state_of s) by.dst v (res_value code m f s)) op1.0
        ∙ ap (λ (v : ℕ). next_pc field_arithmetic f (state_of s) by.dst by.op1 v) res ∙ by.leads_to in
        let ap_is : (state_of (next_symbolic code m f s)).ap ≡ t.ap =
        some_is _ _ (sym ap_next ∙ ap (λ (v : ℕ). next_ap field_arithmetic f (state_of s) v) res ∙ by.allocates) in
        let fp_is : (next_symbolic code m f s).fp ≡ t.fp =
        some_is _ _ (sym fp_next ∙ ap (λ (v : ℕ). next_fp field_arithmetic f (state_of s) v) dst ∙ by.frames) in (
          (here0 ∙ ap Some (sym op0), op1.1, here ∙ ap Some (sym dst)),
          same_state t (state_of (next_symbolic code m f s)) (sym (some_is _ _ (sym pc_next ∙ pc))) (sym ap_is) (sym fp_is),
        )

    row_gives : (t : Registers ℕ) → Step field_arithmetic m (state_of s) t → RowHolds code m f s × (t ≡ state_of (next_symbolic code m f s))
    row_gives t step =
        let by = moves field_arithmetic field_exact m (state_of s) t step in
        let same : by.f ≡ f = fields_are word by.cell f by.f spells (sym by.is_fetched ∙ fetched) by.is_decoded in
        row_gone t (subst (λ (g : Fields). Gone m s t g) same (gone m s t by))

-- a row of a program over a memory that holds the program
fields_there : (o : Option Fields) → is_some o ≡ true → o ≡ Some (unwrap_or o (fields_of 0))
fields_there None e = absurd (cc)
fields_there (Some f) e = refl

word_there : (o : Option ℕ) → is_some (option_and_then decoded o) ≡ true
    → (word : ℕ) × (o ≡ Some word) × (decoded word ≡ Some (unwrap_or (option_and_then decoded o) (fields_of 0)))
word_there None there = absurd (cc)
word_there (Some w) there = (w, refl, fields_there (decoded w) there)

number_there : (o : Option ℕ) → is_some o ≡ true → o ≡ Some (unwrap_or o 0)
number_there None e = absurd (cc)
number_there (Some n) e = refl

pub left_true : (a b : Bool) → a && b ≡ true → a ≡ true
left_true true b e = refl
left_true false b e = absurd (cc)

pub right_true : (a b : Bool) → a && b ≡ true → b ≡ true
right_true true b e = e
right_true false b e = absurd (cc)

code_true : (n : ℕ) (b : Bool) → (if n == 1 then b else true) ≡ true → n ≡ 1 → b ≡ true
code_true n b e is = grind (arith, nat_tests, e)

module _ (code : ℕ → Option ℕ) (m : ℕ → Option ℕ) (boot : HasCode code m) (s : SymbolicState) (row : is_row code s ≡ true) where
  code_there : InCode code m (instruction_at code s.pc) s
  unfolding InCode
  code_there e =
      let there : is_some (code_operand code (instruction_at code s.pc) s) ≡ true = code_true (instruction_at code s.pc).op1_src _ (right_true (is_some (decoded_at code s.pc)) _ row) e in
      boot _ _ (number_there (code_operand code (instruction_at code s.pc) s) there)

  pub goes : RowHolds code m (instruction_at code s.pc) s → Step field_arithmetic m (state_of s) (state_of (next_symbolic code m (instruction_at code s.pc) s))
  goes = let there = word_there (code s.pc) (left_true (is_some (decoded_at code s.pc)) _ row) in
      row_goes code m (instruction_at code s.pc) s there.0 (boot s.pc there.0 there.1) there.2 code_there

  pub gives : (t : Registers ℕ) → Step field_arithmetic m (state_of s) t → RowHolds code m (instruction_at code s.pc) s × (t ≡ state_of (next_symbolic code m (instruction_at code s.pc) s))
  gives = let there = word_there (code s.pc) (left_true (is_some (decoded_at code s.pc)) _ row) in
      row_gives code m (instruction_at code s.pc) s there.0 (boot s.pc there.0 there.1) there.2 code_there

pub same_list : (t u : Registers ℕ) (ts us : List (Registers ℕ)) → t ≡ u → ts ≡ us → t ∷ ts ≡ u ∷ us
same_list t u ts us first rest = cc

-- so many rows of a program
module _ (code : ℕ → Option ℕ) (m : ℕ → Option ℕ) (boot : HasCode code m) where
  pub rows_go : (n : ℕ) (s : SymbolicState) → are_rows code n m s ≡ true → RowsHold code n m s → RunFrom field_arithmetic m (state_of s) (rows_from code n m s)
  unfolding are_rows RowsHold rows_from
  rows_go zero s rows holds = tt
  rows_go (suc n) s rows holds = (goes code m boot s (left_true (is_row code s) _ rows) holds.0, rows_go n (next_symbolic code m (instruction_at code s.pc) s) (right_true (is_row code s) _ rows) holds.1)

  pub rows_give : (n : ℕ) (s : SymbolicState) (ts : List (Registers ℕ)) → are_rows code n m s ≡ true → length ts ≡ n → RunFrom field_arithmetic m (state_of s) ts
      → RowsHold code n m s × (ts ≡ rows_from code n m s)
  unfolding are_rows RowsHold rows_from
  rows_give zero s [] rows count run = (tt, refl)
  rows_give zero s (t ∷ ts) rows count run = absurd (omega (arith, count))
  rows_give (suc n) s [] rows count run = absurd (omega (arith, count))
  rows_give (suc n) s (t ∷ ts) rows count run =
      let first = gives code m boot s (left_true (is_row code s) _ rows) t run.0 in
      let rest = rows_give n (next_symbolic code m (instruction_at code s.pc) s) ts (right_true (is_row code s) _ rows) (omega (arith, count))
      (subst (λ (r : Registers ℕ). RunFrom field_arithmetic m r ts) first.1 run.1) in
      ((first.0, rest.0), same_list t (state_of (next_symbolic code m (instruction_at code s.pc) s)) ts _ first.1 rest.1)

  pub rows_end : (n : ℕ) (s : SymbolicState) → last_of (state_of s) (rows_from code n m s) ≡ state_of (symbolic_after code n m s)
  unfolding rows_from symbolic_after
  rows_end zero s = refl
  rows_end (suc n) s = rows_end n (next_symbolic code m (instruction_at code s.pc) s)

-- the rows of a stretch in two parts
pub rows_joined : (code m : ℕ → Option ℕ) (n k total : ℕ) → n + k ≡ total → (s : SymbolicState) → RowsHold code n m s → RowsHold code k m (symbolic_after code n m s) → RowsHold code total m s
unfolding RowsHold symbolic_after
rows_joined code m zero k total count s first second = subst (λ (x : ℕ). RowsHold code x m s) (omega (arith, count)) second
rows_joined code m (suc n) k zero count s first second = absurd (omega (arith, count))
rows_joined code m (suc n) k (suc total) count s first second = (first.0, rows_joined code m n k total (omega (arith, count)) (next_symbolic code m (instruction_at code s.pc) s) first.1 second)

pub row_law : (code : ℕ → Option ℕ) (m : ℕ → Option ℕ) → HasCode code m → (s : SymbolicState) → is_row code s ≡ true → (t : Registers ℕ)
    → Step field_arithmetic m (state_of s) t ↔ (RowHolds code m (instruction_at code s.pc) s × (t ≡ state_of (next_symbolic code m (instruction_at code s.pc) s)))
row_law code m boot s row t = (gives code m boot s row t, λ by. subst (λ (x : Registers ℕ). Step field_arithmetic m (state_of s) x) (sym by.1) (goes code m boot s row by.0))
