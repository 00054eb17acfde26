-- The Cairo machine's transition, stated once over any arithmetic (Cairo whitepaper, 'State transition';
-- docs/MACHINE.md). A memory is a partial function from addresses to values. Two instances serve: field numbers
-- over field memories, and values (numbers and places) over value memories.
use Rattle.std.specs.Prelude.{ℕ, ◌≡◌, ◌≢◌, ◌+◌, ◌-◌, Bool, true, false, ◌==◌, ◌&&◌, List, [], ◌∷◌, ℤ, pos, negsuc, Option, Some, None, is_some, Result, Ok, Err, if◌then◌else◌, option_and_then}
use Rattle.cairo_word.specs.Word.{Fields, fields_of, word_fault_of, instruction_size}
use Rattle.cairo_word.specs.declared.word.Reg.{Reg}
use Rattle.cairo_word.specs.declared.word.Reg.TheVariants.{Ap, Fp}
use Rattle.goldi_field.specs.Numbers.{prime, sum_of, product_of}
use Rattle.cairo_model.specs.Machine.Values.{Datum, number, Sum, Product, is_zero_datum, same_datum, number_in}
use Rattle.cairo_model.specs.declared.fault.StepFault.{StepFault}
use Rattle.cairo_model.specs.declared.fault.StepFault.TheVariants.{Fetch, Word, Dst, Op0, Op1, Res, Jump, Call, Assert, Frame}

-- What the machine needs of its values: partial sums and products, the value of a number, the number that a word is
-- read from, and tests for zero and for equal values.
pub record Arithmetic (V : Type 0) : Type 0 where
  pub sum : V → V → Option V
  pub product : V → V → Option V
  pub numeral : ℕ → V
  pub read : V → Option ℕ
  pub is_zero : V → Bool
  pub same : V → V → Bool

-- program counter, allocation pointer and frame pointer
pub record Registers (V : Type 0) : Type 0 where
  pub pc : V
  pub ap : V
  pub fp : V

-- the arithmetic of field numbers, in which nothing is undefined
abbrev pub field_arithmetic : Arithmetic ℕ
field_arithmetic = record {
  sum = λ a b. Some (sum_of a b);
  product = λ a b. Some (product_of a b);
  numeral = λ n. n;
  read = λ a. Some a;
  is_zero = λ a. a == 0;
  same = λ a b. a == b;
}

-- the arithmetic of values, which is partial
abbrev pub value_arithmetic : Arithmetic Datum
value_arithmetic = record {
  sum = Sum;
  product = Product;
  numeral = number;
  read = number_in;
  is_zero = is_zero_datum;
  same = same_datum;
}

infixl 10 ◌>>=◌
abbrev pub ◌>>=◌ : {A B E : Type 0} → Result A E → (A → Result B E) → Result B E
(Ok x) >>= f = f x
(Err e) >>= f = Err e

abbrev pub required : {A E : Type 0} → E → Option A → Result A E
required e (Some x) = Ok x
required e None = Err e

-- goes on where a demand holds
abbrev pub demanded : {E : Type 0} → E → Bool → Result Bool E
demanded e true = Ok true
demanded e false = Err e

-- an offset as a field number: -k is prime - k
abbrev pub offset_number : ℤ → ℕ
offset_number (pos n) = n
offset_number (negsuc n) = prime - (n + 1)

-- the value of the register that an instruction names
abbrev pub register_in : {V : Type 0} → Registers V → Reg → V
register_in s Ap = s.ap
register_in s Fp = s.fp

-- a value so many on
abbrev pub moved : {V : Type 0} → Arithmetic V → V → ℕ → Option V
moved A v n = A.sum v (A.numeral n)

-- what the memory has at a value and an offset
abbrev pub found : {V : Type 0} → Arithmetic V → (V → Option V) → V → ℤ → Option V
found A m from offset = option_and_then m (moved A from (offset_number offset))

-- the fields of a word that is defined
abbrev pub decoded : ℕ → Option Fields
decoded w = if is_some (word_fault_of w) then None else Some (fields_of w)

-- the fields that the cell of a value spells
abbrev pub spelled : {V : Type 0} → Arithmetic V → V → Option Fields
spelled A cell = option_and_then decoded (A.read cell)

-- the address after the instruction
abbrev pub after : {V : Type 0} → Arithmetic V → Fields → Registers V → Option V
after A f s = moved A s.pc (instruction_size f)

-- what the address of op1 counts from, by op1_src
abbrev pub op1_from : {V : Type 0} → Fields → Registers V → V → V
op1_from f s op0 = if f.op1_src == 0 then op0 else (if f.op1_src == 1 then s.pc else (if f.op1_src == 2 then s.fp else s.ap))

-- a conditional jump has no result, and op1 stands in its place unused
abbrev pub result_of : {V : Type 0} → Arithmetic V → Fields → V → V → Option V
result_of A f op0 op1 =
    if f.pc_update == 4 then Some op1
    else (if f.res_logic == 0 then Some op1
    else (if f.res_logic == 1 then A.sum op0 op1
    else A.product op0 op1))

-- the next program counter: the next instruction, an absolute jump, a relative one, or a conditional one
abbrev pub next_pc : {V : Type 0} → Arithmetic V → Fields → Registers V → V → V → V → Option V
next_pc A f s dst op1 res =
    if f.pc_update == 0 then after A f s
    else (if f.pc_update == 1 then Some res
    else (if f.pc_update == 2 then A.sum s.pc res
    else (if A.is_zero dst then after A f s else A.sum s.pc op1)))

-- a value that is defined is this one
abbrev pub is_value : {V : Type 0} → Arithmetic V → Option V → V → Bool
is_value A None v = false
is_value A (Some u) v = A.same u v

-- a call asks that op0 be the return address and dst the present frame pointer
abbrev pub keeps_call : {V : Type 0} → Arithmetic V → Fields → Registers V → V → V → Bool
keeps_call A f s dst op0 = if f.opcode == 1 then is_value A (after A f s) op0 && A.same dst s.fp else true

-- an assertion asks that the result be dst
abbrev pub keeps_assert : {V : Type 0} → Arithmetic V → Fields → V → V → Bool
keeps_assert A f dst res = if f.opcode == 4 then A.same res dst else true

-- the next allocation pointer
abbrev pub next_ap : {V : Type 0} → Arithmetic V → Fields → Registers V → V → Option V
next_ap A f s res =
    if f.opcode == 1 then moved A s.ap 2
    else (if f.ap_update == 0 then Some s.ap
    else (if f.ap_update == 1 then A.sum s.ap res
    else moved A s.ap 1))

-- the next frame pointer: above the two cells of a call, dst at a return, else as before
abbrev pub next_fp : {V : Type 0} → Arithmetic V → Fields → Registers V → V → Option V
next_fp A f s dst =
    if f.opcode == 1 then moved A s.ap 2
    else (if f.opcode == 2 then Some dst else Some s.fp)

-- The state after one step, or the first fault in the order of the table of faults. `Transition`, below, is the rule in
-- the whitepaper's words; `rules_agree` in src/laws.rt says that both are one.
unfoldable pub next : {V : Type 0} → Arithmetic V → (V → Option V) → Registers V → Result (Registers V) StepFault
next A m s = do
  cell ← required Fetch (m s.pc)
  f ← required Word (spelled A cell)
  dst ← required Dst (found A m (register_in s f.dst_reg) f.off_dst)
  op0 ← required Op0 (found A m (register_in s f.op0_reg) f.off_op0)
  op1 ← required Op1 (found A m (op1_from f s op0) f.off_op1)
  res ← required Res (result_of A f op0 op1)
  pc ← required Jump (next_pc A f s dst op1 res)
  call ← demanded Call (keeps_call A f s dst op0)
  assert ← demanded Assert (keeps_assert A f dst res)
  ap ← required Frame (next_ap A f s res)
  fp ← required Frame (next_fp A f s dst)
  Ok (record { pc = pc; ap = ap; fp = fp })

-- one step is possible, and leads from the one to the other
abbrev pub Step : {V : Type 0} → Arithmetic V → (V → Option V) → Registers V → Registers V → Type 0
Step A m s t = next A m s ≡ Ok t

-- the first line of the table of faults that a state meets
abbrev pub StepFaultOf : {V : Type 0} → Arithmetic V → (V → Option V) → Registers V → StepFault → Type 0
StepFaultOf A m s fault = next A m s ≡ Err fault

-- each neighbour from the first state on is a step
abbrev pub RunFrom : {V : Type 0} → Arithmetic V → (V → Option V) → Registers V → List (Registers V) → Type 0
RunFrom A m s [] = Unit {0}
RunFrom A m s (t ∷ ts) = Step A m s t × RunFrom A m t ts

-- a list of states, not empty, in which each two neighbours are a step
abbrev pub Run : {V : Type 0} → Arithmetic V → (V → Option V) → List (Registers V) → Type 0
Run A m [] = ⊥
Run A m (s ∷ ss) = RunFrom A m s ss

-- the last of a state and those after it
abbrev pub last_of : {V : Type 0} → Registers V → List (Registers V) → Registers V
last_of s [] = s
last_of s (t ∷ ts) = last_of t ts

-- a run that begins in s and ends in t
abbrev pub RunsTo : {V : Type 0} → Arithmetic V → (V → Option V) → Registers V → List (Registers V) → Registers V → Type 0
RunsTo A m s [] t = ⊥
RunsTo A m s (u ∷ us) t = (u ≡ s) × (RunFrom A m u us × (last_of u us ≡ t))

-- The rule of a step as a list of equations by the words above; proofs take a step apart into these.
pub record Moves {V : Type 0} (A : Arithmetic V) (m : V → Option V) (s t : Registers V) : Type 0 where
  pub cell : V
  pub f : Fields
  pub dst : V
  pub op0 : V
  pub op1 : V
  pub res : V
  pub is_fetched : m s.pc ≡ Some cell
  pub is_decoded : spelled A cell ≡ Some f
  pub has_dst : found A m (register_in s f.dst_reg) f.off_dst ≡ Some dst
  pub has_op0 : found A m (register_in s f.op0_reg) f.off_op0 ≡ Some op0
  pub has_op1 : found A m (op1_from f s op0) f.off_op1 ≡ Some op1
  pub has_result : result_of A f op0 op1 ≡ Some res
  pub calls : f.opcode ≡ 1 → (after A f s ≡ Some op0) × (dst ≡ s.fp)
  pub asserts : f.opcode ≡ 4 → res ≡ dst
  pub leads_to : next_pc A f s dst op1 res ≡ Some t.pc
  pub allocates : next_ap A f s res ≡ Some t.ap
  pub frames : next_fp A f s dst ≡ Some t.fp

-- The test of an arithmetic for equal values is one.
pub record IsExact {V : Type 0} (A : Arithmetic V) : Type 0 where
  pub same_is : (a b : V) → A.same a b ≡ true → a ≡ b
  pub is_same : (a b : V) → a ≡ b → A.same a b ≡ true

-- The rule of a step by the numbers of its flags, as the whitepaper tells it.
pub record Transition {V : Type 0} (A : Arithmetic V) (m : V → Option V) (s t : Registers V) : Type 0 where
  pub cell : V
  pub word : ℕ
  pub f : Fields
  pub dst : V
  pub op0 : V
  pub op1 : V
  pub res : V
  -- the cell at pc is a number that is a defined word with these fields
  pub is_fetched : m s.pc ≡ Some cell
  pub is_number : A.read cell ≡ Some word
  pub is_defined : word_fault_of word ≡ None
  pub has_fields : f ≡ fields_of word
  -- the operands
  pub dst_is : found A m (register_in s f.dst_reg) f.off_dst ≡ Some dst
  pub op0_is : found A m (register_in s f.op0_reg) f.off_op0 ≡ Some op0
  pub from_op0 : f.op1_src ≡ 0 → found A m op0 f.off_op1 ≡ Some op1
  pub from_pc : f.op1_src ≡ 1 → found A m s.pc f.off_op1 ≡ Some op1
  pub from_fp : f.op1_src ≡ 2 → found A m s.fp f.off_op1 ≡ Some op1
  pub from_ap : f.op1_src ≡ 4 → found A m s.ap f.off_op1 ≡ Some op1
  -- the result
  pub plain : f.pc_update ≢ 4 → f.res_logic ≡ 0 → res ≡ op1
  pub adds : f.pc_update ≢ 4 → f.res_logic ≡ 1 → A.sum op0 op1 ≡ Some res
  pub multiplies : f.pc_update ≢ 4 → f.res_logic ≡ 2 → A.product op0 op1 ≡ Some res
  -- the next pc
  pub goes_on : f.pc_update ≡ 0 → after A f s ≡ Some t.pc
  pub jumps_to : f.pc_update ≡ 1 → t.pc ≡ res
  pub jumps_by : f.pc_update ≡ 2 → A.sum s.pc res ≡ Some t.pc
  pub falls_through : f.pc_update ≡ 4 → A.is_zero dst ≡ true → after A f s ≡ Some t.pc
  pub branches : f.pc_update ≡ 4 → A.is_zero dst ≡ false → A.sum s.pc op1 ≡ Some t.pc
  -- the opcode
  pub calls : f.opcode ≡ 1 → (after A f s ≡ Some op0) × (dst ≡ s.fp)
  pub opens : f.opcode ≡ 1 → (moved A s.ap 2 ≡ Some t.ap) × (moved A s.ap 2 ≡ Some t.fp)
  pub restores : f.opcode ≡ 2 → t.fp ≡ dst
  pub asserts : f.opcode ≡ 4 → res ≡ dst
  pub keeps_fp : f.opcode ≢ 1 → f.opcode ≢ 2 → t.fp ≡ s.fp
  -- the next ap
  pub keeps_ap : f.opcode ≢ 1 → f.ap_update ≡ 0 → t.ap ≡ s.ap
  pub moves_ap : f.opcode ≢ 1 → f.ap_update ≡ 1 → A.sum s.ap res ≡ Some t.ap
  pub steps_ap : f.opcode ≢ 1 → f.ap_update ≡ 2 → moved A s.ap 1 ≡ Some t.ap
