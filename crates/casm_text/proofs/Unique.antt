-- At most one plain statement gives the words from here on.
use Rattle.casm_text.specs.Statements.{Offset, none, plus, minus, positive, negative, Cell, Operand, cell, numeral, Source, copy, double, sum, product, by, label, Statement, assert, jump, jump_abs, jump_if, call, call_abs, ret, add_ap, word}
use Rattle.casm_text.specs.Words.{Second, value_of, offset_value, IsInstructed, with_dst, with_op1, with_source, with_step, operand_source, step_update, register_source, unnamed, statement_fields, statement_numbers, operand_second, source_second, numbers_at}
use Rattle.casm_text.specs.Listings.{IsPlainOffset, IsPlainOperand, IsPlainSource, IsPlain, nowhere, BeginsWith}
use Rattle.casm_text.specs.Working.Rendering.{plain_offset, plain_cell, dst_cell, op1_operand, right_side, statement_for}
use Rattle.casm_text.proofs.Decimals.{decimal_value}
use Rattle.cairo_word.specs.Word.{Fields, fields_of}
use Rattle.cairo_word.specs.declared.word.Reg.{Reg}
use Rattle.cairo_word.specs.declared.word.Reg.TheVariants.{Ap, Fp}
use Rattle.std.proofs.Common.{◌≡◌, ℕ, suc, ◌==◌, Bool, true, false, List, [], ◌∷◌, ◌++◌, Option, Some, None, refl, ap, ap₂, sym, subst, ◌∙◌, arith}
use Rattle.std.specs.Prelude.{decimal}

same_offset : (o : Offset) → IsPlainOffset o → plain_offset (offset_value o) ≡ o
same_offset none h = refl
same_offset (plus ds) (k, below, is) =
    let value : value_of (decimal (suc k)) ≡ suc k = decimal_value (suc k) (omega arith) in
    rw (is, value) refl
same_offset (minus ds) (k, below, is) =
    let value : value_of (decimal (suc k)) ≡ suc k = decimal_value (suc k) (omega arith) in
    rw (is, value) refl

same_cell : (c : Cell) → IsPlainOffset c.offset → plain_cell c.register (offset_value c.offset) ≡ c
same_cell c h = ap (λ (o : Offset). record { register = c.register; offset = o }) (same_offset c.offset h)

abbrev pub numbers_of : List Second → List ℕ
numbers_of ns = numbers_at nowhere 0 ns

same_register : (r : Reg) (o : Offset) (f : Fields) (numbers : List ℕ) → IsPlainOffset o → op1_operand (record f { op1_src = register_source r; off_op1 = offset_value o }) numbers ≡ cell (record { register = r; offset = o })
same_register Ap o f numbers h = ap (λ (o : Offset). cell (record { register = Ap; offset = o })) (same_offset o h)
same_register Fp o f numbers h = ap (λ (o : Offset). cell (record { register = Fp; offset = o })) (same_offset o h)

same_operand : (x : Operand) (f : Fields) (rest : List ℕ) → IsPlainOperand x → op1_operand (with_op1 x f) (numbers_of (operand_second x) ++ rest) ≡ x
same_operand (cell c) f rest h = same_register c.register c.offset f rest h
same_operand (numeral (positive ds)) f rest (n, below, is) =
    let value : value_of (decimal n) ≡ n = decimal_value n below in
    rw (is, value) refl
same_operand (numeral (negative ds)) f rest h = absurd h

register_no_double : (r : Reg) → register_source r == 0 ≡ false
register_no_double Ap = refl
register_no_double Fp = refl

no_double : (x : Operand) → operand_source x == 0 ≡ false
no_double (cell c) = register_no_double c.register
no_double (numeral n) = refl

same_step : (step : Bool) → step_update step == 2 ≡ step
same_step true = refl
same_step false = refl

-- what an assertion begins with
abbrev asserted : Cell → Fields
asserted c = with_dst c (record unnamed { opcode = 4 })

same_source : (s : Source) (c : Cell) (step : Bool) (rest : List ℕ) → IsPlainSource s → right_side (with_step step (with_source s (asserted c))) (numbers_of (source_second s) ++ rest) ≡ s
same_source (copy x) c step rest h =
    let single : operand_source x == 0 ≡ false = no_double x in
    rw single (ap (λ (y : Operand). copy y) (same_operand x (asserted c) rest h))
same_source (double d k) c step rest h = ap₂ (λ (e : Cell) (o : Offset). double e o) (same_cell d h.0) (same_offset k h.1)
same_source (sum d x) c step rest h =
    let single : operand_source x == 0 ≡ false = no_double x in
    rw single (ap₂ (λ (e : Cell) (y : Operand). sum e y) (same_cell d h.0) (same_operand x (asserted c) rest h.1))
same_source (product d x) c step rest h =
    let single : operand_source x == 0 ≡ false = no_double x in
    rw single (ap₂ (λ (e : Cell) (y : Operand). product e y) (same_cell d h.0) (same_operand x (asserted c) rest h.1))

source_keeps : (s : Source) (f : Fields) → ((with_source s f).opcode ≡ f.opcode) × ((with_source s f).dst_reg ≡ f.dst_reg) × ((with_source s f).off_dst ≡ f.off_dst)
source_keeps (copy x) f = (refl, refl, refl)
source_keeps (double d k) f = (refl, refl, refl)
source_keeps (sum d x) f = (refl, refl, refl)
source_keeps (product d x) f = (refl, refl, refl)

same_assert : (c : Cell) (s : Source) (step : Bool) (rest : List ℕ) → IsPlainOffset c.offset → IsPlainSource s
    → statement_for (with_step step (with_source s (asserted c))) (numbers_of (source_second s) ++ rest) ≡ assert c s step
same_assert c s step rest h k =
    let keeps = source_keeps s (asserted c) in
    let opcode : (with_source s (asserted c)).opcode ≡ 4 = keeps.0 in
    let cell : dst_cell (with_source s (asserted c)) ≡ c = ap₂ plain_cell keeps.1 keeps.2 ∙ same_cell c h in
    let source = same_source s c step rest k in
    rw opcode (ap₂ (λ (d : Cell) (t : Source). assert d t (step_update step == 2)) cell source ∙ ap (λ (b : Bool). assert c s b) (same_step step))

-- a plain statement is the one for its fields and numbers
abbrev pub IsFor : Statement → Option Fields → Type 0
IsFor s None = ⊥
IsFor s (Some f) = (rest : List ℕ) → statement_for f (numbers_of (statement_numbers s) ++ rest) ≡ s

pub same_for : (s : Statement) → IsPlain s → IsFor s (statement_fields s)
same_for (assert c s step) h = λ rest. same_assert c s step rest h.0 h.1
same_for (jump (by x) step) h = λ rest. ap₂ (λ (y : Operand) (b : Bool). jump (by y) b) (same_operand x unnamed rest h) (same_step step)
same_for (jump (label name) step) h = absurd h
same_for (jump_abs x step) h = λ rest. ap₂ (λ (y : Operand) (b : Bool). jump_abs y b) (same_operand x unnamed rest h) (same_step step)
same_for (jump_if (by x) c step) h = λ rest.
    ap₂ (λ (y : Operand) (b : Bool). jump_if (by y) (plain_cell c.register (offset_value c.offset)) b) (same_operand x unnamed rest h.0) (same_step step)
    ∙ ap (λ (d : Cell). jump_if (by x) d step) (same_cell c h.1)
same_for (jump_if (label name) c step) h = absurd h.0
same_for (call (by x)) h = λ rest. ap (λ (y : Operand). call (by y)) (same_operand x unnamed rest h)
same_for (call (label name)) h = absurd h
same_for (call_abs x) h = λ rest. ap (λ (y : Operand). call_abs y) (same_operand x unnamed rest h)
same_for ret h = λ rest. refl
same_for (add_ap x) h = λ rest. ap (λ (y : Operand). add_ap y) (same_operand x unnamed rest h)
same_for (word n) h = absurd h

-- the statement that a list of words may begin with
abbrev pub first_statement : List ℕ → Statement
first_statement [] = ret
first_statement (w ∷ words) = statement_for (fields_of w) words

begins_first : (o : Option Fields) (s : Statement) (first rest : List ℕ) → IsFor s o → IsInstructed o (numbers_of (statement_numbers s)) first → first_statement (first ++ rest) ≡ s
begins_first None s first rest same gives = absurd same
begins_first (Some f) s first rest same (w, is, words) =
    subst (λ (ws : List ℕ). first_statement (ws ++ rest) ≡ s) (sym words)
    (ap (λ (g : Fields). statement_for g (numbers_of (statement_numbers s) ++ rest)) is.fields ∙ same rest)

pub first_of : (words : List ℕ) (s : Statement) (rest : List ℕ) → BeginsWith words s rest → first_statement words ≡ s
first_of words s rest (first, is, gives, plain) = ap first_statement is ∙ begins_first (statement_fields s) s first rest (same_for s plain) gives

-- two plain statements that give the words from here on are one
pub one_statement : (words : List ℕ) (s t : Statement) (rest after : List ℕ) → BeginsWith words s rest → BeginsWith words t after → s ≡ t
one_statement words s t rest after h k = sym (first_of words s rest h) ∙ first_of words t after k
