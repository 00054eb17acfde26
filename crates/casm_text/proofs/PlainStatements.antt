-- The statement for a word's fields is plainly spelled, and a test tells whether it gives the words.
use Rattle.casm_text.specs.Listings.{IsPlainOffset, IsPlainOperand, IsPlainSource, IsPlain}
use Rattle.casm_text.specs.Working.Rendering.{plain_offset, op1_operand, right_side, statement_for}
use Rattle.cairo_word.specs.Word.{fields_of, offset_of, bits_of}
use Rattle.goldi_field.specs.Numbers.{prime}
use Rattle.std.proofs.Common.{◌≡◌, ℕ, zero, suc, ◌-◌, ◌<◌, ◌==◌, ℤ, pos, negsuc, ◌-ℤ◌, Bool, true, false, List, get_or, inl, inr, refl, sym, subst, arith, cond}
use Rattle.std.proofs.lemmas.Bool.{cases_lt}

plain_positive : (k : ℕ) → k < 32768 → IsPlainOffset (plain_offset (pos k))
plain_positive zero below = tt
plain_positive (suc k) below = (k, omega arith, refl)

plain_biased : (b : ℕ) → b < 65536 → IsPlainOffset (plain_offset (pos b -ℤ pos 32768))
plain_biased b below = elim (cases_lt b 32768) [
  | inl low ↦
      let same : pos b -ℤ pos 32768 ≡ negsuc (32767 - b) = grind arith in
      subst (λ (k : ℤ). IsPlainOffset (plain_offset k)) (sym same) (32767 - b, omega arith, refl)
  | inr high ↦
      let same : pos b -ℤ pos 32768 ≡ pos (b - 32768) = grind arith in
      subst (λ (k : ℤ). IsPlainOffset (plain_offset k)) (sym same) (plain_positive (b - 32768) (omega arith))
]

plain_bits : (w place : ℕ) → IsPlainOffset (plain_offset (offset_of w place))
plain_bits w place = plain_biased (bits_of w place 16) (omega arith)

plain_if : {A : Type 0} (P : A → Type 0) (b : Bool) (x y : A) → P x → P y → P (cond b x y)
plain_if P true x y h k = h
plain_if P false x y h k = k

plain_op1 : (w : ℕ) (numbers : List ℕ) → get_or numbers 0 0 < prime → IsPlainOperand (op1_operand (fields_of w) numbers)
plain_op1 w numbers below =
    plain_if IsPlainOperand ((fields_of w).op1_src == 2) _ _ (plain_bits w 32)
    (plain_if IsPlainOperand ((fields_of w).op1_src == 4) _ _ (plain_bits w 32) (get_or numbers 0 0, below, refl))

plain_right : (w : ℕ) (numbers : List ℕ) → get_or numbers 0 0 < prime → IsPlainSource (right_side (fields_of w) numbers)
plain_right w numbers below =
    plain_if IsPlainSource ((fields_of w).op1_src == 0) _ _ (plain_bits w 16, plain_bits w 32)
    (plain_if IsPlainSource ((fields_of w).res_logic == 1) _ _ (plain_bits w 16, plain_op1 w numbers below)
    (plain_if IsPlainSource ((fields_of w).res_logic == 2) _ _ (plain_bits w 16, plain_op1 w numbers below) (plain_op1 w numbers below)))

pub plain_for : (w : ℕ) (numbers : List ℕ) → get_or numbers 0 0 < prime → IsPlain (statement_for (fields_of w) numbers)
plain_for w numbers below =
    let f = fields_of w in
    let op1 = plain_op1 w numbers below in
    plain_if IsPlain (f.opcode == 4) _ _ (plain_bits w 0, plain_right w numbers below)
    (plain_if IsPlain (f.opcode == 2) _ _ tt
    (plain_if IsPlain (f.opcode == 1) _ _ (plain_if IsPlain (f.pc_update == 1) _ _ op1 op1)
    (plain_if IsPlain (f.pc_update == 4) _ _ (op1, plain_bits w 0)
    (plain_if IsPlain (f.pc_update == 1) _ _ op1
    (plain_if IsPlain (f.pc_update == 2) _ _ op1 op1)))))
