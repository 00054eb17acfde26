-- A word is the sum of its ten parts, each moved to its place.
use Rattle.cairo_word.specs.Word.{Fields, bits_of, fields_of, fields_fault_of, register_of, word_fault_of}
use Rattle.std.proofs.Common.{◌≡◌, ℕ, ◌+◌, ◌*◌, ◌%◌, ◌^◌, ◌<◌, pos, ◌-ℤ◌, None, refl, sym, ap, ◌∙◌, rules, arith}

-- the numbers in the ten places of a word
pub record Parts : Type 0 where
  pub off_dst : ℕ
  pub off_op0 : ℕ
  pub off_op1 : ℕ
  pub dst_reg : ℕ
  pub op0_reg : ℕ
  pub op1_src : ℕ
  pub res_logic : ℕ
  pub pc_update : ℕ
  pub ap_update : ℕ
  pub opcode : ℕ

-- each part fits into its place
pub record AreNarrow (p : Parts) : Type 0 where
  pub off_dst : p.off_dst < 65536
  pub off_op0 : p.off_op0 < 65536
  pub off_op1 : p.off_op1 < 65536
  pub dst_reg : p.dst_reg < 2
  pub op0_reg : p.op0_reg < 2
  pub op1_src : p.op1_src < 8
  pub res_logic : p.res_logic < 4
  pub pc_update : p.pc_update < 8
  pub ap_update : p.ap_update < 4
  pub opcode : p.opcode < 8

abbrev pub parts_of : ℕ → Parts
parts_of w = record {
  off_dst = bits_of w 0 16;
  off_op0 = bits_of w 16 16;
  off_op1 = bits_of w 32 16;
  dst_reg = bits_of w 48 1;
  op0_reg = bits_of w 49 1;
  op1_src = bits_of w 50 3;
  res_logic = bits_of w 53 2;
  pc_update = bits_of w 55 3;
  ap_update = bits_of w 58 2;
  opcode = bits_of w 60 3;
}

abbrev pub fields_of_parts : Parts → Fields
fields_of_parts p = record {
  off_dst = pos p.off_dst -ℤ pos 32768;
  off_op0 = pos p.off_op0 -ℤ pos 32768;
  off_op1 = pos p.off_op1 -ℤ pos 32768;
  dst_reg = register_of p.dst_reg;
  op0_reg = register_of p.op0_reg;
  op1_src = p.op1_src;
  res_logic = p.res_logic;
  pc_update = p.pc_update;
  ap_update = p.ap_update;
  opcode = p.opcode;
}

-- the sum as the code forms it, by shifts in 64 bits
abbrev pub sum_of_parts : Parts → ℕ
sum_of_parts p =
    p.off_dst
    + p.off_op0 * 2 ^ 16 % 2 ^ 64
    + p.off_op1 * 2 ^ 32 % 2 ^ 64
    + p.dst_reg * 2 ^ 48 % 2 ^ 64
    + p.op0_reg * 2 ^ 49 % 2 ^ 64
    + p.op1_src * 2 ^ 50 % 2 ^ 64
    + p.res_logic * 2 ^ 53 % 2 ^ 64
    + p.pc_update * 2 ^ 55 % 2 ^ 64
    + p.ap_update * 2 ^ 58 % 2 ^ 64
    + p.opcode * 2 ^ 60 % 2 ^ 64

pub sum_below : (p : Parts) → AreNarrow p → sum_of_parts p < 2 ^ 63
sum_below p narrow = omega arith

pub parts_of_sum : (p : Parts) → AreNarrow p → parts_of (sum_of_parts p) ≡ p
parts_of_sum p narrow =
    let w = sum_of_parts p in
    let off_dst : bits_of w 0 16 ≡ p.off_dst = omega arith in
    let off_op0 : bits_of w 16 16 ≡ p.off_op0 = omega arith in
    let off_op1 : bits_of w 32 16 ≡ p.off_op1 = omega arith in
    let dst_reg : bits_of w 48 1 ≡ p.dst_reg = omega arith in
    let op0_reg : bits_of w 49 1 ≡ p.op0_reg = omega arith in
    let op1_src : bits_of w 50 3 ≡ p.op1_src = omega arith in
    let res_logic : bits_of w 53 2 ≡ p.res_logic = omega arith in
    let pc_update : bits_of w 55 3 ≡ p.pc_update = omega arith in
    let ap_update : bits_of w 58 2 ≡ p.ap_update = omega arith in
    let opcode : bits_of w 60 3 ≡ p.opcode = omega arith in
    rw (off_dst, off_op0, off_op1, dst_reg, op0_reg, op1_src, res_logic, pc_update, ap_update, opcode) refl

sum_of_bits : (w : ℕ) → w < 2 ^ 63 → w ≡ sum_of_parts (parts_of w)
sum_of_bits w below = omega arith

pub sound_word : (w : ℕ) (f : Fields) → w < 2 ^ 63 → fields_of w ≡ f → fields_fault_of f ≡ None → word_fault_of w ≡ None
sound_word w f below same none = search (rules, ap fields_fault_of same ∙ none)

below_high_bit : (w : ℕ) → word_fault_of w ≡ None → w < 2 ^ 63
below_high_bit w none = search rules

same_offset : (a b : ℕ) → pos a -ℤ pos 32768 ≡ pos b -ℤ pos 32768 → a ≡ b
same_offset a b same = grind arith

same_register : (a b : ℕ) → a < 2 → b < 2 → register_of a ≡ register_of b → a ≡ b
same_register a b below_a below_b same = search rules

same_parts : (v w : ℕ) → fields_of v ≡ fields_of w → parts_of v ≡ parts_of w
same_parts v w same =
    let off_dst : bits_of v 0 16 ≡ bits_of w 0 16 = same_offset _ _ (ap (λ f. f.off_dst) same) in
    let off_op0 : bits_of v 16 16 ≡ bits_of w 16 16 = same_offset _ _ (ap (λ f. f.off_op0) same) in
    let off_op1 : bits_of v 32 16 ≡ bits_of w 32 16 = same_offset _ _ (ap (λ f. f.off_op1) same) in
    let dst_reg : bits_of v 48 1 ≡ bits_of w 48 1 = same_register _ _ (omega arith) (omega arith) (ap (λ f. f.dst_reg) same) in
    let op0_reg : bits_of v 49 1 ≡ bits_of w 49 1 = same_register _ _ (omega arith) (omega arith) (ap (λ f. f.op0_reg) same) in
    let op1_src : bits_of v 50 3 ≡ bits_of w 50 3 = ap (λ f. f.op1_src) same in
    let res_logic : bits_of v 53 2 ≡ bits_of w 53 2 = ap (λ f. f.res_logic) same in
    let pc_update : bits_of v 55 3 ≡ bits_of w 55 3 = ap (λ f. f.pc_update) same in
    let ap_update : bits_of v 58 2 ≡ bits_of w 58 2 = ap (λ f. f.ap_update) same in
    let opcode : bits_of v 60 3 ≡ bits_of w 60 3 = ap (λ f. f.opcode) same in
    rw (off_dst, off_op0, off_op1, dst_reg, op0_reg, op1_src, res_logic, pc_update, ap_update, opcode) refl

pub same_word : (v w : ℕ) → word_fault_of v ≡ None → word_fault_of w ≡ None → fields_of v ≡ fields_of w → v ≡ w
same_word v w sound_v sound_w same =
    sum_of_bits v (below_high_bit v sound_v)
    ∙ ap sum_of_parts (same_parts v w same)
    ∙ sym (sum_of_bits w (below_high_bit w sound_w))
