-- The equations of a row of the machine over the field, after the constraints of the Cairo whitepaper: a word's parts
-- as numbers, three cells, and equations modulo the prime in which the word's flags are factors.
use Rattle.std.specs.Prelude.{ℕ, ◌≡◌, ◌≢◌, ◌<◌, ◌+◌, ◌*◌, ◌^◌, Option, Some}
use Rattle.goldi_field.specs.Numbers.{IsInverse, sum_of, difference_of, product_of}
use Rattle.cairo_model.specs.Machine.Steps.{Registers}

-- the arithmetic of field numbers
infixl 65 ◌⊕◌ ◌⊖◌
infixl 70 ◌⊗◌
abbrev pub ◌⊕◌ : ℕ → ℕ → ℕ
a ⊕ b = sum_of a b

abbrev pub ◌⊖◌ : ℕ → ℕ → ℕ
a ⊖ b = difference_of a b

abbrev pub ◌⊗◌ : ℕ → ℕ → ℕ
a ⊗ b = product_of a b

-- the numbers in a word: three offsets with 2^15 added to them, and fifteen flags
pub record WordParts : Type 0 where
  pub a0 : ℕ
  pub a1 : ℕ
  pub a2 : ℕ
  pub f0 : ℕ
  pub f1 : ℕ
  pub f2 : ℕ
  pub f3 : ℕ
  pub f4 : ℕ
  pub f5 : ℕ
  pub f6 : ℕ
  pub f7 : ℕ
  pub f8 : ℕ
  pub f9 : ℕ
  pub f10 : ℕ
  pub f11 : ℕ
  pub f12 : ℕ
  pub f13 : ℕ
  pub f14 : ℕ

abbrev pub word_of : WordParts → ℕ
word_of p =
    p.a0 + 2 ^ 16 * p.a1 + 2 ^ 32 * p.a2
    + 2 ^ 48
    * (p.f0 + 2 * p.f1 + 2 ^ 2 * p.f2 + 2 ^ 3 * p.f3 + 2 ^ 4 * p.f4 + 2 ^ 5 * p.f5 + 2 ^ 6 * p.f6 + 2 ^ 7 * p.f7 + 2 ^ 8 * p.f8
    + 2 ^ 9 * p.f9 + 2 ^ 10 * p.f10 + 2 ^ 11 * p.f11 + 2 ^ 12 * p.f12 + 2 ^ 13 * p.f13 + 2 ^ 14 * p.f14)

-- offsets of 16 bits, and flags that are bits
pub record AreParts (p : WordParts) : Type 0 where
  pub a0 : p.a0 < 2 ^ 16
  pub a1 : p.a1 < 2 ^ 16
  pub a2 : p.a2 < 2 ^ 16
  pub f0 : p.f0 < 2
  pub f1 : p.f1 < 2
  pub f2 : p.f2 < 2
  pub f3 : p.f3 < 2
  pub f4 : p.f4 < 2
  pub f5 : p.f5 < 2
  pub f6 : p.f6 < 2
  pub f7 : p.f7 < 2
  pub f8 : p.f8 < 2
  pub f9 : p.f9 < 2
  pub f10 : p.f10 < 2
  pub f11 : p.f11 < 2
  pub f12 : p.f12 < 2
  pub f13 : p.f13 < 2
  pub f14 : p.f14 < 2

-- The flags of a group exclude each other, a conditional jump has no result, opcode or move of ap by a result, and a
-- call moves ap in its own way alone.
pub record Excludes (p : WordParts) : Type 0 where
  pub f2_f3 : p.f2 ⊗ p.f3 ≡ 0
  pub f2_f4 : p.f2 ⊗ p.f4 ≡ 0
  pub f3_f4 : p.f3 ⊗ p.f4 ≡ 0
  pub f5_f6 : p.f5 ⊗ p.f6 ≡ 0
  pub f7_f8 : p.f7 ⊗ p.f8 ≡ 0
  pub f7_f9 : p.f7 ⊗ p.f9 ≡ 0
  pub f8_f9 : p.f8 ⊗ p.f9 ≡ 0
  pub f10_f11 : p.f10 ⊗ p.f11 ≡ 0
  pub f12_f13 : p.f12 ⊗ p.f13 ≡ 0
  pub f12_f14 : p.f12 ⊗ p.f14 ≡ 0
  pub f13_f14 : p.f13 ⊗ p.f14 ≡ 0
  pub f9_f5 : p.f9 ⊗ p.f5 ≡ 0
  pub f9_f6 : p.f9 ⊗ p.f6 ≡ 0
  pub f9_f10 : p.f9 ⊗ p.f10 ≡ 0
  pub f9_f12 : p.f9 ⊗ p.f12 ≡ 0
  pub f9_f13 : p.f9 ⊗ p.f13 ≡ 0
  pub f9_f14 : p.f9 ⊗ p.f14 ≡ 0
  pub f12_f10 : p.f12 ⊗ p.f10 ≡ 0
  pub f12_f11 : p.f12 ⊗ p.f11 ≡ 0

-- what is added to an offset in a word
abbrev pub half : ℕ
half = 2 ^ 15

-- the addresses of the three cells
abbrev pub x_address : WordParts → Registers ℕ → ℕ
x_address p s = p.f0 ⊗ s.fp ⊕ (1 ⊖ p.f0) ⊗ s.ap ⊕ p.a0 ⊖ half

abbrev pub y_address : WordParts → Registers ℕ → ℕ
y_address p s = p.f1 ⊗ s.fp ⊕ (1 ⊖ p.f1) ⊗ s.ap ⊕ p.a1 ⊖ half

abbrev pub z_address : WordParts → Registers ℕ → ℕ → ℕ
z_address p s y = p.f2 ⊗ s.pc ⊕ p.f3 ⊗ s.fp ⊕ p.f4 ⊗ s.ap ⊕ (1 ⊖ p.f2 ⊖ p.f3 ⊖ p.f4) ⊗ y ⊕ p.a2 ⊖ half

abbrev pub row_result : WordParts → ℕ → ℕ → ℕ
row_result p y z = p.f5 ⊗ (y ⊕ z) ⊕ p.f6 ⊗ y ⊗ z ⊕ (1 ⊖ p.f5 ⊖ p.f6) ⊗ z

-- the equations between the three cells, the result and the states before and after, where v is the inverse of x
pub record Moved (p : WordParts) (s t : Registers ℕ) (x y z r v : ℕ) : Type 0 where
  pub pc : (1 ⊖ p.f9) ⊗ t.pc ≡ (1 ⊖ p.f7 ⊖ p.f8 ⊖ p.f9) ⊗ (s.pc ⊕ 1 ⊕ p.f2) ⊕ p.f7 ⊗ r ⊕ p.f8 ⊗ (s.pc ⊕ r)
  pub branches : p.f9 ⊗ x ⊗ (t.pc ⊖ s.pc ⊖ z) ≡ 0
  pub falls_through : p.f9 ⊗ (x ⊗ v ⊖ 1) ⊗ (t.pc ⊖ s.pc ⊖ 1 ⊖ p.f2) ≡ 0
  pub ap : t.ap ≡ s.ap ⊕ p.f10 ⊗ r ⊕ p.f11 ⊕ 2 ⊗ p.f12
  pub fp : t.fp ≡ (1 ⊖ p.f12 ⊖ p.f13) ⊗ s.fp ⊕ p.f13 ⊗ x ⊕ p.f12 ⊗ (s.ap ⊕ 2)
  pub call_keeps_fp : p.f12 ⊗ (x ⊖ s.fp) ≡ 0
  pub call_keeps_pc : p.f12 ⊗ (y ⊖ s.pc ⊖ 1 ⊖ p.f2) ≡ 0
  pub asserts : p.f14 ⊗ (x ⊖ r) ≡ 0

-- the equations of a row from the one state to the other, whose numbers are field numbers
pub record Equations (m : ℕ → Option ℕ) (s t : Registers ℕ) : Type 0 where
  -- the cell at pc is a word below 2^63 with these parts
  pub w : ℕ
  pub p : WordParts
  pub is_fetched : m s.pc ≡ Some w
  pub has_low_bits : w < 2 ^ 63
  pub are_parts : AreParts p
  pub is_word : w ≡ word_of p
  pub excludes : Excludes p
  -- three cells are there
  pub x : ℕ
  pub y : ℕ
  pub z : ℕ
  pub has_x : m (x_address p s) ≡ Some x
  pub has_y : m (y_address p s) ≡ Some y
  pub has_z : m (z_address p s y) ≡ Some z
  -- the inverse of x, or 0 where x is 0
  pub v : ℕ
  pub no_inverse : x ≡ 0 → v ≡ 0
  pub inverse : x ≢ 0 → IsInverse x v
  pub moved : Moved p s t x y z (row_result p y z) v
