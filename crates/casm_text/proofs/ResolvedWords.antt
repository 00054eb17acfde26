-- A statement gives the words of the plain one that it is, once its labels' offsets and its own are known.
use Rattle.std.proofs.Common.{◌≡◌, ℕ, zero, suc, ◌<◌, ◌≤◌, ℤ, pos, true, nat_le, List, [], ◌∷◌, ◌++◌, length, Option, Some, None, refl, ap, ap₂, sym, subst, ◌∙◌, arith, append_assoc}
use Rattle.std.specs.Prelude.{decimal, neg_ℤ}
use Rattle.std.proofs.lemmas.Bool.Decides.{nat_tests}
use Rattle.cairo_word.specs.Word.{Fields}
use Rattle.goldi_field.specs.Numbers.{prime, difference_of}
use Rattle.casm_text.proofs.Bounds.{distance_felt, numeral_felt}
use Rattle.casm_text.proofs.Fitting.{fits_is}
use Rattle.casm_text.specs.Lines.{statement_line}
use Rattle.casm_text.proofs.Decimals.{decimal_value}
use Rattle.casm_text.proofs.Tokenizing.{and_both}
use Rattle.casm_text.specs.Listings.{nowhere}
use Rattle.casm_text.specs.Statements.{Offset, none, plus, minus, Cell, Operand, cell, numeral, Source, copy, double, sum, product, Aim, by, label, Statement, assert, jump, jump_abs, jump_if, call, call_abs, ret, add_ap, word}
use Rattle.casm_text.specs.Words.{value_of, offset_value, offset_fits, numeral_value, operand_fits, source_fits, aim_fits, statement_fits, with_dst, with_op0, with_op1, with_aim, with_source, with_step, operand_source, operand_offset, unnamed, calling, statement_fields, operand_second, aim_second, source_second, statement_numbers, numbers_at, IsInstructed}
use Rattle.casm_text.specs.Working.Assembling.{Adds, LineAdds, PutsWord}
use Rattle.casm_text.specs.Working.Rendering.{plain_offset}
use Rattle.casm_text.specs.Working.Resolving.{where_fits, resolved_cell, resolved_operand, resolved_source, resolved_aim, resolved_statement}

-- ---- offsets

offset_below : (n most : ℕ) → nat_le n most ≡ true → n ≤ most
offset_below n most h = grind (arith, nat_tests)

plain_above : (n : ℕ) → n < prime → offset_value (plain_offset (pos n)) ≡ pos n
plain_above zero below = refl
plain_above (suc k) below = ap pos (decimal_value (suc k) below)

plain_below : (n : ℕ) → n < prime → offset_value (plain_offset (neg_ℤ (pos n))) ≡ neg_ℤ (pos n)
plain_below zero below = refl
plain_below (suc k) below = ap (λ (n : ℕ). neg_ℤ (pos n)) (decimal_value (suc k) below)

same_value : (o : Offset) → offset_fits o ≡ true → offset_value (plain_offset (offset_value o)) ≡ offset_value o
same_value none h = refl
same_value (plus ds) h = plain_above (value_of ds) (omega (arith, offset_below (value_of ds) 32767 h))
same_value (minus ds) h = plain_below (value_of ds) (omega (arith, offset_below (value_of ds) 32768 h))

-- ---- fields

same_dst : (c : Cell) (f : Fields) → offset_fits c.offset ≡ true → with_dst (resolved_cell c) f ≡ with_dst c f
same_dst c f h = ap (λ (k : ℤ). record f { dst_reg = c.register; off_dst = k }) (same_value c.offset h)

same_op0 : (c : Cell) (f : Fields) → offset_fits c.offset ≡ true → with_op0 (resolved_cell c) f ≡ with_op0 c f
same_op0 c f h = ap (λ (k : ℤ). record f { op0_reg = c.register; off_op0 = k }) (same_value c.offset h)

same_source_of : (x : Operand) → operand_source (resolved_operand x) ≡ operand_source x
same_source_of (cell c) = refl
same_source_of (numeral n) = refl

same_offset_of : (x : Operand) → operand_fits x ≡ true → operand_offset (resolved_operand x) ≡ operand_offset x
same_offset_of (cell c) h = same_value c.offset h
same_offset_of (numeral n) h = refl

same_op1 : (x : Operand) (f : Fields) → operand_fits x ≡ true → with_op1 (resolved_operand x) f ≡ with_op1 x f
same_op1 x f h = ap₂ (λ (s : ℕ) (k : ℤ). record f { op1_src = s; off_op1 = k }) (same_source_of x) (same_offset_of x h)

same_aim : (offset_of : List ℕ → ℕ) (at : ℕ) (a : Aim) (f : Fields) → aim_fits a ≡ true → with_aim (by (resolved_aim offset_of at a)) f ≡ with_aim a f
same_aim offset_of at (by x) f h = same_op1 x f h
same_aim offset_of at (label name) f h = refl

same_right : (s : Source) (f : Fields) → source_fits s ≡ true → with_source (resolved_source s) f ≡ with_source s f
same_right (copy x) f h = same_op1 x f h
same_right (double c k) f h =
    let fits = and_both (offset_fits c.offset) (offset_fits k) h in
    ap₂ (λ (a b : ℤ). record (record f { op0_reg = c.register; off_op0 = a }) { off_op1 = b }) (same_value c.offset fits.0) (same_value k fits.1)
same_right (sum c x) f h =
    let fits = and_both (offset_fits c.offset) (operand_fits x) h in
    ap (λ (g : Fields). with_op1 (resolved_operand x) (record g { res_logic = 1 })) (same_op0 c f fits.0) ∙ same_op1 x (record (with_op0 c f) { res_logic = 1 }) fits.1
same_right (product c x) f h =
    let fits = and_both (offset_fits c.offset) (operand_fits x) h in
    ap (λ (g : Fields). with_op1 (resolved_operand x) (record g { res_logic = 2 })) (same_op0 c f fits.0) ∙ same_op1 x (record (with_op0 c f) { res_logic = 2 }) fits.1

same_fields_of : (offset_of : List ℕ → ℕ) (at : ℕ) (s : Statement) → statement_fits s ≡ true → statement_fields (resolved_statement offset_of at s) ≡ statement_fields s
same_fields_of offset_of at (assert c s step) h =
    let fits = and_both (offset_fits c.offset) (source_fits s) h in
    ap (λ (f : Fields). Some (with_step step (with_source (resolved_source s) f))) (same_dst c (record unnamed { opcode = 4 }) fits.0)
    ∙ ap (λ (f : Fields). Some (with_step step f)) (same_right s (with_dst c (record unnamed { opcode = 4 })) fits.1)
same_fields_of offset_of at (jump a step) h = ap (λ (f : Fields). Some (with_step step f)) (same_aim offset_of at a (record unnamed { pc_update = 2 }) h)
same_fields_of offset_of at (jump_abs x step) h = ap (λ (f : Fields). Some (with_step step f)) (same_op1 x (record unnamed { pc_update = 1 }) h)
same_fields_of offset_of at (jump_if a c step) h =
    let fits = and_both (aim_fits a) (offset_fits c.offset) h in
    ap (λ (f : Fields). Some (with_step step (with_aim (by (resolved_aim offset_of at a)) f))) (same_dst c (record unnamed { pc_update = 4 }) fits.1)
    ∙ ap (λ (f : Fields). Some (with_step step f)) (same_aim offset_of at a (with_dst c (record unnamed { pc_update = 4 })) fits.0)
same_fields_of offset_of at (call a) h = ap (λ (f : Fields). Some f) (same_aim offset_of at a (record calling { pc_update = 2 }) h)
same_fields_of offset_of at (call_abs x) h = ap (λ (f : Fields). Some f) (same_op1 x (record calling { pc_update = 1 }) h)
same_fields_of offset_of at ret h = refl
same_fields_of offset_of at (add_ap x) h = ap (λ (f : Fields). Some f) (same_op1 x (record unnamed { ap_update = 1 }) h)
same_fields_of offset_of at (word n) h = refl

-- ---- numbers

one_value : (n : ℕ) → n < prime → value_of (decimal n) ∷ [] ≡ n ∷ []
one_value n below = ap (λ (v : ℕ). v ∷ []) (decimal_value n below)

same_operand : (f : List ℕ → ℕ) (at : ℕ) (x : Operand) → operand_fits x ≡ true → numbers_at nowhere 0 (operand_second (resolved_operand x)) ≡ numbers_at f at (operand_second x)
same_operand f at (cell c) h = refl
same_operand f at (numeral n) h = one_value (numeral_value n) (numeral_felt n h)

same_aimed : (f : List ℕ → ℕ) (at : ℕ) (a : Aim) → aim_fits a ≡ true → numbers_at nowhere 0 (operand_second (resolved_aim f at a)) ≡ numbers_at f at (aim_second a)
same_aimed f at (by x) h = same_operand f at x h
same_aimed f at (label name) h = one_value (difference_of (f name) at) (distance_felt (f name) at)

same_numbered : (f : List ℕ → ℕ) (at : ℕ) (s : Source) → source_fits s ≡ true → numbers_at nowhere 0 (source_second (resolved_source s)) ≡ numbers_at f at (source_second s)
same_numbered f at (copy x) h = same_operand f at x h
same_numbered f at (double c k) h = refl
same_numbered f at (sum c x) h = same_operand f at x (and_both (offset_fits c.offset) (operand_fits x) h).1
same_numbered f at (product c x) h = same_operand f at x (and_both (offset_fits c.offset) (operand_fits x) h).1

same_numbers : (f : List ℕ → ℕ) (at : ℕ) (s : Statement) → statement_fits s ≡ true → numbers_at nowhere 0 (statement_numbers (resolved_statement f at s)) ≡ numbers_at f at (statement_numbers s)
same_numbers f at (assert c s step) h = same_numbered f at s (and_both (offset_fits c.offset) (source_fits s) h).1
same_numbers f at (jump a step) h = same_aimed f at a h
same_numbers f at (jump_abs x step) h = same_operand f at x h
same_numbers f at (jump_if a c step) h = same_aimed f at a (and_both (aim_fits a) (offset_fits c.offset) h).0
same_numbers f at (call a) h = same_aimed f at a h
same_numbers f at (call_abs x) h = same_operand f at x h
same_numbers f at ret h = refl
same_numbers f at (add_ap x) h = same_operand f at x h
same_numbers f at (word n) h = one_value (numeral_value n) (numeral_felt n h)

-- ---- words

gives_too : (o p : Option Fields) (ns ms words : List ℕ) → o ≡ p → ns ≡ ms → IsInstructed o ns words → IsInstructed p ms words
gives_too o p ns ms words same numbers gives = subst (λ (q : Option Fields). IsInstructed q ms words) same (subst (λ (ks : List ℕ). IsInstructed o ks words) numbers gives)

pub resolved_adds : (f : List ℕ → ℕ) (at : ℕ) (s : Statement) (before after : List ℕ) → statement_fits s ≡ true → Adds nowhere 0 (resolved_statement f at s) before after → Adds f at s before after
resolved_adds f at s before after fits (first, gives, is) =
    (first, gives_too (statement_fields (resolved_statement f at s)) (statement_fields s) _ _ first (same_fields_of f at s fits) (same_numbers f at s fits) gives, is)

instructed : (o : Option Fields) (ns before middle after : List ℕ) → PutsWord o before middle → after ≡ middle ++ ns → (first : List ℕ) × IsInstructed o ns first × (after ≡ before ++ first)
instructed None ns before middle after puts is = (ns, refl, is ∙ ap (λ (m : List ℕ). m ++ ns) puts)
instructed (Some f) ns before middle after (w, its, puts) is = (w ∷ ns, (w, its, refl), is ∙ (ap (λ (m : List ℕ). m ++ ns) puts ∙ append_assoc before (w ∷ []) ns))

-- a word, if there is one, and then the numbers
pub adds_words : (s : Statement) (ns before middle after : List ℕ) → PutsWord (statement_fields s) before middle → numbers_at nowhere 0 (statement_numbers s) ≡ ns → after ≡ middle ++ ns → Adds nowhere 0 s before after
adds_words s ns before middle after puts numbers is =
    subst (λ (ms : List ℕ). (first : List ℕ) × IsInstructed (statement_fields s) ms first × (after ≡ before ++ first)) (sym numbers) (instructed (statement_fields s) ns before middle after puts is)

-- a statement that fits, by the plain one that it is
pub line_puts : (f : List ℕ → ℕ) (at : ℕ) (s p : Statement) (before after : List ℕ) → Some p ≡ where_fits (statement_fits s) (resolved_statement f at s) → at ≡ length before → Adds nowhere 0 p before after
    → (statement_fits s ≡ true) × LineAdds f (statement_line s) before after
line_puts f at s p before after is there adds =
    let fits = fits_is (statement_fits s) (resolved_statement f at s) p is in
    let resolved : Adds nowhere 0 (resolved_statement f at s) before after = subst (λ (t : Statement). Adds nowhere 0 t before after) fits.1 adds in
    (fits.0, subst (λ (n : ℕ). Adds f n s before after) there (resolved_adds f at s before after fits.0 resolved))
