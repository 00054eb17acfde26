-- The text of a statement has no slash and no line feed, so it is one line without a comment.
use Rattle.casm_text.specs.Tokens.{before_comment, is_digit, is_name_byte}
use Rattle.casm_text.specs.Working.Tokenizing.{tokens_of_line}
use Rattle.casm_text.specs.Statements.{Piece, token, space, Offset, none, plus, minus, Numeral, positive, negative, Cell, Operand, cell, numeral, Source, copy, double, sum, product, Aim, by, label, Statement, assert, jump, jump_abs, jump_if, call, call_abs, ret, add_ap, word, text_in, statement_text, tokens_of, offset_then, numeral_then, register_name, cell_then, operand_then, source_then, aim_then, step_pieces, statement_pieces, offset_spelled, numeral_spelled, operand_spelled, source_spelled, aim_spelled, is_spelled}
use Rattle.casm_text.specs.Tokens.{is_digits}
use Rattle.casm_text.proofs.Tokenizing.{and_both, not_false}
use Rattle.casm_text.proofs.Apart.{name_text, tokens_of_text}
use Rattle.cairo_word.specs.declared.word.Reg.{Reg}
use Rattle.cairo_word.specs.declared.word.Reg.TheVariants.{Ap, Fp}
use Rattle.std.proofs.Common.{◌≡◌, ℕ, ◌==◌, Bool, true, false, not, ◌&&◌, List, [], ◌∷◌, ◌++◌, refl, ap, arith}
use Rattle.std.specs.List.{list_all}
use Rattle.std.proofs.lemmas.Bool.Decides.{nat_tests}

-- neither a line feed nor a slash
abbrev pub is_clean : ℕ → Bool
is_clean c = not (c == 10) && not (c == 47)

abbrev pub all_clean : List ℕ → Bool
all_clean [] = true
all_clean (c ∷ cs) = is_clean c && all_clean cs

digit_clean : (c : ℕ) → is_digit c ≡ true → is_clean c ≡ true
digit_clean c h = grind (arith, nat_tests)

name_byte_clean : (c : ℕ) → is_name_byte c ≡ true → is_clean c ≡ true
name_byte_clean c h = grind (arith, nat_tests)

clean_by : (test : ℕ → Bool) → ((c : ℕ) → test c ≡ true → is_clean c ≡ true) → (cs : List ℕ) → list_all test cs ≡ true → all_clean cs ≡ true
clean_by test each [] h = refl
clean_by test each (c ∷ cs) h =
    let both = and_both (test c) (list_all test cs) h in
    let here : is_clean c ≡ true = each c both.0 in
    rw here (clean_by test each cs both.1)

clean_append : (xs ys : List ℕ) → all_clean xs ≡ true → all_clean ys ≡ true → all_clean (xs ++ ys) ≡ true
clean_append [] ys h k = k
clean_append (x ∷ xs) ys h k =
    let both = and_both (is_clean x) (all_clean xs) h in
    let here : is_clean x ≡ true = both.0 in
    rw here (clean_append xs ys both.1 k)

pub record IsClean (ps : List Piece) : Type 0 where
  pub holds : all_clean (text_in ps) ≡ true

clean_token : (t : List ℕ) (ps : List Piece) → all_clean t ≡ true → IsClean ps → IsClean (token t ∷ ps)
clean_token t ps h k = record { holds = clean_append t (text_in ps) h k.holds }

clean_space : (ps : List Piece) → IsClean ps → IsClean (space ∷ ps)
clean_space ps k = record { holds = k.holds }

clean_digits : (ds : List ℕ) → is_digits ds ≡ true → all_clean ds ≡ true
clean_digits [] h = refl
clean_digits (d ∷ ds) h = clean_by is_digit digit_clean (d ∷ ds) h

clean_offset : (o : Offset) (ps : List Piece) → offset_spelled o ≡ true → IsClean ps → IsClean (offset_then o ps)
clean_offset none ps h k = k
clean_offset (plus ds) ps h k = clean_token _ _ refl (clean_token ds ps (clean_digits ds h) k)
clean_offset (minus ds) ps h k = clean_token _ _ refl (clean_token ds ps (clean_digits ds h) k)

clean_numeral : (n : Numeral) (ps : List Piece) → numeral_spelled n ≡ true → IsClean ps → IsClean (numeral_then n ps)
clean_numeral (positive ds) ps h k = clean_token ds ps (clean_digits ds h) k
clean_numeral (negative ds) ps h k = clean_token _ _ refl (clean_token ds ps (clean_digits ds h) k)

clean_register : (r : Reg) → all_clean (register_name r) ≡ true
clean_register Ap = refl
clean_register Fp = refl

clean_cell : (c : Cell) (ps : List Piece) → offset_spelled c.offset ≡ true → IsClean ps → IsClean (cell_then c ps)
clean_cell c ps h k = clean_token _ _ refl (clean_token _ _ (clean_register c.register) (clean_offset c.offset _ h (clean_token _ _ refl k)))

clean_operand : (x : Operand) (ps : List Piece) → operand_spelled x ≡ true → IsClean ps → IsClean (operand_then x ps)
clean_operand (cell c) ps h k = clean_cell c ps h k
clean_operand (numeral n) ps h k = clean_numeral n ps h k

-- a space, a word and a space
clean_spaced : (t : List ℕ) (ps : List Piece) → all_clean t ≡ true → IsClean ps → IsClean (space ∷ token t ∷ space ∷ ps)
clean_spaced t ps h k = clean_space _ (clean_token _ _ h (clean_space _ k))

clean_first : (t : List ℕ) (ps : List Piece) → all_clean t ≡ true → IsClean ps → IsClean (token t ∷ space ∷ ps)
clean_first t ps h k = clean_token _ _ h (clean_space _ k)

clean_source : (s : Source) (ps : List Piece) → source_spelled s ≡ true → IsClean ps → IsClean (source_then s ps)
clean_source (copy x) ps h k = clean_operand x ps h k
clean_source (double c o) ps h k =
    let both = and_both (offset_spelled c.offset) (offset_spelled o) h in
    clean_token _ _ refl (clean_cell c _ both.0 (clean_offset o _ both.1 (clean_token _ _ refl k)))
clean_source (sum c x) ps h k =
    let both = and_both (offset_spelled c.offset) (operand_spelled x) h in
    clean_cell c _ both.0 (clean_spaced _ _ refl (clean_operand x ps both.1 k))
clean_source (product c x) ps h k =
    let both = and_both (offset_spelled c.offset) (operand_spelled x) h in
    clean_cell c _ both.0 (clean_spaced _ _ refl (clean_operand x ps both.1 k))

clean_aim : (a : Aim) (ps : List Piece) → aim_spelled a ≡ true → IsClean ps → IsClean (aim_then a ps)
clean_aim (by x) ps h k = clean_first _ _ refl (clean_operand x ps h k)
clean_aim (label name) ps h k = clean_token name ps (clean_by is_name_byte name_byte_clean name (name_text name h).all) k

clean_nil : IsClean []
clean_nil = record { holds = refl }

clean_step : (step : Bool) → IsClean (step_pieces step)
clean_step true = record { holds = refl }
clean_step false = record { holds = refl }

clean_statement : (s : Statement) → is_spelled s ≡ true → IsClean (statement_pieces s)
clean_statement (assert c s step) h =
    let both = and_both (offset_spelled c.offset) (source_spelled s) h in
    clean_cell c _ both.0 (clean_spaced _ _ refl (clean_source s _ both.1 (clean_step step)))
clean_statement (jump a step) h = clean_first _ _ refl (clean_aim a _ h (clean_step step))
clean_statement (jump_abs x step) h = clean_first _ _ refl (clean_first _ _ refl (clean_operand x _ h (clean_step step)))
clean_statement (jump_if a c step) h =
    let both = and_both (aim_spelled a) (offset_spelled c.offset) h in
    clean_first _ _ refl (clean_aim a _ both.0 (clean_spaced _ _ refl (clean_cell c _ both.1 (clean_spaced _ _ refl (clean_token _ _ refl (clean_step step))))))
clean_statement (call a) h = clean_first _ _ refl (clean_aim a [] h clean_nil)
clean_statement (call_abs x) h = clean_first _ _ refl (clean_first _ _ refl (clean_operand x [] h clean_nil))
clean_statement ret h = record { holds = refl }
clean_statement (add_ap x) h = clean_token _ _ refl (clean_spaced _ _ refl (clean_operand x [] h clean_nil))
clean_statement (word n) h = clean_first _ _ refl (clean_numeral n [] h clean_nil)

pub clean_text : (s : Statement) → is_spelled s ≡ true → all_clean (statement_text s) ≡ true
clean_text s h = (clean_statement s h).holds

no_comment : (cs : List ℕ) → all_clean cs ≡ true → before_comment cs ≡ cs
no_comment [] h = refl
no_comment (c ∷ cs) h =
    let both = and_both (is_clean c) (all_clean cs) h in
    let parts = and_both (not (c == 10)) (not (c == 47)) both.0 in
    let no_slash : c == 47 ≡ false = not_false _ parts.1 in
    rw no_slash (ap (λ l. c ∷ l) (no_comment cs both.1))

-- the text of a statement, as a line, has the statement's tokens
pub line_of_text : (s : Statement) → is_spelled s ≡ true → tokens_of_line (statement_text s) ≡ tokens_of s
line_of_text s h =
    let text : before_comment (statement_text s) ≡ statement_text s = no_comment (statement_text s) (clean_text s h) in
    rw text (tokens_of_text s h)
