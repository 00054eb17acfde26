-- What is read off the tokens of a statement is this statement.
use Rattle.casm_text.specs.Statements.{Piece, token, space, Offset, none, plus, minus, Numeral, positive, negative, Cell, Operand, cell, numeral, Source, copy, double, sum, product, Aim, by, label, Statement, assert, jump, jump_abs, jump_if, call, call_abs, ret, add_ap, word, tokens_in, tokens_of, offset_then, numeral_then, register_name, cell_then, operand_then, source_then, aim_then, step_pieces, is_name, offset_spelled, numeral_spelled, operand_spelled, source_spelled, aim_spelled, is_spelled}
use Rattle.casm_text.specs.Tokens.{is_digits}
use Rattle.casm_text.specs.Working.Parsing.{then_read, next_is, others, expect, offset_first, cell_first, numeral_first, operand_first, source_after, source_first, aim_first, ended, step_at_end, assert_in, jump_after, jump_in, call_in, statement_in}
use Rattle.casm_text.proofs.Tokenizing.{and_both}
use Rattle.cairo_word.specs.declared.word.Reg.{Reg}
use Rattle.cairo_word.specs.declared.word.Reg.TheVariants.{Ap, Fp}
use Rattle.std.proofs.Common.{◌≡◌, ℕ, Bool, true, false, List, [], ◌∷◌, Some, refl, ap, sym, ◌∙◌}
use Rattle.std.specs.Prelude.{codes, bytes_eq}
use Rattle.std.proofs.lemmas.Slice.Eq.{bytes_eq-Decides}
use Rattle.std.proofs.lemmas.Bool.{false≢true}

pub not_true : (b : Bool) → ¬ (b ≡ true) → b ≡ false
not_true true h = absurd (h refl)
not_true false h = refl

-- two texts that a test tells apart differ
differ : (test : List ℕ → Bool) (s t : List ℕ) → test s ≡ true → test t ≡ false → bytes_eq s t ≡ false
differ test s t passes fails =
    not_true (bytes_eq s t) (λ same. false≢true (sym fails ∙ (sym (ap test ((bytes_eq-Decides s t).0 same)) ∙ passes)))

parse_offset : (o : Offset) (rest : List Piece) → offset_spelled o ≡ true → next_is (codes "+") (tokens_in rest) ≡ false → next_is (codes "-") (tokens_in rest) ≡ false
    → offset_first (tokens_in (offset_then o rest)) ≡ Some (o, tokens_in rest)
parse_offset none rest h no_plus no_minus = rw (no_plus, no_minus) refl
parse_offset (plus ds) rest h no_plus no_minus = rw h refl
parse_offset (minus ds) rest h no_plus no_minus = rw h refl

parse_parts : (r : Reg) (o : Offset) (rest : List Piece) → offset_spelled o ≡ true
    → cell_first (tokens_in (cell_then (record { register = r; offset = o }) rest)) ≡ Some (record { register = r; offset = o }, tokens_in rest)
parse_parts Ap o rest h =
    let read : offset_first (tokens_in (offset_then o (token (codes "]") ∷ rest))) ≡ Some (o, tokens_in (token (codes "]") ∷ rest)) = parse_offset o (token (codes "]") ∷ rest) h refl refl in
    rw read refl
parse_parts Fp o rest h =
    let read : offset_first (tokens_in (offset_then o (token (codes "]") ∷ rest))) ≡ Some (o, tokens_in (token (codes "]") ∷ rest)) = parse_offset o (token (codes "]") ∷ rest) h refl refl in
    rw read refl

parse_cell : (c : Cell) (rest : List Piece) → offset_spelled c.offset ≡ true → cell_first (tokens_in (cell_then c rest)) ≡ Some (c, tokens_in rest)
parse_cell c rest h = parse_parts c.register c.offset rest h

parse_numeral : (n : Numeral) (rest : List Piece) → numeral_spelled n ≡ true → numeral_first (tokens_in (numeral_then n rest)) ≡ Some (n, tokens_in rest)
parse_numeral (positive ds) rest h =
    let other : bytes_eq ds (codes "-") ≡ false = differ is_digits ds (codes "-") h refl in
    rw (other, h) refl
parse_numeral (negative ds) rest h = rw h refl

opens : (n : Numeral) (rest : List Piece) → numeral_spelled n ≡ true → next_is (codes "[") (tokens_in (numeral_then n rest)) ≡ false
opens (positive ds) rest h = differ is_digits ds (codes "[") h refl
opens (negative ds) rest h = refl

parse_operand : (x : Operand) (rest : List Piece) → operand_spelled x ≡ true → operand_first (tokens_in (operand_then x rest)) ≡ Some (x, tokens_in rest)
parse_operand (cell c) rest h =
    let read : cell_first (tokens_in (cell_then c rest)) ≡ Some (c, tokens_in rest) = parse_cell c rest h in
    ap (λ r. then_read r (λ c rest. Some (cell c, rest))) read
parse_operand (numeral n) rest h =
    let read : numeral_first (tokens_in (numeral_then n rest)) ≡ Some (n, tokens_in rest) = parse_numeral n rest h in
    let closed : next_is (codes "[") (tokens_in (numeral_then n rest)) ≡ false = opens n rest h in
    rw (closed, read) refl

-- a cell is no second bracket
no_double : (r : Reg) (ts : List (List ℕ)) → next_is (codes "[") (register_name r ∷ ts) ≡ false
no_double Ap ts = refl
no_double Fp ts = refl

no_double_cell : (c : Cell) (rest : List Piece) → next_is (codes "[") (others (tokens_in (cell_then c rest))) ≡ false
no_double_cell c rest = no_double c.register (tokens_in (offset_then c.offset (token (codes "]") ∷ rest)))

parse_source : (s : Source) (rest : List Piece) → source_spelled s ≡ true → next_is (codes "+") (tokens_in rest) ≡ false → next_is (codes "*") (tokens_in rest) ≡ false
    → source_first (tokens_in (source_then s rest)) ≡ Some (s, tokens_in rest)
parse_source (copy (cell c)) rest h no_plus no_times =
    let read : cell_first (tokens_in (cell_then c rest)) ≡ Some (c, tokens_in rest) = parse_cell c rest h in
    let single : next_is (codes "[") (others (tokens_in (cell_then c rest))) ≡ false = no_double_cell c rest in
    rw single (ap (λ r. then_read r source_after) read ∙ rw (no_plus, no_times) refl)
parse_source (copy (numeral n)) rest h no_plus no_times =
    let read : numeral_first (tokens_in (numeral_then n rest)) ≡ Some (n, tokens_in rest) = parse_numeral n rest h in
    let closed : next_is (codes "[") (tokens_in (numeral_then n rest)) ≡ false = opens n rest h in
    rw (closed, read) refl
parse_source (double c k) rest h no_plus no_times =
    let both = and_both (offset_spelled c.offset) (offset_spelled k) h in
    let read : cell_first (tokens_in (cell_then c (offset_then k (token (codes "]") ∷ rest)))) ≡ Some (c, tokens_in (offset_then k (token (codes "]") ∷ rest))) = parse_cell c _ both.0 in
    let more : offset_first (tokens_in (offset_then k (token (codes "]") ∷ rest))) ≡ Some (k, tokens_in (token (codes "]") ∷ rest)) = parse_offset k (token (codes "]") ∷ rest) both.1 refl refl in
    ap (λ r. then_read r (λ c b. then_read (offset_first b) (λ k d. expect (codes "]") d (λ rest. Some (double c k, rest))))) read
    ∙ ap (λ r. then_read r (λ k d. expect (codes "]") d (λ rest. Some (double c k, rest)))) more
parse_source (sum c x) rest h no_plus no_times =
    let both = and_both (offset_spelled c.offset) (operand_spelled x) h in
    let read : cell_first (tokens_in (cell_then c (space ∷ token (codes "+") ∷ space ∷ operand_then x rest))) ≡ Some (c, codes "+" ∷ tokens_in (operand_then x rest)) = parse_cell c _ both.0 in
    let single : next_is (codes "[") (others (tokens_in (cell_then c (space ∷ token (codes "+") ∷ space ∷ operand_then x rest)))) ≡ false = no_double_cell c (space ∷ token (codes "+") ∷ space ∷ operand_then x rest) in
    let operand : operand_first (tokens_in (operand_then x rest)) ≡ Some (x, tokens_in rest) = parse_operand x rest both.1 in
    rw single (ap (λ r. then_read r source_after) read ∙ ap (λ r. then_read r (λ x rest. Some (sum c x, rest))) operand)
parse_source (product c x) rest h no_plus no_times =
    let both = and_both (offset_spelled c.offset) (operand_spelled x) h in
    let read : cell_first (tokens_in (cell_then c (space ∷ token (codes "*") ∷ space ∷ operand_then x rest))) ≡ Some (c, codes "*" ∷ tokens_in (operand_then x rest)) = parse_cell c _ both.0 in
    let single : next_is (codes "[") (others (tokens_in (cell_then c (space ∷ token (codes "*") ∷ space ∷ operand_then x rest)))) ≡ false = no_double_cell c (space ∷ token (codes "*") ∷ space ∷ operand_then x rest) in
    let operand : operand_first (tokens_in (operand_then x rest)) ≡ Some (x, tokens_in rest) = parse_operand x rest both.1 in
    rw single (ap (λ r. then_read r source_after) read ∙ ap (λ r. then_read r (λ x rest. Some (product c x, rest))) operand)

-- a name is none of the words of the grammar
pub no_word : (name : List ℕ) (t : List ℕ) → is_name name ≡ true → is_name t ≡ false → bytes_eq name t ≡ false
no_word name t h fails = differ is_name name t h fails

parse_aim : (a : Aim) (rest : List Piece) → aim_spelled a ≡ true → aim_first (tokens_in (aim_then a rest)) ≡ Some (a, tokens_in rest)
parse_aim (by x) rest h =
    let operand : operand_first (tokens_in (operand_then x rest)) ≡ Some (x, tokens_in rest) = parse_operand x rest h in
    ap (λ r. then_read r (λ x rest. Some (by x, rest))) operand
parse_aim (label name) rest h =
    let other : bytes_eq name (codes "rel") ≡ false = no_word name (codes "rel") h refl in
    rw (h, other) refl

-- ---- statements

parse_step : {A : Type 0} (f : Bool → A) (step : Bool) → step_at_end f (tokens_in (step_pieces step)) ≡ Some (f step)
parse_step f true = refl
parse_step f false = refl

-- the end of a statement begins with none of these
step_is_none : (t : List ℕ) (step : Bool) → bytes_eq (codes ",") t ≡ false → next_is t (tokens_in (step_pieces step)) ≡ false
step_is_none t true h = h
step_is_none t false h = refl

aim_is_no_abs : (a : Aim) (rest : List Piece) → aim_spelled a ≡ true → next_is (codes "abs") (tokens_in (aim_then a rest)) ≡ false
aim_is_no_abs (by x) rest h = refl
aim_is_no_abs (label name) rest h = no_word name (codes "abs") h refl

parse_jump : (a : Aim) (step : Bool) → aim_spelled a ≡ true → jump_in (tokens_in (aim_then a (step_pieces step))) ≡ Some (jump a step)
parse_jump a step h =
    let no_abs : next_is (codes "abs") (tokens_in (aim_then a (step_pieces step))) ≡ false = aim_is_no_abs a (step_pieces step) h in
    let no_if : next_is (codes "if") (tokens_in (step_pieces step)) ≡ false = step_is_none (codes "if") step refl in
    let read : aim_first (tokens_in (aim_then a (step_pieces step))) ≡ Some (a, tokens_in (step_pieces step)) = parse_aim a (step_pieces step) h in
    rw no_abs (ap (λ r. then_read r jump_after) read ∙ rw no_if (parse_step (jump a) step))

parse_jump_if : (a : Aim) (c : Cell) (step : Bool) → aim_spelled a ≡ true → offset_spelled c.offset ≡ true
    → jump_in (tokens_in (aim_then a (space ∷ token (codes "if") ∷ space ∷ cell_then c (space ∷ token (codes "!=") ∷ space ∷ token (codes "0") ∷ step_pieces step)))) ≡ Some (jump_if a c step)
parse_jump_if a c step h k =
    let no_abs : next_is (codes "abs") (tokens_in (aim_then a (space ∷ token (codes "if") ∷ space ∷ cell_then c (space ∷ token (codes "!=") ∷ space ∷ token (codes "0") ∷ step_pieces step)))) ≡ false = aim_is_no_abs a _ h in
    let read : aim_first (tokens_in (aim_then a (space ∷ token (codes "if") ∷ space ∷ cell_then c (space ∷ token (codes "!=") ∷ space ∷ token (codes "0") ∷ step_pieces step)))) ≡ Some (a, codes "if" ∷ tokens_in (cell_then c (space ∷ token (codes "!=") ∷ space ∷ token (codes "0") ∷ step_pieces step))) = parse_aim a _ h in
    let tested : cell_first (tokens_in (cell_then c (space ∷ token (codes "!=") ∷ space ∷ token (codes "0") ∷ step_pieces step))) ≡ Some (c, codes "!=" ∷ codes "0" ∷ tokens_in (step_pieces step)) = parse_cell c _ k in
    rw no_abs
    (ap (λ r. then_read r jump_after) read
    ∙ ap (λ r. then_read r (λ c a2. expect (codes "!=") a2 (λ b. expect (codes "0") b (step_at_end (jump_if a c))))) tested
    ∙ parse_step (jump_if a c) step)

parse_call : (a : Aim) → aim_spelled a ≡ true → call_in (tokens_in (aim_then a [])) ≡ Some (call a)
parse_call a h =
    let no_abs : next_is (codes "abs") (tokens_in (aim_then a [])) ≡ false = aim_is_no_abs a [] h in
    let read : aim_first (tokens_in (aim_then a [])) ≡ Some (a, []) = parse_aim a [] h in
    rw no_abs (ap (λ r. then_read r (λ aim a. ended (call aim) a)) read)

parse_assert : (c : Cell) (s : Source) (step : Bool) → offset_spelled c.offset ≡ true → source_spelled s ≡ true
    → assert_in (tokens_in (cell_then c (space ∷ token (codes "=") ∷ space ∷ source_then s (step_pieces step)))) ≡ Some (assert c s step)
parse_assert c s step h k =
    let read : cell_first (tokens_in (cell_then c (space ∷ token (codes "=") ∷ space ∷ source_then s (step_pieces step)))) ≡ Some (c, codes "=" ∷ tokens_in (source_then s (step_pieces step))) = parse_cell c _ h in
    let right : source_first (tokens_in (source_then s (step_pieces step))) ≡ Some (s, tokens_in (step_pieces step)) = parse_source s (step_pieces step) k (step_is_none (codes "+") step refl) (step_is_none (codes "*") step refl) in
    ap (λ r. then_read r (λ c a. expect (codes "=") a (λ b. then_read (source_first b) (λ s d. step_at_end (assert c s) d)))) read
    ∙ ap (λ r. then_read r (λ s d. step_at_end (assert c s) d)) right
    ∙ parse_step (assert c s) step

pub parse_statement : (s : Statement) → is_spelled s ≡ true → statement_in (tokens_of s) ≡ Some s
parse_statement (assert c s step) h =
    let both = and_both (offset_spelled c.offset) (source_spelled s) h in
    parse_assert c s step both.0 both.1
parse_statement (jump a step) h = parse_jump a step h
parse_statement (jump_abs x step) h =
    let read : operand_first (tokens_in (operand_then x (step_pieces step))) ≡ Some (x, tokens_in (step_pieces step)) = parse_operand x (step_pieces step) h in
    ap (λ r. then_read r (λ x a. step_at_end (jump_abs x) a)) read ∙ parse_step (jump_abs x) step
parse_statement (jump_if a c step) h =
    let both = and_both (aim_spelled a) (offset_spelled c.offset) h in
    parse_jump_if a c step both.0 both.1
parse_statement (call a) h = parse_call a h
parse_statement (call_abs x) h = ap (λ r. then_read r (λ x a. ended (call_abs x) a)) (parse_operand x [] h)
parse_statement ret h = refl
parse_statement (add_ap x) h = ap (λ r. then_read r (λ x b. ended (add_ap x) b)) (parse_operand x [] h)
parse_statement (word n) h = ap (λ r. then_read r (λ n a. ended (word n) a)) (parse_numeral n [] h)
