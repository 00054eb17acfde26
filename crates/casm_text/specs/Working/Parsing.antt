-- Reading a statement off the tokens of its line, from left to right.
use Rattle.std.specs.Prelude.{ℕ, Bool, true, false, ◌&&◌, List, [], ◌∷◌, Option, Some, None, codes, bytes_eq, option_map, if◌then◌else◌}
use Rattle.cairo_word.specs.declared.word.Reg.{Reg}
use Rattle.cairo_word.specs.declared.word.Reg.TheVariants.{Ap, Fp}
use Rattle.casm_text.specs.Lines.{Line, empty_line, label_line, statement_line}
use Rattle.casm_text.specs.Statements.{Offset, none, plus, minus, Numeral, positive, negative, Cell, Operand, cell, numeral, Source, copy, double, sum, product, Aim, by, label, Statement, assert, jump, jump_abs, jump_if, call, call_abs, ret, add_ap, word, is_name}
use Rattle.casm_text.specs.Tokens.{is_digits}

-- what is read, and the tokens after it
abbrev pub Read : Type 0 → Type 0
Read A = Option (A × List (List ℕ))

-- goes on with what was read and the tokens after it
abbrev pub then_read : {A B : Type 0} → Read A → (A → List (List ℕ) → Option B) → Option B
then_read None f = None
then_read (Some r) f = f r.0 r.1

-- whether the next token is this one
abbrev pub next_is : List ℕ → List (List ℕ) → Bool
next_is t [] = false
next_is t (u ∷ us) = bytes_eq u t

-- the tokens after the next
abbrev pub others : List (List ℕ) → List (List ℕ)
others [] = []
others (u ∷ us) = us

-- goes on after this token, where it is the next
abbrev pub expect : {B : Type 0} → List ℕ → List (List ℕ) → (List (List ℕ) → Option B) → Option B
expect t tokens f = if next_is t tokens then f (others tokens) else None

-- digits at the front
abbrev pub digits_first : List (List ℕ) → Read (List ℕ)
digits_first [] = None
digits_first (u ∷ us) = if is_digits u then Some (u, us) else None

-- an offset at the front, none where no sign stands there
abbrev pub offset_first : List (List ℕ) → Read Offset
offset_first tokens =
    if next_is (codes "+") tokens then then_read (digits_first (others tokens)) (λ ds rest. Some (plus ds, rest))
    else (if next_is (codes "-") tokens then then_read (digits_first (others tokens)) (λ ds rest. Some (minus ds, rest))
    else Some (none, tokens))

-- a register at the front
abbrev pub register_first : List (List ℕ) → Read Reg
register_first tokens =
    if next_is (codes "ap") tokens then Some (Ap, others tokens)
    else (if next_is (codes "fp") tokens then Some (Fp, others tokens)
    else None)

-- a cell at the front
abbrev pub cell_first : List (List ℕ) → Read Cell
cell_first tokens =
    expect (codes "[") tokens (λ a. then_read (register_first a) (λ r b. then_read (offset_first b) (λ o c. expect (codes "]") c (λ rest. Some (record { register = r; offset = o }, rest)))))

-- a number at the front
abbrev pub numeral_first : List (List ℕ) → Read Numeral
numeral_first tokens =
    if next_is (codes "-") tokens then then_read (digits_first (others tokens)) (λ ds rest. Some (negative ds, rest))
    else then_read (digits_first tokens) (λ ds rest. Some (positive ds, rest))

-- an operand at the front
abbrev pub operand_first : List (List ℕ) → Read Operand
operand_first tokens =
    if next_is (codes "[") tokens then then_read (cell_first tokens) (λ c rest. Some (cell c, rest))
    else then_read (numeral_first tokens) (λ n rest. Some (numeral n, rest))

-- after the first cell of a right side
abbrev pub source_after : Cell → List (List ℕ) → Read Source
source_after c tokens =
    if next_is (codes "+") tokens then then_read (operand_first (others tokens)) (λ x rest. Some (sum c x, rest))
    else (if next_is (codes "*") tokens then then_read (operand_first (others tokens)) (λ x rest. Some (product c x, rest))
    else Some (copy (cell c), tokens))

-- a cell whose address a cell has, at the front
abbrev pub double_first : List (List ℕ) → Read Source
double_first tokens =
    expect (codes "[") tokens (λ a. then_read (cell_first a) (λ c b. then_read (offset_first b) (λ k d. expect (codes "]") d (λ rest. Some (double c k, rest)))))

-- a right side at the front
abbrev pub source_first : List (List ℕ) → Read Source
source_first tokens =
    if next_is (codes "[") tokens
    then (if next_is (codes "[") (others tokens) then double_first tokens else then_read (cell_first tokens) source_after)
    else then_read (numeral_first tokens) (λ n rest. Some (copy (numeral n), rest))

-- a name at the front
abbrev pub label_first : List (List ℕ) → Read Aim
label_first [] = None
label_first (u ∷ us) = if is_name u then Some (label u, us) else None

-- an aim at the front
abbrev pub aim_first : List (List ℕ) → Read Aim
aim_first tokens = if next_is (codes "rel") tokens then then_read (operand_first (others tokens)) (λ x rest. Some (by x, rest)) else label_first tokens

-- ---- ends of a line

-- this, where no token is left
abbrev pub ended : {A : Type 0} → A → List (List ℕ) → Option A
ended x [] = Some x
ended x (u ∷ us) = None

-- nothing, or `, ap++`
abbrev pub step_at_end : {A : Type 0} → (Bool → A) → List (List ℕ) → Option A
step_at_end f [] = Some (f false)
step_at_end f (u ∷ us) = expect (codes ",") (u ∷ us) (λ a. expect (codes "ap") a (λ b. expect (codes "++") b (ended (f true))))

-- ---- statements

-- an assertion
abbrev pub assert_in : List (List ℕ) → Option Statement
assert_in tokens = then_read (cell_first tokens) (λ c a. expect (codes "=") a (λ b. then_read (source_first b) (λ s d. step_at_end (assert c s) d)))

-- after the aim of a jump
abbrev pub jump_after : Aim → List (List ℕ) → Option Statement
jump_after aim tokens =
    if next_is (codes "if") tokens
    then then_read (cell_first (others tokens)) (λ c a. expect (codes "!=") a (λ b. expect (codes "0") b (step_at_end (jump_if aim c))))
    else step_at_end (jump aim) tokens

-- what follows `jmp`
abbrev pub jump_in : List (List ℕ) → Option Statement
jump_in tokens =
    if next_is (codes "abs") tokens then then_read (operand_first (others tokens)) (λ x a. step_at_end (jump_abs x) a)
    else then_read (aim_first tokens) jump_after

-- what follows `call` but with `abs`
abbrev pub relative_call_in : List (List ℕ) → Option Statement
relative_call_in tokens = then_read (aim_first tokens) (λ aim a. ended (call aim) a)

-- what follows `call`
abbrev pub call_in : List (List ℕ) → Option Statement
call_in tokens =
    if next_is (codes "abs") tokens then then_read (operand_first (others tokens)) (λ x a. ended (call_abs x) a)
    else relative_call_in tokens

-- what follows `ap`
abbrev pub add_in : List (List ℕ) → Option Statement
add_in tokens = expect (codes "+=") tokens (λ a. then_read (operand_first a) (λ x b. ended (add_ap x) b))

-- what follows `word`
abbrev pub word_in : List (List ℕ) → Option Statement
word_in tokens = then_read (numeral_first tokens) (λ n a. ended (word n) a)

-- the statement that these tokens spell, if any
abbrev pub statement_in : List (List ℕ) → Option Statement
statement_in tokens =
    if next_is (codes "[") tokens then assert_in tokens
    else (if next_is (codes "jmp") tokens then jump_in (others tokens)
    else (if next_is (codes "call") tokens then call_in (others tokens)
    else (if next_is (codes "ret") tokens then ended ret (others tokens)
    else (if next_is (codes "ap") tokens then add_in (others tokens)
    else (if next_is (codes "word") tokens then word_in (others tokens)
    else None)))))

-- ---- lines

-- the label that these tokens spell, if any
abbrev pub label_in : List (List ℕ) → Option Line
label_in [] = None
label_in (t ∷ ts) = if is_name t && next_is (codes ":") ts then ended (label_line t) (others ts) else None

-- the first of two, else the second
abbrev pub line_or : {A : Type 0} → Option A → Option A → Option A
line_or None o = o
line_or (Some x) o = Some x

-- what the tokens of a line spell, if anything
abbrev pub line_in : List (List ℕ) → Option Line
line_in [] = Some empty_line
line_in (t ∷ ts) = line_or (label_in (t ∷ ts)) (option_map (λ s. statement_line s) (statement_in (t ∷ ts)))
