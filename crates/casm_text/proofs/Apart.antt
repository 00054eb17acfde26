-- The tokens of a statement that is well spelled each begin anew, so its text has just these tokens.
use Rattle.casm_text.specs.Tokens.{is_digit, is_letter, is_name_byte}
use Rattle.casm_text.specs.Working.Tokenizing.{tokens_after, goes_on}
use Rattle.casm_text.specs.Statements.{Piece, token, space, Offset, none, plus, minus, Numeral, positive, negative, Cell, Operand, cell, numeral, Source, copy, double, sum, product, Aim, by, label, Statement, assert, jump, jump_abs, jump_if, call, call_abs, ret, add_ap, word, statement_text, tokens_of, offset_then, numeral_then, register_name, cell_then, operand_then, source_then, aim_then, step_pieces, statement_pieces, grammar_words, is_name, offset_spelled, numeral_spelled, operand_spelled, source_spelled, aim_spelled, is_spelled}
use Rattle.casm_text.specs.Tokens.{begins_with_letter, is_digits}
use Rattle.casm_text.proofs.Tokenizing.{goes_along, starts_anew, apart, tokens_apart, and_both}
use Rattle.cairo_word.specs.declared.word.Reg.{Reg}
use Rattle.cairo_word.specs.declared.word.Reg.TheVariants.{Ap, Fp}
use Rattle.std.proofs.Common.{◌≡◌, ℕ, ◌==◌, Bool, true, false, not, ◌&&◌, List, [], ◌∷◌, ◌++◌, refl, arith, rules}
use Rattle.std.specs.Prelude.{codes, bytes_eq}
use Rattle.std.specs.List.{list_all, list_any}
use Rattle.std.proofs.lemmas.Bool.{false≢true}
use Rattle.std.proofs.lemmas.Bool.Decides.{nat_tests}

digit_no_letter : (d : ℕ) → is_digit d ≡ true → is_letter d ≡ false
digit_no_letter d h = grind (arith, nat_tests)

digit_no_space : (d : ℕ) → is_digit d ≡ true → d == 32 ≡ false
digit_no_space d h = grind (arith, nat_tests)

letter_no_space : (d : ℕ) → is_letter d ≡ true → d == 32 ≡ false
letter_no_space d h = grind (arith, nat_tests)

-- a mark or nothing is begun
plus_fresh : (d : ℕ) → is_digit d ≡ true → goes_on (codes "+") d ≡ false
plus_fresh d h = grind (arith, nat_tests)

minus_fresh : (d : ℕ) → is_digit d ≡ true → goes_on (codes "-") d ≡ false
minus_fresh d h = refl

-- ---- digits and names

digits_along : (d : ℕ) (more ds : List ℕ) → is_digit d ≡ true → list_all is_digit ds ≡ true → goes_along (d ∷ more) ds ≡ true
digits_along d more [] h all = refl
digits_along d more (c ∷ cs) h all =
    let both = and_both (is_digit c) (list_all is_digit cs) all in
    let no_letter : is_letter d ≡ false = digit_no_letter d h in
    let here : is_digit c ≡ true = both.0 in
    rw (no_letter, h, here) (digits_along d (more ++ (c ∷ [])) cs h both.1)

name_along : (d : ℕ) (more ds : List ℕ) → is_letter d ≡ true → list_all is_name_byte ds ≡ true → goes_along (d ∷ more) ds ≡ true
name_along d more [] h all = refl
name_along d more (c ∷ cs) h all =
    let both = and_both (is_name_byte c) (list_all is_name_byte cs) all in
    let here : is_name_byte c ≡ true = both.0 in
    rw (h, here) (name_along d (more ++ (c ∷ [])) cs h both.1)

digits_anew : (begun ds : List ℕ) → is_digits ds ≡ true → ((d : ℕ) → is_digit d ≡ true → goes_on begun d ≡ false) → starts_anew begun ds ≡ true
digits_anew begun [] h fresh = absurd (false≢true h)
digits_anew begun (d ∷ ds) h fresh =
    let both = and_both (is_digit d) (list_all is_digit ds) h in
    let apart_here : goes_on begun d ≡ false = fresh d both.0 in
    let solid : d == 32 ≡ false = digit_no_space d both.0 in
    rw (apart_here, solid) (digits_along d [] ds both.0 both.1)

digits_end : (ds : List ℕ) (c : ℕ) → is_digits ds ≡ true → is_digit c ≡ false → goes_on ds c ≡ false
digits_end [] c h other = refl
digits_end (d ∷ ds) c h other =
    let both = and_both (is_digit d) (list_all is_digit ds) h in
    let no_letter : is_letter d ≡ false = digit_no_letter d both.0 in
    let here : is_digit d ≡ true = both.0 in
    rw (no_letter, here) other

pub record IsNameText (t : List ℕ) : Type 0 where
  pub first : begins_with_letter t ≡ true
  pub all : list_all is_name_byte t ≡ true

pub name_text : (t : List ℕ) → is_name t ≡ true → IsNameText t
name_text t h =
    let both = and_both (begins_with_letter t) (list_all is_name_byte t && not (list_any (bytes_eq t) grammar_words)) h in
    record { first = both.0; all = (and_both (list_all is_name_byte t) (not (list_any (bytes_eq t) grammar_words)) both.1).0 }

name_anew : (t : List ℕ) → IsNameText t → starts_anew [] t ≡ true
name_anew [] h = absurd (false≢true h.first)
name_anew (d ∷ ds) h =
    let solid : d == 32 ≡ false = letter_no_space d h.first in
    rw solid (name_along d [] ds h.first (and_both (is_name_byte d) (list_all is_name_byte ds) h.all).1)

name_end : (t : List ℕ) (c : ℕ) → IsNameText t → is_name_byte c ≡ false → goes_on t c ≡ false
name_end [] c h other = refl
name_end (d ∷ ds) c h other =
    let here : is_letter d ≡ true = h.first in
    rw here other

-- ---- parts of a statement

pub record IsApart (begun : List ℕ) (ps : List Piece) : Type 0 where
  pub holds : apart begun ps ≡ true

-- these pieces may stand after any token that a comma ends
abbrev Loose : List Piece → Type 0
Loose rest = (t : List ℕ) → goes_on t 44 ≡ false → IsApart t rest

loose_space : (ps : List Piece) → IsApart [] ps → Loose (space ∷ ps)
loose_space ps h t ends = record { holds = h.holds }

loose_step : (step : Bool) → Loose (step_pieces step)
loose_step true t ends = record { holds = rw ends refl }
loose_step false t ends = record { holds = refl }

apart_mark : (begun : List ℕ) (c : ℕ) (rest : List Piece) → goes_on begun c ≡ false → c == 32 ≡ false → IsApart (c ∷ []) rest → IsApart begun (token (c ∷ []) ∷ rest)
apart_mark begun c rest fresh solid h =
    let after : apart (c ∷ []) rest ≡ true = h.holds in
    record { holds = rw (fresh, solid, after) refl }

apart_word : (begun t : List ℕ) (rest : List Piece) → starts_anew begun t ≡ true → IsApart t rest → IsApart begun (token t ∷ rest)
apart_word begun t rest new after = record { holds = rw new after.holds }

apart_space : (begun : List ℕ) (rest : List Piece) → IsApart [] rest → IsApart begun (space ∷ rest)
apart_space begun rest after = record { holds = after.holds }

apart_digits : (begun ds : List ℕ) (rest : List Piece) → is_digits ds ≡ true → ((d : ℕ) → is_digit d ≡ true → goes_on begun d ≡ false) → IsApart ds rest → IsApart begun (token ds ∷ rest)
apart_digits begun ds rest h fresh after =
    let new : starts_anew begun ds ≡ true = digits_anew begun ds h fresh in
    record { holds = rw new after.holds }

-- an offset and the bracket after it, where a sign or a bracket may follow
abbrev pub MaySign : List ℕ → Type 0
MaySign t = (goes_on t 43 ≡ false) × (goes_on t 45 ≡ false) × (goes_on t 93 ≡ false)

apart_offset : (begun : List ℕ) (o : Offset) (rest : List Piece) → MaySign begun → offset_spelled o ≡ true → IsApart (codes "]") rest → IsApart begun (offset_then o (token (codes "]") ∷ rest))
apart_offset begun none rest ends h after = apart_mark begun 93 rest ends.2 refl after
apart_offset begun (plus ds) rest ends h after =
    apart_mark begun 43 _ ends.0 refl (apart_digits (codes "+") ds _ h plus_fresh (apart_mark ds 93 rest (digits_end ds 93 h refl) refl after))
apart_offset begun (minus ds) rest ends h after =
    apart_mark begun 45 _ ends.1 refl (apart_digits (codes "-") ds _ h minus_fresh (apart_mark ds 93 rest (digits_end ds 93 h refl) refl after))

apart_register : (r : Reg) (o : Offset) (rest : List Piece) → offset_spelled o ≡ true → IsApart (codes "]") rest → IsApart (codes "[") (token (register_name r) ∷ offset_then o (token (codes "]") ∷ rest))
apart_register Ap o rest h after = apart_word _ _ _ refl (apart_offset (codes "ap") o rest (refl, refl, refl) h after)
apart_register Fp o rest h after = apart_word _ _ _ refl (apart_offset (codes "fp") o rest (refl, refl, refl) h after)

apart_cell : (begun : List ℕ) (c : Cell) (rest : List Piece) → goes_on begun 91 ≡ false → offset_spelled c.offset ≡ true → IsApart (codes "]") rest → IsApart begun (cell_then c rest)
apart_cell begun c rest fresh h after = apart_mark begun 91 _ fresh refl (apart_register c.register c.offset rest h after)

apart_numeral : (n : Numeral) (rest : List Piece) → numeral_spelled n ≡ true → Loose rest → IsApart [] (numeral_then n rest)
apart_numeral (positive ds) rest h loose = apart_digits [] ds rest h (λ d _. refl) (loose ds (digits_end ds 44 h refl))
apart_numeral (negative ds) rest h loose = apart_mark [] 45 _ refl refl (apart_digits (codes "-") ds rest h minus_fresh (loose ds (digits_end ds 44 h refl)))

apart_operand : (x : Operand) (rest : List Piece) → operand_spelled x ≡ true → Loose rest → IsApart [] (operand_then x rest)
apart_operand (cell c) rest h loose = apart_cell [] c rest refl h (loose (codes "]") refl)
apart_operand (numeral n) rest h loose = apart_numeral n rest h loose

-- a space, a mark and a space
apart_spaced : (begun t : List ℕ) (rest : List Piece) → starts_anew [] t ≡ true → IsApart [] rest → IsApart begun (space ∷ token t ∷ space ∷ rest)
apart_spaced begun t rest new after = apart_space _ _ (apart_word _ _ _ new (apart_space _ _ after))

-- a word at the begin, and a space
apart_first : (t : List ℕ) (rest : List Piece) → starts_anew [] t ≡ true → IsApart [] rest → IsApart [] (token t ∷ space ∷ rest)
apart_first t rest new after = apart_word _ _ _ new (apart_space _ _ after)

apart_source : (s : Source) (rest : List Piece) → source_spelled s ≡ true → Loose rest → IsApart [] (source_then s rest)
apart_source (copy x) rest h loose = apart_operand x rest h loose
apart_source (double c k) rest h loose =
    let both = and_both (offset_spelled c.offset) (offset_spelled k) h in
    apart_mark [] 91 _ refl refl (apart_cell (codes "[") c _ refl both.0 (apart_offset (codes "]") k rest (refl, refl, refl) both.1 (loose (codes "]") refl)))
apart_source (sum c x) rest h loose =
    let both = and_both (offset_spelled c.offset) (operand_spelled x) h in
    apart_cell [] c _ refl both.0 (apart_spaced _ _ _ refl (apart_operand x rest both.1 loose))
apart_source (product c x) rest h loose =
    let both = and_both (offset_spelled c.offset) (operand_spelled x) h in
    apart_cell [] c _ refl both.0 (apart_spaced _ _ _ refl (apart_operand x rest both.1 loose))

apart_aim : (a : Aim) (rest : List Piece) → aim_spelled a ≡ true → Loose rest → IsApart [] (aim_then a rest)
apart_aim (by x) rest h loose = apart_first _ _ refl (apart_operand x rest h loose)
apart_aim (label name) rest h loose =
    let text = name_text name h in
    apart_word _ _ _ (name_anew name text) (loose name (name_end name 44 text refl))

loose_nil : Loose []
loose_nil t ends = record { holds = refl }

apart_statement : (s : Statement) → is_spelled s ≡ true → IsApart [] (statement_pieces s)
apart_statement (assert c s step) h =
    let both = and_both (offset_spelled c.offset) (source_spelled s) h in
    apart_cell [] c _ refl both.0 (apart_spaced _ _ _ refl (apart_source s _ both.1 (loose_step step)))
apart_statement (jump a step) h = apart_first _ _ refl (apart_aim a _ h (loose_step step))
apart_statement (jump_abs x step) h = apart_first _ _ refl (apart_first _ _ refl (apart_operand x _ h (loose_step step)))
apart_statement (jump_if a c step) h =
    let both = and_both (aim_spelled a) (offset_spelled c.offset) h in
    apart_first _ _ refl (apart_aim a _ both.0 (loose_space _ (apart_first _ _ refl (apart_cell [] c _ refl both.1 (apart_spaced _ _ _ refl (apart_word _ _ _ refl (loose_step step (codes "0") refl)))))))
apart_statement (call a) h = apart_first _ _ refl (apart_aim a [] h loose_nil)
apart_statement (call_abs x) h = apart_first _ _ refl (apart_first _ _ refl (apart_operand x [] h loose_nil))
apart_statement ret h = record { holds = refl }
apart_statement (add_ap x) h = apart_word _ _ _ refl (apart_spaced _ _ _ refl (apart_operand x [] h loose_nil))
apart_statement (word n) h = apart_first _ _ refl (apart_numeral n [] h loose_nil)

-- a statement's text has its tokens
pub tokens_of_text : (s : Statement) → is_spelled s ≡ true → tokens_after [] (statement_text s) ≡ tokens_of s
tokens_of_text s h = tokens_apart [] (statement_pieces s) (apart_statement s h).holds
