-- The definitions at a few texts, by computing.
use Rattle.casm_text.specs.Working.Tokenizing.{tokens_of_line}
use Rattle.casm_text.specs.Statements.{plus, minus, double, Statement, assert, statement_text, tokens_of}
use Rattle.cairo_word.specs.declared.word.Reg.TheVariants.{Ap, Fp}
use Rattle.std.proofs.Common.{◌≡◌, ℕ, List, [], ◌∷◌, true, refl}
use Rattle.std.specs.Prelude.{codes}
use Rattle.std.proofs.Common.{Option, Some, None}
use Rattle.casm_text.specs.Lines.{Line, empty_line, label_line, statement_line}
use Rattle.casm_text.specs.Working.Parsing.{line_in}
use Rattle.casm_text.specs.Listings.{listing_text}
use Rattle.std.specs.Fmt.{digits}
use Rattle.casm_text.specs.Working.Rendering.{statements_of}
use Rattle.casm_text.specs.Words.{statement_fields, statement_numbers, numbers_at}
use Rattle.cairo_word.specs.Word.{Fields, fields_of}

double_read : Statement
double_read = assert (record { register = Ap; offset = minus (codes "1") }) (double (record { register = Fp; offset = minus (codes "5") }) (plus (codes "2"))) true

text : statement_text double_read ≡ codes "[ap-1] = [[fp-5]+2], ap++"
unfolding double_read
text = refl

tokens : tokens_of_line (codes "  [ap-1]=[ [fp - 5]+2 ],ap ++// // [") ≡ tokens_of double_read
unfolding double_read
tokens = refl

odd_tokens : tokens_of_line (codes "5if+++ !=!=a_1/") ≡ codes "5" ∷ codes "if" ∷ codes "++" ∷ codes "+" ∷ codes "!=" ∷ codes "!=" ∷ codes "a_1" ∷ codes "/" ∷ []
odd_tokens = refl

-- ---- outside vectors: the word of each statement

-- what a line gives, as an instruction's word and the numbers after it
abbrev fields_in : Option Line → Option Fields
fields_in (Some (statement_line s)) = statement_fields s
fields_in (Some empty_line) = None
fields_in (Some (label_line name)) = None
fields_in None = None

abbrev numbers_in : Option Line → List ℕ
numbers_in (Some (statement_line s)) = numbers_at (λ name. 6) 13 (statement_numbers s)
numbers_in (Some empty_line) = []
numbers_in (Some (label_line name)) = []
numbers_in None = []

abbrev LineGives : List ℕ → ℕ → List ℕ → Type 0
LineGives line w numbers = (fields_in (line_in (tokens_of_line line)) ≡ Some (fields_of w)) × (numbers_in (line_in (tokens_of_line line)) ≡ numbers)

five : LineGives (codes "[ap] = 5, ap++") 0x480680017fff8000 (5 ∷ [])
five = (refl, refl)

copied : LineGives (codes "[ap] = [fp-5], ap++") 0x480a7ffb7fff8000 []
copied = (refl, refl)

doubled : LineGives (codes "[ap-1] = [[fp-5]]") 0x400280007ffb7fff []
doubled = (refl, refl)

added : LineGives (codes "[ap] = [fp-5] + 1, ap++") 0x482680017ffb8000 (1 ∷ [])
added = (refl, refl)

returned : LineGives (codes "ret") 0x208b7fff7fff7ffe []
returned = (refl, refl)

called : LineGives (codes "call rel 7") 0x1104800180018000 (7 ∷ [])
called = (refl, refl)

raised : LineGives (codes "ap += 7") 0x040780017fff7fff (7 ∷ [])
raised = (refl, refl)

jumped : LineGives (codes "jmp rel 0") 0x010780017fff7fff (0 ∷ [])
jumped = (refl, refl)

less_one : LineGives (codes "[ap] = [ap-3] + -1, ap++") 0x482480017ffd8000 (0xffffffff00000000 ∷ [])
less_one = (refl, refl)

looped : LineGives (codes "jmp loop if [ap-1] != 0") 0x020680017fff7fff (0xfffffffefffffffa ∷ [])
looped = (refl, refl)

-- the six lines of FIVE
five_words : List ℕ
five_words = 0x480680017fff8000 ∷ 5 ∷ 0x400280007ffb7fff ∷ 0x482680017ffb8000 ∷ 1 ∷ 0x480a7ffc7fff8000 ∷ 0x480a7ffd7fff8000 ∷ 0x208b7fff7fff7ffe ∷ []

five_listing : listing_text (statements_of five_words) ≡ codes "[ap] = 5, ap++\n[ap-1] = [[fp-5]]\n[ap] = [fp-5] + 1, ap++\n[ap] = [fp-4], ap++\n[ap] = [fp-3], ap++\nret\n"
unfolding five_words digits
five_listing = refl

-- no statement: a second word is missing, a fault, a stray field, an immediate at another offset
odd_listing : listing_text (statements_of (0x8000000000000000 ∷ 0x208b7fff7fff7fff ∷ 0x480680027fff8000 ∷ 7 ∷ 0x480680017fff8000 ∷ []))
    ≡ codes "word 9223372036854775808\nword 2345108766317314047\nword 5189976368816816128\nword 7\nword 5189976364521848832\n"
unfolding digits
odd_listing = refl
