-- The listing of a list of words (docs/ASSEMBLY.md).
use Rattle.std.specs.Prelude.{ℕ, suc, ◌<◌, List, [], ◌∷◌, ◌++◌, ◌≡◌, ◌⊎◌, decimal}
use Rattle.casm_text.specs.Statements.{Offset, none, plus, minus, Numeral, positive, negative, Operand, cell, numeral, Source, copy, double, sum, product, Aim, by, label, Statement, assert, jump, jump_abs, jump_if, call, call_abs, ret, add_ap, word, statement_text}
use Rattle.goldi_field.specs.Numbers.{prime}
use Rattle.casm_text.specs.Words.{GivesWords}

-- ---- plain spelling: decimals without leading zeros, an offset 0 left out, no negative number and no label

-- an offset without leading zeros, left out at 0
abbrev pub IsPlainOffset : Offset → Type 0
IsPlainOffset none = Unit {0}
IsPlainOffset (plus ds) = (k : ℕ) × (k < 32767) × (ds ≡ decimal (suc k))
IsPlainOffset (minus ds) = (k : ℕ) × (k < 32768) × (ds ≡ decimal (suc k))

-- a number below the prime
abbrev pub IsPlainNumeral : Numeral → Type 0
IsPlainNumeral (positive ds) = (n : ℕ) × (n < prime) × (ds ≡ decimal n)
IsPlainNumeral (negative ds) = ⊥

-- an operand with its offset or number spelled so
abbrev pub IsPlainOperand : Operand → Type 0
IsPlainOperand (cell c) = IsPlainOffset c.offset
IsPlainOperand (numeral n) = IsPlainNumeral n

-- a right side with its offsets and its number spelled so
abbrev pub IsPlainSource : Source → Type 0
IsPlainSource (copy x) = IsPlainOperand x
IsPlainSource (double c k) = IsPlainOffset c.offset × IsPlainOffset k
IsPlainSource (sum c x) = IsPlainOffset c.offset × IsPlainOperand x
IsPlainSource (product c x) = IsPlainOffset c.offset × IsPlainOperand x

-- an aim given by an operand
abbrev pub IsPlainAim : Aim → Type 0
IsPlainAim (by x) = IsPlainOperand x
IsPlainAim (label name) = ⊥

-- a statement other than `word`, plainly spelled
abbrev pub IsPlain : Statement → Type 0
IsPlain (assert c s step) = IsPlainOffset c.offset × IsPlainSource s
IsPlain (jump a step) = IsPlainAim a
IsPlain (jump_abs x step) = IsPlainOperand x
IsPlain (jump_if a c step) = IsPlainAim a × IsPlainOffset c.offset
IsPlain (call a) = IsPlainAim a
IsPlain (call_abs x) = IsPlainOperand x
IsPlain ret = Unit {0}
IsPlain (add_ap x) = IsPlainOperand x
IsPlain (word n) = ⊥

-- ---- the walk

-- no statement of a listing names a label
abbrev pub nowhere : List ℕ → ℕ
nowhere name = 0

-- the words begin with those of a plain statement, and these follow; at most one plain statement does so (a law)
abbrev pub BeginsWith : List ℕ → Statement → List ℕ → Type 0
BeginsWith words s rest = (first : List ℕ) × (words ≡ first ++ rest) × GivesWords nowhere 0 s first × IsPlain s

-- the statement that a listing has for the words from here on, and the words after it
abbrev pub IsListed : List ℕ → Statement → List ℕ → Type 0
IsListed words s rest =
    BeginsWith words s rest
    ⊎ ((w : ℕ) × (words ≡ w ∷ rest) × (s ≡ word (positive (decimal w))) × ((other : Statement) (after : List ℕ) → ¬ BeginsWith words other after))

-- the statements of the listing of these words, one a line
abbrev pub Lists : List ℕ → List Statement → Type 0
Lists words [] = words ≡ []
Lists words (s ∷ ss) = (rest : List ℕ) × IsListed words s rest × Lists rest ss

-- their text
abbrev pub listing_text : List Statement → List ℕ
listing_text [] = []
listing_text (s ∷ ss) = statement_text s ++ (10 ∷ listing_text ss)

-- the text is the listing of these words
abbrev pub IsListing : List ℕ → List ℕ → Type 0
IsListing words text = (ss : List Statement) × Lists words ss × (text ≡ listing_text ss)
