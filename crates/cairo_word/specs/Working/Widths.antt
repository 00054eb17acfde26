-- How wide a word is.
use Rattle.std.specs.Prelude.{ℕ}

-- the bits of a word
abbrev pub word_bits : ℕ
word_bits = 64
