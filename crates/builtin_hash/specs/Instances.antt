-- The hash builtin: one instance is twenty numbers, eight words and four numbers that are hashed by
-- SHA-256 and the eight words of the digest.
use Rattle.std.specs.Prelude.{◌≡◌, ℕ, ◌<◌, ◌^◌, List, [], ◌∷◌, ◌++◌, length, take, drop, slice_index, All}
use Rattle.std.specs.List.{flat_map}
use Rattle.std.specs.Int.{w32, w64, to_be_bytes}
pub use Rattle.goldi_field.specs.Numbers.{prime}
use Rattle.sha2.specs.Sha256.{sha256, word_at}

-- the cells of an instance
abbrev pub cells_per_instance : ℕ
cells_per_instance = 20

-- the 64 bytes that are hashed: eight words of four bytes each, then four numbers of eight bytes
-- each, high byte first
abbrev pub message_of : List ℕ → List ℕ → List ℕ
message_of words numbers = flat_map (to_be_bytes w32) words ++ flat_map (to_be_bytes w64) numbers

-- the eight words of a digest, high byte first
abbrev pub words_of : List ℕ → List ℕ
words_of digest =
    word_at digest 0 ∷ word_at digest 4 ∷ word_at digest 8 ∷ word_at digest 12
    ∷ word_at digest 16 ∷ word_at digest 20 ∷ word_at digest 24 ∷ word_at digest 28 ∷ []

-- the words that an instance gives for its eight words and four numbers
unfoldable pub instance_of : List ℕ → List ℕ → List ℕ
instance_of words numbers = words_of (sha256 (message_of words numbers))

-- eight numbers below 2 ^ 32
pub record AreWords (words : List ℕ) : Type 0 where
  pub eight : length words ≡ 8
  pub fit : (k : ℕ) → slice_index words k < 2 ^ 32

-- the parts of an instance's cells: cells 0 to 7, 8 to 11, and 12 to 19
abbrev pub input_words : List ℕ → List ℕ
input_words cells = take 8 cells

abbrev pub input_numbers : List ℕ → List ℕ
input_numbers cells = take 4 (drop 8 cells)

abbrev pub output_words : List ℕ → List ℕ
output_words cells = take 8 (drop 12 cells)

-- the cells are one instance
pub record IsInstance (cells : List ℕ) : Type 0 where
  pub twenty : length cells ≡ cells_per_instance
  pub words : All (λ n. n < 2 ^ 32) (input_words cells)
  pub numbers : All (λ n. n < prime) (input_numbers cells)
  pub digest : output_words cells ≡ instance_of (input_words cells) (input_numbers cells)
