-- `boot`: the words of the bootloader, each with its address. The answer is the same to every input.
use Rattle.std.specs.Prelude.{◌≡◌, ℕ, List, [], ◌∷◌, ◌++◌, decimal}
use Rattle.std.specs.Int.{w64, to_be_bytes}
use Rattle.std.specs.List.{enumerate_from, flat_map}
use Rattle.hex.specs.Hex.{encode_lower}
use Rattle.boot_program.specs.Places.{entry_pc}
use Rattle.boot_program.specs.Words.{boot_words}
use Rattle.shared_prover_cli.specs.Replies.{ReplyRecord}

-- a word as text: two lower-case hexadecimal digits for each of its eight bytes, the high byte first
abbrev pub word_digits : ℕ → List ℕ
word_digits word = encode_lower (to_be_bytes w64 word)

-- the line of a word: its address in decimal, a space, and its digits
abbrev pub word_line : ℕ × ℕ → List ℕ
word_line (address, word) = decimal address ++ 32 ∷ word_digits word ++ 10 ∷ []

-- the lines of words that stand one after the other, the first where the bootloader is entered
abbrev pub word_lines : List ℕ → List ℕ
word_lines words = flat_map word_line (enumerate_from entry_pc words)

pub record BootAnswer (reply : ReplyRecord) : Type 0 where
  pub has_status : reply.status ≡ 0
  pub has_text : reply.text ≡ word_lines boot_words
