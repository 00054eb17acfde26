-- The program hash.
use Rattle.std.specs.Prelude.{ℕ, List, [], ◌∷◌, length}
use Rattle.std.specs.List.{flat_map}
use Rattle.std.specs.Result.{result_unwrap_or}
use Rattle.std.specs.Int.{w32, to_be_bytes}
use Rattle.hex.specs.Hex.{decode_of, encode_lower}
use Rattle.builtin_hash.specs.Instances.{words_of}
use Rattle.builtin_hash.specs.Chains.{chain_of}

-- the numbers that are hashed for a program: its entry `main`, the mask of its builtins, its code
abbrev pub program_numbers : ℕ → ℕ → List ℕ → List ℕ
program_numbers main mask code = 1 ∷ main ∷ length code ∷ mask ∷ code

abbrev pub program_hash_of : ℕ → ℕ → List ℕ → List ℕ
program_hash_of main mask code = chain_of (program_numbers main mask code)

-- the bytes of a hash's words, high byte first
abbrev pub hash_bytes : List ℕ → List ℕ
hash_bytes words = flat_map (to_be_bytes w32) words

-- a hash as text: two lower-case hexadecimal digits for each byte
abbrev pub hash_text : List ℕ → List ℕ
hash_text words = encode_lower (hash_bytes words)

-- the hexadecimal digits of a hash
abbrev pub hash_digits : ℕ
hash_digits = 64

-- the words that a text of so many hexadecimal digits of either case stands for
abbrev pub words_in_text : List ℕ → List ℕ
words_in_text text = words_of (result_unwrap_or (decode_of text) [])
