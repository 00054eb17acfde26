-- Facts on program hashes: the header's group, and the text of a hash.
use Rattle.std.proofs.Common.{◌≡◌, ℕ, zero, suc, ◌+◌, ◌<◌, ◌^◌, ◌-◌, List, [], ◌∷◌, length, nat_lt, slice_index, refl, ap, ◌∙◌, lit<, arith}
use Rattle.std.specs.Result.{result_unwrap_or}
use Rattle.std.specs.Str.{IsAscii}
use Rattle.std.proofs.lemmas.Bool.{ltb-true}
use Rattle.std.proofs.lemmas.List.Sums.{AllPass-from_list_all}
use Rattle.std.proofs.lemmas.Nat.{from_be_bytes-to_be_bytes_4}
use Rattle.std.proofs.lemmas.Str.Ascii.{IsAscii-from_all}
use Rattle.hex.specs.Hex.{lower_digits}
use Rattle.hex.proofs.HexLemmas.{IsAscii-encode_with, decode_of-encode_lower}
use Rattle.builtin_hash.specs.Instances.{AreWords, instance_of, words_of}
use Rattle.builtin_hash.specs.Chains.{chain_from, chain_start, groups_of}
use Rattle.builtin_hash.specs.Programs.{hash_bytes, hash_text, program_hash_of, program_numbers, words_in_text}
use Rattle.builtin_hash.proofs.ChainLemmas.{AreWords-chain_of}
use Rattle.builtin_hash.proofs.InstanceLemmas.{byte_fits}

-- a program's first group is its header, and the rest are those of its code
pub program_hash_of-header : (main mask : ℕ) (code : List ℕ) → program_hash_of main mask code
    ≡ chain_from (instance_of (chain_start (length code + 4)) (1 ∷ main ∷ length code ∷ mask ∷ [])) code
unfolding groups_of
program_hash_of-header main mask code =
    let four_more : length (program_numbers main mask code) ≡ length code + 4 = omega arith in
    ap (λ n. chain_from (instance_of (chain_start n) (1 ∷ main ∷ length code ∷ mask ∷ [])) code) four_more

-- a hash's text is ASCII
pub IsAscii-hash_text : (words : List ℕ) → IsAscii (hash_text words)
IsAscii-hash_text words =
    let passes = AllPass-from_list_all (λ b. nat_lt b 128) lower_digits refl in
    let lower : IsAscii lower_digits =
    IsAscii-from_all lower_digits (λ k other inside. ltb-true _ _ (passes k other inside)) in
    IsAscii-encode_with lower_digits (hash_bytes words) lower

hash_bytes_fit : (words : List ℕ) (i : ℕ) → slice_index (hash_bytes words) i < 256
hash_bytes_fit [] i = lit< tt
hash_bytes_fit (word ∷ rest) zero = byte_fits word 0
hash_bytes_fit (word ∷ rest) (suc zero) = byte_fits word 1
hash_bytes_fit (word ∷ rest) (suc (suc zero)) = byte_fits word 2
hash_bytes_fit (word ∷ rest) (suc (suc (suc zero))) = byte_fits word 3
hash_bytes_fit (word ∷ rest) (suc (suc (suc (suc i)))) = hash_bytes_fit rest i

same_cons : (x y : ℕ) (xs ys : List ℕ) → x ≡ y → xs ≡ ys → x ∷ xs ≡ y ∷ ys
same_cons x y xs ys first rest = cc

-- the words of a hash's bytes are the hash's
words_of-hash_bytes : (words : List ℕ) → AreWords words → words_of (hash_bytes words) ≡ words
words_of-hash_bytes (a ∷ b ∷ c ∷ d ∷ e ∷ f ∷ g ∷ h ∷ []) are =
    same_cons _ _ _ _ (from_be_bytes-to_be_bytes_4 a (are.fit 0))
    (same_cons _ _ _ _ (from_be_bytes-to_be_bytes_4 b (are.fit 1))
    (same_cons _ _ _ _ (from_be_bytes-to_be_bytes_4 c (are.fit 2))
    (same_cons _ _ _ _ (from_be_bytes-to_be_bytes_4 d (are.fit 3))
    (same_cons _ _ _ _ (from_be_bytes-to_be_bytes_4 e (are.fit 4))
    (same_cons _ _ _ _ (from_be_bytes-to_be_bytes_4 f (are.fit 5))
    (same_cons _ _ _ _ (from_be_bytes-to_be_bytes_4 g (are.fit 6))
    (same_cons _ _ _ _ (from_be_bytes-to_be_bytes_4 h (are.fit 7)) refl)))))))
words_of-hash_bytes _ are = let eight = are.eight in absurd (omega arith)

-- a hash's text reads back as its words
pub words_in_text-hash_text : (words : List ℕ) → AreWords words → words_in_text (hash_text words) ≡ words
words_in_text-hash_text words are =
    ap (λ read. words_of (result_unwrap_or read [])) (decode_of-encode_lower (hash_bytes words) (hash_bytes_fit words))
    ∙ words_of-hash_bytes words are

pub AreWords-program_hash_of : (main mask : ℕ) (code : List ℕ) → length code < 2 ^ 32 - 4
    → AreWords (program_hash_of main mask code)
AreWords-program_hash_of main mask code small =
    AreWords-chain_of (program_numbers main mask code) (omega arith)
