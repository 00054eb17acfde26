-- Facts on instances: their words are 32-bit words, and which twenty numbers are one.
use Rattle.std.proofs.Common.{◌≡◌, ℕ, zero, suc, ◌+◌, ◌-◌, ◌<◌, ◌^◌, List, ◌++◌, length, take, drop, slice_index, inl, inr, refl, ap, sym, subst, ◌∙◌, lit<, arith}
use Rattle.std.specs.Prelude.{All, ◌↔◌}
use Rattle.std.specs.Int.{w32, to_be_bytes}
use Rattle.std.proofs.Math.Seq.{get_or-append_right}
use Rattle.std.proofs.lemmas.Bool.{cases_lt}
use Rattle.std.proofs.lemmas.List.{get_or_append_left, get_or_default, take_all, drop_all, take-append-le, drop-append-le, length-append}
use Rattle.sha2.specs.Sha256.{digest_bytes, sha256, word_at}
use Rattle.builtin_hash.specs.Instances.{AreWords, IsInstance, input_numbers, input_words, instance_of, output_words, words_of}
use Rattle.goldi_field.specs.Numbers.{prime}

-- a word's bytes are bytes
pub byte_fits : (n i : ℕ) → slice_index (to_be_bytes w32 n) i < 256
byte_fits n zero = omega arith
byte_fits n (suc zero) = omega arith
byte_fits n (suc (suc zero)) = omega arith
byte_fits n (suc (suc (suc zero))) = omega arith
byte_fits n (suc (suc (suc (suc i)))) = lit< tt

digest_bytes_fit : (h : List ℕ) (n i : ℕ) → slice_index (digest_bytes h n) i < 256
unfolding digest_bytes
digest_bytes_fit h zero i = lit< tt
digest_bytes_fit h (suc n) i =
    let before = digest_bytes h n in
    let last = to_be_bytes w32 (slice_index h n) in
    elim (cases_lt i (length before)) [
      | inl inside ↦ rw (get_or_append_left before last 0 i inside) (digest_bytes_fit h n i)
      | inr past ↦ rw (get_or-append_right before last i 0 past) (byte_fits (slice_index h n) (i - length before))
    ]

-- a word of bytes is below 2 ^ 32
word_fits : (bytes : List ℕ) (place : ℕ) → ((i : ℕ) → slice_index bytes i < 256) → word_at bytes place < 2 ^ 32
word_fits bytes place fit =
    let a = fit place in let b = fit (place + 1) in let c = fit (place + 2) in let d = fit (place + 3) in
    omega arith

words_fit : (bytes : List ℕ) → ((i : ℕ) → slice_index bytes i < 256) → AreWords (words_of bytes)
words_fit bytes fit = record { eight = refl; fit = each } where
  each : (k : ℕ) → slice_index (words_of bytes) k < 2 ^ 32
  each zero = word_fits bytes 0 fit
  each (suc zero) = word_fits bytes 4 fit
  each (suc (suc zero)) = word_fits bytes 8 fit
  each (suc (suc (suc zero))) = word_fits bytes 12 fit
  each (suc (suc (suc (suc zero)))) = word_fits bytes 16 fit
  each (suc (suc (suc (suc (suc zero))))) = word_fits bytes 20 fit
  each (suc (suc (suc (suc (suc (suc zero)))))) = word_fits bytes 24 fit
  each (suc (suc (suc (suc (suc (suc (suc zero))))))) = word_fits bytes 28 fit
  each (suc (suc (suc (suc (suc (suc (suc (suc k)))))))) = lit< tt

-- an instance gives eight 32-bit words, whatever it is made of
pub AreWords-instance_of : (words numbers : List ℕ) → AreWords (instance_of words numbers)
unfolding instance_of sha256
AreWords-instance_of words numbers = words_fit _ (digest_bytes_fit _ 8)

-- ---- the cells of an instance, put together from its parts

pub input_words-joined : (h d o : List ℕ) → length h ≡ 8 → input_words (h ++ d ++ o) ≡ h
input_words-joined h d o eight =
    let both = length-append h d in
    take-append-le 8 (h ++ d) o (omega arith) ∙ take-append-le 8 h d (omega arith) ∙ take_all 8 h (omega arith)

pub input_numbers-joined : (h d o : List ℕ) → length h ≡ 8 → length d ≡ 4 → input_numbers (h ++ d ++ o) ≡ d
input_numbers-joined h d o eight four =
    let both = length-append h d in
    let past_words : drop 8 (h ++ d) ≡ d =
    drop-append-le 8 h d (omega arith) ∙ ap (λ rest. rest ++ d) (drop_all 8 h (omega arith)) in
    let past : drop 8 (h ++ d ++ o) ≡ d ++ o =
    drop-append-le 8 (h ++ d) o (omega arith) ∙ ap (λ rest. rest ++ o) past_words in
    ap (take 4) past ∙ take-append-le 4 d o (omega arith) ∙ take_all 4 d (omega arith)

pub output_words-joined : (h d o : List ℕ) → length h ≡ 8 → length d ≡ 4 → length o ≡ 8
    → output_words (h ++ d ++ o) ≡ o
output_words-joined h d o eight four outputs =
    let both = length-append h d in
    let past : drop 12 (h ++ d ++ o) ≡ o =
    drop-append-le 12 (h ++ d) o (omega arith) ∙ ap (λ rest. rest ++ o) (drop_all 12 (h ++ d) (omega arith)) in
    ap (take 8) past ∙ take_all 8 o (omega arith)

-- eight words, four field numbers and the words that they give are an instance
pub IsInstance-joined : (h d : List ℕ) → AreWords h → length d ≡ 4 → All (λ n. n < prime) d
    → IsInstance (h ++ d ++ instance_of h d)
IsInstance-joined h d words four numbers =
    let o = instance_of h d in
    let outputs = AreWords-instance_of h d in
    let h_is = input_words-joined h d o words.eight in
    let d_is = input_numbers-joined h d o words.eight four in
    let o_is = output_words-joined h d o words.eight four outputs.eight in
    let first = length-append h d in
    let all = length-append (h ++ d) o in
    let eight = words.eight in
    let eight_more = outputs.eight in
    let word_fits : All (λ n. n < 2 ^ 32) h = λ k other inside. rw (get_or_default h k other 0 inside) (words.fit k) in
    record {
      twenty = omega arith;
      words = subst (All (λ n. n < 2 ^ 32)) (sym h_is) word_fits;
      numbers = subst (All (λ n. n < prime)) (sym d_is) numbers;
      digest = rw (h_is, d_is) o_is;
    }

-- an instance's last eight numbers are the words that the others give
pub IsInstance-outputs : (h d o : List ℕ) → length h ≡ 8 → length d ≡ 4 → length o ≡ 8
    → IsInstance (h ++ d ++ o) → o ≡ instance_of h d
IsInstance-outputs h d o eight four outputs is =
    sym (output_words-joined h d o eight four outputs) ∙ is.digest
    ∙ ap (λ words. instance_of words (input_numbers (h ++ d ++ o))) (input_words-joined h d o eight)
    ∙ ap (instance_of h) (input_numbers-joined h d o eight four)

-- twenty numbers in their three parts are an instance exactly where the last are what the others give
pub IsInstance-parts : (h d o : List ℕ) → AreWords h → length d ≡ 4 → All (λ n. n < prime) d → length o ≡ 8
    → IsInstance (h ++ d ++ o) ↔ (o ≡ instance_of h d)
IsInstance-parts h d o words four numbers eight = (
  IsInstance-outputs h d o words.eight four eight,
  λ same. rw same (IsInstance-joined h d words four numbers),
)
