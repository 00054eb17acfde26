-- The bootloader's words one by one.
use Rattle.std.proofs.Common.{◌≡◌, ℕ, zero, suc, ◌+◌, ◌<◌, length, slice_get, slice_index, Option, Some, ap, ◌∙◌, arith}
use Rattle.std.proofs.lemmas.Option.{get_or_from_slice_get, slice_get-get_or, slice_get_within}
use Rattle.boot_program.specs.Faults.Rules.{HasBootWord}
use Rattle.boot_program.specs.Words.{HasBoot, boot_code, boot_words}

module _ (m : ℕ → Option ℕ) where
  abbrev pub HoldsWord : ℕ → Type 0
  HoldsWord k = m (k + 1) ≡ Some (slice_index boot_words k)

  word_so : (k word : ℕ) → HoldsWord k → slice_get boot_words k ≡ Some word → m (suc k) ≡ Some word
  word_so k word holds is =
      let same : suc k ≡ k + 1 = omega arith in
      ap m same ∙ holds ∙ ap Some (get_or_from_slice_get boot_words k word 0 is)

  pub before_word : (n : ℕ) → ((k : ℕ) → k < n → HoldsWord k) → (a : ℕ) → a < n + 1 → HasBootWord m a
  before_word n holds zero lt word is = absurd (cc)
  before_word n holds (suc k) lt word is = word_so k word (holds k (omega (arith, lt))) is

  pub whole_boot : ((k : ℕ) → k < length boot_words → HoldsWord k) → HasBoot m
  whole_boot holds zero word is = absurd (cc)
  whole_boot holds (suc k) word is = word_so k word (holds k (slice_get_within boot_words k word is)) is

  pub other_there : (k : ℕ) → k < length boot_words → ¬ HoldsWord k → ¬ HasBootWord m (k + 1)
  other_there k lt other has =
      let same : k + 1 ≡ suc k = omega arith in
      other (has (slice_index boot_words k) (ap boot_code same ∙ slice_get-get_or boot_words k 0 lt))
