-- The words at the end of the loop over blocks are the chain's.
use Rattle.std.proofs.Common.{◌≡◌, ℕ, zero, suc, ◌+◌, ◌*◌, ◌-◌, ◌<◌, List, [], ◌∷◌, ◌++◌, length, drop, min, replicate, ◌%◌, slice_index, Option, Some, refl, sym, ap, ◌∙◌, subst, lit<, arith, length-take, length-drop, get_or-take, get_or-drop}
use Rattle.builtin_hash.specs.Instances.{AreWords, instance_of, input_words, input_numbers, output_words}
use Rattle.builtin_hash.specs.Chains.{chain_from, groups_of}
use Rattle.builtin_hash.proofs.InstanceLemmas.{AreWords-instance_of}
use Rattle.goldi_field.specs.Numbers.{prime, sum_of}
use Rattle.cairo_model.specs.Machine.Addresses.{up, down}
use Rattle.cairo_model.proofs.Outcomes.{some_is}
use Rattle.boot_program.specs.Working.Hashing.{WordsBefore, words_through}
use Rattle.boot_program.specs.Cells.{BlockCells, Eight, Four}
use Rattle.boot_program.specs.HashLoop.{HashLoopCells}
use Rattle.boot_program.specs.Instances.{InstanceAt, InstancesAt, eight, four, instance_end, CodeAt}
use Rattle.boot_program.proofs.RowLaw.{sum_moved}

pub eight_same : (xs : List ℕ) (w : ℕ → ℕ) → length xs ≡ 8 → Eight (λ i. slice_index xs i ≡ w i) → xs ≡ eight w
eight_same (a ∷ b ∷ c ∷ d ∷ e ∷ f ∷ g ∷ h ∷ []) w count same = rw (same.0, same.1, same.2, same.3, same.4, same.5, same.6, same.7) refl
eight_same _ w count same = absurd (omega (arith, count))

four_same : (xs : List ℕ) (d : ℕ → ℕ) → length xs ≡ 4 → Four (λ i. slice_index xs i ≡ d i) → xs ≡ four d
four_same (a ∷ b ∷ c ∷ e ∷ []) d count same = rw (same.0, same.1, same.2, same.3) refl
four_same _ d count same = absurd (omega (arith, count))

module _ (m : ℕ → Option ℕ) where
  -- an instance's last eight cells are the words that its first twelve give
  pub instance_gives : (x : ℕ) (w d : ℕ → ℕ) → InstanceAt m x → Eight (λ i. m (up x i) ≡ Some (w i)) → Four (λ i. m (up x (8 + i)) ≡ Some (d i))
      → Eight (λ i. m (up x (12 + i)) ≡ Some (slice_index (instance_of (eight w) (four d)) i))
  instance_gives x w d at ws ds = (out 0 (lit< tt), out 1 (lit< tt), out 2 (lit< tt), out 3 (lit< tt), out 4 (lit< tt), out 5 (lit< tt), out 6 (lit< tt), out 7 (lit< tt))
    where
      twenty : length at.cells ≡ 20
      twenty = at.is.twenty

      input : (i : ℕ) → i < 8 → slice_index (input_words at.cells) i ≡ slice_index at.cells i
      input i lt = get_or-take 8 at.cells i 0 lt

      number : (i : ℕ) → i < 4 → slice_index (input_numbers at.cells) i ≡ slice_index at.cells (8 + i)
      number i lt = get_or-take 4 (drop 8 at.cells) i 0 lt ∙ get_or-drop 8 at.cells i 0

      output : (i : ℕ) → i < 8 → slice_index (output_words at.cells) i ≡ slice_index at.cells (12 + i)
      output i lt = get_or-take 8 (drop 12 at.cells) i 0 lt ∙ get_or-drop 12 at.cells i 0

      word_is : (i : ℕ) → i < 8 → m (up x i) ≡ Some (w i) → slice_index (input_words at.cells) i ≡ w i
      word_is i lt e = input i lt ∙ some_is _ _ (sym (at.there i (omega (arith, lt))) ∙ e)

      number_is : (i : ℕ) → i < 4 → m (up x (8 + i)) ≡ Some (d i) → slice_index (input_numbers at.cells) i ≡ d i
      number_is i lt e = number i lt ∙ some_is _ _ (sym (at.there (8 + i) (omega (arith, lt))) ∙ e)

      words_are : input_words at.cells ≡ eight w
      words_are = eight_same (input_words at.cells) w (length-take 8 at.cells ∙ ap (λ n. min 8 n) twenty) (
        word_is 0 (lit< tt) ws.0,
        word_is 1 (lit< tt) ws.1,
        word_is 2 (lit< tt) ws.2,
        word_is 3 (lit< tt) ws.3,
        word_is 4 (lit< tt) ws.4,
        word_is 5 (lit< tt) ws.5,
        word_is 6 (lit< tt) ws.6,
        word_is 7 (lit< tt) ws.7,
      )

      numbers_are : input_numbers at.cells ≡ four d
      numbers_are = four_same (input_numbers at.cells) d (length-take 4 (drop 8 at.cells) ∙ ap (λ n. min 4 n) (length-drop 8 at.cells ∙ ap (λ n. n - 8) twenty))
          (number_is 0 (lit< tt) ds.0, number_is 1 (lit< tt) ds.1, number_is 2 (lit< tt) ds.2, number_is 3 (lit< tt) ds.3)

      digest : output_words at.cells ≡ instance_of (eight w) (four d)
      digest = at.is.digest ∙ ap (λ h. instance_of h (input_numbers at.cells)) words_are ∙ ap (instance_of (eight w)) numbers_are

      out : (i : ℕ) → i < 8 → m (up x (12 + i)) ≡ Some (slice_index (instance_of (eight w) (four d)) i)
      out i lt = at.there (12 + i) (omega (arith, lt)) ∙ ap Some (sym (output i lt) ∙ ap (λ o. slice_index o i) digest)

  -- the next instance's words before it are these
  pub next_words : (x : ℕ) (words : List ℕ) → Eight (λ i. m (up x (12 + i)) ≡ Some (slice_index words i)) → WordsBefore m (up x 20) words
  next_words x words e = (
    moved 12 (prime - 8) e.0,
    moved 13 (prime - 7) e.1,
    moved 14 (prime - 6) e.2,
    moved 15 (prime - 5) e.3,
    moved 16 (prime - 4) e.4,
    moved 17 (prime - 3) e.5,
    moved 18 (prime - 2) e.6,
    moved 19 (prime - 1) e.7,
  )
    where
      moved : (i k : ℕ) {v : ℕ} → m (up x (sum_of 20 k)) ≡ Some v → m (up (up x 20) k) ≡ Some v
      moved i k e = ap m (sum_moved x 20 k) ∙ e

  words_same : (words : List ℕ) (w : ℕ → ℕ) (x : ℕ) → AreWords words → WordsBefore m x words → Eight (λ i. m (down x (8 - i)) ≡ Some (w i)) → words ≡ eight w
  words_same words w x are before read = eight_same words w are.eight (
    some_is _ _ (sym before.0 ∙ read.0),
    some_is _ _ (sym before.1 ∙ read.1),
    some_is _ _ (sym before.2 ∙ read.2),
    some_is _ _ (sym before.3 ∙ read.3),
    some_is _ _ (sym before.4 ∙ read.4),
    some_is _ _ (sym before.5 ∙ read.5),
    some_is _ _ (sym before.6 ∙ read.6),
    some_is _ _ (sym before.7 ∙ read.7),
  )

  -- after the turns the words before the hash pointer are those of the chain
  pub loop_hashes : (f more a instance code left : ℕ) (ws ds : ℕ → ℕ → ℕ) (words : List ℕ) → HashLoopCells m f more a instance code left ws ds
      → InstancesAt m more instance → AreWords words → WordsBefore m instance words
      → WordsBefore m (instance_end more instance) (words_through more words ds)
  unfolding HashLoopCells InstancesAt instance_end words_through
  loop_hashes f zero a instance code left ws ds words turns instances are before =
      let h = turns.0 in
      let same : words ≡ eight (ws 0) = words_same words (ws 0) instance are before h.words_before in
      next_words instance (instance_of words (four (ds 0))) (subst (λ (v : List ℕ). Eight (λ i. m (up instance (12 + i)) ≡ Some (slice_index (instance_of v (four (ds 0))) i))) (sym same)
      (instance_gives instance (ws 0) (ds 0) instances h.words_in h.numbers_in))
  loop_hashes f (suc more) a instance code left ws ds words turns instances are before =
      let h = turns.0 in
      let same : words ≡ eight (ws 0) = words_same words (ws 0) instance are before h.words_before in
      let next = next_words instance (instance_of words (four (ds 0))) (subst (λ (v : List ℕ). Eight (λ i. m (up instance (12 + i)) ≡ Some (slice_index (instance_of v (four (ds 0))) i))) (sym same)
      (instance_gives instance (ws 0) (ds 0) instances.0 h.words_in h.numbers_in)) in
      loop_hashes f more (up a 15) (up instance 20) (up code 4) (down left 4) (λ j. ws (suc j)) (λ j. ds (suc j)) (instance_of words (four (ds 0)))
      turns.2 instances.1 (AreWords-instance_of words (four (ds 0))) next

pub up_up : (x j k : ℕ) → up (up x j) k ≡ up x (j + k)
up_up x j k = omega arith

module _ (m : ℕ → Option ℕ) where
  -- a turn's group is the four words at its code address
  group_read : (f a instance code left : ℕ) (w d : ℕ → ℕ) (p q r s : ℕ) (rest : List ℕ) → BlockCells m a f instance code left w d → CodeAt m code (p ∷ q ∷ r ∷ s ∷ rest)
      → p ∷ q ∷ r ∷ s ∷ [] ≡ four d
  group_read f a instance code left w d p q r s rest h there = four_same (p ∷ q ∷ r ∷ s ∷ []) d refl (
    some_is _ _ (sym (there 0 (omega arith)) ∙ h.code_words.0),
    some_is _ _ (sym (there 1 (omega arith)) ∙ h.code_words.1),
    some_is _ _ (sym (there 2 (omega arith)) ∙ h.code_words.2),
    some_is _ _ (sym (there 3 (omega arith)) ∙ h.code_words.3),
  )

  -- the turns hash the words that stand at the code's address, four at each
  pub code_hashed : (f more a instance code left : ℕ) (ws ds : ℕ → ℕ → ℕ) (words list : List ℕ) → HashLoopCells m f more a instance code left ws ds
      → CodeAt m code list → length list ≡ 4 * (more + 1) → words_through more words ds ≡ chain_from words list
  unfolding HashLoopCells words_through groups_of
  code_hashed f more a instance code left ws ds words [] turns there count = absurd (omega (arith, count))
  code_hashed f more a instance code left ws ds words (p ∷ []) turns there count = absurd (omega (arith, count))
  code_hashed f more a instance code left ws ds words (p ∷ q ∷ []) turns there count = absurd (omega (arith, count))
  code_hashed f more a instance code left ws ds words (p ∷ q ∷ r ∷ []) turns there count = absurd (omega (arith, count))
  code_hashed f zero a instance code left ws ds words (p ∷ q ∷ r ∷ s ∷ []) turns there count =
      ap (instance_of words) (sym (group_read f a instance code left (ws 0) (ds 0) p q r s [] turns.0 there))
  code_hashed f zero a instance code left ws ds words (p ∷ q ∷ r ∷ s ∷ x ∷ rest) turns there count = absurd (omega (arith, count))
  code_hashed f (suc more) a instance code left ws ds words (p ∷ q ∷ r ∷ s ∷ rest) turns there count =
      let group = group_read f a instance code left (ws 0) (ds 0) p q r s rest turns.0 there in
      code_hashed f more (up a 15) (up instance 20) (up code 4) (down left 4) (λ j. ws (suc j)) (λ j. ds (suc j)) (instance_of words (four (ds 0))) rest turns.2
      (λ i lt. ap m (up_up code 4 i) ∙ there (4 + i) (omega (arith, lt)) ∙ ap Some (sym (get_or-drop 4 (p ∷ q ∷ r ∷ s ∷ rest) i 0))) (omega (arith, count))
      ∙ ap (λ g. chain_from (instance_of words g) rest) (sym group)

-- zeros that fill the last group change no group
pub filled_groups : (code : List ℕ) (zeros : ℕ) → zeros < 4 → (length code + zeros) % 4 ≡ 0 → groups_of (code ++ replicate zeros 0) ≡ groups_of code
unfolding groups_of
filled_groups [] zero few whole = refl
filled_groups [] (suc n) few whole = absurd (omega (arith, few, whole))
filled_groups (a ∷ []) zero few whole = absurd (omega (arith, whole))
filled_groups (a ∷ []) (suc zero) few whole = absurd (omega (arith, whole))
filled_groups (a ∷ []) (suc (suc zero)) few whole = absurd (omega (arith, whole))
filled_groups (a ∷ []) (suc (suc (suc zero))) few whole = refl
filled_groups (a ∷ []) (suc (suc (suc (suc n)))) few whole = absurd (omega (arith, few))
filled_groups (a ∷ b ∷ []) zero few whole = absurd (omega (arith, whole))
filled_groups (a ∷ b ∷ []) (suc zero) few whole = absurd (omega (arith, whole))
filled_groups (a ∷ b ∷ []) (suc (suc zero)) few whole = refl
filled_groups (a ∷ b ∷ []) (suc (suc (suc n))) few whole = absurd (omega (arith, few, whole))
filled_groups (a ∷ b ∷ c ∷ []) zero few whole = absurd (omega (arith, whole))
filled_groups (a ∷ b ∷ c ∷ []) (suc zero) few whole = refl
filled_groups (a ∷ b ∷ c ∷ []) (suc (suc n)) few whole = absurd (omega (arith, few, whole))
filled_groups (a ∷ b ∷ c ∷ d ∷ rest) zeros few whole = ap (λ gs. (a ∷ b ∷ c ∷ d ∷ []) ∷ gs) (filled_groups rest zeros few (omega (arith, whole)))
