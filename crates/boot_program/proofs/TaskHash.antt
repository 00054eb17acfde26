-- The words at the end of the loop are the program hash of what the task's frame names.
use Rattle.std.proofs.Common.{◌≡◌, ℕ, zero, suc, ◌+◌, ◌*◌, ◌-◌, ◌<◌, ◌≤◌, ◌%◌, ◌^◌, List, [], ◌∷◌, ◌++◌, length, replicate, slice_index, Option, Some, inl, inr, sym, ap, ◌∙◌, subst, arith, length-append}
use Rattle.std.specs.List.{fold}
use Rattle.std.proofs.Math.Seq.{get_or-append_right}
use Rattle.std.proofs.lemmas.Bool.{cases_lt}
use Rattle.std.proofs.lemmas.List.{get_or_append_left, length-replicate, get_or-replicate}
use Rattle.builtin_hash.specs.Instances.{instance_of}
use Rattle.builtin_hash.specs.Chains.{chain_start, groups_of}
use Rattle.builtin_hash.specs.Programs.{program_hash_of}
use Rattle.builtin_hash.proofs.InstanceLemmas.{AreWords-instance_of}
use Rattle.builtin_hash.proofs.ProgramLemmas.{program_hash_of-header}
use Rattle.goldi_field.specs.Numbers.{prime, product_of}
use Rattle.goldi_field.proofs.Prime.{zero_product}
use Rattle.cairo_model.specs.Machine.Addresses.{up, down}
use Rattle.boot_program.specs.Working.Hashing.{WordsBefore, words_through}
use Rattle.boot_program.specs.Cells.{PrologueCells, TaskInputs, frame_at, padded_length, code_end}
use Rattle.boot_program.specs.HashLoop.{HashLoopCells}
use Rattle.boot_program.specs.Instances.{InstanceAt, InstancesAt, instance_end, CodeAt}
use Rattle.boot_program.proofs.InstanceLaws.{instance_gives, next_words, loop_hashes, code_hashed, filled_groups}

-- the words left are four for each turn
pub turns_left : (m : ℕ → Option ℕ) (f more a instance code left : ℕ) (ws ds : ℕ → ℕ → ℕ) → left < prime → HashLoopCells m f more a instance code left ws ds → left ≡ (4 * (more + 1)) % prime
unfolding HashLoopCells
turns_left m f zero a instance code left ws ds fits turns = let e = turns.1 in omega (arith, e, fits)
turns_left m f (suc more) a instance code left ws ds fits turns =
    let e = turns_left m f more (up a 15) (up instance 20) (up code 4) (down left 4) (λ j. ws (suc j)) (λ j. ds (suc j)) (omega arith) turns.2 in
    omega (arith, e, fits)

rest_is_nothing : (x s q : ℕ) → x ≡ s % prime → s ≡ q + x → x < prime → q % prime ≡ 0
rest_is_nothing x s q own square fits = omega (arith, own, square, fits)

-- what is its own square is 0 or 1
pub bit : (u : ℕ) → u < prime → u ≡ product_of u u → u ≤ 1
bit zero fits own = omega arith
bit (suc n) fits own =
    let square : suc n * suc n ≡ suc n * n + suc n = omega arith in
    let none : product_of (suc n) n ≡ 0 = rest_is_nothing (suc n) (suc n * suc n) (suc n * n) own square fits in
    let nil : n ≡ 0 = zero_product (suc n) n fits (omega (arith, fits)) (λ e. absurd (omega (arith, e))) none in
    omega (arith, nil)

module _ (m : ℕ → Option ℕ) (caller a hash : ℕ) (task : TaskInputs) (prologue : PrologueCells m a caller hash task)
    (code : List ℕ) (there : CodeAt m task.program code) (whole : length code ≡ task.length) (fits : task.length < prime)
    (one_bit : task.low_bit ≤ 1) (two_bit : task.high_bit ≤ 1)
    (more : ℕ) (few : more < 2 ^ 32) (ws ds : ℕ → ℕ → ℕ)
    (turns : HashLoopCells m (frame_at a) more (up (frame_at a) 21) (up hash 20) task.program (padded_length task) ws ds)
    (first : InstanceAt m hash) (instances : InstancesAt m more (up hash 20)) where
  abbrev zeros : ℕ
  zeros = task.low_bit + 2 * task.high_bit

  -- nothing wraps round the field: the code's length is what the turns count, less the zeros
  counted : length code + zeros ≡ 4 * (more + 1)
  counted = let e = turns_left m (frame_at a) more (up (frame_at a) 21) (up hash 20) task.program (padded_length task) ws ds (omega arith) turns in
      omega (arith, e, whole, fits, one_bit, two_bit, few)

  first_words : List ℕ
  first_words = instance_of (chain_start (length code + 4)) (1 ∷ task.main ∷ length code ∷ 7 ∷ [])

  begun : WordsBefore m (up hash 20) first_words
  unfolding first_words
  begun =
      let c = counted in
      let four_more : up task.length 4 ≡ length code + 4 = omega (arith, whole, c, few) in
      let start : m (up hash 7) ≡ Some (length code + 4) = prologue.start_length ∙ ap Some four_more in
      let size : m (up hash 10) ≡ Some (length code) = prologue.group_length ∙ ap Some (sym whole) in
      let s = prologue.start_words in
      next_words m hash first_words (instance_gives m hash (λ i. slice_index (chain_start (length code + 4)) i) (λ i. slice_index (1 ∷ task.main ∷ length code ∷ 7 ∷ []) i) first
      (s.0, s.1, s.2, s.3, s.4, s.5, s.6, start) (prologue.group_unit, prologue.group_main, size, prologue.group_mask))

  zero_count : length (replicate {A = ℕ} zeros 0) ≡ zeros
  zero_count = length-replicate {A = ℕ} zeros 0

  filled_code : CodeAt m task.program (code ++ replicate zeros 0)
  filled_code i inside = elim (cases_lt i (length code)) [
    | inl lt ↦ there i lt ∙ ap Some (sym (get_or_append_left code (replicate zeros 0) 0 i lt))
    | inr past ↦ after i past (omega (arith, inside, length-append code (replicate zeros 0), zero_count))
  ]
    where
      zero_at : (j : ℕ) → j < zeros → m (up (code_end task) j) ≡ Some 0
      zero_at zero lt = prologue.zeros.0
      zero_at (suc zero) lt = prologue.zeros.1
      zero_at (suc (suc zero)) lt = prologue.zeros.2
      zero_at (suc (suc (suc j))) lt = absurd (omega (arith, lt, one_bit, two_bit))

      after : (i : ℕ) → length code ≤ i → i < length code + zeros → m (up task.program i) ≡ Some (slice_index (code ++ replicate zeros 0) i)
      after i past lt =
          let j = i - length code in
          let same : up task.program i ≡ up (code_end task) j = omega (arith, whole, past) in
          let nil : slice_index (replicate zeros 0) j ≡ 0 = get_or-replicate zeros j 0 0 (omega (arith, past, lt)) in
          ap m same ∙ zero_at j (omega (arith, past, lt)) ∙ ap Some (sym (get_or-append_right code (replicate zeros 0) i 0 past ∙ nil))

  pub task_hash : WordsBefore m (instance_end more (up hash 20)) (program_hash_of task.main 7 code)
  unfolding first_words
  task_hash =
      let c = counted in
      let hashed = loop_hashes m (frame_at a) more (up (frame_at a) 21) (up hash 20) task.program (padded_length task) ws ds first_words turns instances
      (AreWords-instance_of (chain_start (length code + 4)) (1 ∷ task.main ∷ length code ∷ 7 ∷ [])) begun in
      let read = code_hashed m (frame_at a) more (up (frame_at a) 21) (up hash 20) task.program (padded_length task) ws ds first_words (code ++ replicate zeros 0) turns filled_code
      (length-append code (replicate zeros 0) ∙ ap (λ n. length code + n) zero_count ∙ c) in
      let groups : groups_of (code ++ replicate zeros 0) ≡ groups_of code = filled_groups code zeros (omega (arith, one_bit, two_bit)) (omega (arith, c)) in
      let same : words_through more first_words ds ≡ program_hash_of task.main 7 code =
      read ∙ ap (λ gs. fold instance_of first_words gs) groups ∙ sym (program_hash_of-header task.main 7 code) in
      subst (λ (v : List ℕ). WordsBefore m (instance_end more (up hash 20)) v) same hashed
