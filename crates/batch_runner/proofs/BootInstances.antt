-- The bootloader's part of the hash span for a task is whole instances, the last of which gives the program hash.
use Rattle.std.proofs.Common.{◌≡◌, ℕ, zero, suc, ◌+◌, ◌-◌, ◌*◌, ◌/◌, ◌%◌, ◌<◌, ◌≤◌, List, [], ◌∷◌, ◌++◌, take, drop, length, slice_index, All, inl, inr, refl, sym, ap, subst, ◌∙◌, arith, length-append, length-drop, take_all}
use Rattle.std.proofs.lemmas.Bool.{cases_lt}
use Rattle.std.proofs.lemmas.List.{take-append-le, drop-append-le, get_or_past}
use Rattle.std.proofs.Math.Seq.{drop-append-add}
use Rattle.goldi_field.specs.Numbers.{prime}
use Rattle.builtin_hash.specs.Instances.{AreWords, IsInstance, instance_of}
use Rattle.builtin_hash.specs.Chains.{chain_start, chain_from, group_at, words_after}
use Rattle.builtin_hash.proofs.InstanceLemmas.{AreWords-instance_of, IsInstance-joined}
use Rattle.builtin_hash.proofs.ChainLemmas.{AreWords-chain_start, AreWords-words_after, words_after-more, words_after-all}
use Rattle.builtin_hash.proofs.ProgramLemmas.{program_hash_of-header}
use Rattle.cairo_model.specs.Machine.Values.{number, place}
use Rattle.cairo_model.specs.Pie.BuiltinCells.{AreInstances}
use Rattle.cairo_model.proofs.PieMemories.{values_in}
use Rattle.cairo_model.specs.Machine.Addresses.{up}
use Rattle.boot_program.specs.Instances.{eight, four}
use Rattle.boot_program.specs.Frames.{hash_list, own_hash, first_inputs}
use Rattle.boot_program.proofs.InstanceLaws.{eight_same}
use Rattle.batch_plan.specs.Parts.{BatchParts}
use Rattle.batch_runner.specs.Working.Tasks.{Task}
use Rattle.batch_runner.specs.Layout.{code_of, more_turns, size}
use Rattle.batch_runner.specs.Memory.{first_words, turn_values_at, code_numbers_at, words_at}
use Rattle.batch_runner.proofs.ReadOff.{code_count, code_each, program_is}
use Rattle.batch_runner.proofs.Limits.{size_few}

-- whole instances, one list after the other
pub instances_joined : (xs ys : List ℕ) → AreInstances xs → AreInstances ys → AreInstances (xs ++ ys)
instances_joined xs ys first second =
    let both = length-append xs ys in
    let w = first.whole in
    let v = second.whole in
    record {
      whole = omega (arith, both, w, v);
      each = λ i inside. elim (cases_lt (20 * i) (length xs)) [
        | inl lt ↦ subst IsInstance (sym (in_first xs ys i w lt)) (first.each i lt)
        | inr past ↦ subst IsInstance (sym (ap (take 20) (in_second xs ys i w past))) (second.each (i - length xs / 20) (omega (arith, inside, both, w, past)))
      ];
    }
  where
    in_first : (xs ys : List ℕ) (i : ℕ) → length xs % 20 ≡ 0 → 20 * i < length xs → take 20 (drop (20 * i) (xs ++ ys)) ≡ take 20 (drop (20 * i) xs)
    in_first xs ys i w lt =
        let n = length-drop (20 * i) xs in
        ap (take 20) (drop-append-le (20 * i) xs ys (omega (arith, lt))) ∙ take-append-le 20 (drop (20 * i) xs) ys (omega (arith, n, lt, w))

    in_second : (xs ys : List ℕ) (i : ℕ) → length xs % 20 ≡ 0 → length xs ≤ 20 * i → drop (20 * i) (xs ++ ys) ≡ drop (20 * (i - length xs / 20)) ys
    in_second xs ys i w past =
        let e : 20 * i ≡ length xs + 20 * (i - length xs / 20) = omega (arith, w, past) in
        ap (λ k. drop k (xs ++ ys)) e ∙ drop-append-add xs ys (20 * (i - length xs / 20))

pub one_instance : (xs : List ℕ) → IsInstance xs → AreInstances xs
one_instance xs is = let n = is.twenty in record {
  whole = omega (arith, n);
  each = λ i lt. let e : i ≡ 0 = omega (arith, lt, n) in
      let all : take 20 (drop (20 * i) xs) ≡ xs = ap (λ k. take 20 (drop (20 * k) xs)) e ∙ take_all 20 xs (omega (arith, n)) in
      subst IsInstance (sym all) is;
}

abbrev row : (ℕ → ℕ) → (ℕ → ℕ) → (ℕ → ℕ) → List ℕ
row w d o = eight w ++ four d ++ eight o

-- instances that are linked
linked_instances : (more : ℕ) (w d : ℕ → ℕ) (ws ds : ℕ → ℕ → ℕ) (digest : ℕ → ℕ) → IsInstance (row w d (ws 0)) → ((j : ℕ) → j < more → IsInstance (row (ws j) (ds j) (ws (suc j))))
    → IsInstance (row (ws more) (ds more) digest) → AreInstances (eight w ++ four d ++ (hash_list more ws ds ++ eight digest))
unfolding hash_list
linked_instances zero w d ws ds digest first next last = instances_joined (row w d (ws 0)) (row (ws 0) (ds 0) digest) (one_instance (row w d (ws 0)) first) (one_instance (row (ws 0) (ds 0) digest) last)
linked_instances (suc more) w d ws ds digest first next last =
    instances_joined (row w d (ws 0)) (eight (ws 0) ++ four (ds 0) ++ (hash_list more (λ j. ws (suc j)) (λ j. ds (suc j)) ++ eight digest)) (one_instance (row w d (ws 0)) first)
    (linked_instances more (ws 0) (ds 0) (λ j. ws (suc j)) (λ j. ds (suc j)) digest (next 0 (omega arith)) (λ j lt. next (suc j) (omega (arith, lt))) last)

module _ (t : Task) (p : BatchParts) where
  abbrev c : ℕ
  c = size t.checked 0

  few : c ≤ 65536
  few = size_few t 0 (omega arith)

  pub some : 0 < c
  some = let e = t.accepted.main_in_code in omega (arith, e)

  pub count : length (code_of t.checked) ≡ c
  count = code_count t

  pub felt : (x : ℕ) → slice_index (code_of t.checked) x < prime
  felt x = elim (cases_lt x c) [
    | inl lt ↦ values_in t.checked.pie t.accepted.rules (place 0 x) (number (slice_index (code_of t.checked) x)) (code_each t x lt)
    | inr past ↦ nought x past
  ]
    where
      nought : (x : ℕ) → c ≤ x → slice_index (code_of t.checked) x < prime
      nought x past = let n = count in let e = get_or_past (code_of t.checked) x 0 (omega (arith, past, n)) in omega (arith, e)

  words_are : (j : ℕ) → AreWords (words_after (first_words t.checked) (code_of t.checked) j)
  words_are j = AreWords-words_after (first_words t.checked) (code_of t.checked) j (AreWords-instance_of _ _)

  pub eight_is : (j : ℕ) → words_after (first_words t.checked) (code_of t.checked) j ≡ eight (words_at t.checked j)
  eight_is j = eight_same (words_after (first_words t.checked) (code_of t.checked) j) (words_at t.checked j) (words_are j).eight (refl, refl, refl, refl, refl, refl, refl, refl)

  all_felt : (j : ℕ) → All (λ n. n < prime) (group_at (code_of t.checked) j)
  all_felt j zero d lt = felt (4 * j)
  all_felt j (suc zero) d lt = felt (4 * j + 1)
  all_felt j (suc (suc zero)) d lt = felt (4 * j + 2)
  all_felt j (suc (suc (suc zero))) d lt = felt (4 * j + 3)
  all_felt j (suc (suc (suc (suc k)))) d lt = absurd (omega (arith, lt))

  -- the words of each instance follow from those before
  pub words_linked : (j : ℕ) → 4 * j < c → eight (words_at t.checked (suc j)) ≡ instance_of (eight (words_at t.checked j)) (group_at (code_of t.checked) j)
  words_linked j lt =
      let n = count in
      sym (eight_is (suc j)) ∙ ap (words_after (first_words t.checked) (code_of t.checked)) (one_more j) ∙ words_after-more (first_words t.checked) (code_of t.checked) j (omega (arith, lt, n)) ∙ ap (λ w. instance_of w (group_at (code_of t.checked) j)) (eight_is j)
    where
      one_more : (j : ℕ) → suc j ≡ j + 1
      one_more j = omega arith

  block_instance : (j : ℕ) → 4 * j < c → IsInstance (row (words_at t.checked j) (code_numbers_at t.checked j) (words_at t.checked (suc j)))
  block_instance j lt =
      subst (λ (o : List ℕ). IsInstance (eight (words_at t.checked j) ++ group_at (code_of t.checked) j ++ o)) (sym (words_linked j lt))
      (IsInstance-joined (eight (words_at t.checked j)) (group_at (code_of t.checked) j) (subst AreWords (eight_is j) (words_are j)) refl (all_felt j))

  start_words : ℕ → ℕ
  start_words i = slice_index (chain_start (c + 4)) i

  first_numbers : ℕ → ℕ
  first_numbers i = slice_index (1 ∷ t.checked.pie.main ∷ c ∷ 7 ∷ []) i

  first_felt : All (λ n. n < prime) (1 ∷ t.checked.pie.main ∷ c ∷ 7 ∷ [])
  first_felt zero d lt = omega arith
  first_felt (suc zero) d lt = let e = t.accepted.main_in_code in let f = few in omega (arith, e, f)
  first_felt (suc (suc zero)) d lt = let f = few in omega (arith, f)
  first_felt (suc (suc (suc zero))) d lt = omega arith
  first_felt (suc (suc (suc (suc k)))) d lt = absurd (omega (arith, lt))

  first_instance : IsInstance (row start_words first_numbers (words_at t.checked 0))
  unfolding start_words first_numbers
  first_instance =
      let f = few in
      let h = chain_start (c + 4) in
      let d : List ℕ = 1 ∷ t.checked.pie.main ∷ c ∷ 7 ∷ [] in
      let same : eight (words_at t.checked 0) ≡ instance_of h d = sym (eight_is 0) in
      subst (λ (o : List ℕ). IsInstance (h ++ d ++ o)) (sym same) (IsInstance-joined h d (AreWords-chain_start (c + 4) (omega (arith, f))) refl first_felt)

  inputs_are : first_inputs (turn_values_at t.checked p).task ≡ eight start_words ++ four first_numbers
  unfolding start_words first_numbers
  inputs_are = let f = few in let e : up c 4 ≡ c + 4 = omega (arith, f) in
      ap (λ x. 0 ∷ 0 ∷ 0 ∷ 0 ∷ 0 ∷ 0 ∷ 0 ∷ x ∷ 1 ∷ t.checked.pie.main ∷ c ∷ 7 ∷ []) e

  pub own_instances : AreInstances (own_hash (turn_values_at t.checked p))
  own_instances =
      let s = some in
      let more = more_turns c in
      let ws = words_at t.checked in
      let last : IsInstance (row (ws more) (code_numbers_at t.checked more) (ws (more + 1))) =
      subst (λ (k : ℕ). IsInstance (row (ws more) (code_numbers_at t.checked more) (ws k))) (suc_is more) (block_instance more (omega (arith, s))) in
      let linked = linked_instances more start_words first_numbers ws (code_numbers_at t.checked) (ws (more + 1)) first_instance (λ j lt. block_instance j (omega (arith, lt))) last in
      subst (λ (xs : List ℕ). AreInstances (xs ++ (hash_list more ws (code_numbers_at t.checked) ++ eight (ws (more + 1))))) (sym inputs_are) linked
    where
      suc_is : (n : ℕ) → suc n ≡ n + 1
      suc_is n = omega arith

  -- the header's words are the program hash
  pub digest_is : eight (words_at t.checked (more_turns c + 1)) ≡ t.checked.fact.program
  digest_is =
      let n = count in
      let s = some in
      let same : first_words t.checked ≡ instance_of (chain_start (length (code_of t.checked) + 4)) (1 ∷ t.checked.pie.main ∷ length (code_of t.checked) ∷ 7 ∷ []) =
      ap (λ k. instance_of (chain_start (k + 4)) (1 ∷ t.checked.pie.main ∷ k ∷ 7 ∷ [])) (sym n) in
      sym (eight_is (more_turns c + 1)) ∙ words_after-all (first_words t.checked) (code_of t.checked) (more_turns c + 1) (omega (arith, n, s))
      ∙ ap (λ w. chain_from w (code_of t.checked)) same ∙ sym (program_hash_of-header t.checked.pie.main 7 (code_of t.checked)) ∙ sym (program_is t)
