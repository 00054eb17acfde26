-- One turn of each of the runner's loops.
use Rattle.std.proofs.Common.{◌≡◌, ℕ, zero, suc, ◌+◌, ◌<◌, true, false, List, ◌∷◌, [], ◌++◌, take, length, slice_set, Option, Some, None, option_map, option_and_then, Ok, Err, refl, sym, ap, ◌∙◌, inl, inr, arith}
use Rattle.std.proofs.lemmas.Bool.{cases_lt}
use Rattle.std.proofs.Math.Seq.{take-suc-set}
use Rattle.cairo_model.specs.Machine.Values.{place}
use Rattle.seg_runner.specs.Endings.{is_returned, with_instances, with_outputs, with_words}
use Rattle.seg_runner.specs.Hashes.{numbers_from_start, output_word, outputs_of}
use Rattle.seg_runner.specs.Memories.{GrowingMemory, put_where_absent}
use Rattle.seg_runner.specs.Refusals.{RunCause, over_limit}
use Rattle.seg_runner.specs.Steps.{Configuration, run_step}
use Rattle.seg_runner.specs.Working.Running.{ended, runs_on}

-- ---- the words of a digest

pub words_on : (n : ℕ) (m after : GrowingMemory) (start : ℕ) (words : List ℕ) (k left rest : ℕ) → left ≡ suc rest
    → put_where_absent n m (place 4 (start + k)) (Some (output_word words k)) ≡ Ok after → with_words n m start words k left ≡ with_words n after start words (k + 1) rest
unfolding with_words
words_on n m after start words k left rest is put = rw is (rw put refl)

pub words_refused : (n : ℕ) (m : GrowingMemory) (cause : RunCause) (start : ℕ) (words : List ℕ) (k left rest : ℕ) → left ≡ suc rest
    → put_where_absent n m (place 4 (start + k)) (Some (output_word words k)) ≡ Err cause → with_words n m start words k left ≡ Err cause
unfolding with_words
words_refused n m cause start words k left rest is put = rw is (rw put refl)

pub words_done : (n : ℕ) (m : GrowingMemory) (start : ℕ) (words : List ℕ) (k left : ℕ) → left ≡ 0 → with_words n m start words k left ≡ Ok m
unfolding with_words
words_done n m start words k left is = rw is refl

-- ---- the instances

pub instances_on : (n : ℕ) (m after : GrowingMemory) (i left rest : ℕ) → left ≡ suc rest → with_outputs n m i (outputs_of m.cells i) ≡ Ok after → with_instances n m i left ≡ with_instances n after (i + 1) rest
unfolding with_instances
instances_on n m after i left rest is put = rw is (rw put refl)

pub instances_refused : (n : ℕ) (m : GrowingMemory) (cause : RunCause) (i left rest : ℕ) → left ≡ suc rest → with_outputs n m i (outputs_of m.cells i) ≡ Err cause → with_instances n m i left ≡ Err cause
unfolding with_instances
instances_refused n m cause i left rest is put = rw is (rw put refl)

pub instances_done : (n : ℕ) (m : GrowingMemory) (i left : ℕ) → left ≡ 0 → with_instances n m i left ≡ Ok m
unfolding with_instances
instances_done n m i left is = rw is refl

-- ---- the steps

pub runs_home : (left n : ℕ) (now : Configuration) → is_returned now.registers ≡ true → runs_on left n now ≡ Ok (ended n now.memory)
unfolding runs_on
runs_home zero n now home = rw home refl
runs_home (suc left) n now home = rw home refl

pub runs_more : (left rest n : ℕ) (now after : Configuration) → left ≡ suc rest → is_returned now.registers ≡ false → run_step n now ≡ Ok after → runs_on left n now ≡ runs_on rest (n + 1) after
unfolding runs_on
runs_more left rest n now after is away step = rw is (rw away (rw step refl))

pub runs_refused : (left rest n : ℕ) (now : Configuration) (cause : RunCause) → left ≡ suc rest → is_returned now.registers ≡ false → run_step n now ≡ Err cause → runs_on left n now ≡ Err cause
unfolding runs_on
runs_refused left rest n now cause is away step = rw is (rw away (rw step refl))

pub runs_over : (left n : ℕ) (now : Configuration) → left ≡ 0 → is_returned now.registers ≡ false → runs_on left n now ≡ Err (over_limit n)
unfolding runs_on
runs_over left n now is away = rw is (rw away refl)

-- ---- numbers in a row

pub no_number : (there : ℕ → Option ℕ) → numbers_from_start there 0 ≡ Some []
unfolding numbers_from_start
no_number there = refl

pub numbers_more : (there : ℕ → Option ℕ) (k : ℕ) (xs : List ℕ) (n : ℕ) → k < length xs → numbers_from_start there k ≡ Some (take k xs) → there k ≡ Some n → numbers_from_start there (k + 1) ≡ Some (take (k + 1) (slice_set xs k n))
unfolding numbers_from_start
numbers_more there k xs n lt so_far here =
    let next : k + 1 ≡ suc k = omega arith in
    rw next (rw so_far (rw here (ap Some (sym (take-suc-set xs k n lt)))))

no_numbers : (f : List ℕ → Option (List ℕ)) (o : Option (List ℕ)) → ((xs : List ℕ) → f xs ≡ None) → option_and_then f o ≡ None
no_numbers f None none = refl
no_numbers f (Some xs) none = none xs

pub numbers_stop : (there : ℕ → Option ℕ) (k m : ℕ) → k < m → there k ≡ None → numbers_from_start there m ≡ None
unfolding numbers_from_start
numbers_stop there k zero lt none = absurd (omega arith)
numbers_stop there k (suc m) lt none = elim (cases_lt k m) [
  | inl before ↦ rw (numbers_stop there k m before none) refl
  | inr late ↦
      let same : m ≡ k = omega arith in
      let here : there m ≡ None = ap there same ∙ none in
      no_numbers _ (numbers_from_start there m) (λ xs. ap (option_map (λ n. xs ++ n ∷ [])) here)
]
