-- A run and its end keep what a memory keeps.
use Rattle.std.proofs.Common.{◌≡◌, ℕ, zero, suc, ◌+◌, ◌<◌, ◌≤◌, true, List, length, nat_le, slice_index, Option, Some, None, Result, Ok, refl, subst, arith}
use Rattle.std.specs.List.{AllByRecursion}
use Rattle.std.proofs.lemmas.Bool.Decides.{nat_tests}
use Rattle.goldi_field.specs.Numbers.{IsFelt}
use Rattle.cairo_model.proofs.Outcomes.{bind_gives, ok_is, some_is, tested, then_ok}
use Rattle.cairo_model.specs.Limits.{most_cells, offset_limit}
use Rattle.cairo_model.specs.Machine.Values.{place}
use Rattle.cairo_model.specs.Pie.Records.{IsValueIn}
use Rattle.seg_runner.proofs.Sound.{IsSound, absent_keeps}
use Rattle.seg_runner.proofs.SoundSteps.{IsGood, outputs_lie, step_keeps}
use Rattle.seg_runner.proofs.GoodStarts.{start_good}
use Rattle.seg_runner.specs.Endings.{completed, is_returned, with_instances, with_outputs, with_words}
use Rattle.seg_runner.specs.Hashes.{output_word, outputs_of}
use Rattle.seg_runner.specs.Memories.{GrowingMemory, put_where_absent}
use Rattle.seg_runner.specs.Refusals.{RunCause, over_limit, over_size}
use Rattle.seg_runner.specs.Starts.{frame_length, start_memory, start_registers, started}
use Rattle.seg_runner.specs.Steps.{Configuration, run_step}
use Rattle.seg_runner.specs.Working.Running.{RunEnd, ended, run_of, runs_on}

words_keep : (code : List ℕ) (n : ℕ) (m : GrowingMemory) (start : ℕ) (words : List ℕ) (k left : ℕ) (after : GrowingMemory)
    → ((j : ℕ) → IsFelt (slice_index words j)) → IsSound code m → with_words n m start words k left ≡ Ok after → IsSound code after
unfolding with_words
words_keep code n m start words k zero after felts sound e = subst (IsSound code) (ok_is m after e) sound
words_keep code n m start words k (suc left) after felts sound e =
    bind_gives (put_where_absent n m (place 4 (start + k)) (Some (output_word words k))) _ after e (λ one is_one rest.
    words_keep code n one start words (k + 1) left after felts
    (absent_keeps code n m (place 4 (start + k)) (Some (output_word words k)) one sound (λ v is. subst (IsValueIn 7) (some_is (output_word words k) v is) (felts k)) is_one) rest)

outputs_keep : (code : List ℕ) (n : ℕ) (m : GrowingMemory) (i : ℕ) (words : Option (List ℕ)) (after : GrowingMemory)
    → ((ws : List ℕ) → words ≡ Some ws → (j : ℕ) → IsFelt (slice_index ws j)) → IsSound code m → with_outputs n m i words ≡ Ok after → IsSound code after
outputs_keep code n m i None after felts sound e = subst (IsSound code) (ok_is m after e) sound
outputs_keep code n m i (Some ws) after felts sound e = words_keep code n m _ ws 0 _ after (felts ws refl) sound e

instances_keep : (code : List ℕ) (n : ℕ) (m : GrowingMemory) (i left : ℕ) (after : GrowingMemory) → IsSound code m → with_instances n m i left ≡ Ok after → IsSound code after
unfolding with_instances
instances_keep code n m i zero after sound e = subst (IsSound code) (ok_is m after e) sound
instances_keep code n m i (suc left) after sound e =
    bind_gives (with_outputs n m i (outputs_of m.cells i)) _ after e (λ one is_one rest.
    instances_keep code n one (i + 1) left after
    (outputs_keep code n m i (outputs_of m.cells i) one (λ ws is j. outputs_lie m.cells i ws j is) sound is_one) rest)

end_is : (code : List ℕ) (n : ℕ) (m : GrowingMemory) (end : RunEnd) → IsSound code m → ◌≡◌ {A = Result RunEnd RunCause} (Ok (ended n m)) (Ok end) → IsSound code end.memory
end_is code n m end sound e = subst (λ (x : RunEnd). IsSound code x.memory) (ok_is (ended n m) end e) sound

runs_keep : (code : List ℕ) (left n : ℕ) (now : Configuration) (end : RunEnd) → IsGood code now → runs_on left n now ≡ Ok end → IsSound code end.memory
unfolding runs_on
runs_keep code zero n now end good e =
    then_ok (is_returned now.registers) (over_limit n) (Ok (ended n now.memory)) end e (λ home is. end_is code n now.memory end good.memory is)
runs_keep code (suc left) n now end good e =
    tested (is_returned now.registers) (Ok (ended n now.memory)) _ (Ok end) e
    (λ home is. end_is code n now.memory end good.memory is)
    (λ away more. bind_gives (run_step n now) _ end more (λ after is rest. runs_keep code left (n + 1) after end (step_keeps code n now after good is) rest))

few_cells : (words : List ℕ) → nat_le (length words + frame_length) most_cells ≡ true → length words + frame_length ≤ most_cells
few_cells words e = grind (arith, nat_tests)

pub run_keeps : (words : List ℕ) (main limit : ℕ) (end : RunEnd) → AllByRecursion IsFelt words → main < offset_limit → run_of words main limit ≡ Ok end → IsSound words end.memory
unfolding run_of
run_keeps words main limit end felts small e =
    bind_gives (started words main) _ end e (λ start is_start e.
    then_ok _ (over_size 0) (Ok (record { memory = start_memory words; registers = start_registers main })) start is_start (λ fits is.
    bind_gives (runs_on limit 0 start) _ end e (λ home is_home e.
    bind_gives (completed home.steps home.memory) _ end e (λ complete is_complete e.
    let good = start_good words main felts (few_cells words fits) small in
    let begun = subst (IsGood words) (ok_is _ start is) good in
    end_is words home.steps complete end (instances_keep words home.steps home.memory 0 _ complete (runs_keep words limit 0 start home begun is_home) is_complete) e))))
