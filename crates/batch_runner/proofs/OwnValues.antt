-- The bootloader's own numbers for a task, as a pass over its program writes them.
use Rattle.std.proofs.Common.{◌≡◌, ℕ, suc, ◌+◌, List, ◌++◌, All, length, sym, ap, subst, ◌∙◌, arith, append_assoc}
use Rattle.std.proofs.lemmas.List.{get_or_default}
use Rattle.goldi_field.specs.Numbers.{IsFelt}
use Rattle.builtin_hash.specs.Chains.{chain_start, groups_of}
use Rattle.builtin_hash.proofs.ChainLemmas.{length-groups_of, groups_of-at}
use Rattle.cairo_model.specs.Machine.Addresses.{up}
use Rattle.boot_program.specs.Cells.{Stops, padded_length}
use Rattle.boot_program.specs.Frames.{hash_list, own_blocks, own_hash, own_head, own_list}
use Rattle.boot_program.specs.Instances.{eight}
use Rattle.boot_program.specs.Turns.{TurnValues}
use Rattle.batch_plan.specs.Parts.{BatchParts}
use Rattle.batch_runner.specs.Layout.{code_of, more_turns, size}
use Rattle.batch_runner.specs.Memory.{code_numbers_at, first_words, turn_values_at, words_at}
use Rattle.batch_runner.specs.Working.Tasks.{Task}
use Rattle.batch_runner.specs.Working.Turns.{hash_from, turns_from}
use Rattle.batch_runner.specs.Working.Values.{first_group, program_list}
use Rattle.batch_runner.proofs.BootInstances.{count, digest_is, eight_is, felt, some, words_linked}
use Rattle.batch_runner.proofs.Limits.{size_few}
use Rattle.batch_runner.proofs.TurnLists.{AreLinked, instances_are, turns_are}

module _ (t : Task) (p : BatchParts) where
  abbrev code : List ℕ
  code = code_of t.checked

  abbrev gs : List (List ℕ)
  gs = groups_of code

  abbrev c : ℕ
  c = size t.checked 0

  abbrev n : TurnValues
  n = turn_values_at t.checked p

  pub code_felts : All IsFelt code
  code_felts k d lt = subst IsFelt (sym (get_or_default code k d 0 lt)) (felt t p k)

  groups_count : length gs ≡ more_turns c + 1
  groups_count = let l = length-groups_of code in let k = count t p in let s = some t p in omega (arith, l, k, s)

  linked : AreLinked gs (words_at t.checked) (code_numbers_at t.checked)
  linked = record {
    groups = λ j lt. groups_of-at code j (let l = length-groups_of code in omega (arith, l, lt));
    words = λ j lt. words_linked t p j (let l = length-groups_of code in let k = count t p in omega (arith, l, k, lt));
  }

  first_is : eight (words_at t.checked 0) ≡ first_words t.checked
  first_is = sym (eight_is t p 0)

  own_turns : own_blocks n ≡ turns_from (up p.hash 20) p.program (padded_length n.task) (first_words t.checked) gs
  own_turns =
      turns_are gs (more_turns c) (up p.hash 20) p.program (padded_length n.task) (words_at t.checked) (code_numbers_at t.checked) groups_count linked
      ∙ ap (λ (w : List ℕ). turns_from (up p.hash 20) p.program (padded_length n.task) w gs) first_is

  -- the cells of a task up to its own
  pub own_is : (caller left gap distance : ℕ) (stops : Stops)
      → ((own_head caller left n gap distance stops ++ turns_from (up p.hash 20) p.program (padded_length n.task) (first_words t.checked) gs) ++ t.checked.fact.program) ++ program_list n.task
      ≡ own_list caller left n gap distance stops
  own_is caller left gap distance stops =
      let head = own_head caller left n gap distance stops in
      let turns = turns_from (up p.hash 20) p.program (padded_length n.task) (first_words t.checked) gs in
      append_assoc (head ++ turns) t.checked.fact.program (program_list n.task) ∙ append_assoc head turns (t.checked.fact.program ++ program_list n.task)
      ∙ ap (λ (x : List ℕ). head ++ (x ++ (t.checked.fact.program ++ program_list n.task))) (sym own_turns)
      ∙ ap (λ (x : List ℕ). head ++ (own_blocks n ++ (x ++ program_list n.task))) (sym (digest_is t p))

  -- its hash instances
  pub instances_in : (chain_start (c + 4) ++ first_group n.task) ++ hash_from (first_words t.checked) gs ≡ own_hash n
  instances_in =
      let few = size_few t 0 (omega arith) in
      let ws = words_at t.checked in
      let length_is : c + 4 ≡ up c 4 = omega (arith, few) in
      let rest : hash_from (first_words t.checked) gs ≡ hash_list (more_turns c) ws (code_numbers_at t.checked) ++ eight (ws (suc (more_turns c))) =
      ap (λ (w : List ℕ). hash_from w gs) (sym first_is) ∙ sym (instances_are gs (more_turns c) ws (code_numbers_at t.checked) groups_count linked) in
      let last : suc (more_turns c) ≡ more_turns c + 1 = omega arith in
      ap (λ x. (chain_start x ++ first_group n.task) ++ hash_from (first_words t.checked) gs) length_is
      ∙ ap (λ (x : List ℕ). (chain_start (up c 4) ++ first_group n.task) ++ x) (rest ∙ ap (λ k. hash_list (more_turns c) ws (code_numbers_at t.checked) ++ eight (ws k)) last)
