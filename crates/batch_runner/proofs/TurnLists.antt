-- The turns of the loop over hash instances, and the instances, as one pass over the groups of four words writes them.
use Rattle.std.proofs.Common.{◌≡◌, ℕ, zero, suc, ◌+◌, ◌*◌, ◌<◌, ◌≤◌, List, [], ◌∷◌, ◌++◌, drop, length, get_or, refl, sym, ap, ◌∙◌, arith, append_assoc}
use Rattle.std.proofs.lemmas.List.{drop_all}
use Rattle.builtin_hash.specs.Chains.{group_at, groups_of}
use Rattle.builtin_hash.proofs.ChainLemmas.{length-groups_of, groups_of-at}
use Rattle.builtin_hash.specs.Instances.{instance_of}
use Rattle.cairo_model.specs.Machine.Addresses.{down, up}
use Rattle.boot_program.specs.Instances.{eight, four}
use Rattle.boot_program.specs.Frames.{hash_list, loop_list}
use Rattle.batch_runner.specs.Working.Turns.{hash_from, turns_from}

-- the groups of a program are these numbers, and each instance's words follow from those before
pub record AreLinked (gs : List (List ℕ)) (ws ds : ℕ → ℕ → ℕ) : Type 0 where
  pub groups : (j : ℕ) → j < length gs → get_or gs j [] ≡ four (ds j)
  pub words : (j : ℕ) → j < length gs → eight (ws (suc j)) ≡ instance_of (eight (ws j)) (four (ds j))

later : (g : List ℕ) (gs : List (List ℕ)) (ws ds : ℕ → ℕ → ℕ) → AreLinked (g ∷ gs) ws ds → AreLinked gs (λ j. ws (suc j)) (λ j. ds (suc j))
later g gs ws ds linked = record {
  groups = λ j lt. linked.groups (suc j) (omega (arith, lt));
  words = λ j lt. linked.words (suc j) (omega (arith, lt));
}

pub instances_are : (gs : List (List ℕ)) (more : ℕ) (ws ds : ℕ → ℕ → ℕ) → length gs ≡ more + 1 → AreLinked gs ws ds → hash_list more ws ds ++ eight (ws (suc more)) ≡ hash_from (eight (ws 0)) gs
unfolding hash_list hash_from
instances_are [] more ws ds count linked = absurd (omega (arith, count))
instances_are (g ∷ []) zero ws ds count linked =
    ap (λ (o : List ℕ). eight (ws 0) ++ (eight (ws 0) ++ (four (ds 0) ++ o))) (linked.words 0 (omega arith))
    ∙ ap (λ (x : List ℕ). eight (ws 0) ++ (eight (ws 0) ++ (x ++ instance_of (eight (ws 0)) x))) (sym (linked.groups 0 (omega arith)))
instances_are (g ∷ h ∷ gs) zero ws ds count linked = absurd (omega (arith, count))
instances_are (g ∷ gs) (suc more) ws ds count linked =
    let rest = instances_are gs more (λ j. ws (suc j)) (λ j. ds (suc j)) (omega (arith, count)) (later g gs ws ds linked) in
    ap (λ (o : List ℕ). eight (ws 0) ++ (eight (ws 0) ++ (four (ds 0) ++ o))) (rest ∙ ap (λ (w : List ℕ). hash_from w gs) (linked.words 0 (omega arith)))
    ∙ ap (λ (x : List ℕ). eight (ws 0) ++ (eight (ws 0) ++ (x ++ hash_from (instance_of (eight (ws 0)) x) gs))) (sym (linked.groups 0 (omega arith)))

pub turns_are : (gs : List (List ℕ)) (more i c l : ℕ) (ws ds : ℕ → ℕ → ℕ) → length gs ≡ more + 1 → AreLinked gs ws ds → loop_list more i c l ws ds ≡ turns_from i c l (eight (ws 0)) gs
unfolding loop_list turns_from
turns_are [] more i c l ws ds count linked = absurd (omega (arith, count))
turns_are (g ∷ []) zero i c l ws ds count linked =
    ap (λ (x : List ℕ). (i ∷ c ∷ l ∷ []) ++ (eight (ws 0) ++ (x ++ (up i 20 ∷ up c 4 ∷ down l 4 ∷ [])))) (sym (linked.groups 0 (omega arith)))
turns_are (g ∷ h ∷ gs) zero i c l ws ds count linked = absurd (omega (arith, count))
turns_are (g ∷ gs) (suc more) i c l ws ds count linked =
    let rest = turns_are gs more (up i 20) (up c 4) (down l 4) (λ j. ws (suc j)) (λ j. ds (suc j)) (omega (arith, count)) (later g gs ws ds linked) in
    ap (λ (o : List ℕ). (i ∷ c ∷ l ∷ []) ++ (eight (ws 0) ++ (four (ds 0) ++ o))) (rest ∙ ap (λ (w : List ℕ). turns_from (up i 20) (up c 4) (down l 4) w gs) (linked.words 0 (omega arith)))
    ∙ ap (λ (x : List ℕ). (i ∷ c ∷ l ∷ []) ++ (eight (ws 0) ++ (x ++ turns_from (up i 20) (up c 4) (down l 4) (instance_of (eight (ws 0)) x) gs))) (sym (linked.groups 0 (omega arith)))

-- a turn of a pass over the groups, and its end
next_of : (xs : List (List ℕ)) (k : ℕ) → k < length xs → drop k xs ≡ get_or xs k [] ∷ drop (k + 1) xs
next_of [] k lt = absurd (omega (arith, lt))
next_of (x ∷ xs) zero lt = refl
next_of (x ∷ xs) (suc k) lt = next_of xs k (omega (arith, lt)) ∙ ap (λ j. get_or xs k [] ∷ drop j (x ∷ xs)) (shift k)
  where
    shift : (k : ℕ) → suc (k + 1) ≡ suc k + 1
    shift k = omega arith

module _ (code : List ℕ) (k : ℕ) where
  abbrev rest : List (List ℕ)
  rest = drop (k + 1) (groups_of code)

  here : 4 * k < length code → drop k (groups_of code) ≡ group_at code k ∷ rest
  here lt =
      let count = length-groups_of code in
      next_of (groups_of code) k (omega (arith, lt, count)) ∙ ap (λ (x : List ℕ). x ∷ rest) (groups_of-at code k lt)

  none_left : length code ≤ 4 * k → drop k (groups_of code) ≡ []
  none_left past = let count = length-groups_of code in drop_all k (groups_of code) (omega (arith, count, past))

  pub instance_on : (so_far words : List ℕ) → 4 * k < length code
      → (((so_far ++ words) ++ words) ++ group_at code k) ++ hash_from (instance_of words (group_at code k)) rest ≡ so_far ++ hash_from words (drop k (groups_of code))
  unfolding hash_from
  instance_on so_far words lt =
      let g = group_at code k in
      let more = hash_from (instance_of words g) rest in
      append_assoc ((so_far ++ words) ++ words) g more ∙ append_assoc (so_far ++ words) words (g ++ more) ∙ append_assoc so_far words (words ++ (g ++ more))
      ∙ ap (λ (gs : List (List ℕ)). so_far ++ hash_from words gs) (sym (here lt))

  pub instances_end : (words : List ℕ) → length code ≤ 4 * k → hash_from words (drop k (groups_of code)) ≡ words
  unfolding hash_from
  instances_end words past = ap (hash_from words) (none_left past)

  module _ (i c l : ℕ) where
    abbrev now : List ℕ
    now = i ∷ c ∷ l ∷ []

    pub turn_on : (so_far words : List ℕ) → 4 * k < length code
        → (((so_far ++ now) ++ words) ++ group_at code k) ++ turns_from (up i 20) (up c 4) (down l 4) (instance_of words (group_at code k)) rest ≡ so_far ++ turns_from i c l words (drop k (groups_of code))
    unfolding turns_from
    turn_on so_far words lt =
        let g = group_at code k in
        let more = turns_from (up i 20) (up c 4) (down l 4) (instance_of words g) rest in
        append_assoc ((so_far ++ now) ++ words) g more ∙ append_assoc (so_far ++ now) words (g ++ more) ∙ append_assoc so_far now (words ++ (g ++ more))
        ∙ ap (λ (gs : List (List ℕ)). so_far ++ turns_from i c l words gs) (sym (here lt))

    pub turns_end : (words : List ℕ) → length code ≤ 4 * k → turns_from i c l words (drop k (groups_of code)) ≡ now
    unfolding turns_from
    turns_end words past = ap (turns_from i c l words) (none_left past)
