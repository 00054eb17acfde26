use Rattle.std.proofs.Common.{◌≡◌, ◌+◌, ◌*◌, ◌<◌, ◌≤◌, ℕ, List, [], ◌∷◌, ◌++◌, drop, length, sym, ap, subst, IfOk, ◌∙◌, arith}
use Rattle.builtin_hash.specs.Chains.{groups_of}
use Rattle.builtin_hash.specs.Instances.{instance_of}
use Rattle.cairo_model.specs.Machine.Addresses.{down, up}
use Rattle.relocator.specs.Working.Lists.{numbers}
use Rattle.batch_runner.specs.Working.Turns.{turns_from}
use Rattle.batch_runner.proofs.TurnLists.{turn_on, turns_end}
use Rattle.batch_runner.proofs.turns.push_turns.Goals as goal

pub loop-k-preserved : goal.loop-k-preserved
loop-k-preserved c =
    let code = c.args.code.now in
    let i = c.loop-k.turn.instance.number in
    let a = c.loop-k.turn.code.number in
    let l = c.loop-k.turn.left.number in
    let so_far = numbers c.loop-k.out.items in
    let words = c.loop-k.words in
    let later = c.next_turn-later.result in
    let begun = (so_far ++ i ∷ a ∷ l ∷ []) ++ words in
    let rest = drop (c.loop-k.k + 1) (groups_of code) in
    let inside : 4 * c.loop-k.k < length code = omega (arith, c.loop-k-test.true, c.div_ceil-k-end.ensures) in
    ap (λ (x : List ℕ). x ++ turns_from later.instance.number later.code.number later.left.number c.instance-after.result rest) c.in_ok-out.ensures
    ∙ ap (λ (x : ℕ). (begun ++ c.group-next.result) ++ turns_from x later.code.number later.left.number c.instance-after.result rest) c.next_turn-later.ensures.instance
    ∙ ap (λ (x : ℕ). (begun ++ c.group-next.result) ++ turns_from (up i 20) x later.left.number c.instance-after.result rest) c.next_turn-later.ensures.code
    ∙ ap (λ (x : ℕ). (begun ++ c.group-next.result) ++ turns_from (up i 20) (up a 4) x c.instance-after.result rest) c.next_turn-later.ensures.left
    ∙ ap (λ (w : List ℕ). (begun ++ c.group-next.result) ++ turns_from (up i 20) (up a 4) (down l 4) w rest) c.instance-after.ensures
    ∙ ap (λ (d : List ℕ). (begun ++ d) ++ turns_from (up i 20) (up a 4) (down l 4) (instance_of words d) rest) c.group-next.ensures.value
    ∙ turn_on code c.loop-k.k i a l so_far words inside ∙ c.loop-k.invariant

pub returns : goal.returns
returns c =
    let code = c.args.code.now in
    let turn = c.loop-k.turn in
    let past : length code ≤ 4 * c.loop-k.k = omega (arith, c.loop-k-test.false, c.div_ceil-k-end.ensures) in
    let end = ap (λ (w : List ℕ). numbers c.loop-k.out.items ++ w) (sym (turns_end code c.loop-k.k turn.instance.number turn.code.number turn.left.number c.loop-k.words past)) ∙ c.loop-k.invariant in
    subst (λ (xs : List ℕ). IfOk c.push_state.result (λ out. numbers out.items ≡ xs)) end c.push_state.ensures
