use Rattle.std.proofs.Common.{◌≡◌, ◌+◌, ◌*◌, ◌<◌, ◌≤◌, ℕ, List, ◌++◌, drop, length, sym, ap, subst, IfOk, ◌∙◌, arith}
use Rattle.builtin_hash.specs.Chains.{groups_of}
use Rattle.builtin_hash.specs.Instances.{instance_of}
use Rattle.relocator.specs.Working.Lists.{numbers}
use Rattle.batch_runner.specs.Working.Turns.{hash_from}
use Rattle.batch_runner.proofs.TurnLists.{instance_on, instances_end}
use Rattle.batch_runner.proofs.turns.push_instances.Goals as goal

pub loop-k-preserved : goal.loop-k-preserved
loop-k-preserved c =
    let code = c.args.code.now in
    let so_far = numbers c.loop-k.out.items in
    let words = c.loop-k.words in
    let rest = drop (c.loop-k.k + 1) (groups_of code) in
    let inside : 4 * c.loop-k.k < length code = omega (arith, c.loop-k-test.true, c.div_ceil-k-end.ensures) in
    ap (λ (x : List ℕ). x ++ hash_from c.instance-after.result rest) c.in_ok-out.ensures
    ∙ ap (λ (w : List ℕ). (((so_far ++ words) ++ words) ++ c.group-next.result) ++ hash_from w rest) c.instance-after.ensures
    ∙ ap (λ (d : List ℕ). (((so_far ++ words) ++ words) ++ d) ++ hash_from (instance_of words d) rest) c.group-next.ensures.value
    ∙ instance_on code c.loop-k.k so_far words inside ∙ c.loop-k.invariant

pub returns : goal.returns
returns c =
    let code = c.args.code.now in
    let past : length code ≤ 4 * c.loop-k.k = omega (arith, c.loop-k-test.false, c.div_ceil-k-end.ensures) in
    let end : numbers c.loop-k.out.items ++ c.loop-k.words ≡ numbers c.args.values.items ++ hash_from c.args.start (groups_of code) =
    ap (λ (w : List ℕ). numbers c.loop-k.out.items ++ w) (sym (instances_end code c.loop-k.k c.loop-k.words past)) ∙ c.loop-k.invariant in
    subst (λ (xs : List ℕ). IfOk c.push_words.result (λ out. numbers out.items ≡ xs)) end c.push_words.ensures
