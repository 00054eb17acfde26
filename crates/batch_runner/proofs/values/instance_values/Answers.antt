use Rattle.std.proofs.Common.{◌≡◌, ℕ, ◌+◌, List, ◌++◌, IfOk, ap, ap₂, subst, ◌∙◌}
use Rattle.builtin_hash.specs.Chains.{chain_start, groups_of}
use Rattle.cairo_model.specs.Pie.Acceptance.{CheckedRecord}
use Rattle.goldi_field.specs.declared.Felt.{Felt}
use Rattle.relocator.specs.Working.Lists.{numbers}
use Rattle.batch_runner.specs.Layout.{size}
use Rattle.batch_runner.specs.Memory.{turn_values_at}
use Rattle.batch_runner.specs.Working.Turns.{hash_from}
use Rattle.batch_runner.specs.Working.Values.{first_group}
use Rattle.batch_runner.proofs.OwnValues.{instances_in}
use Rattle.batch_runner.proofs.values.instance_values.Goals as goal

pub returns : goal.returns
returns c =
    let placed = c.args.placed.now in
    let group = first_group (turn_values_at placed.task placed.place).task in
    let count = c.size_at-words.ensures.value ∙ ap (λ (t : CheckedRecord). size t 0) c.task.ensures.value in
    let start = c.in_ok-start.ensures ∙ ap₂ (λ (v : List Felt) (w : List ℕ). numbers v ++ w) c.in_ok-values.ensures.items (c.chain_start.ensures ∙ ap (λ (k : ℕ). chain_start (k + 4)) count) in
    let first = c.in_ok-first.ensures ∙ ap (λ (xs : List ℕ). xs ++ group) start in
    let same =
    ap (λ (xs : List ℕ). xs ++ hash_from c.first_words.result (groups_of c.code.result.now)) first
    ∙ ap₂ (λ (w code : List ℕ). (chain_start (size placed.task 0 + 4) ++ group) ++ hash_from w (groups_of code)) c.first_words.ensures c.code.ensures.value
    ∙ instances_in (record { checked = placed.task; accepted = c.task.ensures.accepted }) placed.place in
    subst (λ (xs : List ℕ). IfOk c.push_instances.result (λ out. numbers out.items ≡ xs)) same c.push_instances.ensures
