use Rattle.std.proofs.Common.{◌≡◌, ℕ, List, ◌∷◌, ◌++◌, IfOk, ap, ap₂, subst, sym, ◌∙◌}
use Rattle.relocator.specs.Working.Lists.{numbers}
use Rattle.batch_runner.specs.Layout.{output_size}
use Rattle.batch_runner.proofs.BootInstances.{digest_is}
use Rattle.batch_runner.proofs.values.header_values.Goals as goal

pub returns : goal.returns
returns c =
    let placed = c.args.placed.now in
    let same =
    ap₂ (λ (xs ws : List ℕ). xs ++ ws) c.in_ok-first.ensures c.digest_of.ensures
    ∙ ap (λ (x : ℕ). x ∷ placed.task.fact.program) (c.felt_of.ensures ∙ c.output_size.ensures.value ∙ ap output_size c.task.ensures.value)
    ∙ ap (λ (ws : List ℕ). output_size placed.task ∷ ws) (sym (digest_is (record { checked = placed.task; accepted = c.task.ensures.accepted }) placed.place)) in
    subst (λ (xs : List ℕ). IfOk c.push_words.result (λ out. numbers out.items ≡ xs)) same c.push_words.ensures
