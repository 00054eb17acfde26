use Rattle.std.proofs.Common.{◌+◌, arith, rules, sym, ◌∙◌}
use Rattle.std.proofs.lemmas.List.{places, same_lists, drop_all}
use Rattle.shared_prover_cli.proofs.sure.SureSourceSource.read.Goals as goal

pub returns-clause-bytes : goal.returns-clause-bytes
returns-clause-bytes c =
    let bytes = c.self.inside.bytes.items in
    let end = c.self.inside.place + c.min-count.result in
    (sym c.self.view_is ∙ same_lists _ _ (search (rules, places)) (λ k d h. grind (arith, places)), λ none room. drop_all end bytes (omega arith))
