use Rattle.std.proofs.Common.{◌≡◌, ◌+◌, arith, rules, ap, sym, ◌∙◌, drop}
use Rattle.std.proofs.lemmas.List.{places, same_lists, drop_all}
use Rattle.shared_prover_cli.proofs.memory.MemSourceSource.read.Goals as goal

pub returns-clause-bytes : goal.returns-clause-bytes
returns-clause-bytes c =
    let bytes = c.self.inside.bytes.items in
    let end = c.self.inside.place + c.min-count.result in
    let left : c.args.self.now.left ≡ drop c.self.inside.place bytes = sym (ap (λ v. v.left) c.self.view_is) in
    (left ∙ same_lists _ _ (search (rules, places)) (λ k d h. grind (arith, places)), λ none room. drop_all end bytes (omega arith))
