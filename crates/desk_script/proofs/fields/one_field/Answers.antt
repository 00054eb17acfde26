use denote.Ref.{Bor}
use Rattle.std.proofs.Common.{◌≡◌, ℕ, List, ◌∷◌, Option, Some, ap, sym, ◌∙◌, rules}
use Rattle.desk_script.proofs.Cuts.{not_one}
use Rattle.desk_script.proofs.fields.one_field.Goals as goal
use Rattle.desk_script.specs.Working.Reading.{one_in, parts_left}

pub returns-in-Some : goal.returns-in-Some
returns-in-Some c =
    let known : c.args.fields ≡ Some c.in_ok-fields.fields = search rules in
    sym (
    ap (λ (left : Option (Bor (List ℕ))). one_in (parts_left 32 left)) known
    ∙ ap one_in (c.cut.ensures ∙ ap (λ (left : Option (Bor (List ℕ))). c.cut.result.0.now ∷ parts_left 32 left) c.in-Some.is)
    ∙ not_one 32 c.cut.result.0.now c.in-Some.field-0.now)
