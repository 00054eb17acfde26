use Rattle.std.proofs.Common.{List, Contains, IsTrue, sym, subst, ◌∙◌}
use Rattle.cairo_model.specs.Pie.Acceptance.{FactRecord}
use Rattle.fact_registry.proofs.FactLists.{found_is_there, there_is_found}
use Rattle.fact_registry.proofs.registry.Registry.holds.Goals as goal

pub returns : goal.returns
returns c =
    let fact = c.args.fact.now in
    let keys = c.self.inside.facts.keys in
    subst (λ (r : List FactRecord). (IsTrue c.contains.result → Contains r fact) × (Contains r fact → IsTrue c.contains.result)) c.self.view_is (
      λ found. found_is_there keys fact (sym c.contains.ensures ∙ found),
      λ there. c.contains.ensures ∙ there_is_found keys fact there,
    )
