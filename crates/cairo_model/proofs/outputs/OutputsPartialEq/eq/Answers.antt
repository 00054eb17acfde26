use Rattle.std.proofs.Common.{◌∙◌, ℕ, List, nat_eq, map, ap}
use Rattle.std.specs.Cmp.Lexicographic.{pointwise}
use Rattle.cairo_model.proofs.NumberLists.{same_numbers}
use Rattle.cairo_model.proofs.outputs.OutputsPartialEq.eq.Goals as goal

pub returns : goal.returns
returns c =
    let mine = c.as_slice.result.now in
    let theirs = c.as_slice-2.result.now in
    c.eq.ensures ∙ same_numbers mine theirs
    ∙ ap (λ (ns : List ℕ). pointwise nat_eq ns (map (λ f. f.number) theirs)) c.as_slice.ensures
    ∙ ap (λ (ns : List ℕ). pointwise nat_eq c.args.self.now ns) c.as_slice-2.ensures
