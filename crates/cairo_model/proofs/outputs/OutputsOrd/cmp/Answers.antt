use Rattle.std.proofs.Common.{◌∙◌, ℕ, List, map, ap}
use Rattle.std.specs.Cmp.Lexicographic.{slice_cmp}
use Rattle.std.specs.Ordering.{nat_cmp}
use Rattle.cairo_model.proofs.NumberLists.{same_order}
use Rattle.cairo_model.proofs.outputs.OutputsOrd.cmp.Goals as goal

pub returns : goal.returns
returns c =
    let mine = c.as_slice.result.now in
    let theirs = c.as_slice-2.result.now in
    c.cmp.ensures ∙ same_order mine theirs
    ∙ ap (λ (ns : List ℕ). slice_cmp nat_cmp ns (map (λ f. f.number) theirs)) c.as_slice.ensures
    ∙ ap (λ (ns : List ℕ). slice_cmp nat_cmp c.args.self.now ns) c.as_slice-2.ensures
