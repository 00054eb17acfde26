use Rattle.std.proofs.Common.{List, All, subst}
use Rattle.cairo_model.specs.Machine.FieldMemories.{FieldCell, IsCell}
use Rattle.cairo_model.proofs.TypeFacts.{field_memory}
use Rattle.cairo_model.proofs.kept.cells_are_felts.Goals as goal

pub returns : goal.returns
returns c =
    let C : List FieldCell → Type 0 = λ cs. All IsCell cs in
    let kept = subst C c.as_slice.ensures.cells c.cells_kept.ensures in
    record { cells = kept; memory = field_memory c.args.cells.now kept }
