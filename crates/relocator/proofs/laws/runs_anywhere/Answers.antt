use Rattle.std.proofs.Common.{ℕ, subst, sym}
use Rattle.cairo_model.specs.Pie.Records.{memory_of}
use Rattle.cairo_model.specs.Pie.Staying.{AllValuesIn}
use Rattle.relocator.proofs.Homomorphism.{run_to}
use Rattle.cairo_model.proofs.PieMemories.{values_in}
use Rattle.relocator.proofs.laws.runs_anywhere.Goals as goal

pub returns : goal.returns
returns c bases pie fits rules field has =
    let inside = subst (λ (n : ℕ). AllValuesIn n (memory_of pie.cells)) (sym fits.one_each) (values_in pie rules) in
    run_to c.keeps_arithmetic.ensures bases fits.in_bounds (memory_of pie.cells) field inside has
