use Rattle.std.proofs.Common.{ℕ, All, length, map, subst}
use Rattle.cairo_model.specs.Views.Machine.{registers}
use Rattle.relocator.specs.Working.Lists.{IsStateIn}
use Rattle.relocator.proofs.ListsIn.{states_in, run_in, same_count}
use Rattle.relocator.proofs.relocating.place_states.Goals as goal

pub relocate_states-requires : goal.relocate_states-requires
relocate_states-requires c =
    subst (λ (n : ℕ). All (IsStateIn n) c.args.states.now) (same_count c.args.bases.now c.args.pie.now.sizes c.requires.fits.one_each)
    (states_in (length c.args.pie.now.sizes) c.args.states.now (run_in c.pie_states_stay.ensures c.args.pie.now (map registers c.args.states.now) c.requires.runs))
