use Rattle.std.proofs.Common.{All, subst, sym, ◌∙◌}
use Rattle.goldi_field.specs.Numbers.{IsFelt}
use Rattle.batch_runner.specs.Working.Places.{place_of}
use Rattle.batch_runner.proofs.OwnValues.{code_felts}
use Rattle.batch_runner.proofs.placed.PlacedTask.code.Goals as goal

pub returns-clause-felts : goal.returns-clause-felts
returns-clause-felts c =
    subst (All IsFelt) (sym (c.as_slice.ensures.value ∙ c.self.invariant.is_code))
    (code_felts (record { checked = c.self.inside.task.now; accepted = c.self.invariant.accepted }) (place_of c.self.inside.at))
