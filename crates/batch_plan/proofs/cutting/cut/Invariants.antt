use Rattle.std.proofs.Common.{ℕ, ◌≡◌, take}
use Rattle.batch_plan.specs.Cuts.{AreWithinBatch, steps_together, cells_together}
use Rattle.batch_plan.proofs.cutting.cut.Given as goal

pub record Invariant (index steps cells steps_so_far cells_so_far : ℕ) : Type 0 where
  pub steps_are : steps ≡ steps_so_far
  pub cells_are : cells ≡ cells_so_far
  pub fit : AreWithinBatch index steps cells

abbrev pub invariant-loop-index : goal.invariant-loop-index
invariant-loop-index l = Invariant l.index l.steps l.cells (steps_together (take l.index l.waiting)) (cells_together (take l.index l.waiting))
