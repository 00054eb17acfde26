-- The code's numbers of cells as plain data, and how large they get.
use Rattle.std.specs.Prelude.{ℕ, ◌≤◌}
use Rattle.batch_plan.specs.declared.parts.PartCells.{PartCells}
use Rattle.batch_plan.specs.Parts.{BatchParts}

abbrev pub parts_of_code : PartCells → BatchParts
parts_of_code p = record { frame = p.frame; output = p.output; range = p.range; hash = p.hash; program = p.program }

-- a task takes at most so many cells of a part
abbrev pub most_part_cells : ℕ
most_part_cells = 1048576

-- all parts are at most so large
pub record AreAtMost (limit : ℕ) (p : BatchParts) : Type 0 where
  pub frame : p.frame ≤ limit
  pub output : p.output ≤ limit
  pub range : p.range ≤ limit
  pub hash : p.hash ≤ limit
  pub program : p.program ≤ limit
