use Rattle.std.proofs.Common.{ℕ, List, slice_index, refl, ap, ◌∙◌, arith}
use Rattle.seg_memory.specs.Memory.{memory_in}
use Rattle.seg_runner.specs.Working.Running.{frame_values}
use Rattle.seg_runner.proofs.Rows.{frame_more, row_begun, row_free, row_whole}
use Rattle.seg_runner.proofs.starting.put_frame.Goals as goal

pub loop-offset-init : goal.loop-offset-init
loop-offset-init c = record { sizes = refl; cells = row_begun c.args.memory.now 1 frame_values c.requires.free }

pub put_cell-requires-clause-inside : goal.put_cell-requires-clause-inside
put_cell-requires-clause-inside c =
    let same = ap (λ (ss : List ℕ). slice_index ss 1) c.loop-offset.invariant.sizes in
    let size = c.requires.sizes in
    omega arith

pub put_cell-requires-clause-free : goal.put_cell-requires-clause-free
put_cell-requires-clause-free c =
    row_free (memory_in c.args.memory.now) 1 frame_values c.loop-offset.memory c.loop-offset.offset c.loop-offset.invariant.cells

pub loop-offset-preserved : goal.loop-offset-preserved
loop-offset-preserved c = record {
  sizes = c.put_cell.ensures.sizes ∙ c.loop-offset.invariant.sizes;
  cells = frame_more (memory_in c.args.memory.now) c.loop-offset.memory c.put_cell.new.memory c.loop-offset.offset _ c.loop-offset-test.true c.loop-offset.invariant.cells c.put_cell.ensures;
}

pub returns : goal.returns
returns c = record {
  sizes = c.loop-offset.invariant.sizes;
  cells = c.loop-offset.invariant.cells ∙ row_whole (memory_in c.args.memory.now) 1 frame_values c.loop-offset.offset (omega arith);
}
