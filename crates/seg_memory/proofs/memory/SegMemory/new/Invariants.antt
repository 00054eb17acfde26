use Rattle.std.proofs.Common.{◌≡◌, ℕ, None, take}
use Rattle.seg_memory.specs.Working.Pages.{sizes_of, segment_cell}
use Rattle.seg_memory.proofs.memory.SegMemory.new.Given as goal

abbrev pub invariant-loop-size : goal.invariant-loop-size
invariant-loop-size l = record {
  sizes : sizes_of l.segments.items ≡ take l.size-index l.sizes;
  none : (s o : ℕ) → segment_cell l.segments.items s o ≡ None;
}
