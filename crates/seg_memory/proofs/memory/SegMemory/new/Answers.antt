use Rattle.seg_memory.proofs.Changes.{is_empty}
use Rattle.seg_memory.proofs.memory.SegMemory.new.Goals as goal

pub returns-clause-empty : goal.returns-clause-empty
returns-clause-empty c = is_empty c.loop-size.segments.items c.loop-size.invariant.none
