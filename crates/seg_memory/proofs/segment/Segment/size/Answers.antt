use Rattle.std.proofs.Common.{length, sym, ap, ◌∙◌}
use Rattle.seg_memory.proofs.Paging.{length_listed}
use Rattle.seg_memory.proofs.segment.Segment.size.Goals as goal

pub returns : goal.returns
returns c = sym (length_listed _ c.self.inside.size) ∙ ap length c.self.view_is
