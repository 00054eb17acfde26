use Rattle.std.proofs.Common.{◌≡◌, ◌-◌, length, map, option_map}
use Rattle.cairo_model.specs.Views.Machine.{datum}
use Rattle.seg_memory.specs.Working.Pages.{IsPaged, listed, page_cell}
use Rattle.seg_memory.proofs.segment.Segment.grow.Given as goal

abbrev pub invariant-loop-alloc : goal.invariant-loop-alloc
invariant-loop-alloc l = record {
  paged : IsPaged (map (λ page. map (λ cell. option_map datum cell) page.items) l.self-inside.pages.items) l.self-inside.size;
  seen : listed (page_cell (map (λ page. map (λ cell. option_map datum cell) page.items) l.self-inside.pages.items)) l.self-inside.size ≡ l.fn.self;
}

abbrev pub decreases-loop-alloc : goal.decreases-loop-alloc
decreases-loop-alloc l = l.pages - length l.self-inside.pages.items
