use Rattle.std.proofs.Common.{rules, ◌≡◌, ◌<◌, ◌≤◌, ℕ, length, get_or, sym, ap, subst, ◌∙◌, arith}
use Rattle.std.proofs.lemmas.List.{get_or_default}
use Rattle.cairo_model.specs.Limits.{most_cells}
use Rattle.cairo_model.specs.Pie.Records.{Rise}
use Rattle.seg_memory.specs.Working.Pages.{sizes_of}
use Rattle.seg_memory.proofs.Changes.{sizes_small}
use Rattle.seg_memory.proofs.SeenCells.{size_at, listed_all, cells_rise}
use Rattle.seg_memory.proofs.memory.SegMemory.cells.Goals as goal

pub add_segment-requires : goal.add_segment-requires
add_segment-requires c =
    let segments = c.self.inside.segments.items in
    let count : c.len-segment-end.result ≡ length segments = search rules in
    let there : c.loop-segment.segment < length segments = omega (arith, c.loop-segment-test.true, count) in
    let is : length c.index.result.now ≡ get_or (sizes_of segments) c.loop-segment.segment 0 = ap length (c.index.ensures ∙ get_or_default segments c.loop-segment.segment c.index.result.now _ there) ∙ sym (size_at segments c.loop-segment.segment) in
    omega (arith, is, c.size.ensures, sizes_small (sizes_of segments) c.loop-segment.segment, c.self.invariant.in_all)

-- all segments were listed
pub returns-clause-cells : goal.returns-clause-cells
returns-clause-cells c =
    let count : c.len-segment-end.result ≡ length c.self.inside.segments.items = search rules in
    let all : c.loop-segment.segment ≡ length c.self.inside.segments.items = omega (arith, c.loop-segment-test.false, c.loop-segment.auto.segment-end, count) in
    c.loop-segment.invariant ∙ listed_all c.self.inside.segments.items c.args.self.now c.self.view_is c.loop-segment.segment all

pub returns-clause-rise : goal.returns-clause-rise
returns-clause-rise c =
    let segments = c.self.inside.segments.items in
    let count : c.len-segment-end.result ≡ length segments = search rules in
    let all : c.loop-segment.segment ≡ length segments = omega (arith, c.loop-segment-test.false, c.loop-segment.auto.segment-end, count) in
    let small : (s : ℕ) → get_or (sizes_of segments) s 0 ≤ most_cells = λ s. omega (arith, sizes_small (sizes_of segments) s, c.self.invariant.in_all) in
    subst Rise (sym (c.loop-segment.invariant ∙ listed_all segments c.args.self.now c.self.view_is c.loop-segment.segment all)) (cells_rise segments c.args.self.now c.self.view_is small)
