use Rattle.std.proofs.Common.{◌≡◌, ◌<◌, ℕ, length, set, sum, ap, ◌∙◌, arith}
use Rattle.std.proofs.lemmas.List.{length-map}
use Rattle.seg_memory.specs.Memory.{MemoryRecord}
use Rattle.seg_memory.proofs.Changes.{by_answer, ok_then, few_same, still_few, sizes_changed, same_size, keeps, grown_size}
use Rattle.seg_memory.proofs.memory.SegMemory.grow.Goals as goal

pub invariant_of-self : goal.invariant_of-self
invariant_of-self c =
    let segments = c.self.inside.segments.items in
    let cells = c.index_mut.result.now in
    let count = ap (λ (m : MemoryRecord). length m.sizes) c.self.view_is in
    let there : c.from.result < length segments = omega (arith, c.requires.there, c.from.ensures, count, length-map segments (λ cells. length cells)) in
    let size = same_size segments c.args.self.now c.self.view_is c.args.segment c.from.result c.from.ensures there cells c.grow.new.self c.index_mut.ensures.value in
    by_answer c.grow.result c.grow.ensures.ok c.grow.ensures.err
    (λ grown.
    let long : length c.grow.new.self ≡ c.args.size = grown_size segments c.args.self.now c.self.view_is c.args.segment c.from.result c.from.ensures there cells c.grow.new.self c.index_mut.ensures.value c.args.size (omega (arith, size, c.requires.larger)) grown in
    let sizes = sizes_changed segments c.args.self.now c.self.view_is c.args.segment c.from.result c.from.ensures there cells c.grow.new.self c.index_mut.ensures.value in
    let sums = ap sum sizes ∙ ap (λ (n : ℕ). sum (set c.args.self.now.sizes c.args.segment n)) long in
    still_few segments c.args.self.now c.self.view_is c.args.segment c.from.result c.from.ensures there cells c.grow.new.self c.index_mut.ensures.value c.self.invariant (omega (arith, sums, c.requires.in_all)))
    (λ same. few_same segments c.args.self.now c.self.view_is c.args.segment c.from.result c.from.ensures there cells c.grow.new.self c.index_mut.ensures.value c.self.invariant (ap length same))

pub returns-clause-sizes : goal.returns-clause-sizes
returns-clause-sizes c =
    let segments = c.self.inside.segments.items in
    let cells = c.index_mut.result.now in
    let count = ap (λ (m : MemoryRecord). length m.sizes) c.self.view_is in
    let there : c.from.result < length segments = omega (arith, c.requires.there, c.from.ensures, count, length-map segments (λ cells. length cells)) in
    let size = same_size segments c.args.self.now c.self.view_is c.args.segment c.from.result c.from.ensures there cells c.grow.new.self c.index_mut.ensures.value in
    ok_then c.grow.result c.grow.ensures.ok (λ grown.
    let long : length c.grow.new.self ≡ c.args.size = grown_size segments c.args.self.now c.self.view_is c.args.segment c.from.result c.from.ensures there cells c.grow.new.self c.index_mut.ensures.value c.args.size (omega (arith, size, c.requires.larger)) grown in
    sizes_changed segments c.args.self.now c.self.view_is c.args.segment c.from.result c.from.ensures there cells c.grow.new.self c.index_mut.ensures.value ∙ ap (λ (n : ℕ). set c.args.self.now.sizes c.args.segment n) long)

pub returns-clause-keeps : goal.returns-clause-keeps
returns-clause-keeps c =
    let segments = c.self.inside.segments.items in
    let count = ap (λ (m : MemoryRecord). length m.sizes) c.self.view_is in
    let there : c.from.result < length segments = omega (arith, c.requires.there, c.from.ensures, count, length-map segments (λ cells. length cells)) in
    ok_then c.grow.result c.grow.ensures.ok (λ grown. keeps segments c.args.self.now c.self.view_is c.args.segment c.from.result c.from.ensures there c.index_mut.result.now c.grow.new.self c.index_mut.ensures.value _ grown)
