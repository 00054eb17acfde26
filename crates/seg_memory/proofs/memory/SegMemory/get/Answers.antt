use Rattle.std.proofs.Common.{rules, ◌≡◌, ◌<◌, ◌≤◌, length, ◌∙◌, arith}
use Rattle.seg_memory.proofs.Changes.{looked, none_past}
use Rattle.seg_memory.proofs.memory.SegMemory.get.Goals as goal

pub returns-then-index-len-clause-value : goal.returns-then-index-len-clause-value
returns-then-index-len-clause-value c =
    let count : c.len.result ≡ length c.self.inside.segments.items = search rules in
    let past : length c.self.inside.segments.items ≤ c.from-index.result = omega (arith, count, c.if-index-len.true) in
    none_past _ _ c.self.view_is c.args.place.segment c.args.place.offset c.from-index.result c.from-index.ensures past

pub returns-clause-value : goal.returns-clause-value
returns-clause-value c =
    let count : c.len.result ≡ length c.self.inside.segments.items = search rules in
    let there : c.from-index.result < length c.self.inside.segments.items = omega (arith, count, c.if-index-len.false) in
    c.get.ensures ∙ looked _ _ c.self.view_is c.args.place.segment c.args.place.offset c.from-index.result c.from-index.ensures c.index.result.now there c.index.ensures
