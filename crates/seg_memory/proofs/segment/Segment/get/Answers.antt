use Rattle.std.proofs.Common.{rules, List, Option, None, get_or, sym, ap, ◌∙◌, arith}
use Rattle.cairo_model.specs.Views.Machine.{datum}
use Rattle.seg_memory.proofs.Paging.{past_listed, at_listed, cell_inside, cell_is}
use Rattle.seg_memory.proofs.segment.Segment.get.Goals as goal

pub returns-then-offset-self : goal.returns-then-offset-self
returns-then-offset-self c = sym (past_listed _ c.self.inside.size c.args.offset (omega arith)) ∙ ap (λ (cells : List (Option _)). get_or cells c.args.offset None) c.self.view_is

pub index-requires-2 : goal.index-requires-2
index-requires-2 c =
    let lt = cell_inside (λ page. page.items) datum c.self.inside.pages.items c.self.inside.size c.self.invariant c.args.offset (omega arith) _ _ c.page_of.ensures c.index_of.ensures c.index.result.now c.index.ensures in
    search (rules, lt)

pub returns : goal.returns
returns c =
    cell_is (λ page. page.items) datum c.self.inside.pages.items c.self.inside.size c.self.invariant c.args.offset (omega arith) _ _ c.page_of.ensures c.index_of.ensures c.index.result.now c.index.ensures c.index-2.result.now c.index-2.ensures
    ∙ (sym (at_listed _ c.self.inside.size c.args.offset None (omega arith)) ∙ ap (λ (cells : List (Option _)). get_or cells c.args.offset None) c.self.view_is)
