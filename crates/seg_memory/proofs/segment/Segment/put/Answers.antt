use Rattle.std.proofs.Common.{rules, ◌<◌, refl}
use Rattle.cairo_model.specs.Views.Machine.{datum}
use Rattle.seg_memory.proofs.Paging.{page_inside, cell_inside, paged_with, listed_with, inside_size}
use Rattle.seg_memory.proofs.segment.Segment.put.Goals as goal

pub index_mut-requires : goal.index_mut-requires
index_mut-requires c =
    let inside : c.args.offset < c.self.inside.size = inside_size _ c.self.inside.size c.args.offset c.args.self.now c.self.view_is c.requires in
    let lt = page_inside (λ page. page.items) datum c.self.inside.pages.items c.self.inside.size c.self.invariant c.args.offset inside c.page_of.result _ c.page_of.ensures refl in
    search (rules, lt)

pub index_mut-requires-2 : goal.index_mut-requires-2
index_mut-requires-2 c =
    let inside : c.args.offset < c.self.inside.size = inside_size _ c.self.inside.size c.args.offset c.args.self.now c.self.view_is c.requires in
    let lt = cell_inside (λ page. page.items) datum c.self.inside.pages.items c.self.inside.size c.self.invariant c.args.offset inside _ _ c.page_of.ensures c.index_of.ensures c.index_mut.result.now c.index_mut.ensures.value in
    search (rules, lt)

pub invariant_of-self : goal.invariant_of-self
invariant_of-self c =
    let inside : c.args.offset < c.self.inside.size = inside_size _ c.self.inside.size c.args.offset c.args.self.now c.self.view_is c.requires in
    paged_with (λ page. page.items) datum c.self.inside.pages.items c.self.inside.size c.self.invariant c.args.offset inside _ _ c.page_of.ensures c.index_of.ensures c.index_mut.result.now c.index_mut.ensures.value _ c.args.value refl

pub returns : goal.returns
returns c =
    let inside : c.args.offset < c.self.inside.size = inside_size _ c.self.inside.size c.args.offset c.args.self.now c.self.view_is c.requires in
    listed_with (λ page. page.items) datum c.self.inside.pages.items c.self.inside.size c.self.invariant c.args.offset inside _ _ c.page_of.ensures c.index_of.ensures c.index_mut.result.now c.index_mut.ensures.value _ c.args.value c.args.self.now refl c.self.view_is
