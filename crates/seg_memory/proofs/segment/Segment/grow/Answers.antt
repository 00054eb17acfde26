use Rattle.std.proofs.Common.{rules, ◌≡◌, ◌+◌, ◌-◌, ◌*◌, ◌/◌, ◌<◌, ◌≤◌, length, ap, ◌∙◌, arith}
use Rattle.std.proofs.lemmas.List.{length_push}
use Rattle.std.proofs.lemmas.Result.{err_from_is_err_and}
use Rattle.cairo_model.specs.Views.Machine.{datum}
use Rattle.seg_memory.specs.Working.Pages.{listed, page_cell}
use Rattle.seg_memory.proofs.Paging.{data_of, paged_longer, listed_longer, wide_enough, listed_wider}
use Rattle.seg_memory.proofs.segment.Segment.grow.Goals as goal

pub loop-alloc-init : goal.loop-alloc-init
loop-alloc-init c = record { paged = c.self.invariant; seen = c.self.view_is }

pub invariant_of-self : goal.invariant_of-self
invariant_of-self c = c.loop-alloc.invariant.paged

-- after want of memory the cells are the same
pub returns-in_err-empty_page-clause-err : goal.returns-in_err-empty_page-clause-err
returns-in_err-empty_page-clause-err c =
    let p = err_from_is_err_and c.from_residual.result c.from_residual.ensures.1 in
    rw p.1 c.loop-alloc.invariant.seen

pub loop-alloc-smaller : goal.loop-alloc-smaller
loop-alloc-smaller c =
    let count : c.len.result ≡ length c.loop-alloc.self-inside.pages.items = search rules in
    let longer : length c.push.new.self.items ≡ length c.loop-alloc.self-inside.pages.items + 1 = ap length c.in_ok-push.ensures.items ∙ length_push c.loop-alloc.self-inside.pages.items c.in_ok-empty_page.field-0 in
    let fewer : (c.args.size + 255) / 256 - length c.push.new.self.items < (c.args.size + 255) / 256 - length c.loop-alloc.self-inside.pages.items = omega (arith, count, longer, c.loop-alloc-test.true) in
    fewer

pub loop-alloc-preserved : goal.loop-alloc-preserved
loop-alloc-preserved c = record {
  paged = paged_longer (λ page. page.items) datum c.loop-alloc.self-inside.pages.items c.push.new.self.items c.in_ok-empty_page.field-0 c.in_ok-empty_page.ensures c.in_ok-push.ensures.items c.loop-alloc.self-inside.size c.loop-alloc.invariant.paged;
  seen = listed_longer (λ page. page.items) datum c.loop-alloc.self-inside.pages.items c.push.new.self.items c.in_ok-empty_page.field-0 c.in_ok-empty_page.ensures c.in_ok-push.ensures.items c.loop-alloc.self-inside.size ∙ c.loop-alloc.invariant.seen;
}

pub invariant_of-self-in_err-push : goal.invariant_of-self-in_err-push
invariant_of-self-in_err-push c = rw c.in_err-push.ensures.items c.loop-alloc.invariant.paged

pub returns-in_err-push-clause-err : goal.returns-in_err-push-clause-err
returns-in_err-push-clause-err c =
    let p = err_from_is_err_and c.from_residual-in_err-push.result c.from_residual-in_err-push.ensures.1 in
    rw p.1 (ap (λ pages. listed (page_cell (data_of (λ page. page.items) datum pages)) c.loop-alloc.self-inside.size) c.in_err-push.ensures.items ∙ c.loop-alloc.invariant.seen)

-- the pages have room, and behind the old cells no value stands in them
pub invariant_of-self-2 : goal.invariant_of-self-2
invariant_of-self-2 c =
    let count : c.len.result ≡ length c.loop-alloc.self-inside.pages.items = search rules in
    let room : c.args.size ≤ 256 * length c.loop-alloc.self-inside.pages.items = omega (arith, count, c.loop-alloc-test.false) in
    wide_enough (λ page. page.items) datum c.loop-alloc.self-inside.pages.items c.loop-alloc.self-inside.size c.args.size c.loop-alloc.invariant.paged c.args.self.now c.loop-alloc.invariant.seen c.requires.larger room

pub returns-clause-ok : goal.returns-clause-ok
returns-clause-ok c = listed_wider _ c.loop-alloc.self-inside.size c.args.size c.loop-alloc.invariant.paged c.args.self.now c.loop-alloc.invariant.seen c.requires.larger
