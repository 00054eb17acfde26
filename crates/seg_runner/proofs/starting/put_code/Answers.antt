use Rattle.std.proofs.Common.{ℕ, List, length, map, slice_index, Some, option_map, refl, sym, ap, ◌∙◌, arith}
use Rattle.std.proofs.lemmas.List.{length-map}
use Rattle.std.proofs.lemmas.Option.{slice_get-map, slice_get_read}
use Rattle.cairo_model.specs.Machine.Values.{number}
use Rattle.seg_memory.specs.Memory.{memory_in}
use Rattle.seg_runner.proofs.Rows.{row_begun, row_free, row_more, row_whole}
use Rattle.seg_runner.proofs.starting.put_code.Goals as goal

pub loop-offset-init : goal.loop-offset-init
loop-offset-init c = record { sizes = refl; cells = row_begun c.args.memory.now 0 (map number c.args.code.now.words.items) c.requires.free }

pub put_cell-requires-clause-inside : goal.put_cell-requires-clause-inside
put_cell-requires-clause-inside c =
    let same = ap (λ (ss : List ℕ). slice_index ss 0) c.loop-offset.invariant.sizes in
    let size = c.requires.sizes in
    omega arith

pub put_cell-requires-clause-free : goal.put_cell-requires-clause-free
put_cell-requires-clause-free c =
    row_free (memory_in c.args.memory.now) 0 (map number c.args.code.now.words.items) c.loop-offset.memory c.loop-offset.offset c.loop-offset.invariant.cells

pub loop-offset-preserved : goal.loop-offset-preserved
loop-offset-preserved c =
    let words = c.args.code.now.words.items in
    let k = c.loop-offset.offset in
    let read = slice_get_read words (length words) k c.index.result.now refl (omega arith) c.index.ensures in
    let is = slice_get-map number words k ∙ ap (option_map number) read ∙ ap (λ (n : ℕ). Some (number n)) (sym c.felt_below.ensures) in
    record {
      sizes = c.put_cell.ensures.sizes ∙ c.loop-offset.invariant.sizes;
      cells = row_more (memory_in c.args.memory.now) 0 (map number words) c.loop-offset.memory c.put_cell.new.memory k (number c.felt_below.result.number) c.loop-offset.invariant.cells is c.put_cell.ensures;
    }

pub returns : goal.returns
returns c =
    let words = c.args.code.now.words.items in
    let long = length-map words number in
    record {
      sizes = c.loop-offset.invariant.sizes;
      cells = c.loop-offset.invariant.cells ∙ row_whole (memory_in c.args.memory.now) 0 (map number words) c.loop-offset.offset (omega arith);
    }
