use Rattle.std.proofs.Common.{rules, ◌≡◌, ◌≤◌, List, length, map, ap, arith}
use Rattle.std.proofs.lemmas.List.{length-map}
use Rattle.cairo_model.specs.Pie.Records.{PieRecord}
use Rattle.cairo_model.specs.declared.pie.PieCell.{PieCell}
use Rattle.cairo_model.specs.Views.Pie.{memory_cell}
use Rattle.pie_format.specs.Writing.{file_of}
use Rattle.cairo_model.proofs.CellCount.{few_cells}
use Rattle.pie_format.proofs.WritingLaws.{is_file}
use Rattle.pie_format.proofs.writing.write.Goals as goal

pub put_cells-requires : goal.put_cells-requires
put_cells-requires c =
    let few : length c.args.pie.now.cells ≤ 65536 = few_cells c.args.pie.now c.requires in
    let same : length (map memory_cell c.pie.inside.cells.items) ≡ length c.args.pie.now.cells = ap (λ (p : PieRecord). length p.cells) c.pie.view_is in
    omega (arith, few, same, length-map c.pie.inside.cells.items memory_cell, ap (λ (x : List PieCell). length x) c.as_slice-3.ensures.value)

pub returns-clause-file : goal.returns-clause-file
returns-clause-file c =
    let layout : c.put_cells.new.bytes.items ≡ file_of c.args.pie.now = search rules in
    is_file c.put_cells.new.bytes.items c.in_ok-text.text.items c.args.pie.now c.requires c.in_ok-text.ensures.text c.in_ok-text.ensures.short c.in_ok-text.ensures.says layout
