use Rattle.std.proofs.Common.{◌≡◌, ℕ, List, ◌++◌, ap, ◌∙◌}
use Rattle.std.specs.Int.{w16, w32, w64, to_be_bytes}
use Rattle.cairo_model.specs.Pie.Files.{tag_of, payload_of}
use Rattle.cairo_model.specs.Views.Machine.{datum}
use Rattle.pie_format.proofs.Appending.{four_parts}
use Rattle.pie_format.proofs.writing.put_cell.Goals as goal

pub returns : goal.returns
returns c =
    let cell = c.args.cell.now in
    let tag = tag_of (datum cell.value) in
    let payload = payload_of (datum cell.value) in
    let tag_is : to_be_bytes w16 c.tag_of.result ≡ to_be_bytes w16 tag = ap (to_be_bytes w16) c.tag_of.ensures in
    let payload_is : to_be_bytes w64 c.payload_of.result ≡ to_be_bytes w64 payload = ap (to_be_bytes w64) c.payload_of.ensures in
    four_parts c.args.bytes.now.items c.put_number16.new.bytes.items c.put_number32.new.bytes.items c.put_number16-2.new.bytes.items c.put_number64.new.bytes.items
    (to_be_bytes w16 cell.place.segment) (to_be_bytes w32 cell.place.offset) (to_be_bytes w16 tag) (to_be_bytes w64 payload)
    c.in_ok-put_number16.ensures c.in_ok-put_number32.ensures (c.in_ok-put_number16-2.ensures ∙ ap (λ (t : List ℕ). c.put_number32.new.bytes.items ++ t) tag_is) (c.in_ok-put_number64.ensures ∙ ap (λ (t : List ℕ). c.put_number16-2.new.bytes.items ++ t) payload_is)
