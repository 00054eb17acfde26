use Rattle.std.proofs.Common.{◌≡◌, Ok, OnOk, Result, option_map, sym, subst, ◌∙◌}
use Rattle.cairo_model.specs.Views.Machine.{datum, registers}
use Rattle.cairo_word.specs.Instructions.{fields}
use Rattle.seg_runner.proofs.Parts.{first_puts}
use Rattle.seg_runner.specs.Memories.{GrowingMemory}
use Rattle.seg_runner.specs.Refusals.{RunCause}
use Rattle.seg_runner.specs.Working.Seen.{growing, place_datum}
use Rattle.seg_runner.proofs.stepping.put_first.Goals as goal

pub returns-clause-ok : goal.returns-clause-ok
returns-clause-ok c =
    let of = c.args.of.now in
    let whole = first_puts of.number (growing c.args.memory.now) (growing c.put_by_hash.new.memory) (growing c.put_by_hash-2.new.memory) (growing c.put_where_absent.new.memory)
    (fields of.instruction) (registers of.state) (place_datum of.dst) (place_datum of.op0) (option_map datum c.return_address-back.result) (option_map datum c.caller_frame-frame.result)
    c.return_address-back.ensures c.caller_frame-frame.ensures c.in_ok-put_by_hash.ensures.ok c.in_ok-put_by_hash-2.ensures.ok c.in_ok-put_where_absent.ensures.ok in
    subst (λ (r : Result GrowingMemory RunCause). OnOk c.put_where_absent-2.result (r ≡ Ok (growing c.put_where_absent-2.new.memory))) whole c.put_where_absent-2.ensures.ok

pub returns-clause-refused : goal.returns-clause-refused
returns-clause-refused c = λ e same.
    let of = c.args.of.now in
    let whole = first_puts of.number (growing c.args.memory.now) (growing c.put_by_hash.new.memory) (growing c.put_by_hash-2.new.memory) (growing c.put_where_absent.new.memory)
    (fields of.instruction) (registers of.state) (place_datum of.dst) (place_datum of.op0) (option_map datum c.return_address-back.result) (option_map datum c.caller_frame-frame.result)
    c.return_address-back.ensures c.caller_frame-frame.ensures c.in_ok-put_by_hash.ensures.ok c.in_ok-put_by_hash-2.ensures.ok c.in_ok-put_where_absent.ensures.ok in
    sym whole ∙ c.put_where_absent-2.ensures.refused e same
