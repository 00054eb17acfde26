use Rattle.std.proofs.Common.{◌≡◌, ℕ, length, [], ◌∷◌, Option, ap, ◌∙◌, arith}
use Rattle.cairo_model.specs.Machine.Values.{Datum, place}
use Rattle.seg_runner.proofs.Rows.{start_is}
use Rattle.seg_runner.proofs.starting.start_memory.Goals as goal

pub put_frame-requires-clause-free : goal.put_frame-requires-clause-free
put_frame-requires-clause-free c = λ o. ap (λ (f : Datum → Option Datum). f (place 1 o)) c.put_code.ensures.cells ∙ c.in_ok-memory.ensures.empty 1 o

pub returns-clause-ok : goal.returns-clause-ok
returns-clause-ok c =
    let words = c.args.code.now.words.items in
    let size : c.len-size.result ≡ length words = omega arith in
    start_is words c.in_ok-memory.memory c.put_code.new.memory c.put_frame.new.memory c.in_ok-memory.ensures.empty c.put_code.ensures.cells c.put_frame.ensures.cells
    (c.put_frame.ensures.sizes ∙ c.put_code.ensures.sizes ∙ c.in_ok-memory.ensures.sizes ∙ ap (λ (n : ℕ). n ∷ 5 ∷ 0 ∷ 0 ∷ 0 ∷ 0 ∷ 0 ∷ []) size)
