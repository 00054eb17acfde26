use Rattle.std.proofs.Common.{arith}
use Rattle.std.proofs.Math.Seq.{take-add}
use Rattle.std.proofs.lemmas.List.{take_rest}
use Rattle.std.proofs.KnownBytes.{Appends-trans}
use Rattle.shared_prover_cli.proofs.whole.write_whole.Goals as goal

-- the bytes written so far, and then those that this write took
pub loop-done-preserved : goal.loop-done-preserved
loop-done-preserved g c =
    let text = c.args.text.now in
    let done = c.loop-done.done in
    let took = c.in_ok-done.ensures in
    let taken = rw (take_rest text done) at took.bytes in
    let all = Appends-trans _ _ _ _ _ c.loop-done.invariant.0 taken in
    (rw (take-add done c.in_ok-done.field-0 text) all, omega (arith, took.cause.later), omega (arith, took.bound))
