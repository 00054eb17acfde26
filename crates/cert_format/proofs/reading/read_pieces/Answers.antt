use Rattle.std.proofs.Common.{◌≡◌, take, subst, arith}
use Rattle.std.specs.List.{flat_map}
use Rattle.std.proofs.lemmas.List.{take_all}
use Rattle.cert_format.specs.Feeding.{IsFed}
use Rattle.cert_format.proofs.reading.read_pieces.Goals as goal

pub returns-clause-refused : goal.returns-clause-refused
returns-clause-refused c r same =
    let all : take c.loop-piece.piece-index c.args.pieces.now ≡ c.args.pieces.now = take_all c.loop-piece.piece-index c.args.pieces.now (omega (arith, c.loop-piece-test.false)) in
    c.finish.ensures.refused r same _ (subst (λ ps. IsFed c.loop-piece.reader (flat_map (λ piece. piece.now) ps)) all c.loop-piece.invariant)

pub returns-clause-only : goal.returns-clause-only
returns-clause-only c r same =
    let all : take c.loop-piece.piece-index c.args.pieces.now ≡ c.args.pieces.now = take_all c.loop-piece.piece-index c.args.pieces.now (omega (arith, c.loop-piece-test.false)) in
    c.finish.ensures.only r same _ (subst (λ ps. IsFed c.loop-piece.reader (flat_map (λ piece. piece.now) ps)) all c.loop-piece.invariant)
