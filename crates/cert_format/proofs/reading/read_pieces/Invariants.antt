use Rattle.std.proofs.Common.{take}
use Rattle.std.specs.List.{flat_map}
use Rattle.cert_format.specs.Feeding.{IsFed}
use Rattle.cert_format.proofs.reading.read_pieces.Given as goal

abbrev pub invariant-loop-piece : goal.invariant-loop-piece
invariant-loop-piece l = IsFed l.reader (flat_map (λ piece. piece.now) (take l.piece-index l.pieces))
