use Rattle.std.proofs.Common.{◌≡◌, length, take, map}
use Rattle.std.specs.Int.{w32, to_be_bytes}
use Rattle.builtin_hash.proofs.programs.word_bytes.Given as goal

abbrev pub invariant-loop-place : goal.invariant-loop-place
invariant-loop-place l =
    (length l.pieces ≡ 8) × (take l.place l.pieces ≡ map (to_be_bytes w32) (take l.place l.words))
