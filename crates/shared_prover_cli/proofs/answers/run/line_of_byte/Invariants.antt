use Rattle.std.proofs.Common.{◌≡◌, ◌+◌, ◌==◌, take}
use Rattle.std.specs.List.{count_by}
use Rattle.shared_prover_cli.proofs.answers.run.line_of_byte.Given as goal

-- the line feeds that were passed
abbrev pub invariant-loop-byte : goal.invariant-loop-byte
invariant-loop-byte l = l.line ≡ count_by (λ c. c == 10) (take l.byte-index l.bytes) + 1
