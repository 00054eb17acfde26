use Rattle.std.proofs.Common.{◌≡◌, drop}
use Rattle.row_checker.specs.Working.Chunks.{first_of}
use Rattle.row_checker.proofs.chunks.first_answer.Given as goal

abbrev pub invariant-loop-answer : goal.invariant-loop-answer
invariant-loop-answer l = first_of (drop l.answer-index l.answers) ≡ first_of l.answers
