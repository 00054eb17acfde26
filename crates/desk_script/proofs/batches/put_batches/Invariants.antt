use Rattle.std.proofs.Common.{◌≡◌, ◌++◌, drop}
use Rattle.desk_script.specs.Transcripts.{batches_text}
use Rattle.desk_script.proofs.batches.put_batches.Given as goal

-- with the lines of the batches that are left, the text is that of all
abbrev pub invariant-loop-number : goal.invariant-loop-number
invariant-loop-number l = l.text.items ++ batches_text l.jobs l.number (drop l.number l.batches) ≡ l.fn.text.items ++ batches_text l.jobs 0 l.batches
