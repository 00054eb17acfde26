use Rattle.casm_text.proofs.lister.listing.Given as goal
use Rattle.casm_text.proofs.Walking.{Told}
use Rattle.std.proofs.Common.{◌+◌, ◌-◌, ◌≤◌, length}
use Rattle.std.specs.Prelude.{string_bytes}

abbrev pub invariant-loop-at : goal.invariant-loop-at
invariant-loop-at l = record { within : l.at ≤ length l.words + 1; told : Told l.words (string_bytes l.text) l.at }

abbrev pub decreases-loop-at : goal.decreases-loop-at
decreases-loop-at l = length l.words - l.at
