use Rattle.std.proofs.Common.{◌≡◌, drop}
use Rattle.desk_script.specs.Working.Numbers.{all_digits}
use Rattle.desk_script.proofs.numbers.are_digits.Given as goal

abbrev pub invariant-loop-digit : goal.invariant-loop-digit
invariant-loop-digit l = all_digits (drop l.digit-index l.field) ≡ all_digits l.field
