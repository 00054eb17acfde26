use Rattle.std.proofs.Common.{◌≡◌, drop}
use Rattle.std.specs.Str.Parse.{digits_value_after}
use Rattle.casm_text.specs.Words.{value_of}
use Rattle.casm_text.proofs.values.value.Given as goal

-- the digits left, after the number so far, give the number
abbrev pub invariant-loop-digit : goal.invariant-loop-digit
invariant-loop-digit l = digits_value_after 10 l.value (drop l.digit-index l.digits) ≡ value_of l.digits
