-- The exit statuses as numbers.
use Rattle.std.specs.Prelude.{ℕ}
use Rattle.shared_prover_cli.specs.declared.status.Status.{Status}
use Rattle.shared_prover_cli.specs.declared.status.Status.TheVariants.{Done, Refused, Usage, Script, ReadFault, WriteFault, OutOfMemory, TooLong}

abbrev pub number_of : Status → ℕ
number_of Done = 0
number_of Refused = 1
number_of Usage = 2
number_of Script = 3
number_of ReadFault = 4
number_of WriteFault = 5
number_of OutOfMemory = 6
number_of TooLong = 7
