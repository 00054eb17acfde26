-- The listing is that of the words, by decoding them once.
use Rattle.std.proofs.Common.{◌≡◌, zero, suc, arith, false, All, is_some, refl}
use Rattle.boot_program.specs.Words.{boot_calls, boot_code, boot_end}
use Rattle.boot_program.specs.Places.{entry_pc}
use Rattle.boot_program.specs.Rows.{decoded_at}
use Rattle.boot_program.specs.Instructions.{HasInstructions, IsCallOfTasks, boot_listing, addresses_from, address_after}

pub is_listed : HasInstructions boot_code entry_pc boot_end boot_listing
unfolding addresses_from address_after
is_listed = record { instructions = refl; ends = refl }

-- there is no instruction at the end
pub boot_stops : is_some (decoded_at boot_code boot_end) ≡ false
boot_stops = refl

-- each site of a call has the instruction that calls a task
pub are_calls : All IsCallOfTasks boot_calls
are_calls zero call lt = (refl, refl)
are_calls (suc k) call lt = absurd (omega (arith, lt))
