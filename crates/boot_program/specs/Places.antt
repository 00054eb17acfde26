-- The addresses between which the bootloader's stretches lie (docs/BOOTLOADER.md).
use Rattle.std.specs.Prelude.{ℕ}

-- where a batch's run begins
abbrev pub entry_pc : ℕ
entry_pc = 1

-- the head of the loop over tasks: it calls the bootloader's own routine for a task
abbrev pub tasks_pc : ℕ
tasks_pc = 6

-- the jump back to that head, while tasks are left
abbrev pub branch_pc : ℕ
branch_pc = 8

-- the return that ends the batch's run
abbrev pub exit_pc : ℕ
exit_pc = 10

-- the head of the loop over hash instances
abbrev pub block_pc : ℕ
block_pc = 46

-- the end of that loop, where the header is compared
abbrev pub header_pc : ℕ
header_pc = 80

-- the call of a task
abbrev pub call_pc : ℕ
call_pc = 105

-- the address after it, where the task returns to
abbrev pub return_pc : ℕ
return_pc = 106
