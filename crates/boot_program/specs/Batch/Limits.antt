-- The limits of a batch (docs/BOOTLOADER.md). The code's constants stand in src/limits.rt.
use Rattle.std.specs.Prelude.{ℕ}

-- the most tasks
abbrev pub most_batch_tasks : ℕ
most_batch_tasks = 16

-- the most steps that the tasks' isolated runs have together
abbrev pub most_batch_steps : ℕ
most_batch_steps = 262144

-- the most cells that the tasks' segments have room for together
abbrev pub most_batch_cells : ℕ
most_batch_cells = 262144

-- the most words of the bootloader
abbrev pub most_boot_words : ℕ
most_boot_words = 1024
