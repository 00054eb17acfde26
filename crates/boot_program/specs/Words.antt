-- The bootloader's words, and the memories that hold a program's words (docs/BOOTLOADER.md).
use Rattle.std.specs.Prelude.{ℕ, zero, suc, ◌≡◌, List, slice_get, Option, Some, None}
use Rattle.boot_program.specs.declared.words.TheConstants.{BOOT, BOOT_CALLS, BOOT_END}

-- the words in order: the numbers stand in src/words.rt
abbrev pub boot_words : List ℕ
boot_words = BOOT

-- the address after the last word, where a batch's run ends
abbrev pub boot_end : ℕ
boot_end = BOOT_END

-- the addresses of the instructions that call a task, each with the mask of the builtins of the tasks that it calls
abbrev pub boot_calls : List (ℕ × ℕ)
boot_calls = BOOT_CALLS

-- the word at each address: the first stands at address 1
abbrev pub boot_code : ℕ → Option ℕ
boot_code zero = None
boot_code (suc i) = slice_get boot_words i

-- the memory holds the words of a program at their addresses
abbrev pub HasCode : (ℕ → Option ℕ) → (ℕ → Option ℕ) → Type 0
HasCode code m = (address word : ℕ) → code address ≡ Some word → m address ≡ Some word

-- the memory holds the bootloader
abbrev pub HasBoot : (ℕ → Option ℕ) → Type 0
HasBoot m = HasCode boot_code m
