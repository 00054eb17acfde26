-- What a task's header says, over any field memory.
use Rattle.std.specs.Prelude.{ℕ, ◌≡◌, ◌+◌, List, length, slice_index, Option, Some}
use Rattle.builtin_hash.specs.Programs.{program_hash_of}
use Rattle.cairo_model.specs.Segments.{builtin_mask}
use Rattle.cairo_model.specs.Machine.Addresses.{up}
use Rattle.boot_program.specs.Cells.{Eight}
use Rattle.boot_program.specs.Instances.{CodeAt, InstanceAt, InstancesAt}
use Rattle.boot_program.specs.Turns.{TurnValues}

-- The cells from the program's address on are a code of the length that the frame names, and the header's words are the program
-- hash of main and this code.
pub record HeaderIsTrue (m : ℕ → Option ℕ) (n : TurnValues) : Type 0 where
  pub code : List ℕ
  pub is_length : length code ≡ n.task.length
  pub there : CodeAt m n.task.program code
  pub prints : Eight (λ i. m (up n.header (1 + i)) ≡ Some (slice_index (program_hash_of n.task.main builtin_mask code) i))

-- the hash instances that the bootloader goes through for a task are whole
pub record InstancesHold (m : ℕ → Option ℕ) (n : TurnValues) : Type 0 where
  pub first : InstanceAt m n.hash
  pub others : InstancesAt m n.more (up n.hash 20)
