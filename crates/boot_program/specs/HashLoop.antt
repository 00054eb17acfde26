-- The loop over hash instances.
use Rattle.std.specs.Prelude.{ℕ, zero, suc, ◌≡◌, ◌≢◌, ◌++◌, List, Option}
use Rattle.cairo_model.specs.Machine.Steps.{Registers}
use Rattle.cairo_model.specs.Machine.Addresses.{up, down}
use Rattle.boot_program.specs.Places.{block_pc}
use Rattle.boot_program.specs.Words.{boot_code}
use Rattle.boot_program.specs.Rows.{symbolic_state, rows_from}
use Rattle.boot_program.specs.Cells.{BlockCells}

-- One turn of the loop and so many more, from an instance, an address in the code and a number of words left: four words a
-- turn, some of them left after each turn but the last, and none after it.
unfoldable pub HashLoopCells : (ℕ → Option ℕ) → ℕ → ℕ → ℕ → ℕ → ℕ → ℕ → (ℕ → ℕ → ℕ) → (ℕ → ℕ → ℕ) → Type 0
HashLoopCells m f zero a instance code left words numbers = BlockCells m a f instance code left (words 0) (numbers 0) × (down left 4 ≡ 0)
HashLoopCells m f (suc more) a instance code left words numbers =
    BlockCells m a f instance code left (words 0) (numbers 0) × (down left 4 ≢ 0)
    × HashLoopCells m f more (up a 15) (up instance 20) (up code 4) (down left 4) (λ j. words (suc j)) (λ j. numbers (suc j))

-- the states after the first
unfoldable pub hash_loop_rows : (ℕ → Option ℕ) → ℕ → ℕ → ℕ → List (Registers ℕ)
hash_loop_rows m f zero a = rows_from boot_code 29 m (symbolic_state block_pc a f)
hash_loop_rows m f (suc more) a = rows_from boot_code 29 m (symbolic_state block_pc a f) ++ hash_loop_rows m f more (up a 15)

-- ap after the last turn
unfoldable pub hash_loop_end : ℕ → ℕ → ℕ
hash_loop_end zero a = up a 15
hash_loop_end (suc more) a = hash_loop_end more (up a 15)
