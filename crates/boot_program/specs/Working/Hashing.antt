-- What lies between the cells of the loop over hash instances and the hash that it makes.
use Rattle.std.specs.Prelude.{ℕ, zero, suc, ◌≡◌, ◌-◌, ◌++◌, List, [], ◌∷◌, slice_index, Option, Some}
use Rattle.builtin_hash.specs.Instances.{instance_of}
use Rattle.cairo_model.specs.Machine.Addresses.{up, down}
use Rattle.cairo_model.specs.Machine.Steps.{Registers, field_arithmetic, RunFrom, last_of}
use Rattle.boot_program.specs.Places.{block_pc, header_pc}
use Rattle.boot_program.specs.Rows.{cell_value}
use Rattle.boot_program.specs.Cells.{Eight, state}
use Rattle.boot_program.specs.HashLoop.{HashLoopCells, hash_loop_rows, hash_loop_end}
use Rattle.boot_program.specs.Instances.{four}

-- the eight cells before an address hold these words
abbrev pub WordsBefore : (ℕ → Option ℕ) → ℕ → List ℕ → Type 0
WordsBefore m x words = Eight (λ i. m (down x (8 - i)) ≡ Some (slice_index words i))

-- the words after one instance and so many more, each over four numbers
unfoldable pub words_through : ℕ → List ℕ → (ℕ → ℕ → ℕ) → List ℕ
words_through zero words numbers = instance_of words (four (numbers 0))
words_through (suc more) words numbers = words_through more (instance_of words (four (numbers 0))) (λ j. numbers (suc j))

-- so many cells from an address on, the first of them i above it
unfoldable pub cells_on : (ℕ → Option ℕ) → ℕ → ℕ → ℕ → List ℕ
cells_on m x i zero = []
cells_on m x i (suc n) = cell_value m (up x i) ∷ cells_on m x (suc i) n

-- A run that goes through the loop from these values to its end, and on from there.
pub record PassesLoop (m : ℕ → Option ℕ) (f a instance code left : ℕ) (ts : List (Registers ℕ)) : Type 0 where
  pub more : ℕ
  pub words : ℕ → ℕ → ℕ
  pub numbers : ℕ → ℕ → ℕ
  pub rest : List (Registers ℕ)
  pub turns : HashLoopCells m f more a instance code left words numbers
  pub parts : ts ≡ hash_loop_rows m f more a ++ rest
  pub goes_on : RunFrom field_arithmetic m (state header_pc (hash_loop_end more a) f) rest
  pub to_end : last_of (state header_pc (hash_loop_end more a) f) rest ≡ last_of (state block_pc a f) ts
