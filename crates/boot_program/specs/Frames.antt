-- The bootloader's own cells for a task, in the order of their addresses.
use Rattle.std.specs.Prelude.{ℕ, zero, suc, ◌≡◌, ◌≢◌, ◌-◌, ◌++◌, List, [], ◌∷◌, Option}
use Rattle.goldi_field.specs.Numbers.{prime, sum_of, product_of}
use Rattle.cairo_model.specs.Machine.Addresses.{up, down}
use Rattle.cairo_model.specs.Segments.{builtin_mask}
use Rattle.boot_program.specs.Places.{branch_pc, return_pc}
use Rattle.boot_program.specs.Cells.{TaskInputs, Stops, frame_at, code_end, with_low_bit, with_high_bit, padded_length}
use Rattle.boot_program.specs.Instances.{InOrderFrom, instance_end, eight, four}
use Rattle.boot_program.specs.Turns.{TurnValues, call_at}

-- a turn of the loop over hash instances: the three cells before it, its words and numbers
abbrev pub turn_list : ℕ → ℕ → ℕ → (ℕ → ℕ) → (ℕ → ℕ) → List ℕ
turn_list instance code left w d = instance ∷ code ∷ left
    ∷ w 0 ∷ w 1 ∷ w 2 ∷ w 3 ∷ w 4 ∷ w 5 ∷ w 6 ∷ w 7 ∷ d 0 ∷ d 1 ∷ d 2 ∷ d 3 ∷ []

-- all turns, with the three cells after the last
unfoldable pub loop_list : ℕ → ℕ → ℕ → ℕ → (ℕ → ℕ → ℕ) → (ℕ → ℕ → ℕ) → List ℕ
loop_list zero instance code left ws ds = turn_list instance code left (ws 0) (ds 0) ++ (up instance 20 ∷ up code 4 ∷ down left 4 ∷ [])
loop_list (suc more) instance code left ws ds = turn_list instance code left (ws 0) (ds 0)
    ++ loop_list more (up instance 20) (up code 4) (down left 4) (λ j. ws (suc j)) (λ j. ds (suc j))

-- the instances that the turns go through, from the eight cells before the first
unfoldable pub hash_list : ℕ → (ℕ → ℕ → ℕ) → (ℕ → ℕ → ℕ) → List ℕ
hash_list zero ws ds = eight (ws 0) ++ (eight (ws 0) ++ four (ds 0))
hash_list (suc more) ws ds = eight (ws 0) ++ (eight (ws 0) ++ (four (ds 0) ++ hash_list more (λ j. ws (suc j)) (λ j. ds (suc j))))

-- the code words that they take, four each
unfoldable pub code_list : ℕ → (ℕ → ℕ → ℕ) → List ℕ
code_list zero ds = four (ds 0)
code_list (suc more) ds = four (ds 0) ++ code_list more (λ j. ds (suc j))

-- words are left before each turn and none after the last
unfoldable pub Counts : ℕ → ℕ → Type 0
Counts zero left = down left 4 ≡ 0
Counts (suc more) left = (down left 4 ≢ 0) × Counts more (down left 4)

-- The frame of a task, from six cells below its frame pointer on: the cells for this task, the caller's frame pointer and the
-- return address; its inputs and gap; its stops and its header's first cell; constants and sums.
abbrev pub own_head : ℕ → ℕ → TurnValues → ℕ → ℕ → Stops → List ℕ
own_head caller left n gap distance stops = left ∷ n.header ∷ n.range ∷ n.hash ∷ caller ∷ branch_pc
    ∷ n.task.program ∷ n.task.main ∷ n.task.length ∷ n.task.low_bit ∷ n.task.high_bit ∷ gap ∷ stops.output ∷ stops.range ∷ stops.hash ∷ distance
    ∷ 0 ∷ 1 ∷ builtin_mask ∷ up n.task.length 4 ∷ code_end n.task ∷ sum_of n.task.program n.task.main ∷ with_low_bit n.task ∷ with_high_bit n.task ∷ []

-- the turns of the loop
abbrev pub own_blocks : TurnValues → List ℕ
own_blocks n = loop_list n.more (up n.hash 20) n.task.program (padded_length n.task) n.words n.numbers

-- the header's words and the program, just below the task's first cell
abbrev pub own_tail : TurnValues → List ℕ
own_tail n = eight n.digest ++ (n.task.program ∷ n.task.main ∷ n.task.length ∷ [])

-- all of a task's cells up to its segment 1
abbrev pub own_list : ℕ → ℕ → TurnValues → ℕ → ℕ → Stops → List ℕ
own_list caller left n gap distance stops = own_head caller left n gap distance stops ++ (own_blocks n ++ own_tail n)

-- the words and numbers of a task's first hash instance
abbrev pub first_inputs : TaskInputs → List ℕ
first_inputs task = 0 ∷ 0 ∷ 0 ∷ 0 ∷ 0 ∷ 0 ∷ 0 ∷ up task.length 4 ∷ 1 ∷ task.main ∷ task.length ∷ builtin_mask ∷ []

-- the bootloader's hash instances for a task, one after the other
abbrev pub own_hash : TurnValues → List ℕ
own_hash n = first_inputs n.task ++ (hash_list n.more n.words n.numbers ++ eight n.digest)

-- All cells that a task needs up to its call stand in order: its own, the hash instances, the header, the code and three zeros,
-- and the first five cells of the task's own frame.
pub record HoldsTurn (m : ℕ → Option ℕ) (a caller left : ℕ) (n : TurnValues) (gap distance : ℕ) (stops : Stops) : Type 0 where
  pub low_is_bit : n.task.low_bit ≡ product_of n.task.low_bit n.task.low_bit
  pub high_is_bit : n.task.high_bit ≡ product_of n.task.high_bit n.task.high_bit
  pub counts : Counts n.more (padded_length n.task)
  pub own : InOrderFrom m (frame_at a) (prime - 6) (own_list caller left n gap distance stops)
  pub hashes : InOrderFrom m n.hash 0 (own_hash n)
  pub header : InOrderFrom m n.header 0 (distance ∷ eight n.digest)
  pub zeros : InOrderFrom m (code_end n.task) 0 (0 ∷ 0 ∷ 0 ∷ [])
  pub code : InOrderFrom m n.task.program 0 (code_list n.more n.numbers)
  pub pointers : InOrderFrom m (call_at a n) (prime - 3) (up n.header 9 ∷ n.range ∷ instance_end n.more (up n.hash 20) ∷ frame_at a ∷ return_pc ∷ [])
