-- Over any field memory: a turn's header prints the program hash of the cells that its frame names.
use Rattle.std.proofs.Common.{◌≡◌, ℕ, zero, suc, ◌+◌, ◌*◌, ◌<◌, ◌≤◌, ◌^◌, List, length, slice_index, Option, Some, refl, sym, ap, ◌∙◌, subst, arith}
use Rattle.goldi_field.specs.Numbers.{prime}
use Rattle.builtin_hash.specs.Programs.{program_hash_of}
use Rattle.cairo_model.specs.Machine.Addresses.{up, down}
use Rattle.boot_program.specs.Working.Hashing.{WordsBefore, cells_on}
use Rattle.cairo_model.specs.Machine.FieldMemories.{IsFieldMemory}
use Rattle.boot_program.specs.Rows.{cell_value}
use Rattle.boot_program.specs.Cells.{HeaderCells, BlockCells, IsPresent, Eight, frame_at, padded_length}
use Rattle.boot_program.specs.HashLoop.{HashLoopCells}
use Rattle.boot_program.specs.Instances.{CodeAt, instance_end}
use Rattle.boot_program.specs.Turns.{TurnValues, TurnCells, hash_loop_start}
use Rattle.boot_program.specs.Headers.{HeaderIsTrue, InstancesHold}
use Rattle.boot_program.proofs.InstanceLaws.{up_up}
use Rattle.boot_program.proofs.TaskHash.{task_hash, bit, turns_left}
use Rattle.boot_program.proofs.Statements.{here}

four_on : (code k : ℕ) → up code (4 + k) ≡ up code (suc (suc (suc (suc k))))
four_on code k = omega arith

module _ (m : ℕ → Option ℕ) where
  first_turn : (f more a instance code left : ℕ) (ws ds : ℕ → ℕ → ℕ) → HashLoopCells m f more a instance code left ws ds → BlockCells m a f instance code left (ws 0) (ds 0)
  unfolding HashLoopCells
  first_turn f zero a instance code left ws ds turns = turns.0
  first_turn f (suc more) a instance code left ws ds turns = turns.0

  -- each word that the turns read is there
  loop_there : (f more a instance code left : ℕ) (ws ds : ℕ → ℕ → ℕ) → HashLoopCells m f more a instance code left ws ds → (k : ℕ) → k < 4 * (more + 1) → IsPresent m (up code k)
  unfolding HashLoopCells
  loop_there f more a instance code left ws ds turns zero lt = here m _ (ds 0 0) (first_turn f more a instance code left ws ds turns).code_words.0
  loop_there f more a instance code left ws ds turns (suc zero) lt = here m _ (ds 0 1) (first_turn f more a instance code left ws ds turns).code_words.1
  loop_there f more a instance code left ws ds turns (suc (suc zero)) lt = here m _ (ds 0 2) (first_turn f more a instance code left ws ds turns).code_words.2
  loop_there f more a instance code left ws ds turns (suc (suc (suc zero))) lt = here m _ (ds 0 3) (first_turn f more a instance code left ws ds turns).code_words.3
  loop_there f zero a instance code left ws ds turns (suc (suc (suc (suc k)))) lt = absurd (omega (arith, lt))
  loop_there f (suc more) a instance code left ws ds turns (suc (suc (suc (suc k)))) lt =
      subst (λ (x : ℕ). IsPresent m x) (up_up code 4 k ∙ four_on code k)
      (loop_there f more (up a 15) (up instance 20) (up code 4) (down left 4) (λ j. ws (suc j)) (λ j. ds (suc j)) turns.2 k (omega (arith, lt)))

  length_cells : (x i n : ℕ) → length (cells_on m x i n) ≡ n
  unfolding cells_on
  length_cells x i zero = refl
  length_cells x i (suc n) = ap suc (length_cells x (suc i) n)

  cells_there : (x i n j : ℕ) → j < n → slice_index (cells_on m x i n) j ≡ cell_value m (up x (i + j))
  unfolding cells_on
  cells_there x i zero j lt = absurd (omega (arith, lt))
  cells_there x i (suc n) zero lt = let same : up x i ≡ up x (i + 0) = omega arith in ap (cell_value m) same
  cells_there x i (suc n) (suc j) lt = let same : up x (suc i + j) ≡ up x (i + suc j) = omega arith in cells_there x (suc i) n j (omega (arith, lt)) ∙ ap (cell_value m) same

  pub header_true : IsFieldMemory m → (a caller : ℕ) (n : TurnValues) → TurnCells m a caller n → InstancesHold m n → n.more < 2 ^ 32 → HeaderIsTrue m n
  header_true field a caller n cells instances few =
      let task = n.task in
      let prologue = cells.prologue in
      let one_bit = bit task.low_bit (field _ _ prologue.low_bit) prologue.low_is_bit in
      let two_bit = bit task.high_bit (field _ _ prologue.high_bit) prologue.high_is_bit in
      let fits : task.length < prime = field _ _ prologue.length in
      let count = turns_left m (frame_at a) n.more (hash_loop_start a) (up n.hash 20) task.program (padded_length task) n.words n.numbers (omega arith) cells.turns in
      let code = cells_on m task.program 0 task.length in
      let whole : length code ≡ task.length = length_cells task.program 0 task.length in
      let inside : task.length ≤ 4 * (n.more + 1) = omega (arith, count, fits, one_bit, two_bit, few) in
      let there : CodeAt m task.program code = λ i lt.
      let below : i < task.length = omega (arith, lt, whole) in
      let same : up task.program i ≡ up task.program (0 + i) = omega arith in
      loop_there (frame_at a) n.more (hash_loop_start a) (up n.hash 20) task.program (padded_length task) n.words n.numbers cells.turns i (omega (arith, below, inside))
      ∙ ap Some (ap (cell_value m) same ∙ sym (cells_there task.program 0 task.length i below)) in
      let hashed = task_hash m caller a n.hash task prologue code there whole fits one_bit two_bit n.more few n.words n.numbers cells.turns instances.first instances.others in
      record { code = code; is_length = whole; there = there; prints = printed n.header (instance_end n.more (up n.hash 20)) (program_hash_of task.main 7 code) hashed cells.header_cells }
    where
      printed : {e f range program main length_is : ℕ} {digest : ℕ → ℕ} (header hash : ℕ) (words : List ℕ) → WordsBefore m hash words → HeaderCells m e f header range hash program main length_is digest
          → Eight (λ i. m (up header (1 + i)) ≡ Some (slice_index words i))
      printed header hash words before header_cells = let w = header_cells.words_before in let p = header_cells.words_in in (
        p.0 ∙ sym w.0 ∙ before.0,
        p.1 ∙ sym w.1 ∙ before.1,
        p.2 ∙ sym w.2 ∙ before.2,
        p.3 ∙ sym w.3 ∙ before.3,
        p.4 ∙ sym w.4 ∙ before.4,
        p.5 ∙ sym w.5 ∙ before.5,
        p.6 ∙ sym w.6 ∙ before.6,
        p.7 ∙ sym w.7 ∙ before.7,
      )
