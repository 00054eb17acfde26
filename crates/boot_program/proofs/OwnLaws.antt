-- The cells of a task's stretches from its own cells in order.
use Rattle.std.proofs.Common.{◌≡◌, ℕ, zero, suc, ◌-◌, List, [], ◌∷◌, ◌++◌, Option, Some, sym, ap, subst, ◌∙◌}
use Rattle.goldi_field.specs.Numbers.{prime, sum_of}
use Rattle.cairo_model.specs.Machine.Addresses.{up, down}
use Rattle.boot_program.specs.Places.{branch_pc}
use Rattle.boot_program.specs.Cells.{HeaderCells, ReturnCells, Stops, IsPresent, frame_at, code_end, with_low_bit, with_high_bit, padded_length}
use Rattle.boot_program.specs.HashLoop.{hash_loop_end}
use Rattle.boot_program.specs.Instances.{InOrderFrom, instance_end, eight, four}
use Rattle.boot_program.specs.Turns.{TurnValues, TurnCells, hash_loop_start}
use Rattle.boot_program.specs.Frames.{turn_list, loop_list, hash_list, own_head, own_blocks, own_tail, own_list, first_inputs, HoldsTurn}
use Rattle.boot_program.proofs.FrameLaws.{frame_list, first_part, second_part, rebased, loop_begins, loops_from, prologue_from, return_from}
use Rattle.boot_program.proofs.Statements.{there}
use Rattle.boot_program.proofs.RowLaw.{sum_moved}

module _ (m : ℕ → Option ℕ) where
  -- what stands after the loop's blocks, from its end
  after_blocks : (more a i c l : ℕ) (ws ds : ℕ → ℕ → ℕ) (tail : List ℕ) → InOrderFrom m a (prime - 3) (loop_list more i c l ws ds ++ tail)
      → (m (down (hash_loop_end more a) 3) ≡ Some (instance_end more i)) × InOrderFrom m (hash_loop_end more a) 0 tail
  unfolding loop_list hash_loop_end instance_end InOrderFrom
  after_blocks zero a i c l ws ds tail own =
      let next = rebased m a 15 (prime - 3) (up i 20 ∷ up c 4 ∷ down l 4 ∷ tail) (second_part m a (prime - 3) (turn_list i c l (ws 0) (ds 0)) (up i 20 ∷ up c 4 ∷ down l 4 ∷ tail) own) in
      (next.0, next.1.1.1)
  after_blocks (suc more) a i c l ws ds tail own =
      let rest = loop_list more (up i 20) (up c 4) (down l 4) (λ j. ws (suc j)) (λ j. ds (suc j)) ++ tail in
      after_blocks more (up a 15) (up i 20) (up c 4) (down l 4) (λ j. ws (suc j)) (λ j. ds (suc j)) tail
      (rebased m a 15 (prime - 3) rest (second_part m a (prime - 3) (turn_list i c l (ws 0) (ds 0)) rest own))

  -- what stands after the loop's instances, from the eight cells before their end
  after_instances : (more i : ℕ) (ws ds : ℕ → ℕ → ℕ) (tail : List ℕ) → InOrderFrom m i (prime - 8) (hash_list more ws ds ++ tail) → InOrderFrom m (instance_end more i) (prime - 8) tail
  unfolding hash_list instance_end
  after_instances zero i ws ds tail own = rebased m i 20 (prime - 8) tail (second_part m i (prime - 8) (eight (ws 0) ++ (eight (ws 0) ++ four (ds 0))) tail own)
  after_instances (suc more) i ws ds tail own =
      let rest = hash_list more (λ j. ws (suc j)) (λ j. ds (suc j)) ++ tail in
      after_instances more (up i 20) (λ j. ws (suc j)) (λ j. ds (suc j)) tail
      (rebased m i 20 (prime - 8) rest (second_part m i (prime - 8) (eight (ws 0) ++ (eight (ws 0) ++ four (ds 0))) rest own))

  -- the frame with the first block's state
  frame_part : (f caller left gap distance : ℕ) (n : TurnValues) (stops : Stops) (blocks rest : List ℕ) → blocks ≡ up n.hash 20 ∷ n.task.program ∷ padded_length n.task ∷ rest
      → InOrderFrom m f (prime - 6) (own_head caller left n gap distance stops ++ (blocks ++ own_tail n))
      → InOrderFrom m f (prime - 3) (frame_list caller n.hash 8 n.task gap stops.output stops.range stops.hash distance)
  unfolding InOrderFrom
  frame_part f caller left gap distance n stops blocks rest begins own =
      let seen = subst (λ (bs : List ℕ). InOrderFrom m f (prime - 6) (own_head caller left n gap distance stops ++ (bs ++ own_tail n))) begins own in
      first_part m f (prime - 3) (frame_list caller n.hash 8 n.task gap stops.output stops.range stops.hash distance) (rest ++ own_tail n) seen.1.1.1

  header_with : (a f header range hash program main length : ℕ) (w : ℕ → ℕ) → IsPresent m (down f 1) → m (down a 3) ≡ Some hash
      → InOrderFrom m f (prime - 5) (header ∷ range ∷ []) → InOrderFrom m f 0 (program ∷ main ∷ length ∷ [])
      → InOrderFrom m a 0 (eight w ++ (program ∷ main ∷ length ∷ [])) → InOrderFrom m a 11 (up header 9 ∷ range ∷ hash ∷ [])
      → InOrderFrom m hash (prime - 8) (eight w) → InOrderFrom m header 1 (eight w) → HeaderCells m a f header range hash program main length w
  unfolding InOrderFrom
  header_with a f header range hash program main length w idle pointer frame supplied own pointers before printed =
      search (idle, pointer, frame, supplied, own, pointers, before, printed)

  module _ (a caller left : ℕ) (n : TurnValues) (gap distance : ℕ) (stops : Stops) (holds : HoldsTurn m a caller left n gap distance stops) where
    f : ℕ
    f = frame_at a

    tail_of_own : InOrderFrom m (hash_loop_start a) (prime - 3) (own_blocks n ++ own_tail n)
    tail_of_own = rebased m (frame_at a) 21 (prime - 3) (own_blocks n ++ own_tail n)
        (second_part m (frame_at a) (prime - 6) (own_head caller left n gap distance stops) (own_blocks n ++ own_tail n) holds.own)

    tail_of_hash : InOrderFrom m (up n.hash 20) (prime - 8) (hash_list n.more n.words n.numbers ++ eight n.digest)
    tail_of_hash = rebased m n.hash 20 (prime - 8) (hash_list n.more n.words n.numbers ++ eight n.digest)
        (second_part m n.hash 0 (first_inputs n.task) (hash_list n.more n.words n.numbers ++ eight n.digest) holds.hashes)

    idle : IsPresent m (down (frame_at a) 1)
    unfolding InOrderFrom
    idle = there m holds.own.1.1.1.1.1.0

    pub turn_cells : TurnCells m a caller n
    unfolding InOrderFrom
    turn_cells =
        let end = after_blocks n.more (hash_loop_start a) (up n.hash 20) n.task.program (padded_length n.task) n.words n.numbers (own_tail n) tail_of_own in
        let own = holds.own in
        record {
          prologue = prologue_from m a caller n.hash gap stops.output stops.range stops.hash distance n.task holds.low_is_bit holds.high_is_bit
              (frame_part (frame_at a) caller left gap distance n stops (own_blocks n) _ (loop_begins n.more (up n.hash 20) n.task.program (padded_length n.task) n.words n.numbers) own)
              (first_part m n.hash 0 (first_inputs n.task) (hash_list n.more n.words n.numbers ++ eight n.digest) holds.hashes) holds.zeros;
          turns = loops_from m (frame_at a) n.more (hash_loop_start a) (up n.hash 20) n.task.program (padded_length n.task) n.words n.numbers idle
              (first_part m (hash_loop_start a) (prime - 3) (own_blocks n) (own_tail n) tail_of_own)
              (first_part m (up n.hash 20) (prime - 8) (hash_list n.more n.words n.numbers) (eight n.digest) tail_of_hash) holds.code holds.counts;
          header_cells = header_with (hash_loop_end n.more (hash_loop_start a)) (frame_at a) n.header n.range (instance_end n.more (up n.hash 20)) n.task.program n.task.main n.task.length n.digest idle end.0
              (own.1.0, (own.1.1.0, tt)) (own.1.1.1.1.1.1.0, (own.1.1.1.1.1.1.1.0, (own.1.1.1.1.1.1.1.1.0, tt)))
              end.1 pointers_below (after_instances n.more (up n.hash 20) n.words n.numbers (eight n.digest) tail_of_hash) holds.header.1;
          call_cells = record { begins = begins_at own; frame_kept = holds.pointers.1.1.1.0; return_kept = holds.pointers.1.1.1.1.0 };
        }
      where
        pointers_below : InOrderFrom m (hash_loop_end n.more (hash_loop_start a)) 11 (up n.header 9 ∷ n.range ∷ instance_end n.more (up n.hash 20) ∷ [])
        pointers_below = let p = holds.pointers in let e = hash_loop_end n.more (hash_loop_start a) in
            (ap m (sym (sum_moved e 14 (prime - 3))) ∙ p.0, (ap m (sym (sum_moved e 14 (prime - 2))) ∙ p.1.0, (ap m (sym (sum_moved e 14 (prime - 1))) ∙ p.1.1.0, tt)))

        begins_at : InOrderFrom m (frame_at a) (prime - 6) (own_list caller left n gap distance stops) → m (up (frame_at a) 15) ≡ Some (sum_of n.task.program n.task.main)
        begins_at own = search own

    -- coming home, where the task exit_cells its stops and the next turn's state stands
    pub turn_homes : (home : ℕ) → stops.output ≡ sum_of n.header distance → InOrderFrom m home (prime - 3) (stops.output ∷ stops.range ∷ stops.hash ∷ [])
        → InOrderFrom m (sum_of home gap) 0 (down left 1 ∷ stops.output ∷ stops.range ∷ stops.hash ∷ [])
        → ReturnCells m home (frame_at a) left n.header gap distance branch_pc caller stops
    unfolding InOrderFrom
    turn_homes home is at_home next = return_from m home (frame_at a) left n.header n.range n.hash caller gap distance n.task stops is at_home
        (first_part m (frame_at a) (prime - 6) (left ∷ n.header ∷ n.range ∷ n.hash ∷ caller ∷ 8
        ∷ n.task.program ∷ n.task.main ∷ n.task.length ∷ n.task.low_bit ∷ n.task.high_bit ∷ gap ∷ stops.output ∷ stops.range ∷ stops.hash ∷ distance ∷ [])
        (0 ∷ 1 ∷ 7 ∷ up n.task.length 4 ∷ code_end n.task ∷ sum_of n.task.program n.task.main ∷ with_low_bit n.task ∷ with_high_bit n.task ∷ (own_blocks n ++ own_tail n)) holds.own)
        holds.header.0 next
