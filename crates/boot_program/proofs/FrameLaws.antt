-- The cells of each stretch from values that stand in order.
use Rattle.std.proofs.Common.{◌≡◌, ℕ, zero, suc, ◌-◌, List, [], ◌∷◌, ◌++◌, drop, append_assoc, Option, Some, refl, sym, ap, subst, ◌∙◌}
use Rattle.goldi_field.specs.Numbers.{prime, sum_of, product_of}
use Rattle.cairo_model.specs.Machine.Addresses.{up, down}
use Rattle.boot_program.specs.Places.{branch_pc}
use Rattle.cairo_model.specs.Segments.{builtin_mask}
use Rattle.boot_program.specs.Cells.{BlockCells, PrologueCells, HeaderCells, EntryCells, ReturnCells, Stops, TaskInputs, IsPresent, frame_at, code_end, with_low_bit, with_high_bit, padded_length}
use Rattle.boot_program.specs.HashLoop.{HashLoopCells}
use Rattle.boot_program.specs.Instances.{InOrderFrom, eight, four}
use Rattle.boot_program.specs.Frames.{turn_list, loop_list, hash_list, code_list, Counts}
use Rattle.boot_program.proofs.RowLaw.{sum_moved}
use Rattle.boot_program.proofs.Statements.{there}

-- the frame from the hash pointer on, with the first state of the loop over hash instances
abbrev pub frame_list : ℕ → ℕ → ℕ → TaskInputs → ℕ → ℕ → ℕ → ℕ → ℕ → List ℕ
frame_list caller hash back task gap output_stop range_stop hash_stop distance = hash ∷ caller ∷ back
    ∷ task.program ∷ task.main ∷ task.length ∷ task.low_bit ∷ task.high_bit ∷ gap ∷ output_stop ∷ range_stop ∷ hash_stop ∷ distance
    ∷ 0 ∷ 1 ∷ builtin_mask ∷ up task.length 4 ∷ code_end task ∷ sum_of task.program task.main ∷ with_low_bit task ∷ with_high_bit task
    ∷ up hash 20 ∷ task.program ∷ padded_length task ∷ []

-- the distance after a list
abbrev after : List ℕ → ℕ → ℕ
after [] k = k
after (v ∷ vs) k = after vs (sum_of k 1)

module _ (m : ℕ → Option ℕ) where
  pub first_part : (x k : ℕ) (xs ys : List ℕ) → InOrderFrom m x k (xs ++ ys) → InOrderFrom m x k xs
  unfolding InOrderFrom
  first_part x k [] ys h = tt
  first_part x k (v ∷ vs) ys h = (h.0, first_part x (sum_of k 1) vs ys h.1)

  pub second_part : (x k : ℕ) (xs ys : List ℕ) → InOrderFrom m x k (xs ++ ys) → InOrderFrom m x (after xs k) ys
  unfolding InOrderFrom
  second_part x k [] ys h = h
  second_part x k (v ∷ vs) ys h = second_part x (sum_of k 1) vs ys h.1

  -- the same region from another address
  pub rebased : (x j k : ℕ) (vs : List ℕ) → InOrderFrom m x (sum_of j k) vs → InOrderFrom m (up x j) k vs
  unfolding InOrderFrom
  rebased x j k [] h = tt
  rebased x j k (v ∷ vs) h = (ap m (sum_moved x j k) ∙ h.0, rebased x j (sum_of k 1) vs (subst (λ (d : ℕ). InOrderFrom m x d vs) (sum_moved j k 1) h.1))

  turn_from : (a f instance code left : ℕ) (w d : ℕ → ℕ) → IsPresent m (down f 1)
      → InOrderFrom m a (prime - 3) (turn_list instance code left w d ++ (up instance 20 ∷ up code 4 ∷ down left 4 ∷ []))
      → InOrderFrom m instance (prime - 8) (eight w ++ (eight w ++ four d)) → InOrderFrom m code 0 (four d) → BlockCells m a f instance code left w d
  unfolding InOrderFrom
  turn_from a f instance code left w d idle own hash source = search (own, hash, source, idle)

-- the loop's list begins with its state
pub loop_begins : (more instance code left : ℕ) (ws ds : ℕ → ℕ → ℕ) → loop_list more instance code left ws ds ≡ instance ∷ code ∷ left ∷ drop 3 (loop_list more instance code left ws ds)
unfolding loop_list
loop_begins zero instance code left ws ds = refl
loop_begins (suc more) instance code left ws ds = refl

hash_begins : (more : ℕ) (ws ds : ℕ → ℕ → ℕ) → hash_list more ws ds ≡ eight (ws 0) ++ drop 8 (hash_list more ws ds)
unfolding hash_list
hash_begins zero ws ds = refl
hash_begins (suc more) ws ds = refl

module _ (m : ℕ → Option ℕ) where
  pub loops_from : (f more a instance code left : ℕ) (ws ds : ℕ → ℕ → ℕ) → IsPresent m (down f 1) → InOrderFrom m a (prime - 3) (loop_list more instance code left ws ds)
      → InOrderFrom m instance (prime - 8) (hash_list more ws ds) → InOrderFrom m code 0 (code_list more ds) → Counts more left
      → HashLoopCells m f more a instance code left ws ds
  unfolding HashLoopCells loop_list hash_list code_list Counts
  loops_from f zero a instance code left ws ds idle own hash source counts =
      (turn_from m a f instance code left (ws 0) (ds 0) idle own hash source, counts)
  loops_from f (suc more) a instance code left ws ds idle own hash source counts =
      let here = turn_list instance code left (ws 0) (ds 0) in
      let next = loop_list more (up instance 20) (up code 4) (down left 4) (λ j. ws (suc j)) (λ j. ds (suc j)) in
      let tail : InOrderFrom m a 12 next = second_part m a (prime - 3) here next own in
      let state : InOrderFrom m a 12 (up instance 20 ∷ up code 4 ∷ down left 4 ∷ drop 3 next) =
      subst (λ (vs : List ℕ). InOrderFrom m a 12 vs) (loop_begins more (up instance 20) (up code 4) (down left 4) (λ j. ws (suc j)) (λ j. ds (suc j))) tail in
      let own_here = state_after a here (up instance 20) (up code 4) (down left 4) (drop 3 next) own
      (loop_begins more (up instance 20) (up code 4) (down left 4) (λ j. ws (suc j)) (λ j. ds (suc j))) in
      let hash_next = hash_list more (λ j. ws (suc j)) (λ j. ds (suc j)) in (
        turn_from m a f instance code left (ws 0) (ds 0) idle own_here (first_part m instance (prime - 8) (eight (ws 0) ++ (eight (ws 0) ++ four (ds 0))) hash_next hash)
            (first_part m code 0 (four (ds 0)) (code_list more (λ j. ds (suc j))) source),
        counts.0,
        loops_from f more (up a 15) (up instance 20) (up code 4) (down left 4) (λ j. ws (suc j)) (λ j. ds (suc j)) idle
            (rebased m a 15 (prime - 3) next tail)
            (rebased m instance 20 (prime - 8) hash_next (second_part m instance (prime - 8) (eight (ws 0) ++ (eight (ws 0) ++ four (ds 0))) hash_next hash))
            (rebased m code 4 0 (code_list more (λ j. ds (suc j))) (second_part m code 0 (four (ds 0)) (code_list more (λ j. ds (suc j))) source))
            counts.1,
      )
    where
      state_after : (a : ℕ) (xs : List ℕ) (i c l : ℕ) (tail : List ℕ) {next : List ℕ} → InOrderFrom m a (prime - 3) (xs ++ next) → next ≡ i ∷ c ∷ l ∷ tail
          → InOrderFrom m a (prime - 3) (xs ++ (i ∷ c ∷ l ∷ []))
      state_after a xs i c l tail own begins = first_part m a (prime - 3) (xs ++ (i ∷ c ∷ l ∷ [])) tail
          (subst (λ (vs : List ℕ). InOrderFrom m a (prime - 3) vs) (sym (append_assoc xs (i ∷ c ∷ l ∷ []) tail)) (subst (λ (vs : List ℕ). InOrderFrom m a (prime - 3) (xs ++ vs)) begins own))

  prologue_with : (a caller hash gap output_stop range_stop hash_stop distance : ℕ) (task : TaskInputs) → m (up a 0) ≡ Some caller → m (up a 1) ≡ Some branch_pc
      → task.low_bit ≡ product_of task.low_bit task.low_bit → task.high_bit ≡ product_of task.high_bit task.high_bit
      → InOrderFrom m (frame_at a) (prime - 3) (frame_list caller hash 8 task gap output_stop range_stop hash_stop distance)
      → InOrderFrom m hash 0 (0 ∷ 0 ∷ 0 ∷ 0 ∷ 0 ∷ 0 ∷ 0 ∷ up task.length 4 ∷ 1 ∷ task.main ∷ task.length ∷ 7 ∷ [])
      → InOrderFrom m (code_end task) 0 (0 ∷ 0 ∷ 0 ∷ []) → PrologueCells m a caller hash task
  unfolding InOrderFrom
  prologue_with a caller hash gap output_stop range_stop hash_stop distance task caller_is back_is one two frame first zeros =
      search (caller_is, back_is, one, two, frame, first, zeros)

  pub prologue_from : (a caller hash gap output_stop range_stop hash_stop distance : ℕ) (task : TaskInputs)
      → task.low_bit ≡ product_of task.low_bit task.low_bit → task.high_bit ≡ product_of task.high_bit task.high_bit
      → InOrderFrom m (frame_at a) (prime - 3) (frame_list caller hash 8 task gap output_stop range_stop hash_stop distance)
      → InOrderFrom m hash 0 (0 ∷ 0 ∷ 0 ∷ 0 ∷ 0 ∷ 0 ∷ 0 ∷ up task.length 4 ∷ 1 ∷ task.main ∷ task.length ∷ 7 ∷ [])
      → InOrderFrom m (code_end task) 0 (0 ∷ 0 ∷ 0 ∷ []) → PrologueCells m a caller hash task
  unfolding InOrderFrom
  prologue_from a caller hash gap output_stop range_stop hash_stop distance task one two frame first zeros =
      prologue_with a caller hash gap output_stop range_stop hash_stop distance task
      (sym (ap m (sum_moved a 2 (prime - 2))) ∙ frame.1.0) (sym (ap m (sum_moved a 2 (prime - 1))) ∙ frame.1.1.0) one two frame first zeros

  pub header_from : (a f header range hash program main length : ℕ) (w : ℕ → ℕ) → IsPresent m (down f 1) → m (down a 3) ≡ Some hash
      → InOrderFrom m f (prime - 5) (header ∷ range ∷ []) → InOrderFrom m f 0 (program ∷ main ∷ length ∷ [])
      → InOrderFrom m a 0 (eight w ++ (program ∷ main ∷ length ∷ up header 9 ∷ range ∷ hash ∷ []))
      → InOrderFrom m hash (prime - 8) (eight w) → InOrderFrom m header 1 (eight w) → HeaderCells m a f header range hash program main length w
  unfolding InOrderFrom
  header_from a f header range hash program main length w idle pointer frame supplied own before printed =
      search (idle, pointer, frame, supplied, own, before, printed)

  -- the batch's frame with the first turn's state, where the run starts with ap = fp
  pub entry_from : (f count output range hash caller back : ℕ) → InOrderFrom m f (prime - 5) (output ∷ range ∷ hash ∷ caller ∷ back ∷ count ∷ up output 1 ∷ range ∷ hash ∷ [])
      → m (up output 0) ≡ Some count → EntryCells m f f count output range hash
  unfolding InOrderFrom
  entry_from f count output range hash caller back own first =
      let idle : IsPresent m (down f 1) = there m own.1.1.1.1.0 in
      entry_with f count output range hash caller back idle own first
    where
      entry_with : (f count output range hash caller back : ℕ) → IsPresent m (down f 1)
          → InOrderFrom m f (prime - 5) (output ∷ range ∷ hash ∷ caller ∷ back ∷ count ∷ up output 1 ∷ range ∷ hash ∷ [])
          → m (up output 0) ≡ Some count → EntryCells m f f count output range hash
      entry_with f count output range hash caller back idle own first = search (idle, own, first)

  -- coming home: the task's stops, its frame from the tasks left on, the header's first cell, and the next turn's state
  pub return_from : (home f left header range hash caller gap distance : ℕ) (task : TaskInputs) (stops : Stops) → stops.output ≡ sum_of header distance
      → InOrderFrom m home (prime - 3) (stops.output ∷ stops.range ∷ stops.hash ∷ [])
      → InOrderFrom m f (prime - 6) (left ∷ header ∷ range ∷ hash ∷ caller ∷ 8
      ∷ task.program ∷ task.main ∷ task.length ∷ task.low_bit ∷ task.high_bit ∷ gap ∷ stops.output ∷ stops.range ∷ stops.hash ∷ distance ∷ [])
      → m (up header 0) ≡ Some distance → InOrderFrom m (sum_of home gap) 0 (down left 1 ∷ stops.output ∷ stops.range ∷ stops.hash ∷ [])
      → ReturnCells m home f left header gap distance branch_pc caller stops
  unfolding InOrderFrom
  return_from home f left header range hash caller gap distance task stops is at_home frame printed next = search (is, at_home, frame, printed, next)
