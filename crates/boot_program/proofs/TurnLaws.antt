-- A task from the head of the loop over tasks to its call, both ways.
use Rattle.std.proofs.Common.{◌≡◌, ℕ, zero, suc, ◌+◌, ◌-◌, List, ◌++◌, length, Option, Some, sym, ap, ◌∙◌, subst, arith}
use Rattle.goldi_field.specs.Numbers.{prime, sum_of}
use Rattle.cairo_model.specs.Machine.Steps.{Registers, field_arithmetic, RunFrom, last_of}
use Rattle.cairo_model.specs.Machine.Addresses.{up, down}
use Rattle.cairo_model.specs.Machine.Runs.{Passes, GoesOn}
use Rattle.cairo_model.proofs.RunParts.{and_then, joined, ends_at}
use Rattle.cairo_model.proofs.Outcomes.{some_is}
use Rattle.boot_program.specs.Working.Hashing.{PassesLoop}
use Rattle.boot_program.specs.Places.{block_pc, call_pc, header_pc, tasks_pc}
use Rattle.boot_program.specs.Words.{boot_code, boot_end, HasBoot}
use Rattle.boot_program.specs.Rows.{symbolic_state, RowsHold, rows_from, cell_value}
use Rattle.boot_program.specs.Cells.{TaskInputs, PrologueCells, HeaderCells, CallCells, frame_at, padded_length, state}
use Rattle.boot_program.specs.HashLoop.{HashLoopCells, hash_loop_rows, hash_loop_end}
use Rattle.boot_program.specs.Instances.{instance_end}
use Rattle.boot_program.specs.Turns.{TurnValues, TurnCells, ReachesCall, hash_loop_start, turn_length, turn_rows_of, task_start}
use Rattle.boot_program.proofs.Prologue.{prologue_rows, prologue_goes, prologue_gives, prologue_ends, supplied_at}
use Rattle.boot_program.proofs.Header.{header_rows, header_goes, header_gives, header_ends, call_rows, call_goes, call_gives, call_ends}
use Rattle.boot_program.proofs.Listed.{boot_stops}
use Rattle.boot_program.proofs.PassingLaws.{BeginsWith, passes, begins, goes_on, ends_too}
use Rattle.boot_program.proofs.HashLoopLaws.{loop_goes, loop_gives}
use Rattle.boot_program.proofs.RowLaw.{sum_moved}
use Rattle.boot_program.proofs.Statements.{value}

module _ (m : ℕ → Option ℕ) where
  -- the state that the loop exit_cells
  loop_last : (f more a instance code left : ℕ) (ws ds : ℕ → ℕ → ℕ) → HashLoopCells m f more a instance code left ws ds
      → m (down (hash_loop_end more a) 3) ≡ Some (instance_end more instance)
  unfolding HashLoopCells hash_loop_end instance_end
  loop_last f zero a instance code left ws ds turns = ap m (sum_moved a 15 (prime - 3)) ∙ turns.0.next_instance
  loop_last f (suc more) a instance code left ws ds turns =
      loop_last f more (up a 15) (up instance 20) (up code 4) (down left 4) (λ j. ws (suc j)) (λ j. ds (suc j)) turns.2

  module _ (boot : HasBoot m) (a caller : ℕ) where
    pub turn_goes : (n : TurnValues) → TurnCells m a caller n → Passes field_arithmetic m (turn_length n.more) (state tasks_pc a caller) (turn_rows_of m a caller n.more) (task_start a n)
    turn_goes n cells =
        let f = frame_at a in
        let e = hash_loop_end n.more (hash_loop_start a) in
        let opening : Passes field_arithmetic m 30 (state tasks_pc a caller) (rows_from boot_code 30 m (symbolic_state tasks_pc a caller)) (state block_pc (hash_loop_start a) f) =
        ends_at field_arithmetic m 30 (passes boot_code m boot 30 (symbolic_state tasks_pc a caller) (prologue_rows m a caller) (prologue_goes m a caller n.hash n.task cells.prologue)) (prologue_ends m a caller) in
        let loop = loop_goes m boot f n.more (hash_loop_start a) (up n.hash 20) n.task.program (padded_length n.task) n.words n.numbers cells.turns in
        let calling : Passes field_arithmetic m 23 (state header_pc e f) (rows_from boot_code 23 m (symbolic_state header_pc e f)) (state call_pc (up e 14) f) =
        ends_at field_arithmetic m 23 (passes boot_code m boot 23 (symbolic_state header_pc e f) (header_rows m e f)
        (header_goes m e f n.header n.range (instance_end n.more (up n.hash 20)) n.task.program n.task.main n.task.length n.digest cells.header_cells)) (header_ends m e f) in
        let call : Passes field_arithmetic m 1 (state call_pc (up e 14) f) (rows_from boot_code 1 m (symbolic_state call_pc (up e 14) f)) (task_start a n) =
        ends_at field_arithmetic m 1 (passes boot_code m boot 1 (symbolic_state call_pc (up e 14) f) (call_rows m (up e 14) f) (call_goes m (up e 14) f (sum_of n.task.program n.task.main) cells.call_cells))
        (call_ends m (up e 14) f (sum_of n.task.program n.task.main) cells.call_cells.begins) in
        joined field_arithmetic m opening (joined field_arithmetic m loop (joined field_arithmetic m calling call))

    below : (x j k v : ℕ) → m (up x (sum_of j k)) ≡ Some v → m (up (up x j) k) ≡ Some v
    below x j k v e = ap m (sum_moved x j k) ∙ e

    record Head (ts : List (Registers ℕ)) : Type 0 where
      hash : ℕ
      task : TaskInputs
      prologue : PrologueCells m a caller hash task
      rest : List (Registers ℕ)
      on : GoesOn field_arithmetic m (state tasks_pc a caller) (state block_pc (hash_loop_start a) (frame_at a)) (rows_from boot_code 30 m (symbolic_state tasks_pc a caller)) ts rest

    head : (ts : List (Registers ℕ)) → RunFrom field_arithmetic m (state tasks_pc a caller) ts → (last_of (state tasks_pc a caller) ts).pc ≡ boot_end → Head ts
    head ts run ends = from (begins boot_code boot_end boot_stops m boot 30 (symbolic_state tasks_pc a caller) ts (prologue_rows m a caller) run ends)
      where
        from : (rest : List (Registers ℕ)) × BeginsWith boot_code m 30 (symbolic_state tasks_pc a caller) ts rest → Head ts
        from by = record {
          hash = cell_value m (down (frame_at a) 3);
          task = supplied_at m (frame_at a);
          prologue = prologue_gives m a caller by.1.holds;
          rest = by.0;
          on = goes_on m boot_code 30 (symbolic_state tasks_pc a caller) by.1 (prologue_ends m a caller);
        }

    record Tail (e begin : ℕ) (ts : List (Registers ℕ)) : Type 0 where
      header : ℕ
      range : ℕ
      hash : ℕ
      program : ℕ
      main : ℕ
      length_is : ℕ
      digest : ℕ → ℕ
      header_cells : HeaderCells m e (frame_at a) header range hash program main length_is digest
      call_cells : CallCells m (up e 14) (frame_at a) begin
      rest : List (Registers ℕ)
      on : GoesOn field_arithmetic m (state header_pc e (frame_at a)) (state begin (up (up e 14) 2) (up (up e 14) 2))
          (rows_from boot_code 23 m (symbolic_state header_pc e (frame_at a)) ++ rows_from boot_code 1 m (symbolic_state call_pc (up e 14) (frame_at a))) ts rest

    tail : (e begin : ℕ) (ts : List (Registers ℕ)) → m (up (frame_at a) 15) ≡ Some begin → RunFrom field_arithmetic m (state header_pc e (frame_at a)) ts
        → (last_of (state header_pc e (frame_at a)) ts).pc ≡ boot_end → Tail e begin ts
    tail e begin ts is run ends = from_header (begins boot_code boot_end boot_stops m boot 23 (symbolic_state header_pc e f) ts (header_rows m e f) run ends)
      where
        f : ℕ
        f = frame_at a

        from_call : (us : List (Registers ℕ)) → RowsHold boot_code 23 m (symbolic_state header_pc e (frame_at a)) → GoesOn field_arithmetic m (state header_pc e (frame_at a)) (state call_pc (up e 14) (frame_at a)) (rows_from boot_code 23 m (symbolic_state header_pc e (frame_at a))) ts us
            → (rest : List (Registers ℕ)) × BeginsWith boot_code m 1 (symbolic_state call_pc (up e 14) (frame_at a)) us rest → Tail e begin ts
        from_call us holds on by = record {
          header = cell_value m (down (frame_at a) 5);
          range = cell_value m (down (frame_at a) 4);
          hash = cell_value m (down e 3);
          program = cell_value m (up (frame_at a) 0);
          main = cell_value m (up (frame_at a) 1);
          length_is = cell_value m (up (frame_at a) 2);
          digest = λ i. cell_value m (down (cell_value m (down e 3)) (8 - i));
          header_cells = header_gives m e (frame_at a) holds;
          call_cells = subst (λ (x : ℕ). CallCells m (up e 14) (frame_at a) x) (value m _ _ is) (call_gives m (up e 14) (frame_at a) by.1.holds);
          rest = by.0;
          on = and_then field_arithmetic m on (goes_on m boot_code 1 (symbolic_state call_pc (up e 14) (frame_at a)) by.1 (call_ends m (up e 14) (frame_at a) begin is));
        }

        from_header : (us : List (Registers ℕ)) × BeginsWith boot_code m 23 (symbolic_state header_pc e (frame_at a)) ts us → Tail e begin ts
        from_header by =
            let on = goes_on m boot_code 23 (symbolic_state header_pc e (frame_at a)) by.1 (header_ends m e (frame_at a)) in
            from_call by.0 by.1.holds on (begins boot_code boot_end boot_stops m boot 1 (symbolic_state call_pc (up e 14) (frame_at a)) by.0 (call_rows m (up e 14) (frame_at a)) on.runs (ends_too m on ends))

    -- the values that the stretches name are the same
    one_value : {x u v : ℕ} → m x ≡ Some u → m x ≡ Some v → u ≡ v
    one_value p q = some_is _ _ (sym p ∙ q)

    put_together : (ts : List (Registers ℕ)) (h : Head ts)
        (l : PassesLoop m (frame_at a) (hash_loop_start a) (up h.hash 20) h.task.program (padded_length h.task) h.rest)
        (c : Tail (hash_loop_end l.more (hash_loop_start a)) (sum_of h.task.program h.task.main) l.rest) → ReachesCall m a caller ts
    put_together ts h l c =
        let hash_is : c.hash ≡ instance_end l.more (up h.hash 20) = one_value c.header_cells.hash_pointer
        (loop_last (frame_at a) l.more (hash_loop_start a) (up h.hash 20) h.task.program (padded_length h.task) l.words l.numbers l.turns) in
        let program_is : c.program ≡ h.task.program = one_value c.header_cells.program_is h.prologue.program in
        let main_is : c.main ≡ h.task.main = one_value c.header_cells.main_is h.prologue.main in
        let length_is : c.length_is ≡ h.task.length = one_value c.header_cells.length_is h.prologue.length in
        let e = hash_loop_end l.more (hash_loop_start a) in
        let one : HeaderCells m e (frame_at a) c.header c.range (instance_end l.more (up h.hash 20)) c.program c.main c.length_is c.digest =
        subst (λ (x : ℕ). HeaderCells m e (frame_at a) c.header c.range x c.program c.main c.length_is c.digest) hash_is c.header_cells in
        let two : HeaderCells m e (frame_at a) c.header c.range (instance_end l.more (up h.hash 20)) h.task.program c.main c.length_is c.digest =
        subst (λ (x : ℕ). HeaderCells m e (frame_at a) c.header c.range (instance_end l.more (up h.hash 20)) x c.main c.length_is c.digest) program_is one in
        let three : HeaderCells m e (frame_at a) c.header c.range (instance_end l.more (up h.hash 20)) h.task.program h.task.main c.length_is c.digest =
        subst (λ (x : ℕ). HeaderCells m e (frame_at a) c.header c.range (instance_end l.more (up h.hash 20)) h.task.program x c.length_is c.digest) main_is two in
        let four : HeaderCells m e (frame_at a) c.header c.range (instance_end l.more (up h.hash 20)) h.task.program h.task.main h.task.length c.digest =
        subst (λ (x : ℕ). HeaderCells m e (frame_at a) c.header c.range (instance_end l.more (up h.hash 20)) h.task.program h.task.main x c.digest) length_is three in
        let loop : GoesOn field_arithmetic m (state block_pc (hash_loop_start a) (frame_at a)) (state header_pc e (frame_at a)) (hash_loop_rows m (frame_at a) l.more (hash_loop_start a)) h.rest l.rest =
        record { parts = l.parts; runs = l.goes_on; to_end = l.to_end } in
        let whole = and_then field_arithmetic m h.on (and_then field_arithmetic m loop c.on) in
        record {
          values = record { task = h.task; header = c.header; range = c.range; hash = h.hash; more = l.more; words = l.words; numbers = l.numbers; digest = c.digest };
          cells = record { prologue = h.prologue; turns = l.turns; header_cells = four; call_cells = c.call_cells };
          rest = c.rest;
          parts = whole.parts;
          goes_on = whole.runs;
          to_end = whole.to_end;
        }

    -- backward: a run from the head to the bootloader's end goes to a call
    pub turn_gives : (ts : List (Registers ℕ)) → RunFrom field_arithmetic m (state tasks_pc a caller) ts → (last_of (state tasks_pc a caller) ts).pc ≡ boot_end → ReachesCall m a caller ts
    turn_gives ts run ends = from_head (head ts run ends)
      where
        from_loop : (h : Head ts) → PassesLoop m (frame_at a) (hash_loop_start a) (up h.hash 20) h.task.program (padded_length h.task) h.rest → ReachesCall m a caller ts
        from_loop h l = put_together ts h l (tail (hash_loop_end l.more (hash_loop_start a)) (sum_of h.task.program h.task.main) l.rest h.prologue.begins l.goes_on
            (ap (λ (x : Registers ℕ). x.pc) (l.to_end ∙ h.on.to_end) ∙ ends))

        from_head : Head ts → ReachesCall m a caller ts
        from_head h = from_loop h (loop_gives m boot (frame_at a) (length h.rest + 1) (hash_loop_start a) (up h.hash 20) h.task.program (padded_length h.task) h.rest (omega arith)
            (below (frame_at a) 21 (prime - 3) _ h.prologue.next_instance) (below (frame_at a) 21 (prime - 2) _ h.prologue.next_code) (below (frame_at a) 21 (prime - 1) _ h.prologue.words_left)
            h.on.runs (ends_too m h.on ends))
