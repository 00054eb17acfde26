-- The loop over hash instances, by induction over its turns.
use Rattle.std.proofs.Common.{◌≡◌, ◌≢◌, ℕ, zero, suc, ◌+◌, ◌*◌, ◌-◌, ◌<◌, ◌==◌, Bool, true, false, if◌then◌else◌, List, ◌++◌, length, Option, Some, refl, sym, ap, ◌∙◌, subst, arith, append_assoc}
use Rattle.cairo_model.specs.Machine.Steps.{Registers, field_arithmetic, RunFrom, last_of}
use Rattle.cairo_model.specs.Machine.Addresses.{up, down}
use Rattle.cairo_model.specs.Machine.Runs.{Passes}
use Rattle.cairo_model.proofs.RunParts.{joined, ends_at}
use Rattle.cairo_model.proofs.NumberTests.{is_not, eq_is, not_is}
use Rattle.boot_program.specs.Working.Hashing.{PassesLoop}
use Rattle.boot_program.specs.Places.{block_pc, header_pc}
use Rattle.boot_program.specs.Words.{boot_code, boot_end, HasBoot}
use Rattle.boot_program.specs.Rows.{symbolic_state, RowsHold, rows_from, symbolic_after, state_of, cell_value}
use Rattle.boot_program.specs.Cells.{BlockCells, state, after_block}
use Rattle.boot_program.specs.HashLoop.{HashLoopCells, hash_loop_rows, hash_loop_end}
use Rattle.goldi_field.specs.Numbers.{prime, sum_of}
use Rattle.boot_program.proofs.RowLaw.{sum_moved}
use Rattle.boot_program.proofs.Statements.{value}
use Rattle.boot_program.proofs.Block.{block_rows, block_goes, block_gives, block_ends, word_read, number_read}
use Rattle.boot_program.proofs.Listed.{boot_stops}
use Rattle.boot_program.proofs.PassingLaws.{passes, begins}

module _ (m : ℕ → Option ℕ) where
  -- where a turn leads
  goes_out : (a f left : ℕ) → down left 4 ≡ 0 → after_block a f left ≡ state header_pc (up a 15) f
  goes_out a f left none = ap (λ x. state (if x == 0 then header_pc else block_pc) (up a 15) f) none

  pub goes_round : (a f left : ℕ) → down left 4 ≢ 0 → after_block a f left ≡ state block_pc (up a 15) f
  goes_round a f left some = ap (λ (x : Bool). state (if x then header_pc else block_pc) (up a 15) f) (is_not (down left 4) 0 some)

  module _ (boot : HasBoot m) (f : ℕ) where
    pub one_turn : (a instance code left : ℕ) (words numbers : ℕ → ℕ) → BlockCells m a f instance code left words numbers
        → Passes field_arithmetic m 29 (state block_pc a f) (rows_from boot_code 29 m (symbolic_state block_pc a f)) (after_block a f left)
    one_turn a instance code left words numbers h =
        ends_at field_arithmetic m 29 (passes boot_code m boot 29 (symbolic_state block_pc a f) (block_rows m a f) (block_goes m a f instance code left words numbers h)) (block_ends m a f left h.next_left)

    -- forward: cells that hold what the turns ask make a run to the loop's end
    pub loop_goes : (more a instance code left : ℕ) (words numbers : ℕ → ℕ → ℕ) → HashLoopCells m f more a instance code left words numbers
        → Passes field_arithmetic m (29 * (more + 1)) (state block_pc a f) (hash_loop_rows m f more a) (state header_pc (hash_loop_end more a) f)
    unfolding HashLoopCells hash_loop_rows hash_loop_end
    loop_goes zero a instance code left words numbers h =
        ends_at field_arithmetic m 29 (one_turn a instance code left (words 0) (numbers 0) h.0) (goes_out a f left h.1)
    loop_goes (suc more) a instance code left words numbers h =
        let first = ends_at field_arithmetic m 29 (one_turn a instance code left (words 0) (numbers 0) h.0) (goes_round a f left h.1) in
        let rest = loop_goes more (up a 15) (up instance 20) (up code 4) (down left 4) (λ j. words (suc j)) (λ j. numbers (suc j)) h.2 in
        let whole = joined field_arithmetic m first rest in
        record { count = whole.count ∙ omega arith; runs = whole.runs; ends = whole.ends }

    -- backward: a run from the loop's head to the bootloader's end goes through some turns
    turn_gives : (a instance code left : ℕ) → m (down a 3) ≡ Some instance → m (down a 2) ≡ Some code → m (down a 1) ≡ Some left
        → RowsHold boot_code 29 m (symbolic_state block_pc a f) → BlockCells m a f instance code left (word_read m a) (number_read m a)
    turn_gives a instance code left p q r holds =
        let raw = block_gives m a f holds in
        let words = word_read m a in
        let numbers = number_read m a in
        let one : BlockCells m a f instance (cell_value m (down a 2)) (cell_value m (down a 1)) words numbers =
        subst (λ (x : ℕ). BlockCells m a f x (cell_value m (down a 2)) (cell_value m (down a 1)) words numbers) (value m _ _ p) raw in
        let two : BlockCells m a f instance code (cell_value m (down a 1)) words numbers =
        subst (λ (x : ℕ). BlockCells m a f instance x (cell_value m (down a 1)) words numbers) (value m _ _ q) one in
        subst (λ (x : ℕ). BlockCells m a f instance code x words numbers) (value m _ _ r) two

    below : (a j k v : ℕ) → m (up a (sum_of j k)) ≡ Some v → m (up (up a j) k) ≡ Some v
    below a j k v e = ap m (sum_moved a j k) ∙ e

    by_test : {R : Type 0} (b : Bool) → (b ≡ true → R) → (b ≡ false → R) → R
    by_test true l r = l refl
    by_test false l r = r refl

    after_first : {X : Type 0} → X → (ℕ → X) → ℕ → X
    after_first x xs zero = x
    after_first x xs (suc j) = xs j

    pub loop_gives : (bound a instance code left : ℕ) (ts : List (Registers ℕ)) → length ts < bound
        → m (down a 3) ≡ Some instance → m (down a 2) ≡ Some code → m (down a 1) ≡ Some left
        → RunFrom field_arithmetic m (state block_pc a f) ts → (last_of (state block_pc a f) ts).pc ≡ boot_end → PassesLoop m f a instance code left ts
    unfolding HashLoopCells hash_loop_rows hash_loop_end after_first
    loop_gives zero a instance code left ts short p q r run ends = absurd (omega (arith, short))
    loop_gives (suc bound) a instance code left ts short p q r run ends =
        let first = begins boot_code boot_end boot_stops m boot 29 (symbolic_state block_pc a f) ts (block_rows m a f) run ends in
        let by = first.1 in
        let rest = first.0 in
        let holds = turn_gives a instance code left p q r by.holds in
        let next : state_of (symbolic_after boot_code 29 m (symbolic_state block_pc a f)) ≡ after_block a f left = block_ends m a f left holds.next_left in
        by_test (down left 4 == 0)
        (λ none. let out = next ∙ goes_out a f left (eq_is _ 0 none) in record {
          more = 0;
          words = λ j. word_read m a;
          numbers = λ j. number_read m a;
          rest = rest;
          turns = (holds, eq_is _ 0 none);
          parts = by.parts;
          goes_on = subst (λ (x : Registers ℕ). RunFrom field_arithmetic m x rest) out by.goes_on;
          to_end = ap (λ (x : Registers ℕ). last_of x rest) (sym out) ∙ by.to_end;
        })
        (λ some. let round = next ∙ goes_round a f left (not_is _ 0 some) in
        let same_end : last_of (state block_pc (up a 15) f) rest ≡ last_of (state block_pc a f) ts = ap (λ (x : Registers ℕ). last_of x rest) (sym round) ∙ by.to_end in
        let tail = loop_gives bound (up a 15) (up instance 20) (up code 4) (down left 4) rest (let e = by.shorter in omega (arith, e, short))
        (below a 15 (prime - 3) _ holds.next_instance) (below a 15 (prime - 2) _ holds.next_code) (below a 15 (prime - 1) _ holds.next_left)
        (subst (λ (x : Registers ℕ). RunFrom field_arithmetic m x rest) round by.goes_on)
        (ap (λ (x : Registers ℕ). x.pc) same_end ∙ ends) in
        record {
          more = suc tail.more;
          words = after_first (word_read m a) tail.words;
          numbers = after_first (number_read m a) tail.numbers;
          rest = tail.rest;
          turns = (holds, not_is _ 0 some, tail.turns);
          parts = by.parts ∙ ap (λ (x : List (Registers ℕ)). rows_from boot_code 29 m (symbolic_state block_pc a f) ++ x) tail.parts ∙ sym (append_assoc (rows_from boot_code 29 m (symbolic_state block_pc a f)) (hash_loop_rows m f tail.more (up a 15)) tail.rest);
          goes_on = tail.goes_on;
          to_end = tail.to_end ∙ same_end;
        })
