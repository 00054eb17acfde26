-- Each state of a stretch stands in the bootloader, and at the call only in the stretch of one instruction that it is.
use Rattle.std.proofs.Common.{◌≡◌, ◌≢◌, ℕ, zero, suc, ◌+◌, ◌*◌, ◌-◌, ◌<◌, ◌≤◌, ◌==◌, ltb, Bool, true, false, ◌&&◌, not, List, [], ◌∷◌, ◌++◌, length, Option, refl, sym, subst, arith}
use Rattle.std.proofs.lemmas.Bool.Decides.{nat_tests}
use Rattle.cairo_model.specs.Machine.Steps.{Registers, last_of, field_arithmetic}
use Rattle.cairo_model.specs.Machine.Addresses.{up, down}
use Rattle.cairo_model.specs.Machine.Runs.{Passes}
use Rattle.cairo_model.proofs.RunParts.{ends_at}
use Rattle.boot_program.specs.Places.{block_pc, branch_pc, call_pc, entry_pc, exit_pc, header_pc, return_pc, tasks_pc}
use Rattle.boot_program.specs.Words.{boot_code, boot_end, HasBoot}
use Rattle.boot_program.specs.Rows.{SymbolicState, symbolic_state, next_symbolic, instruction_at, rows_from, state_of}
use Rattle.boot_program.specs.Cells.{frame_at, padded_length, state}
use Rattle.boot_program.specs.HashLoop.{HashLoopCells, hash_loop_rows, hash_loop_end}
use Rattle.boot_program.specs.Instances.{instance_end}
use Rattle.boot_program.specs.Turns.{TurnValues, TurnCells, hash_loop_start, turn_rows_of}
use Rattle.boot_program.specs.Working.Walks.{EachRow, all_pcs, Outside, is_outside}
use Rattle.boot_program.proofs.RowLaw.{left_true, right_true}
use Rattle.boot_program.proofs.Prologue.{prologue_rows, prologue_goes, prologue_ends}
use Rattle.boot_program.proofs.Header.{header_rows, header_goes, header_ends}
use Rattle.boot_program.proofs.PassingLaws.{passes}
use Rattle.boot_program.proofs.HashLoopLaws as loops

pub each_joined : (P : ℕ → Registers ℕ → Type 0) (k n : ℕ) (s t : Registers ℕ) (rows rest : List (Registers ℕ)) → length rows ≡ n → last_of s rows ≡ t
    → EachRow P k s rows → EachRow P (k + n) t rest → EachRow P k s (rows ++ rest)
unfolding EachRow
each_joined P k n s t [] rest count ends first second = let e : k + n ≡ k = omega (arith, count) in
    subst (λ (x : Registers ℕ). EachRow P k x rest) (sym ends) (subst (λ (j : ℕ). EachRow P j t rest) e second)
each_joined P k n s t (r ∷ rows) rest count ends first second = let e : k + n ≡ suc k + (n - 1) = omega (arith, count) in
    (first.0, each_joined P (suc k) (n - 1) r t rows rest (omega (arith, count)) ends first.1 (subst (λ (j : ℕ). EachRow P j t rest) e second))

pub each_passed : (P : ℕ → Registers ℕ → Type 0) (m : ℕ → Option ℕ) (k n : ℕ) (s t : Registers ℕ) (rows rest : List (Registers ℕ)) → Passes field_arithmetic m n s rows t
    → EachRow P k s rows → EachRow P (k + n) t rest → EachRow P k s (rows ++ rest)
each_passed P m k n s t rows rest by first second = each_joined P k n s t rows rest by.count by.ends first second

pub each_mapped : (P Q : ℕ → Registers ℕ → Type 0) (k : ℕ) (s : Registers ℕ) (rows : List (Registers ℕ)) → ((j : ℕ) (x : Registers ℕ) → k ≤ j → j < k + length rows → P j x → Q j x)
    → EachRow P k s rows → EachRow Q k s rows
unfolding EachRow
each_mapped P Q k s [] to each = tt
each_mapped P Q k s (r ∷ rows) to each = (to k s (omega arith) (omega arith) each.0, each_mapped P Q (suc k) r rows (λ j x low high. to j x (omega (arith, low)) (omega (arith, high))) each.1)

abbrev pub OutsideAt : ℕ → Registers ℕ → Type 0
OutsideAt k s = Outside s

outside_is : (s : Registers ℕ) → is_outside s.pc ≡ true → Outside s
outside_is s is =
    let first : ltb 0 s.pc ≡ true = left_true (ltb 0 s.pc) _ is in
    let rest : (ltb s.pc boot_end && not (s.pc == call_pc)) ≡ true = right_true (ltb 0 s.pc) _ is in
    let second : ltb s.pc boot_end ≡ true = left_true (ltb s.pc boot_end) _ rest in
    let third : not (s.pc == call_pc) ≡ true = right_true (ltb s.pc boot_end) _ rest in
    record { from = grind (arith, nat_tests, first); below = grind (arith, nat_tests, second); no_site = no_site s.pc third }
  where
    no_site : (x : ℕ) → not (x == call_pc) ≡ true → x ≢ call_pc
    no_site x is same = let e : (x == call_pc) ≡ true = grind (arith, nat_tests, same) in both (x == call_pc) e is
      where
        both : (b : Bool) → b ≡ true → not b ≡ true → ⊥
        both true e is = absurd (cc)
        both false e is = absurd (cc)

module _ (m : ℕ → Option ℕ) where
  pub rows_outside : (k n : ℕ) (s : SymbolicState) → all_pcs is_outside n m s ≡ true → EachRow OutsideAt k (state_of s) (rows_from boot_code n m s)
  unfolding EachRow all_pcs rows_from
  rows_outside k zero s holds = tt
  rows_outside k (suc n) s holds = (outside_is (state_of s) (left_true (is_outside s.pc) _ holds), rows_outside (suc k) n (next_symbolic boot_code m (instruction_at boot_code s.pc) s) (right_true (is_outside s.pc) _ holds))

  pub entry_outside : (k a f : ℕ) → EachRow OutsideAt k (state entry_pc a f) (rows_from boot_code 4 m (symbolic_state entry_pc a f))
  unfolding all_pcs
  entry_outside k a f = rows_outside k 4 (symbolic_state entry_pc a f) refl

  prologue_outside : (k a f : ℕ) → EachRow OutsideAt k (state tasks_pc a f) (rows_from boot_code 30 m (symbolic_state tasks_pc a f))
  unfolding all_pcs
  prologue_outside k a f = rows_outside k 30 (symbolic_state tasks_pc a f) refl

  block_outside : (k a f : ℕ) → EachRow OutsideAt k (state block_pc a f) (rows_from boot_code 29 m (symbolic_state block_pc a f))
  unfolding all_pcs
  block_outside k a f = rows_outside k 29 (symbolic_state block_pc a f) refl

  header_outside : (k a f : ℕ) → EachRow OutsideAt k (state header_pc a f) (rows_from boot_code 23 m (symbolic_state header_pc a f))
  unfolding all_pcs
  header_outside k a f = rows_outside k 23 (symbolic_state header_pc a f) refl

  pub return_outside : (k a f : ℕ) → EachRow OutsideAt k (state return_pc a f) (rows_from boot_code 11 m (symbolic_state return_pc a f))
  unfolding all_pcs
  return_outside k a f = rows_outside k 11 (symbolic_state return_pc a f) refl

  pub turning_outside : (k a f : ℕ) → EachRow OutsideAt k (state branch_pc a f) (rows_from boot_code 1 m (symbolic_state branch_pc a f))
  unfolding all_pcs
  turning_outside k a f = rows_outside k 1 (symbolic_state branch_pc a f) refl

  pub exit_outside : (k a f : ℕ) → EachRow OutsideAt k (state exit_pc a f) (rows_from boot_code 1 m (symbolic_state exit_pc a f))
  unfolding all_pcs
  exit_outside k a f = rows_outside k 1 (symbolic_state exit_pc a f) refl

  module _ (boot : HasBoot m) (f : ℕ) where
    loop_outside : (k more a instance code left : ℕ) (ws ds : ℕ → ℕ → ℕ) → HashLoopCells m f more a instance code left ws ds → EachRow OutsideAt k (state block_pc a f) (hash_loop_rows m f more a)
    unfolding HashLoopCells hash_loop_rows
    loop_outside k zero a instance code left ws ds h = block_outside k a f
    loop_outside k (suc more) a instance code left ws ds h =
        each_passed OutsideAt m k 29 (state block_pc a f) (state block_pc (up a 15) f) (rows_from boot_code 29 m (symbolic_state block_pc a f)) (hash_loop_rows m f more (up a 15))
        (ends_at field_arithmetic m 29 (loops.one_turn m boot f a instance code left (ws 0) (ds 0) h.0) (loops.goes_round m a f left h.1))
        (block_outside k a f)
        (loop_outside (k + 29) more (up a 15) (up instance 20) (up code 4) (down left 4) (λ j. ws (suc j)) (λ j. ds (suc j)) h.2)

  -- a turn's rows to the call: all lie outside the tasks, and the last is at the site
  pub turn_walk : HasBoot m → (a caller : ℕ) (n : TurnValues) → TurnCells m a caller n → (P : ℕ → Registers ℕ → Type 0) (k : ℕ)
      → ((j : ℕ) (x : Registers ℕ) → k ≤ j → j < k + (53 + 29 * (n.more + 1)) → Outside x → P j x)
      → P (k + (53 + 29 * (n.more + 1))) (state call_pc (up (hash_loop_end n.more (hash_loop_start a)) 14) (frame_at a))
      → EachRow P k (state tasks_pc a caller) (turn_rows_of m a caller n.more)
  unfolding EachRow rows_from
  turn_walk boot a caller n cells P k on site =
      let f = frame_at a in
      let e = hash_loop_end n.more (hash_loop_start a) in
      let turns = 29 * (n.more + 1) in
      let opening : Passes field_arithmetic m 30 (state tasks_pc a caller) (rows_from boot_code 30 m (symbolic_state tasks_pc a caller)) (state block_pc (hash_loop_start a) f) =
      ends_at field_arithmetic m 30 (passes boot_code m boot 30 (symbolic_state tasks_pc a caller) (prologue_rows m a caller) (prologue_goes m a caller n.hash n.task cells.prologue)) (prologue_ends m a caller) in
      let loop = loops.loop_goes m boot f n.more (hash_loop_start a) (up n.hash 20) n.task.program (padded_length n.task) n.words n.numbers cells.turns in
      let calling : Passes field_arithmetic m 23 (state header_pc e f) (rows_from boot_code 23 m (symbolic_state header_pc e f)) (state call_pc (up e 14) f) =
      ends_at field_arithmetic m 23 (passes boot_code m boot 23 (symbolic_state header_pc e f) (header_rows m e f)
      (header_goes m e f n.header n.range (instance_end n.more (up n.hash 20)) n.task.program n.task.main n.task.length n.digest cells.header_cells)) (header_ends m e f) in
      let c1 = opening.count in let c2 = loop.count in let c3 = calling.count in
      let last : EachRow P (k + 30 + turns + 23) (state call_pc (up e 14) f) (rows_from boot_code 1 m (symbolic_state call_pc (up e 14) f)) = (at_site (k + (53 + turns)) (k + 30 + turns + 23) (omega arith) site, tt) in
      each_passed P m k 30 _ _ (rows_from boot_code 30 m (symbolic_state tasks_pc a caller)) _ opening
      (each_mapped OutsideAt P k _ (rows_from boot_code 30 m (symbolic_state tasks_pc a caller)) (λ j x low high out. on j x low (omega (arith, high, c1)) out) (prologue_outside k a caller))
      (each_passed P m (k + 30) turns _ _ (hash_loop_rows m f n.more (hash_loop_start a)) _ loop
      (each_mapped OutsideAt P (k + 30) _ (hash_loop_rows m f n.more (hash_loop_start a)) (λ j x low high out. on j x (omega (arith, low)) (omega (arith, high, c2)) out)
      (loop_outside boot f (k + 30) n.more (hash_loop_start a) (up n.hash 20) n.task.program (padded_length n.task) n.words n.numbers cells.turns))
      (each_passed P m (k + 30 + turns) 23 _ _ (rows_from boot_code 23 m (symbolic_state header_pc e f)) (rows_from boot_code 1 m (symbolic_state call_pc (up e 14) f)) calling
      (each_mapped OutsideAt P (k + 30 + turns) _ (rows_from boot_code 23 m (symbolic_state header_pc e f)) (λ j x low high out. on j x (omega (arith, low)) (omega (arith, high, c3)) out) (header_outside (k + 30 + turns) e f))
      last))
    where
      at_site : {s : Registers ℕ} (i j : ℕ) → i ≡ j → P i s → P j s
      at_site {s} i j same h = subst (λ (x : ℕ). P x s) same h
