-- One turn of the loop over blocks.
use Rattle.std.proofs.Common.{◌≡◌, ℕ, ◌-◌, Option, Some, true, if◌then◌else◌, ◌==◌, refl, ap}
use Rattle.std.proofs.Common.{sym, subst}
use Rattle.cairo_model.specs.Machine.Addresses.{up, down}
use Rattle.boot_program.specs.Places.{block_pc, header_pc}
use Rattle.boot_program.specs.Words.{boot_code}
use Rattle.boot_program.specs.Rows.{RowsHold, are_rows, symbolic_after, symbolic_state, state_of, cell_value}
use Rattle.boot_program.specs.Cells.{BlockCells, state, after_block}
use Rattle.boot_program.proofs.RowLaw.{rows_joined}
use Rattle.boot_program.proofs.Statements.{there, meets, linked, value}

pub block_rows : (m : ℕ → Option ℕ) (a f : ℕ) → are_rows boot_code 29 m (symbolic_state block_pc a f) ≡ true
unfolding are_rows
block_rows m a f = refl

-- its sixteen rows on the words, and the others
module _ (m : ℕ → Option ℕ) (a f : ℕ) (words numbers : ℕ → ℕ) (h : BlockCells m a f (cell_value m (down a 3)) (cell_value m (down a 2)) (cell_value m (down a 1)) words numbers) where
  words_hold : RowsHold boot_code 16 m (symbolic_state block_pc a f)
  unfolding RowsHold
  words_hold = search (there m, meets m, h)

  numbers_hold : RowsHold boot_code 13 m (symbolic_after boot_code 16 m (symbolic_state block_pc a f))
  unfolding RowsHold symbolic_after
  numbers_hold = search (there m, meets m, h)

  block_at : RowsHold boot_code 29 m (symbolic_state block_pc a f)
  block_at = rows_joined boot_code m 16 13 29 refl (symbolic_state block_pc a f) words_hold numbers_hold

pub block_goes : (m : ℕ → Option ℕ) (a f instance code left : ℕ) (words numbers : ℕ → ℕ) → BlockCells m a f instance code left words numbers
    → RowsHold boot_code 29 m (symbolic_state block_pc a f)
block_goes m a f instance code left words numbers h =
    let one : BlockCells m a f (cell_value m (down a 3)) code left words numbers = subst (λ x. BlockCells m a f x code left words numbers) (sym (value m _ _ h.instance_pointer)) h in
    let two : BlockCells m a f (cell_value m (down a 3)) (cell_value m (down a 2)) left words numbers =
    subst (λ x. BlockCells m a f (cell_value m (down a 3)) x left words numbers) (sym (value m _ _ h.code_pointer)) one in
    block_at m a f words numbers (subst (λ x. BlockCells m a f (cell_value m (down a 3)) (cell_value m (down a 2)) x words numbers) (sym (value m _ _ h.words_left)) two)

-- what a turn reads
abbrev pub word_read : (ℕ → Option ℕ) → ℕ → ℕ → ℕ
word_read m a i = cell_value m (down (cell_value m (down a 3)) (8 - i))

abbrev pub number_read : (ℕ → Option ℕ) → ℕ → ℕ → ℕ
number_read m a i = cell_value m (up (cell_value m (down a 2)) i)

pub block_gives : (m : ℕ → Option ℕ) (a f : ℕ) → RowsHold boot_code 29 m (symbolic_state block_pc a f)
    → BlockCells m a f (cell_value m (down a 3)) (cell_value m (down a 2)) (cell_value m (down a 1)) (word_read m a) (number_read m a)
unfolding RowsHold
block_gives m a f h = search (linked m, h)

pub block_ends : (m : ℕ → Option ℕ) (a f left : ℕ) → m (up a 14) ≡ Some (down left 4) → state_of (symbolic_after boot_code 29 m (symbolic_state block_pc a f)) ≡ after_block a f left
unfolding symbolic_after
block_ends m a f left next = ap (λ x. state (if x == 0 then header_pc else block_pc) (up a 15) f) (value m (up a 14) (down left 4) next)
