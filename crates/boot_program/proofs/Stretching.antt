-- The law of each stretch: its instructions are there, its cells hold what they ask, and what they ask tells the cells.
use Rattle.std.proofs.Common.{◌≡◌, ℕ, ◌-◌, true, List, Option, sym, subst, ◌∙◌}
use Rattle.cairo_model.specs.Machine.Steps.{Registers, field_arithmetic}
use Rattle.cairo_model.specs.Machine.Runs.{Passes}
use Rattle.cairo_model.specs.Machine.Addresses.{up, down}
use Rattle.boot_program.specs.Places.{block_pc, branch_pc, call_pc, entry_pc, exit_pc, header_pc, return_pc, tasks_pc}
use Rattle.boot_program.specs.Words.{boot_code, HasBoot}
use Rattle.boot_program.specs.Rows.{SymbolicState, symbolic_state, RowsHold, are_rows, rows_from, symbolic_after, state_of, cell_value}
use Rattle.boot_program.specs.Cells.{frame_at}
use Rattle.boot_program.specs.StretchLaws.{StretchLaw, StretchLaws, EntryValues, PrologueValues, BlockValues, HeaderValues, ReturnValues, ExitValues}
use Rattle.boot_program.proofs.PassingLaws.{passes, passed}
use Rattle.boot_program.proofs.Entry.{entry_rows, entry_goes, entry_gives, entry_ends}
use Rattle.boot_program.proofs.Prologue.{prologue_rows, prologue_goes, prologue_gives, prologue_ends, supplied_at}
use Rattle.boot_program.proofs.Block.{block_rows, block_goes, block_gives, block_ends, word_read, number_read}
use Rattle.boot_program.proofs.Header.{header_rows, header_goes, header_gives, header_ends, call_rows, call_goes, call_gives, call_ends}
use Rattle.boot_program.proofs.Return.{return_rows, return_goes, return_gives, return_ends, branch_rows, branch_goes, branch_gives, branch_ends, exit_rows, exit_goes, exit_gives, exit_ends}

module _ (m : ℕ → Option ℕ) (boot : HasBoot m) where
  -- a stretch's law from its four facts
  stretch : (n : ℕ) (s : SymbolicState) (Values : Type 0) (Holds : Values → Type 0) (end : Values → Registers ℕ) → are_rows boot_code n m s ≡ true → ((x : Values) → Holds x → RowsHold boot_code n m s)
      → (RowsHold boot_code n m s → (x : Values) × Holds x) → ((x : Values) → Holds x → state_of (symbolic_after boot_code n m s) ≡ end x) → StretchLaw m n s Values Holds end
  stretch n s Values Holds end rows goes gives ends ts t = (tells, makes) where
    tells : Passes field_arithmetic m n (state_of s) ts t → (x : Values) × Holds x × (ts ≡ rows_from boot_code n m s) × (t ≡ end x)
    tells by =
        let told = passed boot_code m boot n s ts t rows by in
        let x = gives told.0 in
        (x.0, x.1, told.1, told.2 ∙ ends x.0 x.1)

    makes : (x : Values) × Holds x × (ts ≡ rows_from boot_code n m s) × (t ≡ end x) → Passes field_arithmetic m n (state_of s) ts t
    makes by =
        let made = passes boot_code m boot n s rows (goes by.0 by.1) in
        let whole : Passes field_arithmetic m n (state_of s) (rows_from boot_code n m s) t = record { count = made.count; runs = made.runs; ends = made.ends ∙ ends by.0 by.1 ∙ sym by.3 } in
        subst (λ (x : List (Registers ℕ)). Passes field_arithmetic m n (state_of s) x t) (sym by.2) whole

  pub stretch_laws : StretchLaws m
  stretch_laws = record {
    entry = λ a f. stretch 4 (symbolic_state entry_pc a f) EntryValues _ _ (entry_rows m a f) (λ x h. entry_goes m a f x.count x.output x.range x.hash h)
        (λ r. (record { count = cell_value m (up (cell_value m (down f 5)) 0); output = cell_value m (down f 5); range = cell_value m (down f 4); hash = cell_value m (down f 3) }, entry_gives m a f r)) (λ x h. entry_ends m a f);
    prologue = λ a f. stretch 30 (symbolic_state tasks_pc a f) PrologueValues _ _ (prologue_rows m a f) (λ x h. prologue_goes m a f x.hash x.task h)
        (λ r. (record { hash = cell_value m (down (frame_at a) 3); task = supplied_at m (frame_at a) }, prologue_gives m a f r)) (λ x h. prologue_ends m a f);
    block = λ a f. stretch 29 (symbolic_state block_pc a f) BlockValues _ _ (block_rows m a f) (λ x h. block_goes m a f x.instance x.code x.left x.words x.numbers h)
        (λ r. (record { instance = cell_value m (down a 3); code = cell_value m (down a 2); left = cell_value m (down a 1); words = word_read m a; numbers = number_read m a }, block_gives m a f r))
        (λ x h. block_ends m a f x.left h.next_left);
    header = λ a f. stretch 23 (symbolic_state header_pc a f) HeaderValues _ _ (header_rows m a f) (λ x h. header_goes m a f x.header x.range x.hash x.program x.main x.length x.words h)
        (λ r. (
          record {
            header = cell_value m (down f 5);
            range = cell_value m (down f 4);
            hash = cell_value m (down a 3);
            program = cell_value m (up f 0);
            main = cell_value m (up f 1);
            length = cell_value m (up f 2);
            words = λ i. cell_value m (down (cell_value m (down a 3)) (8 - i));
          },
          header_gives m a f r,
        )) (λ x h. header_ends m a f);
    call = λ a f. stretch 1 (symbolic_state call_pc a f) ℕ _ _ (call_rows m a f) (call_goes m a f) (λ r. (cell_value m (up f 15), call_gives m a f r)) (λ x h. call_ends m a f x h.begins);
    return = λ a f. stretch 11 (symbolic_state return_pc a f) ReturnValues _ _ (return_rows m a f) (λ x h. return_goes m a f x.left x.header x.gap x.distance x.return x.caller x.stops h)
        (λ r. (
          record {
            left = cell_value m (down f 6);
            header = cell_value m (down f 5);
            gap = cell_value m (up f 5);
            distance = cell_value m (up f 9);
            return = cell_value m (down f 1);
            caller = cell_value m (down f 2);
            stops = record { output = cell_value m (down a 3); range = cell_value m (down a 2); hash = cell_value m (down a 1) };
          },
          return_gives m a f r,
        ))
        (λ x h. return_ends m a f x.gap x.return x.caller h.gap_is h.return_kept h.caller_kept);
    branch = λ a f. stretch 1 (symbolic_state branch_pc a f) ℕ _ _ (branch_rows m a f) (branch_goes m a f) (λ r. (cell_value m (down a 4), branch_gives m a f r)) (λ x h. branch_ends m a f x h.tasks_left);
    exit = λ a f. stretch 1 (symbolic_state exit_pc a f) ExitValues _ _ (exit_rows m a f) (λ x h. exit_goes m a f x.return x.caller h)
        (λ r. (record { return = cell_value m (down f 1); caller = cell_value m (down f 2) }, exit_gives m a f r)) (λ x h. exit_ends m a f x.return x.caller h.return_is h.caller_is);
  }
