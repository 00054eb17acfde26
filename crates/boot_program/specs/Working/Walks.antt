-- A property of each row of a run, by the row's index.
use Rattle.std.specs.Prelude.{ℕ, zero, suc, ◌≢◌, ◌<◌, ◌≤◌, ◌==◌, ltb, Bool, true, ◌&&◌, not, List, [], ◌∷◌, Option}
use Rattle.cairo_model.specs.Machine.Steps.{Registers}
use Rattle.boot_program.specs.Places.{call_pc, entry_pc}
use Rattle.boot_program.specs.Words.{boot_code, boot_end}
use Rattle.boot_program.specs.Rows.{SymbolicState, next_symbolic, instruction_at}

-- it holds at each state but the last
unfoldable pub EachRow : (ℕ → Registers ℕ → Type 0) → ℕ → Registers ℕ → List (Registers ℕ) → Type 0
EachRow P k s [] = Unit {0}
EachRow P k s (t ∷ ts) = P k s × EachRow P (suc k) t ts

-- a state in the bootloader, and not at the call of a task
pub record Outside (s : Registers ℕ) : Type 0 where
  pub from : entry_pc ≤ s.pc
  pub below : s.pc < boot_end
  pub no_site : s.pc ≢ call_pc

abbrev pub is_outside : ℕ → Bool
is_outside pc = ltb 0 pc && (ltb pc boot_end && not (pc == call_pc))

-- a test that holds at the addresses of so many rows
unfoldable pub all_pcs : (ℕ → Bool) → ℕ → (ℕ → Option ℕ) → SymbolicState → Bool
all_pcs test zero m s = true
all_pcs test (suc n) m s = test s.pc && all_pcs test n m (next_symbolic boot_code m (instruction_at boot_code s.pc) s)
