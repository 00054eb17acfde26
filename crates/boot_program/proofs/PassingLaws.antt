-- Runs through stretches: one from what the rows hold, and what a run tells of them.
use Rattle.std.proofs.Common.{◌≡◌, ℕ, zero, suc, ◌+◌, true, false, List, [], ◌∷◌, ◌++◌, length, Option, is_some, refl, sym, ap, ◌∙◌, subst, arith}
use Rattle.std.specs.Prelude.{◌↔◌}
use Rattle.cairo_model.specs.Machine.Steps.{Registers, field_arithmetic, RunFrom, last_of}
use Rattle.cairo_model.specs.Machine.Runs.{Passes, GoesOn}
use Rattle.boot_program.specs.Words.{HasCode, boot_end}
use Rattle.boot_program.specs.Rows.{SymbolicState, RowsHold, are_rows, is_row, decoded_at, instruction_at, next_symbolic, rows_from, symbolic_after, state_of}
use Rattle.boot_program.proofs.RowLaw.{rows_go, rows_give, rows_end, gives, left_true, right_true, same_list}

-- a run that begins with so many rows of a program, and goes on after them
pub record BeginsWith (code : ℕ → Option ℕ) (m : ℕ → Option ℕ) (n : ℕ) (s : SymbolicState) (ts : List (Registers ℕ)) (rest : List (Registers ℕ)) : Type 0 where
  pub holds : RowsHold code n m s
  pub parts : ts ≡ rows_from code n m s ++ rest
  pub goes_on : RunFrom field_arithmetic m (state_of (symbolic_after code n m s)) rest
  pub to_end : last_of (state_of (symbolic_after code n m s)) rest ≡ last_of (state_of s) ts
  pub shorter : length ts ≡ n + length rest

false_true : false ≡ true → ⊥
false_true e = absurd (cc)

length_rows : (code : ℕ → Option ℕ) (m : ℕ → Option ℕ) (n : ℕ) (s : SymbolicState) → length (rows_from code n m s) ≡ n
unfolding rows_from
length_rows code m zero s = refl
length_rows code m (suc n) s = ap suc (length_rows code m n (next_symbolic code m (instruction_at code s.pc) s))

module _ (code : ℕ → Option ℕ) (m : ℕ → Option ℕ) (boot : HasCode code m) where
  pub passes : (n : ℕ) (s : SymbolicState) → are_rows code n m s ≡ true → RowsHold code n m s → Passes field_arithmetic m n (state_of s) (rows_from code n m s) (state_of (symbolic_after code n m s))
  passes n s rows holds = record { count = length_rows code m n s; runs = rows_go code m boot n s rows holds; ends = rows_end code m boot n s }

  pub passed : (n : ℕ) (s : SymbolicState) (ts : List (Registers ℕ)) (t : Registers ℕ) → are_rows code n m s ≡ true → Passes field_arithmetic m n (state_of s) ts t
      → RowsHold code n m s × (ts ≡ rows_from code n m s) × (t ≡ state_of (symbolic_after code n m s))
  passed n s ts t rows by =
      let told = rows_give code m boot n s ts rows by.count by.runs in
      (told.0, told.1, sym by.ends ∙ ap (λ (x : List (Registers ℕ)). last_of (state_of s) x) told.1 ∙ rows_end code m boot n s)

pub rows_law : (code m : ℕ → Option ℕ) → HasCode code m → (n : ℕ) (s : SymbolicState) → are_rows code n m s ≡ true → (ts : List (Registers ℕ)) (t : Registers ℕ)
    → Passes field_arithmetic m n (state_of s) ts t ↔ (RowsHold code n m s × (ts ≡ rows_from code n m s) × (t ≡ state_of (symbolic_after code n m s)))
rows_law code m has n s rows ts t = (passed code m has n s ts t rows, makes)
  where
    makes : RowsHold code n m s × (ts ≡ rows_from code n m s) × (t ≡ state_of (symbolic_after code n m s)) → Passes field_arithmetic m n (state_of s) ts t
    makes by = subst (λ (x : List (Registers ℕ)). Passes field_arithmetic m n (state_of s) x t) (sym by.1)
        (subst (λ (x : Registers ℕ). Passes field_arithmetic m n (state_of s) (rows_from code n m s) x) (sym by.2) (passes code m has n s rows by.0))

-- A run that ends where the program has no instruction goes through each stretch whole.
module _ (code : ℕ → Option ℕ) (end : ℕ) (no_row : is_some (decoded_at code end) ≡ false) (m : ℕ → Option ℕ) (boot : HasCode code m) where
  not_at_end : (pc : ℕ) → is_some (decoded_at code pc) ≡ true → pc ≡ end → ⊥
  not_at_end pc there at_end = false_true (sym no_row ∙ subst (λ (x : ℕ). is_some (decoded_at code x) ≡ true) at_end there)

  pub begins : (n : ℕ) (s : SymbolicState) (ts : List (Registers ℕ)) → are_rows code n m s ≡ true → RunFrom field_arithmetic m (state_of s) ts
      → (last_of (state_of s) ts).pc ≡ end → (rest : List (Registers ℕ)) × BeginsWith code m n s ts rest
  unfolding are_rows RowsHold rows_from symbolic_after
  begins zero s ts rows run ends = (ts, record { holds = tt; parts = refl; goes_on = run; to_end = refl; shorter = omega arith })
  begins (suc n) s [] rows run ends = absurd (not_at_end s.pc (left_true (is_some (decoded_at code s.pc)) _ (left_true (is_row code s) _ rows)) ends)
  begins (suc n) s (t ∷ ts) rows run ends =
      let u = next_symbolic code m (instruction_at code s.pc) s in
      let first = gives code m boot s (left_true (is_row code s) _ rows) t run.0 in
      let run_on : RunFrom field_arithmetic m (state_of u) ts = subst (λ (r : Registers ℕ). RunFrom field_arithmetic m r ts) first.1 run.1 in
      let same_end : last_of (state_of u) ts ≡ last_of t ts = ap (λ (r : Registers ℕ). last_of r ts) (sym first.1) in
      let tail = begins n u ts (right_true (is_row code s) _ rows) run_on (ap (λ (r : Registers ℕ). r.pc) same_end ∙ ends) in
      let by = tail.1 in (
        tail.0,
        record {
          holds = (first.0, by.holds);
          parts = same_list t (state_of u) ts (rows_from code n m u ++ tail.0) first.1 by.parts;
          goes_on = by.goes_on;
          to_end = by.to_end ∙ same_end;
          shorter = let e = by.shorter in omega (arith, e);
        },
      )

module _ (m : ℕ → Option ℕ) where
  pub ends_too : {s t : Registers ℕ} {rows ts rest : List (Registers ℕ)} → GoesOn field_arithmetic m s t rows ts rest → (last_of s ts).pc ≡ boot_end → (last_of t rest).pc ≡ boot_end
  ends_too on e = ap (λ (x : Registers ℕ). x.pc) on.to_end ∙ e

  -- one stretch of a longer run, where its last state is known
  pub goes_on : (code : ℕ → Option ℕ) (n : ℕ) (s : SymbolicState) {t : Registers ℕ} {ts rest : List (Registers ℕ)} → BeginsWith code m n s ts rest → state_of (symbolic_after code n m s) ≡ t
      → GoesOn field_arithmetic m (state_of s) t (rows_from code n m s) ts rest
  goes_on code n s {t} {ts} {rest} by same = record {
    parts = by.parts;
    runs = subst (λ (x : Registers ℕ). RunFrom field_arithmetic m x rest) same by.goes_on;
    to_end = ap (λ (x : Registers ℕ). last_of x rest) (sym same) ∙ by.to_end;
  }
