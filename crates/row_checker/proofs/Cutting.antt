-- Chunks in order, and their answers.
use Rattle.std.proofs.Common.{◌≡◌, ℕ, ◌<◌, ◌≤◌, List, [], ◌∷◌, ◌++◌, length, Option, sym, subst, arith}
use Rattle.std.specs.List.{AllZip}
use Rattle.cairo_model.specs.Machine.FieldMemories.{FieldCell}
use Rattle.cairo_model.specs.declared.state.FieldState.{FieldState}
use Rattle.row_checker.specs.Working.Chunks.{AnswersChunk, AreChunks, first_of}
use Rattle.row_checker.specs.Working.Walks.{IsAnswer, Leads}
use Rattle.row_checker.proofs.Walking.{one_more}

-- one more chunk
pub one_further : (first : ℕ) (chunks : List (ℕ × ℕ)) (middle stop : ℕ) → AreChunks first chunks middle → middle ≤ stop → AreChunks first (chunks ++ ((middle, stop) ∷ [])) stop
unfolding AreChunks
one_further first [] middle stop is le = (sym is, omega (arith, is, le), refl_of stop)
  where
    refl_of : (n : ℕ) → n ≡ n
    refl_of n = omega arith
one_further first (c ∷ cs) middle stop is le = (is.0, is.1, one_further c.1 cs middle stop is.2 le)

chunks_rise : (first : ℕ) (chunks : List (ℕ × ℕ)) (stop : ℕ) → AreChunks first chunks stop → first ≤ stop
unfolding AreChunks
chunks_rise first [] stop is = omega (arith, is)
chunks_rise first (c ∷ cs) stop is = let rest = chunks_rise c.1 cs stop is.2 in let here = is.1 in omega (arith, here, rest)

module _ (cells : List FieldCell) (states : List FieldState) where
  pub answered : (first : ℕ) (chunks : List (ℕ × ℕ)) (answers : List (Option ℕ)) (stop : ℕ) → AreChunks first chunks stop → stop < length states
      → AllZip (AnswersChunk cells states) chunks answers → IsAnswer (Leads cells states) first stop (first_of answers)
  unfolding AreChunks first_of
  answered first [] [] stop are less by = λ k above below. absurd (omega (arith, are, above, below))
  answered first [] (o ∷ os) stop are less by = absurd by
  answered first (c ∷ cs) [] stop are less by = absurd by
  answered first (c ∷ cs) (o ∷ os) stop are less by =
      let rise = chunks_rise c.1 cs stop are.2 in
      let here : IsAnswer (Leads cells states) first c.1 o = subst (λ n. IsAnswer (Leads cells states) n c.1 o) are.0 (by.0 (omega (arith, rise, less))) in
      one_more (Leads cells states) first c.1 stop o (first_of os) are.1 rise here (answered c.1 cs os stop are.2 less by.1)
