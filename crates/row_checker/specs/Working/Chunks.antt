-- Rows cut into chunks that are walked side by side: each chunk ends with the state that the next one begins with, so that
-- no pair is left out.
use Rattle.std.specs.Prelude.{ℕ, ◌≡◌, ◌<◌, ◌≤◌, List, [], ◌∷◌, length, Option, Some, None}
use Rattle.cairo_model.specs.Machine.FieldMemories.{FieldCell}
use Rattle.cairo_model.specs.declared.state.FieldState.{FieldState}
use Rattle.row_checker.specs.Working.Walks.{IsAnswer, Leads}

-- the answer of a chunk that ends inside
abbrev pub AnswersChunk : List FieldCell → List FieldState → ℕ × ℕ → Option ℕ → Type 0
AnswersChunk cells states chunk answer = chunk.1 < length states → IsAnswer (Leads cells states) chunk.0 chunk.1 answer

-- chunks from the first row to below the stop, one after the other
unfoldable pub AreChunks : ℕ → List (ℕ × ℕ) → ℕ → Type 0
AreChunks first [] stop = first ≡ stop
AreChunks first (c ∷ cs) stop = (c.0 ≡ first) × (first ≤ c.1) × AreChunks c.1 cs stop

-- the one, or where there is none the other
abbrev pub or_else : Option ℕ → Option ℕ → Option ℕ
or_else (Some i) o = Some i
or_else None o = o

-- the first answer that there is
unfoldable pub first_of : List (Option ℕ) → Option ℕ
first_of [] = None
first_of (o ∷ os) = or_else o (first_of os)
