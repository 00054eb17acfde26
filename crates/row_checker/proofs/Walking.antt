-- Rows of a list of states, walked in one piece or in chunks.
use Rattle.std.proofs.Common.{◌≡◌, ℕ, zero, suc, ◌+◌, ◌-◌, ◌<◌, ◌≤◌, List, [], ◌∷◌, length, map, get_or, Option, Some, None, inl, inr, sym, ap, subst, ◌∙◌, arith}
use Rattle.std.proofs.lemmas.Bool.{cases_lt}
use Rattle.std.proofs.lemmas.List.{length-map}
use Rattle.cairo_model.specs.Machine.FieldMemories.{FieldCell, cell_at}
use Rattle.cairo_model.specs.Machine.Runs.{IsState}
use Rattle.cairo_model.specs.Machine.Steps.{Registers, Step, field_arithmetic}
use Rattle.cairo_model.specs.Views.Machine.{field_registers}
use Rattle.cairo_model.specs.declared.state.FieldState.{FieldState}
use Rattle.cairo_model.proofs.RunParts.{one_state}
use Rattle.row_checker.specs.Working.Chunks.{or_else}
use Rattle.row_checker.specs.Working.Walks.{AllGood, IsAnswer, Leads}

-- ---- the state at a place

pub viewed : (states : List FieldState) (k : ℕ) (s : FieldState) → k < length states → s ≡ get_or states k s → IsState (map field_registers states) k (field_registers s)
viewed [] k s less is = absurd (omega arith)
viewed (u ∷ us) zero s less is = ap (λ (t : FieldState). Some (field_registers t)) (sym is)
viewed (u ∷ us) (suc k) s less is = viewed us k s (omega arith) is

-- the same in a list that the states are seen as
pub viewed_in : (states : List FieldState) (list : List (Registers ℕ)) (k : ℕ) (s : FieldState) → map field_registers states ≡ list → k < length states → s ≡ get_or states k s → IsState list k (field_registers s)
viewed_in states list k s same less is = subst (λ (ss : List (Registers ℕ)). IsState ss k (field_registers s)) same (viewed states k s less is)

-- they are as many
pub as_many : (states : List FieldState) (list : List (Registers ℕ)) → map field_registers states ≡ list → length states ≡ length list
as_many states list same = sym (length-map states field_registers) ∙ ap length same

pub last_in : (states : List FieldState) (list : List (Registers ℕ)) (s : FieldState) → map field_registers states ≡ list → 0 < length states → s ≡ get_or states (length states - 1) s
    → IsState list (length list - 1) (field_registers s)
last_in states list s same some is =
    let count : length states - 1 ≡ length list - 1 = ap (λ (n : ℕ). n - 1) (as_many states list same) in
    subst (λ (k : ℕ). IsState list k (field_registers s)) count (viewed_in states list (length states - 1) s same (omega (arith, some)) is)

module _ (cells : List FieldCell) (states : List FieldState) where
  pub leads_so : (k : ℕ) (s t : FieldState) → k + 1 < length states → s ≡ get_or states k s → t ≡ get_or states (k + 1) t
      → Step field_arithmetic (cell_at cells) (field_registers s) (field_registers t) → Leads cells states k
  leads_so k s t less is_s is_t step =
      record { state = field_registers s; after = field_registers t; is_state = viewed states k s (omega arith) is_s; is_after = viewed states (k + 1) t less is_t; steps = step }

  pub steps_so : (k : ℕ) (s t : FieldState) → k + 1 < length states → s ≡ get_or states k s → t ≡ get_or states (k + 1) t
      → Leads cells states k → Step field_arithmetic (cell_at cells) (field_registers s) (field_registers t)
  steps_so k s t less is_s is_t leads =
      let from = one_state (map field_registers states) k leads.state (field_registers s) leads.is_state (viewed states k s (omega arith) is_s) in
      let to = one_state (map field_registers states) (k + 1) leads.after (field_registers t) leads.is_after (viewed states (k + 1) t less is_t) in
      subst (λ (u : Registers ℕ). Step field_arithmetic (cell_at cells) (field_registers s) u) to
      (subst (λ (u : Registers ℕ). Step field_arithmetic (cell_at cells) u leads.after) from leads.steps)

-- ---- chunks

module _ (Good : ℕ → Type 0) where
  joined : (first middle stop : ℕ) → AllGood Good first middle → AllGood Good middle stop → AllGood Good first stop
  joined first middle stop left right k above below = elim (cases_lt k middle) [
    | inl early ↦ left k above early
    | inr late ↦ right k late below
  ]

  pub one_more : (first middle stop : ℕ) (here rest : Option ℕ) → first ≤ middle → middle ≤ stop → IsAnswer Good first middle here → IsAnswer Good middle stop rest
      → IsAnswer Good first stop (or_else here rest)
  one_more first middle stop (Some i) rest le lt here there = record { above = here.above; below = let b = here.below in omega (arith, b, lt); bad = here.bad; before = here.before }
  one_more first middle stop None (Some i) le lt here there =
      record { above = let a = there.above in omega (arith, a, le); below = there.below; bad = there.bad; before = joined first middle i here there.before }
  one_more first middle stop None None le lt here there = joined first middle stop here there
