-- The places in a task's cells and states are in its segments.
use Rattle.std.proofs.Common.{◌≡◌, ℕ, suc, ◌-◌, ◌<◌, List, [], ◌∷◌, All, get_or, length, map, refl, sym, ap, subst, arith, ◌+◌, ◌++◌, ◌∙◌, drop, append_assoc}
use Rattle.std.proofs.lemmas.List.{drop_more, get_or-map, length-map}
use Rattle.goldi_field.specs.declared.Felt.{Felt}
use Rattle.cairo_model.specs.Machine.Steps.{Registers}
use Rattle.cairo_model.specs.Machine.Values.{Datum}
use Rattle.cairo_model.specs.Pie.Acceptance.{CheckedRecord}
use Rattle.cairo_model.specs.Pie.Layouts.{Fits}
use Rattle.cairo_model.specs.Pie.Records.{IsCellOf, KeepsRules, MemoryCell, PieRecord, memory_of}
use Rattle.cairo_model.specs.Pie.Staying.{AreIn, StatesStay}
use Rattle.cairo_model.specs.Machine.FieldMemories.{FieldCell}
use Rattle.cairo_model.specs.Views.Machine.{datum, registers}
use Rattle.cairo_model.specs.declared.state.State.{State}
use Rattle.cairo_model.specs.Views.Pie.{memory_cell}
use Rattle.cairo_model.specs.declared.pie.PieCell.{PieCell}
use Rattle.relocator.specs.Working.Lists.{IsCellIn, IsStateIn, numbers}
use Rattle.relocator.proofs.ListsIn.{cells_in, run_in, same_count, states_in}
use Rattle.batch_runner.specs.Laws.{IsAccepted}
use Rattle.batch_runner.specs.Layout.{last_ap}
use Rattle.batch_runner.specs.Memory.{placed, placed_on}

pub task_cells_in : (task : CheckedRecord) (bases : List Felt) (cells : List PieCell) → IsAccepted task → Fits (numbers bases) task.pie.sizes → map memory_cell cells ≡ task.pie.cells
    → All (IsCellIn (length bases)) cells
task_cells_in task bases cells accepted fits are =
    subst (λ (n : ℕ). All (IsCellIn n) cells) (same_count bases task.pie.sizes fits.one_each)
    (cells_in task.pie.sizes cells (subst (All (IsCellOf task.pie.sizes)) (sym are) accepted.rules.are_cells))

-- where a run leaves ap is told by its last state
pub last_ap_at : (states : List (Registers Datum)) (d : Registers Datum) → 0 < length states → last_ap states ≡ (get_or states (length states - 1) d).ap
last_ap_at [] d some = absurd (omega (arith, some))
last_ap_at (s ∷ []) d some = refl
last_ap_at (s ∷ t ∷ ts) d some =
    let e : suc (length (t ∷ ts) - 1) ≡ length (s ∷ t ∷ ts) - 1 = omega arith in
    last_ap_at (t ∷ ts) d (omega arith) ∙ ap (λ k. (get_or (s ∷ t ∷ ts) k d).ap) e

pub task_states_in : ((pie : PieRecord) → KeepsRules pie → StatesStay (length pie.sizes) (memory_of pie.cells)) → (task : CheckedRecord) (bases : List Felt) (states : List State) → IsAccepted task
    → Fits (numbers bases) task.pie.sizes → map registers states ≡ task.states → All (IsStateIn (length bases)) states
task_states_in stay task bases states accepted fits are =
    let runs = run_in stay task.pie task.states (record { rules = accepted.rules; main_in_code = accepted.main_in_code; last = accepted.isolated.last; runs = accepted.isolated.runs }) in
    subst (λ (n : ℕ). All (IsStateIn n) states) (same_count bases task.pie.sizes fits.one_each)
    (states_in (length task.pie.sizes) states (subst (All (AreIn (length task.pie.sizes))) (sym are) runs))

pub has_states : (task : CheckedRecord) (states : List State) → IsAccepted task → map registers states ≡ task.states → 0 < length states
has_states task states accepted are =
    let n : length (map registers states) ≡ length task.states = ap length are in
    let m = length-map states registers in
    let count = accepted.isolated.count in
    omega (arith, n, m, count)

pub last_ap_in : (states : List State) (last : State) → 0 < length states → last ≡ get_or states (length states - 1) last → last_ap (map registers states) ≡ datum last.ap
last_ap_in states last some is =
    let n = length-map states registers in
    last_ap_at (map registers states) (registers last) (omega (arith, n, some))
    ∙ ap (λ k. (get_or (map registers states) (k - 1) (registers last)).ap) n
    ∙ ap (λ (r : Registers Datum). r.ap) (get_or-map registers states (length states - 1) last (registers last) (omega (arith, some)) ∙ ap registers (sym is))

-- a turn of the pass over segments that have no part of their own
pub others_on : (bases : List ℕ) (cells : List MemoryCell) (s i : ℕ) (sizes : List ℕ) (so_far : List FieldCell) → i < length sizes
    → (so_far ++ placed bases s cells) ++ placed_on bases (s + 1) (drop (i + 1) sizes) cells ≡ so_far ++ placed_on bases s (drop i sizes) cells
unfolding placed_on
others_on bases cells s i sizes so_far lt =
    let next : s + 1 ≡ suc s = omega arith in
    append_assoc so_far (placed bases s cells) (placed_on bases (s + 1) (drop (i + 1) sizes) cells)
    ∙ ap (λ k. so_far ++ (placed bases s cells ++ placed_on bases k (drop (i + 1) sizes) cells)) next
    ∙ ap (λ (xs : List ℕ). so_far ++ placed_on bases s xs cells) (sym (drop_more sizes i 0 lt))
