-- The relocated isolated run of a task, over any field memory that has its cells.
use Rattle.std.proofs.Common.{◌≡◌, ℕ, ◌+◌, ◌-◌, ◌<◌, List, [], ◌∷◌, length, map, drop, slice_index, All, Option, Some, lit<, sym, ap, subst, ◌∙◌, arith}
use Rattle.std.proofs.lemmas.List.{length-map}
use Rattle.std.proofs.lemmas.List.Elements.{All-head, All-tail}
use Rattle.goldi_field.specs.Numbers.{prime, sum_of, IsFelt, difference_of}
use Rattle.cairo_model.specs.Machine.Values.{Datum, number, place, Difference}
use Rattle.cairo_model.specs.Machine.Steps.{Registers, field_arithmetic, value_arithmetic, RunsTo, RunFrom, last_of}
use Rattle.cairo_model.specs.Pie.Records.{PieRecord, IsValueIn, segment_size, memory_of}
use Rattle.cairo_model.specs.Segments.{builtin_segments, builtin_mask}
use Rattle.cairo_model.specs.Pie.Layouts.{Fits, base_of, relocated, relocated_state}
use Rattle.cairo_model.specs.Pie.Acceptance.{CheckedRecord, AcceptedWith, start_of}
use Rattle.cairo_model.proofs.Outcomes.{and_then_gives}
use Rattle.cairo_model.specs.Pie.Relocation.{HasRelocated}
use Rattle.relocator.specs.Relocations.{KeepsArithmetic, RunsOverField}
use Rattle.cairo_model.specs.Pie.Staying.{AreIn}
use Rattle.relocator.proofs.ListsIn.{run_in}
use Rattle.cairo_model.proofs.RunsStay.{pie_states_stay}
use Rattle.relocator.proofs.RunsPlaced.{starts_inside}
use Rattle.cairo_model.specs.Machine.Addresses.{up, down}
use Rattle.boot_program.specs.Cells.{frame_at, state}
use Rattle.cairo_model.specs.Machine.Runs.{Passes}
use Rattle.batch_runner.specs.Rows.{task_states}
use Rattle.batch_runner.specs.Working.TaskRuns.{StandsAtCall, TaskLeaves}
use Rattle.boot_program.specs.Turns.{TurnValues, task_start}

-- a run by its list of states is one of so many rows after the first
passes_of : (m : ℕ → Option ℕ) (s : Registers ℕ) (ss : List (Registers ℕ)) (t : Registers ℕ) (n : ℕ) → RunsTo field_arithmetic m s ss t → length ss ≡ n + 1 → Passes field_arithmetic m n s (drop 1 ss) t
passes_of m s [] t n none count = absurd none
passes_of m s (u ∷ us) t n run count = record {
  count = omega (arith, count);
  runs = subst (λ (x : Registers ℕ). RunFrom field_arithmetic m x us) run.0 run.1.0;
  ends = ap (λ (x : Registers ℕ). last_of x us) (sym run.0) ∙ run.1.1;
}

lower : (a n : ℕ) → IsFelt n → difference_of a n ≡ down a n
lower a n small = omega (arith, small)

-- the last state of a run is one of its states
last_in : {V : Type 0} (P : Registers V → Type 0) (u : Registers V) (us : List (Registers V)) → All P (u ∷ us) → P (last_of u us)
last_in P u [] all = All-head P u [] all
last_in P u (v ∷ vs) all = last_in P v vs (All-tail P u (v ∷ vs) all)

end_in : (P : Registers Datum → Type 0) (m : Datum → Option Datum) (s t : Registers Datum) (ss : List (Registers Datum)) → RunsTo value_arithmetic m s ss t → All P ss → P t
end_in P m s t [] none all = absurd none
end_in P m s t (u ∷ us) run all = subst P run.1.1 (last_in P u us all)

module _ (m : ℕ → Option ℕ) (bases : List ℕ) (checked : CheckedRecord) (fits : Fits bases checked.pie.sizes) (keeps : KeepsArithmetic bases)
    (accepted : AcceptedWith checked.pie checked.fact checked.states) (has : HasRelocated bases (memory_of checked.pie.cells) m) where
  end_inside : IsValueIn (length checked.pie.sizes) accepted.isolated.last.ap
  end_inside = (end_in (AreIn (length checked.pie.sizes)) (memory_of checked.pie.cells) (start_of checked.pie) accepted.isolated.last checked.states accepted.isolated.runs
      (run_in pie_states_stay checked.pie checked.states (starts_inside checked accepted))).ap

  stop : (i : ℕ) → i < 3 → IsFelt (3 - i) → m (down (relocated bases accepted.isolated.last.ap) (3 - i)) ≡ Some (up (base_of bases (slice_index (builtin_segments builtin_mask) i)) (segment_size checked.pie (slice_index (builtin_segments builtin_mask) i)))
  stop i lt small =
      let ap_in : IsValueIn (length bases) accepted.isolated.last.ap = subst (λ (n : ℕ). IsValueIn n accepted.isolated.last.ap) (sym fits.one_each) end_inside in
      and_then_gives (Difference accepted.isolated.last.ap (number (3 - i))) (memory_of checked.pie.cells) _ (accepted.isolated.home.stops i lt) (λ b is found.
      ap m (sym (keeps.differences accepted.isolated.last.ap (number (3 - i)) b ap_in small is ∙ lower (relocated bases accepted.isolated.last.ap) (3 - i) small)) ∙ has b _ found)

  felt : (v : Datum) → IsValueIn (length checked.pie.sizes) v → relocated bases v < prime
  felt (number n) is = is
  felt (place s o) is = omega arith

  pub task_passes : RunsOverField bases checked.pie.cells → TaskLeaves m bases checked.pie checked.states (relocated bases accepted.isolated.last.ap)
  task_passes runs =
      let last = accepted.isolated.last in
      let home = accepted.isolated.home in
      let run = runs m has (start_of checked.pie) last checked.states accepted.isolated.runs in
      let count : length (map (relocated_state bases) checked.states) ≡ checked.pie.steps + 1 = length-map checked.states (relocated_state bases) ∙ accepted.isolated.count in
      let whole = passes_of m _ _ _ checked.pie.steps run count in
      let same : relocated_state bases last ≡ state (up (base_of bases 6) 0) (relocated bases last.ap) (up (base_of bases 5) 0) =
      ap (λ (x : Datum). state (relocated bases x) (relocated bases last.ap) (relocated bases last.fp)) home.returned
      ∙ ap (λ (x : Datum). state (up (base_of bases 6) 0) (relocated bases last.ap) (relocated bases x)) home.restored in
      record {
        is_felt = felt last.ap end_inside;
        passes = record { count = whole.count; runs = whole.runs; ends = whole.ends ∙ same };
        output_stop = stop 0 (lit< tt) (lit< tt);
        range_stop = stop 1 (lit< tt) (lit< tt);
        hash_stop = stop 2 (lit< tt) (lit< tt);
      }

up_nothing : (a : ℕ) → up (frame_at a) 0 ≡ frame_at a
up_nothing a = omega arith

pub called_task_runs : (m : ℕ → Option ℕ) (a : ℕ) (n : TurnValues) (bases : List ℕ) (pie : PieRecord) (states : List (Registers Datum)) (home : ℕ) → StandsAtCall a n bases pie
    → TaskLeaves m bases pie states home → Passes field_arithmetic m pie.steps (task_start a n) (task_states bases states) (state 106 home (frame_at a))
called_task_runs m a n bases pie states home at leaves =
    let start : relocated_state bases (start_of pie) ≡ task_start a n =
    ap (λ x. state (sum_of x pie.main) (up (base_of bases 1) 5) (up (base_of bases 1) 5)) at.program
    ∙ ap (λ x. state (sum_of n.task.program x) (up (base_of bases 1) 5) (up (base_of bases 1) 5)) at.main
    ∙ ap (λ x. state (sum_of n.task.program n.task.main) x x) at.execution in
    let end : state (up (base_of bases 6) 0) home (up (base_of bases 5) 0) ≡ state 106 home (frame_at a) =
    ap (λ x. state (up x 0) home (up (base_of bases 5) 0)) at.home
    ∙ ap (λ x. state 106 home (up x 0)) at.frame ∙ ap (λ x. state 106 home x) (up_nothing a) in
    let one : Passes field_arithmetic m pie.steps (task_start a n) (task_states bases states) (state (up (base_of bases 6) 0) home (up (base_of bases 5) 0)) =
    subst (λ (x : Registers ℕ). Passes field_arithmetic m pie.steps x (task_states bases states) (state (up (base_of bases 6) 0) home (up (base_of bases 5) 0))) start leaves.passes in
    record { count = one.count; runs = one.runs; ends = one.ends ∙ end }
