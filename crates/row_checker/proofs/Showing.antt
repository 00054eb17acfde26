-- The place that shows why a task doesn't stand.
use Rattle.std.proofs.Common.{◌≡◌, ℕ, List, length, map, take, drop, slice_get, Bool, Option, Some, None, IsTrue, inl, inr, sym, subst, ◌∙◌}
use Rattle.cairo_model.specs.Certificate.Records.{CertRecord, MarkRecord}
use Rattle.cairo_model.specs.Machine.FieldMemories.{cell_at}
use Rattle.cairo_model.specs.Machine.Steps.{Registers}
use Rattle.cairo_model.specs.Machine.Values.{Datum, place}
use Rattle.cairo_model.specs.Pie.Acceptance.{CheckedRecord}
use Rattle.cairo_model.specs.Pie.Layouts.{relocated_state}
use Rattle.cairo_model.specs.Pie.Records.{MemoryCell, memory_of}
use Rattle.cairo_model.specs.Pie.Relocation.{HasRelocated}
use Rattle.cairo_model.proofs.Outcomes.{no_some, some_is}
use Rattle.boot_program.specs.Faults.Tasks.{IsFirstMissing, ShowsTask, TaskMisses, TaskStands}
use Rattle.row_checker.specs.Working.Tasks.{ShowsPlaced, StandsAt}

-- where each cell is there, none is missing
pub none_missing : (bases : List ℕ) (cells : List MemoryCell) (field : ℕ → Option ℕ) → HasRelocated bases (memory_of cells) field → (t q : ℕ) → ¬ IsFirstMissing bases cells field t q
none_missing bases cells field has t q first = first.here.missing (has (place t q) first.here.value first.here.stands)

module _ (cert : CertRecord) (tasks : List CheckedRecord) (i : ℕ) where
  abbrev Nowhere : Type 0
  Nowhere = (t q : ℕ) → ¬ TaskMisses cert tasks i t q

  whole : Nowhere → (segment offset : ℕ) → segment ≡ 6 → offset ≡ 0 → ShowsTask cert tasks i segment offset
  whole nowhere segment offset s o = inr (s, (o, nowhere))

  module _ (none : slice_get cert.tasks i ≡ None) where
    pub no_mark_fails : ¬ TaskStands cert tasks i
    no_mark_fails stands = no_some stands.1.1.mark (sym none ∙ stands.1.1.is_mark)

    pub no_mark_shows : (segment offset : ℕ) → segment ≡ 6 → offset ≡ 0 → ShowsTask cert tasks i segment offset
    no_mark_shows = whole (λ t q misses. no_some misses.mark (sym none ∙ misses.is_placed.is_mark))

  module _ (none : slice_get tasks i ≡ None) where
    pub no_task_fails : ¬ TaskStands cert tasks i
    no_task_fails stands = no_some stands.0 (sym none ∙ stands.1.0)

    pub no_task_shows : (segment offset : ℕ) → segment ≡ 6 → offset ≡ 0 → ShowsTask cert tasks i segment offset
    no_task_shows = whole (λ t q misses. no_some misses.task (sym none ∙ misses.is_placed.is_task))

  module _ (mark : MarkRecord) (task : CheckedRecord) (is_mark : slice_get cert.tasks i ≡ Some mark) (is_task : slice_get tasks i ≡ Some task) where
    pub stands_at : StandsAt cert mark task → TaskStands cert tasks i
    stands_at stands = (task, (is_task, record { mark = mark; is_mark = is_mark; one_base_each = stands.one_base_each; has_cells = stands.has_cells; has_states = stands.has_states }))

    -- what its own mark and task say
    same_mark : (other : MarkRecord) → slice_get cert.tasks i ≡ Some other → other ≡ mark
    same_mark other is = some_is other mark (sym is ∙ is_mark)

    same_task : (other : CheckedRecord) → slice_get tasks i ≡ Some other → other ≡ task
    same_task other is = some_is other task (sym is ∙ is_task)

    pub placed_fails : ¬ StandsAt cert mark task → ¬ TaskStands cert tasks i
    placed_fails fails stands = fails
        (subst (λ (k : CheckedRecord). StandsAt cert mark k) (same_task stands.0 stands.1.0)
        (subst (λ (m : MarkRecord). StandsAt cert m stands.0) (same_mark stands.1.1.mark stands.1.1.is_mark)
        (record { one_base_each = stands.1.1.one_base_each; has_cells = stands.1.1.has_cells; has_states = stands.1.1.has_states })))

    pub placed_shows : (segment offset : ℕ) → ShowsPlaced cert mark task segment offset → ShowsTask cert tasks i segment offset
    placed_shows segment offset (inl first) =
        inl (record { mark = mark; task = task; is_placed = record { is_mark = is_mark; is_task = is_task; one_base_each = first.0 }; misses = first.1 })
    placed_shows segment offset (inr none) = whole (λ t q misses.
        let marks = same_mark misses.mark misses.is_placed.is_mark in
        let tasks = same_task misses.task misses.is_placed.is_task in
        none.1.1
        (subst (λ (k : CheckedRecord). length mark.bases ≡ length k.pie.sizes) tasks (subst (λ (m : MarkRecord). length m.bases ≡ length misses.task.pie.sizes) marks misses.is_placed.one_base_each))
        t q
        (subst (λ (k : CheckedRecord). IsFirstMissing mark.bases k.pie.cells (cell_at cert.cells) t q) tasks
        (subst (λ (m : MarkRecord). IsFirstMissing m.bases misses.task.pie.cells (cell_at cert.cells) t q) marks misses.misses))) segment offset none.0 none.1.0

-- ---- a stretch of states, as the certificate and the task are seen

module _ (b : Bool) where
  abbrev Says : ℕ → List (Registers ℕ) → ℕ → List ℕ → List (Registers Datum) → Type 0
  Says n states row bases run = (IsTrue b → take n (drop row states) ≡ map (relocated_state bases) run) × (take n (drop row states) ≡ map (relocated_state bases) run → IsTrue b)

  pub says_stretch : (states states' : List (Registers ℕ)) (row row' : ℕ) (bases bases' : List ℕ) (run run' : List (Registers Datum)) (n : ℕ)
      → states ≡ states' → row ≡ row' → bases ≡ bases' → run ≡ run' → length run' ≡ n → Says (length run) states row bases run → Says n states' row' bases' run'
  says_stretch states states' row row' bases bases' run run' n s r bs o count says =
      subst (λ (k : ℕ). Says k states' row' bases' run') count
      (subst (λ (us : List (Registers Datum)). Says (length us) states' row' bases' us) o
      (subst (λ (xs : List ℕ). Says (length run) states' row' xs run) bs
      (subst (λ (k : ℕ). Says (length run) states' k bases run) r
      (subst (λ (ss : List (Registers ℕ)). Says (length run) ss row bases run) s says))))
