-- A certificate keeps each rule exactly where the machine accepts it, and where it is of a batch, its run is the bootloader's.
use Rattle.std.proofs.Common.{◌≡◌, ℕ, zero, suc, ◌+◌, ◌-◌, ◌*◌, ◌<◌, List, [], ◌∷◌, length, slice_get, slice_index, Option, Some, refl, sym, ap, subst, ◌∙◌, arith}
use Rattle.std.specs.Prelude.{All}
use Rattle.std.proofs.lemmas.List.{get_or_default}
use Rattle.builtin_range.specs.Ranges.{IsRangeCell}
use Rattle.cairo_model.specs.Certificate.Acceptance.{MachineAccepts, SpanHolds, cell_below}
use Rattle.cairo_model.specs.Certificate.Records.{CertRecord, SpanRecord, batch}
use Rattle.cairo_model.specs.Machine.FieldMemories.{FieldCell, cell_at}
use Rattle.cairo_model.specs.Machine.Runs.{IsState, LeadsOn}
use Rattle.cairo_model.specs.Machine.Steps.{Registers, field_arithmetic, RunsTo, Run, last_of}
use Rattle.cairo_model.specs.Pie.BuiltinCells.{AreInstances}
use Rattle.cairo_model.proofs.Groups as groups
use Rattle.cairo_model.proofs.Outcomes.{some_is}
use Rattle.cairo_model.proofs.RunParts.{all_lead, one_state, runs_by_states}
use Rattle.boot_program.specs.Faults.Causes.{AcceptsRun}
use Rattle.boot_program.specs.Faults.Rules.{EndRule, has_last, returned, restored, output_stop, range_stop, hash_stop, StartRule, has_state, above_frame, output_start, range_start, hash_start, has_caller, has_return, enters_boot, returns_to_boot, EndsBy, HasEnds, IsEndRule, IsInSpan, IsStartRule, IsThere, KeepsEndRule, RangeCellAt, StartsBy, WholeInstanceAt, end_rule, start_rule}
use Rattle.boot_program.specs.Batch.Acceptance.{BootBound}
use Rattle.row_checker.specs.Working.Stages.{KeepsRun}

-- ---- the numbers of a span

module _ (cells : List FieldCell) (span : SpanRecord) where
  abbrev Stands : ℕ → ℕ → Type 0
  Stands o n = cell_at cells (span.start + o) ≡ Some n

  one_stands : (o a b : ℕ) → Stands o a → Stands o b → a ≡ b
  one_stands o a b is other = some_is a b (sym is ∙ other)

  pub record Numbers (P : List ℕ → Type 0) : Type 0 where
    pub numbers : List ℕ
    pub holds : SpanHolds cells span numbers
    pub are : P numbers

  pub cells_there : ((k : ℕ) → IsInSpan span k → IsThere (cell_at cells (span.start + k))) → Numbers (λ numbers. Unit {0})
  cells_there each =
      let found = groups.all_read Stands one_stands (span.stop - span.start) (λ k lt. each k (omega (arith, lt))) in
      record { numbers = found.0; holds = record { count = found.1.count; each = found.1.each }; are = tt }

  pub range_cells : ((k : ℕ) → IsInSpan span k → RangeCellAt (cell_at cells) (span.start + k)) → Numbers (All IsRangeCell)
  range_cells each =
      let found = groups.all_read Stands one_stands (span.stop - span.start) (λ k lt. let here = each k (omega (arith, lt)) in (here.0, here.1.0)) in
      record {
        numbers = found.0;
        holds = record { count = found.1.count; each = found.1.each };
        are = λ k d lt.
            let inside : k < span.stop - span.start = omega (arith, found.1.count, lt) in
            let here = each k (omega (arith, inside)) in
            let same : here.0 ≡ slice_index found.0 k = some_is here.0 (slice_index found.0 k) (sym here.1.0 ∙ found.1.each k inside) in
            subst IsRangeCell (same ∙ get_or_default found.0 k 0 d lt) here.1.1;
      }

  pub instances : ((k : ℕ) → IsInSpan span (20 * k) → WholeInstanceAt (cell_at cells) span.stop (span.start + 20 * k)) → Numbers AreInstances
  instances each =
      let found = groups.instances_read Stands one_stands (span.stop - span.start) (λ i lt.
      let here = each i (omega (arith, lt)) in
      record {
        numbers = here.numbers;
        below = let b = here.below in omega (arith, b);
        holds = λ k small. let moved : span.start + (20 * i + k) ≡ (span.start + 20 * i) + k = omega arith in ap (cell_at cells) moved ∙ here.holds k small;
        is_instance = here.is_instance;
      }) in
      record { numbers = found.0; holds = record { count = found.1.0.count; each = found.1.0.each }; are = found.1.1 }

  -- and the other way round
  pub cell_there : (numbers : List ℕ) → SpanHolds cells span numbers → (k : ℕ) → IsInSpan span k → IsThere (cell_at cells (span.start + k))
  cell_there numbers holds k inside = (slice_index numbers k, holds.each k (omega (arith, inside)))

  pub range_cell_there : (numbers : List ℕ) → SpanHolds cells span numbers → All IsRangeCell numbers → (k : ℕ) → IsInSpan span k → RangeCellAt (cell_at cells) (span.start + k)
  range_cell_there numbers holds are k inside =
      let lt : k < span.stop - span.start = omega (arith, inside) in
      (slice_index numbers k, (holds.each k lt, are k 0 (omega (arith, lt, holds.count))))

  pub instance_there : (numbers : List ℕ) → SpanHolds cells span numbers → AreInstances numbers → (k : ℕ) → IsInSpan span (20 * k) → WholeInstanceAt (cell_at cells) span.stop (span.start + 20 * k)
  instance_there numbers holds are k inside =
      let here = groups.group_read Stands one_stands (span.stop - span.start) numbers (record { count = holds.count; each = holds.each }) are k (omega (arith, inside)) in
      record {
        numbers = here.numbers;
        below = let b = here.below in omega (arith, b, inside);
        holds = λ j small. let moved : (span.start + 20 * k) + j ≡ span.start + (20 * k + j) = omega arith in ap (cell_at cells) moved ∙ here.holds j small;
        is_instance = here.is_instance;
      }

-- ---- the states

last_at : (s : Registers ℕ) (ts : List (Registers ℕ)) → slice_get (s ∷ ts) (length ts) ≡ Some (last_of s ts)
last_at s [] = refl
last_at s (t ∷ ts) = last_at t ts

last_index : (s : Registers ℕ) (ts : List (Registers ℕ)) → length (s ∷ ts) - 1 ≡ length ts
last_index s ts = omega arith

module _ (m : ℕ → Option ℕ) (first last : Registers ℕ) where
  -- states from the first to the last that each lead on are a run
  runs_to : (states : List (Registers ℕ)) → IsState states 0 first → IsState states (length states - 1) last → Run field_arithmetic m states → RunsTo field_arithmetic m first states last
  runs_to [] is_first is_last run = absurd run
  runs_to (s ∷ ss) is_first is_last run = (
    some_is s first is_first,
    (run, some_is (last_of s ss) last (sym (last_at s ss) ∙ sym (ap (slice_get (s ∷ ss)) (last_index s ss)) ∙ is_last)),
  )

  pub begins : (states : List (Registers ℕ)) → RunsTo field_arithmetic m first states last → IsState states 0 first
  begins [] run = absurd run
  begins (s ∷ ss) run = ap Some run.0

  pub ends : (states : List (Registers ℕ)) → RunsTo field_arithmetic m first states last → IsState states (length states - 1) last
  ends [] run = absurd run
  ends (s ∷ ss) run = ap (slice_get (s ∷ ss)) (last_index s ss) ∙ last_at s ss ∙ ap Some run.1.1

  pub leads : (states : List (Registers ℕ)) → RunsTo field_arithmetic m first states last → (k : ℕ) → k + 1 < length states → LeadsOn field_arithmetic m states k
  leads [] run k lt = absurd run
  leads (s ∷ ss) run k lt = all_lead field_arithmetic m s ss run.1.0 k lt

-- ---- from the rules to acceptance

module _ (cert : CertRecord) (kept : KeepsRun cert) (printed : (k : ℕ) → IsInSpan cert.output k → IsThere (cell_at cert.cells (cert.output.start + k))) where
  abbrev some_end : KeepsEndRule cert 1
  some_end = kept.frame.end 1 (omega arith, omega arith)

  abbrev first : Registers ℕ
  first = some_end.0

  abbrev last : Registers ℕ
  last = some_end.1.0

  has_ends : HasEnds cert first last
  has_ends = some_end.1.1.0

  starts : (k : ℕ) → IsStartRule k → StartsBy cert first (start_rule k)
  starts k few =
      let here = kept.frame.start k few in
      subst (λ (s : Registers ℕ). StartsBy cert s (start_rule k)) (one_state cert.states 0 here.0 first here.1.0 has_ends.is_first) here.1.1

  ends_so : (k : ℕ) → IsEndRule k → EndsBy cert first last (end_rule k)
  ends_so k few =
      let here = kept.frame.end k few in
      subst (λ (s : Registers ℕ). EndsBy cert first s (end_rule k)) (one_state cert.states (length cert.states - 1) here.1.0 last here.1.1.0.is_last has_ends.is_last)
      (subst (λ (s : Registers ℕ). EndsBy cert s here.1.0 (end_rule k)) (one_state cert.states 0 here.0 first here.1.1.0.is_first has_ends.is_first) here.1.1.1)

  some_states : (states : List (Registers ℕ)) (s : Registers ℕ) → IsState states 0 s → 0 < length states
  some_states [] s is = absurd (cc)
  some_states (u ∷ us) s is = omega arith

  machine_accepts : MachineAccepts cert
  machine_accepts =
      let outputs = cells_there cert.cells cert.output printed in
      let range = range_cells cert.cells cert.range kept.spans.range in
      let hash = instances cert.cells cert.hash kept.spans.hash in
      record {
        first = first;
        last = last;
        runs = runs_to (cell_at cert.cells) first last cert.states has_ends.is_first has_ends.is_last
            ((runs_by_states field_arithmetic (cell_at cert.cells) cert.states).1 (record { some = some_states cert.states first has_ends.is_first; each = kept.rows }));
        starts = starts 1 (omega arith);
        output_start = starts 2 (omega arith);
        range_start = starts 3 (omega arith);
        hash_start = starts 4 (omega arith);
        restored = ends_so 2 (omega arith, omega arith);
        returned = ends_so 1 (omega arith, omega arith);
        output_stop = ends_so 3 (omega arith, omega arith);
        range_stop = ends_so 4 (omega arith, omega arith);
        hash_stop = ends_so 5 (omega arith, omega arith);
        outputs = outputs.numbers;
        has_outputs = outputs.holds;
        range_cells = range.numbers;
        has_range_cells = range.holds;
        are_range_cells = range.are;
        instances = hash.numbers;
        has_instances = hash.holds;
        are_instances = hash.are;
      }

  pub accepts_run : AcceptsRun cert
  accepts_run = record {
    accepted = machine_accepts;
    bound = λ is. record { words = kept.frame.boot is; first = first; is_first = has_ends.is_first; enters = starts 7 (omega arith) is; returns = starts 8 (omega arith) is };
  }

-- ---- and back

module _ (cert : CertRecord) (accepts : AcceptsRun cert) where
  abbrev run : MachineAccepts cert
  run = accepts.accepted

  is_first : IsState cert.states 0 run.first
  is_first = begins (cell_at cert.cells) run.first run.last cert.states run.runs

  is_last : IsState cert.states (length cert.states - 1) run.last
  is_last = ends (cell_at cert.cells) run.first run.last cert.states run.runs

  -- the bootloader's first state is the run's
  module _ (is : cert.kind ≡ batch) where
    abbrev bound : BootBound cert
    bound = accepts.bound is

    same_first : run.first ≡ bound.first
    same_first = one_state cert.states 0 run.first bound.first is_first bound.is_first

  start_of : (rule : StartRule) → StartsBy cert run.first rule
  start_of has_state = tt
  start_of above_frame = run.starts
  start_of output_start = run.output_start
  start_of range_start = run.range_start
  start_of hash_start = run.hash_start
  start_of has_caller = (run.last.fp, run.restored)
  start_of has_return = (run.last.pc, run.returned)
  start_of enters_boot = λ is. ap (λ (s : Registers ℕ). s.pc) (same_first is) ∙ (bound is).enters
  start_of returns_to_boot = λ is. ap (λ (s : Registers ℕ). cell_below cert.cells s.fp 1) (same_first is) ∙ (bound is).returns

  end_of : (rule : EndRule) → EndsBy cert run.first run.last rule
  end_of has_last = tt
  end_of returned = run.returned
  end_of restored = run.restored
  end_of output_stop = run.output_stop
  end_of range_stop = run.range_stop
  end_of hash_stop = run.hash_stop

  pub keeps_run : KeepsRun cert
  keeps_run = record {
    frame = record {
      boot = λ is. (accepts.bound is).words;
      start = λ k few. (run.first, (is_first, start_of (start_rule k)));
      end = λ k few. (run.first, (run.last, (record { is_first = is_first; is_last = is_last }, end_of (end_rule k))));
    };
    spans = record {
      range = range_cell_there cert.cells cert.range run.range_cells run.has_range_cells run.are_range_cells;
      hash = instance_there cert.cells cert.hash run.instances run.has_instances run.are_instances;
    };
    rows = leads (cell_at cert.cells) run.first run.last cert.states run.runs;
  }

  pub prints : (k : ℕ) → IsInSpan cert.output k → IsThere (cell_at cert.cells (cert.output.start + k))
  prints = cell_there cert.cells cert.output run.outputs run.has_outputs
