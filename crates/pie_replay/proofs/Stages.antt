-- A replay goes by stages. Each of them rules out the causes of one number.
use Rattle.std.proofs.Common.{◌≡◌, ℕ, ◌+◌, ◌*◌, ◌<◌, ◌≤◌, ◌==◌, if◌then◌else◌, sym, ap, subst, ◌∙◌, arith}
use Rattle.builtin_hash.specs.Instances.{cells_per_instance}
use Rattle.cairo_model.specs.Segments.{builtin_mask, program_segment, output_segment, range_segment, hash_segment, return_fp_segment, return_pc_segment}
use Rattle.cairo_model.specs.Pie.Acceptance.{HasFrame, HasStopPointer, HasStopPointers, start_of}
use Rattle.cairo_model.specs.Machine.Steps.{Registers, value_arithmetic}
use Rattle.cairo_model.specs.Pie.Records.{PieRecord, memory_of, segment_size}
use Rattle.cairo_model.specs.Refusals.ReplayRefusals.{ReplayCause, program_cell, bad_main, bad_frame, output_cell, range_cell, hash_instance, step, not_home, wrong_frame, stop_pointer, replay_number, HasNumber, HasRangeCell, HasInstance, EndsIn, IsReplayCause, IsFirstReplayCause}
use Rattle.cairo_model.specs.Machine.Values.{Datum, place}
use Rattle.cairo_model.proofs.Firsts.{none_below_next}
use Rattle.cairo_model.proofs.RunLaws.{same_runs, no_longer_run}
use Rattle.pie_replay.specs.Working.Replaying.{Passes}

pub data Stage : Type 0 where
  program : Stage
  main : Stage
  frame : Stage
  outputs : Stage
  range : Stage
  hash : Stage
  run : Stage
  home : Stage
  caller : Stage
  stops : Stage

-- the stage that a number is of
abbrev pub stage_at : ℕ → Stage
stage_at n =
    if n == 20 then program
    else (if n == 21 then main
    else (if n == 22 then frame
    else (if n == 23 then outputs
    else (if n == 24 then range
    else (if n == 25 then hash
    else (if n == 26 then run
    else (if n == 27 then home
    else (if n == 28 then caller
    else stops))))))))

-- what holds once a stage is passed
abbrev pub RuleAt : PieRecord → Stage → Type 0
RuleAt pie program = (k : ℕ) → k < segment_size pie program_segment → HasNumber pie.cells program_segment k
RuleAt pie main = pie.main < segment_size pie program_segment
RuleAt pie frame = HasFrame builtin_mask pie.cells
RuleAt pie outputs = (k : ℕ) → k < segment_size pie output_segment → HasNumber pie.cells output_segment k
RuleAt pie range = (k : ℕ) → k < segment_size pie range_segment → HasRangeCell pie.cells k
RuleAt pie hash = (k : ℕ) → cells_per_instance * k < segment_size pie hash_segment → HasInstance pie k
RuleAt pie run = (last : Registers Datum) × EndsIn pie last
RuleAt pie home = (last : Registers Datum) × (EndsIn pie last × (last.pc ≡ place return_pc_segment 0))
RuleAt pie caller = (last : Registers Datum) × (EndsIn pie last × (last.fp ≡ place return_fp_segment 0))
RuleAt pie stops = (last : Registers Datum) × (EndsIn pie last × HasStopPointers builtin_mask pie last.ap)

-- the run of a PIE's steps ends in one state
pub one_end : (pie : PieRecord) (s t : Registers Datum) → EndsIn pie s → EndsIn pie t → s ≡ t
one_end pie s t ends other = (same_runs value_arithmetic (memory_of pie.cells) (start_of pie) ends.states s other.states t ends.runs other.runs (omega (arith, ends.count, other.count))).1

excludes : (pie : PieRecord) (c : ReplayCause) → RuleAt pie (stage_at (replay_number c)) → ¬ IsReplayCause pie c
excludes pie (program_cell i) rule cause = cause.fails (rule i cause.inside)
excludes pie (bad_main m) rule cause = absurd (omega (arith, rule, cause.1))
excludes pie (bad_frame i) rule cause = cause.fails (rule i cause.inside)
excludes pie (output_cell i) rule cause = cause.fails (rule i cause.inside)
excludes pie (range_cell i) rule cause = cause.fails (rule i cause.inside)
excludes pie (hash_instance i) rule cause = cause.fails (rule i cause.inside)
excludes pie (step n fault) rule cause =
    let found = cause.1 in
    no_longer_run value_arithmetic (memory_of pie.cells) (start_of pie) found.states found.last rule.1.states rule.0 fault found.runs found.fails rule.1.runs (omega (arith, found.counts, rule.1.count, cause.0))
excludes pie (not_home pc) rule cause =
    let same = one_end pie cause.0 rule.0 cause.1.0 rule.1.0 in
    cause.1.1.1 (cause.1.1.0 ∙ ap (λ (s : Registers Datum). s.pc) same ∙ rule.1.1)
excludes pie (wrong_frame fp) rule cause =
    let same = one_end pie cause.0 rule.0 cause.1.0 rule.1.0 in
    cause.1.1.1 (cause.1.1.0 ∙ ap (λ (s : Registers Datum). s.fp) same ∙ rule.1.1)
excludes pie (stop_pointer i) rule cause =
    let same = one_end pie cause.0 rule.0 cause.1.0 rule.1.0 in
    let found = cause.1.1 in
    found.fails (subst (λ (s : Registers Datum). HasStopPointer builtin_mask pie s.ap i) (sym same) (rule.1.1 i found.inside))

-- the numbers begin at 20
from_20 : (c : ReplayCause) → 20 ≤ replay_number c
from_20 (program_cell i) = omega arith
from_20 (bad_main m) = omega arith
from_20 (bad_frame i) = omega arith
from_20 (output_cell i) = omega arith
from_20 (range_cell i) = omega arith
from_20 (hash_instance i) = omega arith
from_20 (step n fault) = omega arith
from_20 (not_home pc) = omega arith
from_20 (wrong_frame fp) = omega arith
from_20 (stop_pointer i) = omega arith

pub passes_none : (pie : PieRecord) → Passes pie 20
passes_none pie c lt = absurd (omega (arith, from_20 c, lt))

-- once the stage of a number is passed, its causes don't apply either
pub passes_on : (pie : PieRecord) (n : ℕ) → Passes pie n → RuleAt pie (stage_at n) → Passes pie (n + 1)
passes_on pie n passes rule = none_below_next replay_number (IsReplayCause pie) n passes (λ c here.
    let P : ℕ → Type 0 = λ k. RuleAt pie (stage_at k) in
    excludes pie c (subst P (sym here) rule))

-- a cause is the first where those before it don't apply
pub is_first : (pie : PieRecord) (c : ReplayCause) → IsReplayCause pie c → Passes pie (replay_number c) → IsFirstReplayCause pie c
is_first pie c applies passes = record { applies = applies; none_before = passes }
