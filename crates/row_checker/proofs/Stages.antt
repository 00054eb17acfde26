-- A check goes by stages. Each of them rules out the causes of one number.
use Rattle.std.proofs.Common.{◌≡◌, ℕ, ◌+◌, ◌*◌, ◌<◌, ◌≤◌, ◌==◌, if◌then◌else◌, List, inl, inr, sym, subst, ◌∙◌, arith}
use Rattle.cairo_model.specs.Certificate.Records.{CertRecord, alone, batch}
use Rattle.cairo_model.specs.Machine.FieldMemories.{cell_at}
use Rattle.cairo_model.specs.Pie.Acceptance.{CheckedRecord}
use Rattle.cairo_model.proofs.Firsts.{none_below_next}
use Rattle.boot_program.specs.Faults.Causes.{IsBatchCause, IsFirstRunFault, IsOutputIndex, IsRunCause, PrintsAt, wanted_of}
use Rattle.boot_program.specs.Faults.Records.{FaultCause, at_boot, at_start, at_end, at_range, at_hash, at_row, at_output, at_task, fault_number}
use Rattle.boot_program.specs.Faults.Rules.{IsEndRule, IsInSpan, IsStartRule, IsThere, KeepsEndRule, KeepsStartRule, OfBatch, RangeCellAt, WholeInstanceAt}
use Rattle.boot_program.specs.Faults.Tasks.{IsNumbered, TaskStands}
use Rattle.boot_program.specs.Words.{HasBoot}
use Rattle.row_checker.specs.Working.Stages.{BatchPasses, EachRowLeads, Passes}

pub data Stage : Type 0 where
  boot : Stage
  start : Stage
  end : Stage
  range : Stage
  hash : Stage
  rows : Stage
  outputs : Stage
  tasks : Stage

-- the stage that a number is of
abbrev pub stage_at : ℕ → Stage
stage_at n =
    if n == 1 then boot
    else (if n == 2 then start
    else (if n == 3 then end
    else (if n == 4 then range
    else (if n == 5 then hash
    else (if n == 6 then rows
    else (if n == 7 then outputs
    else tasks))))))

-- what holds once a stage is passed
abbrev pub RuleAt : CertRecord → Stage → Type 0
RuleAt cert boot = OfBatch cert (HasBoot (cell_at cert.cells))
RuleAt cert start = (k : ℕ) → IsStartRule k → KeepsStartRule cert k
RuleAt cert end = (k : ℕ) → IsEndRule k → KeepsEndRule cert k
RuleAt cert range = (k : ℕ) → IsInSpan cert.range k → RangeCellAt (cell_at cert.cells) (cert.range.start + k)
RuleAt cert hash = (k : ℕ) → IsInSpan cert.hash (20 * k) → WholeInstanceAt (cell_at cert.cells) cert.hash.stop (cert.hash.start + 20 * k)
RuleAt cert rows = EachRowLeads cert
RuleAt cert outputs = (k : ℕ) → IsInSpan cert.output k → IsThere (cell_at cert.cells (cert.output.start + k))
RuleAt cert tasks = Unit {0}

pub excludes : (cert : CertRecord) (c : FaultCause) → RuleAt cert (stage_at (fault_number c)) → ¬ IsRunCause cert c
excludes cert (at_boot a) rule cause = cause.1.fails (rule cause.0 a)
excludes cert (at_start k) rule cause = cause.fails (rule k cause.inside)
excludes cert (at_end k) rule cause = cause.fails (rule k cause.inside)
excludes cert (at_range i) rule cause = cause.fails (rule i cause.inside)
excludes cert (at_hash i) rule cause = cause.fails (rule i cause.inside)
excludes cert (at_row n why) rule cause = cause.0.fails (rule n cause.0.inside)
excludes cert (at_output i stands wanted) rule cause = cause.0.fails (rule i cause.0.inside)
excludes cert (at_task i segment offset) rule cause = cause

-- the numbers begin at 1
from_1 : (c : FaultCause) → 1 ≤ fault_number c
from_1 (at_boot a) = omega arith
from_1 (at_start k) = omega arith
from_1 (at_end k) = omega arith
from_1 (at_range i) = omega arith
from_1 (at_hash i) = omega arith
from_1 (at_row n why) = omega arith
from_1 (at_output i stands wanted) = omega arith
from_1 (at_task i segment offset) = omega arith

pub passes_none : (cert : CertRecord) → Passes cert 1
passes_none cert c lt = absurd (omega (arith, from_1 c, lt))

-- once the stage of a number is passed, its causes don't apply either
pub passes_on : (cert : CertRecord) (n : ℕ) → Passes cert n → RuleAt cert (stage_at n) → Passes cert (n + 1)
passes_on cert n passes rule = none_below_next fault_number (IsRunCause cert) n passes (λ c here.
    let P : ℕ → Type 0 = λ k. RuleAt cert (stage_at k) in
    excludes cert c (subst P (sym here) rule))

-- a cause is the first where those before it don't apply
pub is_first : (cert : CertRecord) (c : FaultCause) → IsRunCause cert c → Passes cert (fault_number c) → IsFirstRunFault cert c
is_first cert c applies passes = record { applies = applies; none_before = passes }

-- ---- the same with tasks

pub no_kind : alone ≡ batch → ⊥
no_kind e = absurd (cc)

module _ (cert : CertRecord) (list : List CheckedRecord) where
  abbrev pub BatchRuleAt : Stage → Type 0
  BatchRuleAt boot = (cert.kind ≡ batch) × HasBoot (cell_at cert.cells)
  BatchRuleAt start = RuleAt cert start
  BatchRuleAt end = RuleAt cert end
  BatchRuleAt range = RuleAt cert range
  BatchRuleAt hash = RuleAt cert hash
  BatchRuleAt rows = RuleAt cert rows
  BatchRuleAt outputs = (k : ℕ) → IsOutputIndex cert (wanted_of list) k → PrintsAt cert (wanted_of list) k
  BatchRuleAt tasks = (k : ℕ) → IsNumbered cert list k → TaskStands cert list k

  pub batch_excludes : (c : FaultCause) → BatchRuleAt (stage_at (fault_number c)) → ¬ IsBatchCause cert list c
  batch_excludes (at_boot a) rule (inl of_one) = no_kind (sym of_one.0 ∙ rule.0)
  batch_excludes (at_boot a) rule (inr cause) = cause.1.fails (rule.1 a)
  batch_excludes (at_start k) rule cause = excludes cert (at_start k) rule cause
  batch_excludes (at_end k) rule cause = excludes cert (at_end k) rule cause
  batch_excludes (at_range i) rule cause = excludes cert (at_range i) rule cause
  batch_excludes (at_hash i) rule cause = excludes cert (at_hash i) rule cause
  batch_excludes (at_row n why) rule cause = excludes cert (at_row n why) rule cause
  batch_excludes (at_output i stands wanted) rule cause = cause.0.fails (rule i cause.0.inside)
  batch_excludes (at_task i segment offset) rule cause = cause.0.fails (rule i cause.0.inside)

  pub batch_passes_on : (n : ℕ) → BatchPasses cert list n → BatchRuleAt (stage_at n) → BatchPasses cert list (n + 1)
  batch_passes_on n passes rule = none_below_next fault_number (IsBatchCause cert list) n passes (λ c here.
      let P : ℕ → Type 0 = λ k. BatchRuleAt (stage_at k) in
      batch_excludes c (subst P (sym here) rule))

  -- up to the rows a batch's causes are those of its run
  run_cause : cert.kind ≡ batch → (c : FaultCause) → fault_number c < 7 → IsBatchCause cert list c → IsRunCause cert c
  run_cause is (at_boot a) lt (inl of_one) = absurd (no_kind (sym of_one.0 ∙ is))
  run_cause is (at_boot a) lt (inr cause) = cause
  run_cause is (at_start k) lt cause = cause
  run_cause is (at_end k) lt cause = cause
  run_cause is (at_range i) lt cause = cause
  run_cause is (at_hash i) lt cause = cause
  run_cause is (at_row n why) lt cause = cause
  run_cause is (at_output i stands wanted) lt cause = absurd (omega (arith, lt))
  run_cause is (at_task i segment offset) lt cause = absurd (omega (arith, lt))
