-- The laws of the faults of certificates.
use Rattle.std.proofs.Common.{◌≡◌, ℕ, zero, suc, [], ◌∷◌, ◌+◌, ◌-◌, ◌*◌, ◌<◌, List, length, slice_get, slice_index, Option, Some, inl, inr, refl, sym, ap, ap₂, subst, ◌∙◌, arith}
use Rattle.std.proofs.lemmas.Bool.{cases_lt}
use Rattle.std.proofs.lemmas.Option.{slice_get-get_or}
use Rattle.cairo_model.specs.Certificate.Records.{CertRecord, MarkRecord}
use Rattle.cairo_model.specs.Machine.FieldMemories.{FieldCell, cell_at}
use Rattle.cairo_model.specs.Machine.Steps.{Registers, field_arithmetic}
use Rattle.cairo_model.specs.Pie.Acceptance.{CheckedRecord}
use Rattle.cairo_model.specs.Pie.Records.{MemoryCell}
use Rattle.cairo_model.proofs.Chains.{no_fault}
use Rattle.cairo_model.proofs.Firsts as firsts
use Rattle.cairo_model.proofs.Outcomes.{err_is, some_is}
use Rattle.cairo_model.proofs.RunParts.{one_state}
use Rattle.boot_program.specs.Batch.Acceptance.{AcceptsBatch}
use Rattle.boot_program.specs.Batch.Standing.{AllStandIn}
use Rattle.boot_program.specs.Faults.Causes.{AcceptsRun, IsBatchCause, IsFirstBatchFault, IsFirstRunFault, IsOutputIndex, IsRunCause, PrintsAt, printed_at, wanted_of}
use Rattle.boot_program.specs.Faults.Records.{FaultCause, at_boot, at_start, at_end, at_range, at_hash, at_row, at_output, at_task, fault_number}
use Rattle.boot_program.specs.Faults.Rules.{HasBootWord, IsBootAddress, IsEndRule, IsInSpan, IsRowCause, IsStartRule, IsThere, KeepsEndRule, KeepsStartRule, RangeCellAt, StopsBy, WholeInstanceAt}
use Rattle.boot_program.specs.Faults.Tasks.{IsFirstMissing, IsNumbered, ShowsTask, TaskMisses, TaskStands}
use Rattle.boot_program.specs.declared.run_fault.RowCause.{RowCause}
use Rattle.boot_program.specs.declared.run_fault.RowCause.TheVariants as causes
use Rattle.cairo_model.specs.Machine.Runs.{LeadsOn}
use Rattle.row_checker.proofs.Accepted.{keeps_run, prints}
use Rattle.row_checker.proofs.Printed.{printed_inside}
use Rattle.row_checker.proofs.Stages.{Stage, boot, start, end, range, hash, rows, outputs, tasks, RuleAt, BatchRuleAt, batch_excludes, excludes, no_kind, stage_at}

-- ---- no cause applies to what is accepted

rule_of : (cert : CertRecord) → AcceptsRun cert → (stage : Stage) → RuleAt cert stage
rule_of cert accepts boot = (keeps_run cert accepts).frame.boot
rule_of cert accepts start = (keeps_run cert accepts).frame.start
rule_of cert accepts end = (keeps_run cert accepts).frame.end
rule_of cert accepts range = (keeps_run cert accepts).spans.range
rule_of cert accepts hash = (keeps_run cert accepts).spans.hash
rule_of cert accepts rows = (keeps_run cert accepts).rows
rule_of cert accepts outputs = prints cert accepts
rule_of cert accepts tasks = tt

pub no_run_fault : (cert : CertRecord) → AcceptsRun cert → (c : FaultCause) → ¬ IsRunCause cert c
no_run_fault cert accepts c = excludes cert c (rule_of cert accepts (stage_at (fault_number c)))

-- ---- one cause of a row

one_stop : (cells : List FieldCell) (s t : Registers ℕ) (c d : RowCause) → StopsBy cells s t c → StopsBy cells s t d → c ≡ d
one_stop cells s t (causes.Fault f) (causes.Fault g) a b = ap causes.Fault (err_is {A = Registers ℕ} f g (sym a ∙ b))
one_stop cells s t (causes.Fault f) causes.Next a b = absurd (no_fault b.0 f (sym b.1.0 ∙ a))
one_stop cells s t causes.Next (causes.Fault g) a b = absurd (no_fault a.0 g (sym a.1.0 ∙ b))
one_stop cells s t causes.Next causes.Next a b = refl

one_row_cause : (cells : List FieldCell) (states : List (Registers ℕ)) (n : ℕ) (c d : RowCause) → IsRowCause cells states n c → IsRowCause cells states n d → c ≡ d
one_row_cause cells states n c d is other =
    let from : other.state ≡ is.state = one_state states n other.state is.state other.is_state is.is_state in
    let to : other.after ≡ is.after = one_state states (n + 1) other.after is.after other.is_after is.is_after in
    one_stop cells is.state is.after c d is.stops
    (subst (λ (s : Registers ℕ). StopsBy cells s is.after d) from (subst (λ (t : Registers ℕ). StopsBy cells other.state t d) to other.stops))

-- ---- two causes of one number that apply are the same

module _ (cert : CertRecord) where
  abbrev Memory : ℕ → Option ℕ
  Memory = cell_at cert.cells

  told : (c d : FaultCause) → fault_number c ≡ fault_number d → IsRunCause cert c → IsRunCause cert d → c ≡ d
  told (at_boot i) (at_boot j) e a b = ap at_boot (firsts.one_failing IsBootAddress (HasBootWord Memory) i j a.1 b.1)
  told (at_start i) (at_start j) e a b = ap at_start (firsts.one_failing IsStartRule (KeepsStartRule cert) i j a b)
  told (at_end i) (at_end j) e a b = ap at_end (firsts.one_failing IsEndRule (KeepsEndRule cert) i j a b)
  told (at_range i) (at_range j) e a b = ap at_range (firsts.one_failing (IsInSpan cert.range) (λ k. RangeCellAt Memory (cert.range.start + k)) i j a b)
  told (at_hash i) (at_hash j) e a b =
      ap at_hash (firsts.one_failing (λ k. IsInSpan cert.hash (20 * k)) (λ k. WholeInstanceAt Memory cert.hash.stop (cert.hash.start + 20 * k)) i j a b)
  told (at_row i c) (at_row j d) e a b =
      let same : i ≡ j = firsts.one_failing (λ k. k + 1 < length cert.states) (LeadsOn field_arithmetic Memory cert.states) i j a.0 b.0 in
      ap₂ at_row same (one_row_cause cert.cells cert.states i c d a.1 (subst (λ (n : ℕ). IsRowCause cert.cells cert.states n d) (sym same) b.1))
  told (at_output i s w) (at_output j t v) e a b =
      let same : i ≡ j = firsts.one_failing (IsInSpan cert.output) (λ k. IsThere (Memory (cert.output.start + k))) i j a.0 b.0 in
      let stands : s ≡ t = a.1.0 ∙ sym b.1.0 in
      let wanted : w ≡ v = a.1.1 ∙ sym b.1.1 in
      λ x. at_output (same x) (stands x) (wanted x)
  told (at_task i s o) d e a b = absurd a
  told c d e a b = absurd (omega (arith, e))

  pub one_run_fault : (c d : FaultCause) → IsFirstRunFault cert c → IsFirstRunFault cert d → c ≡ d
  one_run_fault = firsts.one_first_cause fault_number (IsRunCause cert) told

-- ---- the place that shows why a task doesn't stand

one_missing : (bases : List ℕ) (cells : List MemoryCell) (field : ℕ → Option ℕ) (s o t q : ℕ) → IsFirstMissing bases cells field s o → IsFirstMissing bases cells field t q → (s ≡ t) × (o ≡ q)
one_missing bases cells field s o t q a b = elim (cases_lt s t) [
  | inl before ↦ absurd (b.none_before s o (inl before) a.here)
  | inr not_before ↦ elim (cases_lt t s) [
    | inl after ↦ absurd (a.none_before t q (inl after) b.here)
    | inr not_after ↦
        let same : s ≡ t = omega (arith, not_before, not_after) in
        elim (cases_lt o q) [
          | inl below ↦ absurd (b.none_before s o (inr (same, below)) a.here)
          | inr not_below ↦ elim (cases_lt q o) [
            | inl above ↦ absurd (a.none_before t q (inr (sym same, above)) b.here)
            | inr not_above ↦ (same, omega (arith, not_below, not_above))
          ]
        ]
  ]
]

module _ (cert : CertRecord) (list : List CheckedRecord) where
  one_task_misses : (i s o t q : ℕ) → TaskMisses cert list i s o → TaskMisses cert list i t q → (s ≡ t) × (o ≡ q)
  one_task_misses i s o t q a b =
      let marks : b.mark ≡ a.mark = some_is b.mark a.mark (sym b.is_placed.is_mark ∙ a.is_placed.is_mark) in
      let tasks : b.task ≡ a.task = some_is b.task a.task (sym b.is_placed.is_task ∙ a.is_placed.is_task) in
      one_missing a.mark.bases a.task.pie.cells (cell_at cert.cells) s o t q a.misses
      (subst (λ (m : MarkRecord). IsFirstMissing m.bases a.task.pie.cells (cell_at cert.cells) t q) marks
      (subst (λ (k : CheckedRecord). IsFirstMissing b.mark.bases k.pie.cells (cell_at cert.cells) t q) tasks b.misses))

  one_place : (i s o t q : ℕ) → ShowsTask cert list i s o → ShowsTask cert list i t q → (s ≡ t) × (o ≡ q)
  one_place i s o t q (inl a) (inl b) = one_task_misses i s o t q a b
  one_place i s o t q (inl a) (inr b) = absurd (b.1.1 s o a)
  one_place i s o t q (inr a) (inl b) = absurd (a.1.1 t q b)
  one_place i s o t q (inr a) (inr b) = (a.0 ∙ sym b.0, a.1.0 ∙ sym b.1.0)

  told_boot : (i j : ℕ) → IsBatchCause cert list (at_boot i) → IsBatchCause cert list (at_boot j) → i ≡ j
  told_boot i j (inl a) (inl b) = a.1 ∙ sym b.1
  told_boot i j (inl a) (inr b) = absurd (no_kind (sym a.0 ∙ b.0))
  told_boot i j (inr a) (inl b) = absurd (no_kind (sym b.0 ∙ a.0))
  told_boot i j (inr a) (inr b) = firsts.one_failing IsBootAddress (HasBootWord (cell_at cert.cells)) i j a.1 b.1

  batch_told : (c d : FaultCause) → fault_number c ≡ fault_number d → IsBatchCause cert list c → IsBatchCause cert list d → c ≡ d
  batch_told (at_boot i) (at_boot j) e a b = ap at_boot (told_boot i j a b)
  batch_told (at_start i) (at_start j) e a b = told cert (at_start i) (at_start j) e a b
  batch_told (at_end i) (at_end j) e a b = told cert (at_end i) (at_end j) e a b
  batch_told (at_range i) (at_range j) e a b = told cert (at_range i) (at_range j) e a b
  batch_told (at_hash i) (at_hash j) e a b = told cert (at_hash i) (at_hash j) e a b
  batch_told (at_row i c) (at_row j d) e a b = told cert (at_row i c) (at_row j d) e a b
  batch_told (at_output i s w) (at_output j t v) e a b =
      let same : i ≡ j = firsts.one_failing (IsOutputIndex cert (wanted_of list)) (PrintsAt cert (wanted_of list)) i j a.0 b.0 in
      let stands : s ≡ t = a.1.0 ∙ ap (printed_at cert) same ∙ sym b.1.0 in
      let wanted : w ≡ v = a.1.1 ∙ ap (slice_get (wanted_of list)) same ∙ sym b.1.1 in
      λ x. at_output (same x) (stands x) (wanted x)
  batch_told (at_task i s o) (at_task j t q) e a b =
      let same : i ≡ j = firsts.one_failing (IsNumbered cert list) (TaskStands cert list) i j a.0 b.0 in
      let place = one_place i s o t q a.1 (subst (λ (n : ℕ). ShowsTask cert list n t q) (sym same) b.1) in
      λ x. at_task (same x) (place.0 x) (place.1 x)
  batch_told c d e a b = absurd (omega (arith, e))

  pub one_batch_fault : (c d : FaultCause) → IsFirstBatchFault cert list c → IsFirstBatchFault cert list d → c ≡ d
  one_batch_fault = firsts.one_first_cause fault_number (IsBatchCause cert list) batch_told

  -- ---- no cause applies to what is accepted with its tasks

  some_element : {X : Type 0} (xs : List X) (i : ℕ) → i < length xs → (x : X) × (slice_get xs i ≡ Some x)
  some_element [] i lt = absurd (omega arith)
  some_element (x ∷ xs) zero lt = (x, refl)
  some_element (x ∷ xs) (suc i) lt = some_element xs i (omega (arith, lt))

  module _ (accepts : AcceptsBatch cert list) (stand : AllStandIn cert list) where
    accepts_run : AcceptsRun cert
    accepts_run = record { accepted = accepts.accepted; bound = λ is. accepts.bound }

    printed : (k : ℕ) → IsOutputIndex cert (wanted_of list) k → PrintsAt cert (wanted_of list) k
    printed k inside =
        let less : k < cert.output.stop - cert.output.start = elim inside [
          | inl here ↦ omega (arith, here)
          | inr long ↦ omega (arith, long, accepts.prints.count)
        ] in (
          slice_index (wanted_of list) k,
          (printed_inside cert k (omega (arith, less)) ∙ accepts.prints.each k less, slice_get-get_or (wanted_of list) k 0 (omega (arith, less, accepts.prints.count))),
        )

    standing : (k : ℕ) → IsNumbered cert list k → TaskStands cert list k
    standing k inside =
        let less : k < length list = elim inside [
          | inl here ↦ here
          | inr marked ↦ omega (arith, marked, accepts.one_mark_each)
        ] in
        let task = some_element list k less in
        (task.0, (task.1, stand k task.0 task.1))

    batch_rule : (stage : Stage) → BatchRuleAt cert list stage
    batch_rule boot = (accepts.is_batch, accepts.bound.words)
    batch_rule start = rule_of cert accepts_run start
    batch_rule end = rule_of cert accepts_run end
    batch_rule range = rule_of cert accepts_run range
    batch_rule hash = rule_of cert accepts_run hash
    batch_rule rows = rule_of cert accepts_run rows
    batch_rule outputs = printed
    batch_rule tasks = standing

    pub no_batch_fault : (c : FaultCause) → ¬ IsBatchCause cert list c
    no_batch_fault c = batch_excludes cert list c (batch_rule (stage_at (fault_number c)))
