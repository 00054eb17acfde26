-- The certificate of a batch is accepted as one of its tasks.
use Rattle.std.proofs.Common.{◌≡◌, ℕ, suc, ◌+◌, ◌^◌, ◌<◌, List, [], ◌∷◌, ◌++◌, length, slice_index, Option, Some, refl, sym, ap, subst, ◌∙◌, arith, lit<}
use Rattle.std.proofs.lemmas.List.{length-map}
use Rattle.cairo_model.specs.Machine.Addresses.{down}
use Rattle.cairo_model.specs.Machine.Steps.{field_arithmetic}
use Rattle.cairo_model.specs.Machine.FieldMemories.{FieldCell, cell_at}
use Rattle.cairo_model.specs.Certificate.Acceptance.{SpanHolds, MachineAccepts, cell_below}
use Rattle.boot_program.specs.Words.{boot_end}
use Rattle.batch_plan.specs.Parts.{BatchParts}
use Rattle.batch_runner.specs.Certificates.{cert_of, marks_from}
use Rattle.batch_runner.specs.Working.Tasks.{Task, checked_of}
use Rattle.batch_runner.specs.Layout.{boot_frame, end_place, first_place, hash_from, hash_size, next_place, output_from, output_size, program_from, range_from, size, total, turn_size}
use Rattle.batch_runner.specs.Working.Rooms.{free_from}
use Rattle.batch_runner.specs.Memory.{all_cells, frames, outputs, part, turn_cells}
use Rattle.batch_runner.specs.Pieces.{numbered}
use Rattle.batch_runner.specs.Rows.{batch_length, batch_rows, memory_of_batch, task_values_at}
use Rattle.batch_runner.specs.Working.Memories.{HasEach, HasAllParts}
use Rattle.batch_runner.specs.Working.Rooms.{WithinLimits}
use Rattle.batch_runner.specs.Working.TaskRuns.{TaskPasses}
use Rattle.boot_program.specs.Cells.{state}
use Rattle.boot_program.specs.Instances.{InOrderFrom}
use Rattle.cairo_model.specs.Machine.Runs.{Passes}
use Rattle.boot_program.specs.Tasks.{task_length}
use Rattle.std.specs.List.{flat_map}
use Rattle.boot_program.specs.Batch.Acceptance.{AcceptsBatch, facts_of}
use Rattle.boot_program.specs.Batch.Output.{batch_output, task_output}
use Rattle.batch_runner.proofs.HavingCells.{has_first, has_second}
use Rattle.batch_runner.proofs.Limits.{free_few}
use Rattle.batch_runner.proofs.Spans.{Region, numbered_region, regions_joined, outputs_region, ranges_region, hashes_region, range_numbers, hash_numbers, are_range_numbers, are_hash_numbers}
use Rattle.batch_runner.proofs.WholeBatch as whole

-- where the last turn ends
pub end_turn : (p : BatchParts) (ts : List Task) → (end_place p (checked_of ts)).frame ≡ p.frame + total turn_size (checked_of ts)
unfolding end_place total
end_turn p [] = omega arith
end_turn p (t ∷ ts) = let e = end_turn (next_place t.checked p) ts in omega (arith, e)

pub end_output : (p : BatchParts) (ts : List Task) → (end_place p (checked_of ts)).output ≡ p.output + total output_size (checked_of ts)
unfolding end_place total
end_output p [] = omega arith
end_output p (t ∷ ts) = let e = end_output (next_place t.checked p) ts in omega (arith, e)

pub end_range : (p : BatchParts) (ts : List Task) → (end_place p (checked_of ts)).range ≡ p.range + total (λ t. size t 3) (checked_of ts)
unfolding end_place total
end_range p [] = omega arith
end_range p (t ∷ ts) = let e = end_range (next_place t.checked p) ts in omega (arith, e)

pub end_hash : (p : BatchParts) (ts : List Task) → (end_place p (checked_of ts)).hash ≡ p.hash + total hash_size (checked_of ts)
unfolding end_place total
end_hash p [] = omega arith
end_hash p (t ∷ ts) = let e = end_hash (next_place t.checked p) ts in omega (arith, e)

module _ (m : ℕ → Option ℕ) where
  -- the last state of the loop over tasks stands at the frame's end
  pub end_stands : (p : BatchParts) (ts : List Task) → HasEach m (frames p (checked_of ts)) → (let e = end_place p (checked_of ts) in HasEach m (numbered e.frame (0 ∷ e.output ∷ e.range ∷ e.hash ∷ [])))
  unfolding frames end_place
  end_stands p [] has = has
  end_stands p (t ∷ ts) has = end_stands (next_place t.checked p) ts
      (has_second m (part t.checked p 1) (frames (next_place t.checked p) (checked_of ts)) (has_second m (turn_cells (suc (length (checked_of ts))) t.checked p) (part t.checked p 1 ++ frames (next_place t.checked p) (checked_of ts)) has))

span_of : (cells : List FieldCell) (start stop n : ℕ) (numbers : List ℕ) → start + n ≡ stop → Region (cell_at cells) start n numbers → SpanHolds cells (record { start = start; stop = stop }) numbers
span_of cells start stop n numbers is region =
    let c = region.count in
    record { count = omega (arith, is, c); each = λ i lt. region.each i (omega (arith, is, lt)) }

pub marks_count : (before : ℕ) (p : BatchParts) (ts : List Task) → length (marks_from before p (checked_of ts)) ≡ length (checked_of ts)
unfolding marks_from
marks_count before p [] = refl
marks_count before p (t ∷ ts) = ap suc (marks_count (before + task_length (task_values_at t.checked p)) (next_place t.checked p) ts)

module _ (passes : TaskPasses) (t : Task) (ts : List Task) (limits : WithinLimits (t ∷ ts)) where
  abbrev all : List Task
  all = t ∷ ts

  abbrev m : ℕ → Option ℕ
  m = memory_of_batch (checked_of all)

  abbrev p : BatchParts
  p = first_place (checked_of all)

  abbrev end : BatchParts
  end = end_place p (checked_of all)

  fits : free_from (checked_of all) < 2 ^ 32
  fits = free_few all limits

  few : length (checked_of ts) < 2 ^ 32
  few = let n = limits.few_tasks in omega (arith, n)

  parts : HasAllParts m p all
  parts = whole.parts_there all

  run : Passes field_arithmetic m (batch_length t.checked (checked_of ts)) (state 1 boot_frame boot_frame) (batch_rows t.checked (checked_of ts)) (state boot_end (end.frame + 4) 0)
  run = whole.batch_runs passes t ts fits few

  end_region : Region m end.frame 4 (0 ∷ end.output ∷ end.range ∷ end.hash ∷ [])
  end_region = numbered_region m end.frame (0 ∷ end.output ∷ end.range ∷ end.hash ∷ []) (end_stands m p all parts.frame)

  stop : (k d : ℕ) → k + d ≡ 4 → 0 < d → k < 4 → cell_below (all_cells (checked_of all)) (end.frame + 4) d ≡ Some (slice_index (0 ∷ end.output ∷ end.range ∷ end.hash ∷ []) k)
  stop k d is some lt =
      let e = end_turn p all in
      let f = fits in
      let place : down (end.frame + 4) d ≡ end.frame + k = omega (arith, e, f, is, some) in
      ap m place ∙ end_region.each k lt

  outputs_hold : SpanHolds (all_cells (checked_of all)) (record { start = output_from (checked_of all); stop = range_from (checked_of all) }) (batch_output (facts_of (checked_of all)))
  outputs_hold =
      let there = whole.output_there all in
      let count = numbered_region m (output_from (checked_of all)) (length (checked_of all) ∷ []) (has_first m (numbered (output_from (checked_of all)) (length (checked_of all) ∷ [])) (outputs p (checked_of all)) there) in
      let rest = outputs_region m p all (has_second m (numbered (output_from (checked_of all)) (length (checked_of all) ∷ [])) (outputs p (checked_of all)) there) in
      let both = regions_joined m (output_from (checked_of all)) 1 (total output_size (checked_of all)) (length (checked_of all) ∷ []) (flat_map task_output (facts_of (checked_of all))) count rest in
      let tasks : length (facts_of (checked_of all)) ≡ length (checked_of all) = length-map (checked_of all) (λ x. x.fact) in
      span_of (all_cells (checked_of all)) (output_from (checked_of all)) (range_from (checked_of all)) (1 + total output_size (checked_of all)) (batch_output (facts_of (checked_of all))) (omega arith)
      (subst (λ (k : ℕ). Region m (output_from (checked_of all)) (1 + total output_size (checked_of all)) (k ∷ flat_map task_output (facts_of (checked_of all)))) (sym tasks) both)

  accepts : MachineAccepts (cert_of t.checked (checked_of ts))
  unfolding InOrderFrom
  accepts =
      let starts = whole.starts_there all in
      let o = end_output p all in
      let r = end_range p all in
      let h = end_hash p all in
      record {
        first = state 1 boot_frame boot_frame;
        last = state boot_end (end.frame + 4) 0;
        runs = (refl, (run.runs, run.ends));
        starts = refl;
        output_start = starts.0;
        range_start = starts.1.0;
        hash_start = starts.1.1.0;
        restored = starts.1.1.1.0;
        returned = starts.1.1.1.1.0;
        output_stop = stop 1 3 (omega arith) (lit< tt) (lit< tt) ∙ ap Some o;
        range_stop = stop 2 2 (omega arith) (lit< tt) (lit< tt) ∙ ap Some r;
        hash_stop = stop 3 1 (omega arith) (lit< tt) (lit< tt) ∙ ap Some h;
        outputs = batch_output (facts_of (checked_of all));
        has_outputs = outputs_hold;
        range_cells = range_numbers all;
        has_range_cells = span_of (all_cells (checked_of all)) (range_from (checked_of all)) (hash_from (checked_of all)) (total (λ t. size t 3) (checked_of all)) (range_numbers all) refl (ranges_region m p all parts.range);
        are_range_cells = are_range_numbers all;
        instances = hash_numbers p all;
        has_instances = span_of (all_cells (checked_of all)) (hash_from (checked_of all)) (program_from (checked_of all)) (total hash_size (checked_of all)) (hash_numbers p all) refl (hashes_region m p all parts.hash);
        are_instances = are_hash_numbers p all;
      }

  pub honest : AcceptsBatch (cert_of t.checked (checked_of ts)) (checked_of all)
  unfolding accepts
  honest =
      record {
        is_batch = refl;
        accepted = accepts;
        bound = record { words = whole.boot_there all; first = state 1 boot_frame boot_frame; is_first = refl; enters = refl; returns = accepts.returned };
        prints = outputs_hold;
        one_mark_each = marks_count 4 p all;
      }
