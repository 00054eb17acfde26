-- The states that a run went through while it put cells are a run over the cells of its PIE.
use Rattle.std.proofs.Common.{◌≡◌, ℕ, zero, suc, ◌+◌, List, [], ◌∷◌, map, Option, Some, None, ℤ, Ok, refl, sym, ap, ◌∙◌, arith}
use Rattle.std.proofs.lemmas.List.{length-map}
use Rattle.cairo_model.proofs.Inversion.{moved_so, moves, value_exact}
use Rattle.cairo_model.proofs.Outcomes.{and_then_gives, and_then_goes, bind_gives, ok_is, then_ok}
use Rattle.cairo_model.proofs.RunLaws.{same_runs}
use Rattle.cairo_model.specs.Machine.Steps.{Registers, RunFrom, RunsTo, found, last_of, moved, next, offset_number, op1_from, register_in, value_arithmetic}
use Rattle.cairo_model.specs.Machine.Values.{Datum, place}
use Rattle.cairo_model.specs.Pie.Acceptance.{AcceptedWith, FactRecord, start_of}
use Rattle.cairo_model.specs.Pie.Records.{PieRecord, memory_of}
use Rattle.seg_runner.proofs.KeptCells.{KeepsCells, absent_kept, same_kept, then_kept}
use Rattle.seg_runner.proofs.StepParts.{step_parts}
use Rattle.seg_runner.specs.Answers.{RunsToPie}
use Rattle.seg_runner.specs.Endings.{outputs_per_instance, with_instances, with_outputs, with_words}
use Rattle.seg_runner.specs.Hashes.{output_word, outputs_of}
use Rattle.seg_runner.specs.Memories.{GrowingMemory, put_where_absent}
use Rattle.seg_runner.specs.Refusals.{over_size}
use Rattle.seg_runner.specs.Runs.{Advances, states_of, last_configuration}
use Rattle.seg_runner.specs.Starts.{start_memory, start_registers, started}
use Rattle.seg_runner.specs.Steps.{Configuration}

-- ---- a step over more cells

module _ (m big : Datum → Option Datum) (more : (at v : Datum) → m at ≡ Some v → big at ≡ Some v) where
  found_more : (from : Datum) (offset : ℤ) (v : Datum) → found value_arithmetic m from offset ≡ Some v → found value_arithmetic big from offset ≡ Some v
  found_more from offset v e =
      and_then_gives (moved value_arithmetic from (offset_number offset)) m v e (λ at is there.
      and_then_goes (moved value_arithmetic from (offset_number offset)) big at v is (more at v there))

  pub next_more : (s t : Registers Datum) → next value_arithmetic m s ≡ Ok t → next value_arithmetic big s ≡ Ok t
  next_more s t step =
      let by = moves value_arithmetic value_exact m s t step in
      moved_so value_arithmetic value_exact big s t (record {
        cell = by.cell;
        f = by.f;
        dst = by.dst;
        op0 = by.op0;
        op1 = by.op1;
        res = by.res;
        is_fetched = more s.pc by.cell by.is_fetched;
        is_decoded = by.is_decoded;
        has_dst = found_more (register_in s by.f.dst_reg) by.f.off_dst by.dst by.has_dst;
        has_op0 = found_more (register_in s by.f.op0_reg) by.f.off_op0 by.op0 by.has_op0;
        has_op1 = found_more (op1_from by.f s by.op0) by.f.off_op1 by.op1 by.has_op1;
        has_result = by.has_result;
        calls = by.calls;
        asserts = by.asserts;
        leads_to = by.leads_to;
        allocates = by.allocates;
        frames = by.frames;
      })

-- ---- the cells at home

words_kept : (n : ℕ) (m : GrowingMemory) (start : ℕ) (words : List ℕ) (k left : ℕ) (after : GrowingMemory) → with_words n m start words k left ≡ Ok after → KeepsCells m after
unfolding with_words
words_kept n m start words k zero after e = same_kept m after e
words_kept n m start words k (suc left) after e =
    bind_gives (put_where_absent n m (place 4 (start + k)) (Some (output_word words k))) _ after e (λ one is_one rest.
    then_kept m one after (absent_kept n m (place 4 (start + k)) (Some (output_word words k)) one is_one) (words_kept n one start words (k + 1) left after rest))

outputs_kept : (n : ℕ) (m : GrowingMemory) (i : ℕ) (words : Option (List ℕ)) (after : GrowingMemory) → with_outputs n m i words ≡ Ok after → KeepsCells m after
outputs_kept n m i None after e = same_kept m after e
outputs_kept n m i (Some ws) after e = words_kept n m _ ws 0 outputs_per_instance after e

instances_kept : (n : ℕ) (m : GrowingMemory) (i left : ℕ) (after : GrowingMemory) → with_instances n m i left ≡ Ok after → KeepsCells m after
unfolding with_instances
instances_kept n m i zero after e = same_kept m after e
instances_kept n m i (suc left) after e =
    bind_gives (with_outputs n m i (outputs_of m.cells i)) _ after e (λ one is_one rest.
    then_kept m one after (outputs_kept n m i (outputs_of m.cells i) one is_one) (instances_kept n one (i + 1) left after rest))

-- ---- the steps, over the cells that stand at the end

-- what a configuration has stays up to the last one
rest_kept : (n : ℕ) (now : Configuration) (rest : List Configuration) → Advances n now rest → KeepsCells now.memory (last_configuration now rest).memory
rest_kept n now [] goes at v is = is
rest_kept n now (after ∷ rest) goes at v is =
    rest_kept (n + 1) after rest goes.1.1 at v ((step_parts n now after goes.1.0).keeps at v is)

module _ (cells : Datum → Option Datum) where
  states_run : (n : ℕ) (now : Configuration) (rest : List Configuration) → Advances n now rest → ((at v : Datum) → (last_configuration now rest).memory.cells at ≡ Some v → cells at ≡ Some v)
      → RunFrom value_arithmetic cells now.registers (map (λ (c : Configuration). c.registers) rest)
  states_run n now [] goes more = tt
  states_run n now (after ∷ rest) goes more =
      let parts = step_parts n now after goes.1.0 in (
        next_more after.memory.cells cells (λ at v is. more at v (rest_kept (n + 1) after rest goes.1.1 at v is)) now.registers after.registers parts.moves,
        states_run (n + 1) after rest goes.1.1 more,
      )

start_is : (words : List ℕ) (main : ℕ) (start : Configuration) → started words main ≡ Ok start → start.registers ≡ start_registers main
start_is words main start e =
    then_ok _ (over_size 0) (Ok (record { memory = start_memory words; registers = start_registers main })) start e (λ fits is.
    sym (ap (λ (c : Configuration). c.registers) (ok_is _ start is)))

pub isolated : (words : List ℕ) (main limit : ℕ) (pie : PieRecord) (fact : FactRecord) (states : List (Registers Datum)) (r : RunsToPie words main limit pie) → AcceptedWith pie fact states → states ≡ states_of r.runs
isolated words main limit pie fact states r accepted =
    let run = r.runs in
    let regs : List (Registers Datum) = map (λ (c : Configuration). c.registers) run.rest in
    let cells = memory_of pie.cells in
    let kept : KeepsCells r.last.memory r.memory = instances_kept pie.steps r.last.memory 0 _ r.memory r.completes in
    let more : (at v : Datum) → (last_configuration run.start run.rest).memory.cells at ≡ Some v → cells at ≡ Some v = λ at v is.
    ap (λ (f : Datum → Option Datum). f at) r.has_cells ∙ kept at v (ap (λ (c : Configuration). c.memory.cells at) (sym run.ends) ∙ is) in
    let runs = states_run cells 0 run.start run.rest run.advances more in
    let begin : run.start.registers ≡ start_of pie = start_is words main run.start run.starts ∙ ap start_registers (sym r.has_main) in
    let whole : RunsTo value_arithmetic cells (start_of pie) (run.start.registers ∷ regs) (last_of run.start.registers regs) = (begin, (runs, refl)) in
    let isolated = accepted.isolated in
    let long = length-map run.rest (λ (c : Configuration). c.registers) in
    let count = isolated.count in
    let steps = run.count in
    (same_runs value_arithmetic cells (start_of pie) states isolated.last (run.start.registers ∷ regs) (last_of run.start.registers regs) isolated.runs whole (omega arith)).0
