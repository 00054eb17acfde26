-- The PIE of DOWN is accepted alone, with the output 1.
use Rattle.std.proofs.Common.{◌≡◌, ℕ, zero, suc, ◌+◌, ◌*◌, ◌<◌, ◌≤◌, List, [], ◌∷◌, length, map, slice_get, slice_index, Option, Some, refl, sym, ap, ◌∙◌, arith}
use Rattle.std.proofs.lemmas.Option.{slice_get-get_or}
use Rattle.std.proofs.lemmas.List.{get_or-map, length-map}
use Rattle.builtin_hash.specs.Programs.{program_hash_of}
use Rattle.cairo_model.specs.Machine.Values.{Datum, number, place}
use Rattle.cairo_model.specs.Pie.Acceptance.{AcceptedWith, FactRecord, HasFrame, HasInstances, HasRangeCells, HasStopPointers, HoldsNumbers, IsFactOf, IsHome, IsolatedRun, start_of}
use Rattle.cairo_model.specs.Pie.Records.{PieRecord, memory_of, segment_size, value_at}
use Rattle.cairo_model.specs.Segments.{builtin_mask, program_segment, output_segment, range_segment, hash_segment}
use Rattle.work_maker.specs.Accepted.{IsAcceptedGiving}
use Rattle.work_maker.specs.Down.{down_cells, down_code, down_outputs, down_pie}
use Rattle.work_maker.specs.Limits.{round_steps}
use Rattle.work_maker.proofs.DownCells.{has_down}
use Rattle.work_maker.proofs.DownRules.{down_rules}
use Rattle.work_maker.proofs.DownRuns.{ComesHome, down_comes_home}
use Rattle.work_maker.proofs.DownSteps.{found_below, home, inside}

number_at : (numbers : List ℕ) (i : ℕ) → i < length numbers → slice_get (map number numbers) i ≡ Some (number (slice_index numbers i))
number_at numbers i lt =
    slice_get-get_or (map number numbers) i (number 0) (omega (arith, lt, length-map numbers number)) ∙ ap (λ (d : Datum). Some d) (get_or-map number numbers i 0 (number 0) lt)

-- a segment of no cells holds no numbers
holds_none : (pie : PieRecord) (segment : ℕ) → segment_size pie segment ≡ 0 → HoldsNumbers pie.cells segment (segment_size pie segment) []
holds_none pie segment none = record { count = sym none; each = λ offset lt. absurd (omega (arith, none, lt)) }

module _ (rounds : ℕ) where
  -- the fact: the hash of DOWN's code, and the output 1
  abbrev pub down_fact : FactRecord
  down_fact = record { program = program_hash_of 0 builtin_mask (down_code rounds); outputs = down_outputs }

  code_holds : HoldsNumbers (down_cells rounds) program_segment 18 (down_code rounds)
  code_holds = record { count = refl; each = λ i lt. (has_down rounds).code i lt ∙ number_at (down_code rounds) i lt }

  outputs_hold : HoldsNumbers (down_cells rounds) output_segment 1 down_outputs
  outputs_hold = record { count = refl; each = each }
    where
      each : (i : ℕ) → i < 1 → value_at (down_cells rounds) output_segment i ≡ Some (number (slice_index down_outputs i))
      each zero lt = (has_down rounds).output
      each (suc i) lt = absurd (omega (arith, lt))

  down_shows : IsFactOf (down_pie rounds) down_fact
  down_shows = record { code = down_code rounds; has_code = code_holds; is_program = refl; has_outputs = outputs_hold }

  down_frame : HasFrame builtin_mask (down_cells rounds)
  down_frame zero lt = (has_down rounds).frame 0 lt
  down_frame (suc zero) lt = (has_down rounds).frame 1 lt
  down_frame (suc (suc zero)) lt = (has_down rounds).frame 2 lt
  down_frame (suc (suc (suc zero))) lt = (has_down rounds).frame 3 lt
  down_frame (suc (suc (suc (suc zero)))) lt = (has_down rounds).frame 4 lt
  down_frame (suc (suc (suc (suc (suc i))))) lt = absurd (omega (arith, lt))

  down_range : HasRangeCells (down_pie rounds)
  down_range = record { numbers = []; holds = holds_none (down_pie rounds) range_segment refl; are_range_cells = λ k d lt. absurd (omega (arith, lt)) }

  down_hash : HasInstances (down_pie rounds)
  down_hash = record { numbers = []; holds = holds_none (down_pie rounds) hash_segment refl; are_instances = record { whole = refl; each = λ k lt. absurd (omega (arith, lt)) } }

  abbrev memory : Datum → Option Datum
  memory = memory_of (down_cells rounds)

  module _ (run : ComesHome memory (8 + round_steps * rounds) (inside 0 5)) where
    stop_pointers : HasStopPointers builtin_mask (down_pie rounds) (home (suc (suc (suc run.top)))).ap
    stop_pointers zero lt = found_below memory (suc (suc (suc run.top))) run.top 3 (place output_segment 1) (omega arith) (omega (arith, run.near)) run.stops.0
    stop_pointers (suc zero) lt = found_below memory (suc (suc (suc run.top))) (suc run.top) 2 (place range_segment 0) (omega arith) (omega (arith, run.near)) run.stops.1.0
    stop_pointers (suc (suc zero)) lt = found_below memory (suc (suc (suc run.top))) (suc (suc run.top)) 1 (place hash_segment 0) (omega arith) (omega (arith, run.near)) run.stops.1.1.0
    stop_pointers (suc (suc (suc i))) lt = absurd (omega (arith, lt))

    comes_home : IsHome (down_pie rounds) (home (suc (suc (suc run.top))))
    comes_home = record { returned = refl; restored = refl; stops = stop_pointers }

    down_runs : IsolatedRun (down_pie rounds) (start_of (down_pie rounds) ∷ run.states)
    down_runs = record {
      last = home (suc (suc (suc run.top)));
      runs = (refl, (run.passes.runs, run.passes.ends));
      count = omega (arith, run.passes.count);
      home = comes_home;
    }

    accepted_by_run : rounds ≤ 500 → AcceptedWith (down_pie rounds) down_fact (start_of (down_pie rounds) ∷ run.states)
    accepted_by_run few = record {
      rules = down_rules rounds few;
      main_in_code = omega arith;
      frame = down_frame;
      shows = down_shows;
      range = down_range;
      hash = down_hash;
      isolated = down_runs;
    }

-- with one round or more, up to the most
pub down_accepted : (rounds : ℕ) → 1 ≤ rounds → rounds ≤ 500 → IsAcceptedGiving (down_pie rounds) down_outputs
down_accepted zero some few = absurd (omega (arith, some))
down_accepted (suc more) some few =
    let run = down_comes_home (memory (suc more)) more (has_down (suc more)) (omega (arith, few)) in
    record { fact = down_fact (suc more); states = start_of (down_pie (suc more)) ∷ run.states; accepted = accepted_by_run (suc more) run few; gives = refl }
