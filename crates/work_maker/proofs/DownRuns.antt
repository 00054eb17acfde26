-- The run of DOWN: three steps to the first round, four a round, and five at the end.
use Rattle.std.proofs.Common.{◌≡◌, ℕ, zero, suc, ◌+◌, ◌*◌, ◌^◌, ◌<◌, List, [], ◌∷◌, ◌++◌, Option, refl, ◌∙◌, arith}
use Rattle.cairo_model.specs.Machine.Values.{Datum, number}
use Rattle.cairo_model.specs.Machine.Runs.{Passes}
use Rattle.cairo_model.specs.Machine.Steps.{Registers, value_arithmetic}
use Rattle.cairo_model.specs.Segments.{execution_segment}
use Rattle.cairo_model.proofs.RunParts.{joined}
use Rattle.work_maker.specs.Down.{round_values, countdown, down_stops}
use Rattle.work_maker.specs.Limits.{round_steps}
use Rattle.work_maker.proofs.DownCells.{HasDown, StandFrom}
use Rattle.work_maker.proofs.DownSteps.{inside, home, head_of, one_put, second_put, rounds_put, cell_copied, cell_kept, one_less, jumped, output_is, output_stops, range_stops, hash_stops, returned}

-- From a state a run of so many steps leads home, and the ends of the builtins' segments stand last on the stack.
pub record ComesHome (m : Datum → Option Datum) (steps : ℕ) (s : Registers Datum) : Type 0 where
  pub top : ℕ
  pub near : suc (suc (suc top)) < 2 ^ 31
  pub states : List (Registers Datum)
  pub passes : Passes value_arithmetic m steps s states (home (suc (suc (suc top))))
  pub stops : StandFrom m execution_segment top down_stops

-- steps before a run that comes home
pub home_after : (m : Datum → Option Datum) (before steps all : ℕ) (s t : Registers Datum) (rows : List (Registers Datum)) → before + steps ≡ all → Passes value_arithmetic m before s rows t → ComesHome m steps t → ComesHome m all s
home_after m before steps all s t rows count first rest =
    let both = joined value_arithmetic m first rest.passes in
    record {
      top = rest.top;
      near = rest.near;
      states = rows ++ rest.states;
      passes = record { count = both.count ∙ count; runs = both.runs; ends = both.ends };
      stops = rest.stops;
    }

-- so many rounds are left, as the values of the round before stand on the stack, and those of the rest behind them
abbrev pub AreLeft : (Datum → Option Datum) → ℕ → ℕ → Type 0
AreLeft m top left = StandFrom m execution_segment top (round_values left ++ (countdown left ++ down_stops))

module _ (m : Datum → Option Datum) (rounds : ℕ) (has : HasDown m rounds) where
  end_comes_home : (top : ℕ) → suc (suc (suc (suc (suc (suc top))))) < 2 ^ 31 → AreLeft m top 0 → ComesHome m 5 (inside 12 (suc (suc (suc top))))
  unfolding countdown
  end_comes_home top near stand =
      let first = suc (suc (suc top)) in
      let stops = stand.1.1.1 in
      record {
        top = first;
        near = near;
        states = inside 13 first ∷ inside 15 (suc first) ∷ inside 16 (suc (suc first)) ∷ inside 17 (suc (suc (suc first))) ∷ home (suc (suc (suc first))) ∷ [];
        passes = record {
          count = refl;
          runs = (
            output_is m rounds has top (omega arith) stand.0,
            (
              output_stops m rounds has first (omega arith) stops.0,
              (range_stops m rounds has (suc first) (omega arith) stops.1.0, (hash_stops m rounds has (suc (suc first)) (omega arith) stops.1.1.0, (returned m rounds has (suc (suc (suc first))), tt))),
            ),
          );
          ends = refl;
        };
        stops = stops;
      }

  round_passes : (top left : ℕ) → suc (suc (suc (suc (suc (suc top))))) < 2 ^ 31 → left < 2 ^ 31 → AreLeft m top (suc left)
      → Passes value_arithmetic m 4 (inside 6 (suc (suc (suc top))))
      (inside 7 (suc (suc (suc (suc top)))) ∷ inside 8 (suc (suc (suc (suc (suc top))))) ∷ inside 10 (suc (suc (suc (suc (suc (suc top)))))) ∷ inside (head_of left) (suc (suc (suc (suc (suc (suc top)))))) ∷ [])
      (inside (head_of left) (suc (suc (suc (suc (suc (suc top)))))))
  unfolding countdown
  round_passes top left near few stand =
      let next = stand.1.1.1 in
      record {
        count = refl;
        runs = (
          cell_copied m rounds has (suc top) (number 1) (omega arith) stand.1.0 next.0,
          (
            cell_kept m rounds has (suc top) (number 1) (omega arith) stand.1.0 next.1.0,
            (
              one_less m rounds has (suc (suc top)) left (omega arith) few stand.1.1.0 next.1.1.0,
              (jumped m rounds has (suc (suc (suc (suc (suc top))))) left (omega arith) next.1.1.0, tt),
            ),
          ),
        );
        ends = refl;
      }

  next_left : (top left : ℕ) → AreLeft m top (suc left) → AreLeft m (suc (suc (suc top))) left
  unfolding countdown
  next_left top left stand = stand.1.1.1

  rounds_come_home : (left top : ℕ) → top + 3 * left + 6 < 2 ^ 31 → AreLeft m top left → ComesHome m (round_steps * left + 5) (inside (head_of left) (suc (suc (suc top))))
  rounds_come_home zero top near stand = end_comes_home top (omega (arith, near)) stand
  rounds_come_home (suc left) top near stand =
      home_after m 4 (round_steps * left + 5) (round_steps * suc left + 5) (inside 6 (suc (suc (suc top)))) (inside (head_of left) (suc (suc (suc (suc (suc (suc top))))))) _ (omega arith)
      (round_passes top left (omega (arith, near)) (omega (arith, near)) stand)
      (rounds_come_home left (suc (suc (suc top))) (omega (arith, near)) (next_left top left stand))

  start_passes : Passes value_arithmetic m 3 (inside 0 5) (inside 2 6 ∷ inside 4 7 ∷ inside 6 8 ∷ []) (inside 6 8)
  start_passes = record { count = refl; runs = (one_put m rounds has, (second_put m rounds has, (rounds_put m rounds has, tt))); ends = refl }

-- with one round or more, the run comes home
pub down_comes_home : (m : Datum → Option Datum) (more : ℕ) → HasDown m (suc more) → suc more < 2 ^ 20 → ComesHome m (8 + round_steps * suc more) (inside 0 5)
down_comes_home m more has few =
    home_after m 3 (round_steps * suc more + 5) (8 + round_steps * suc more) (inside 0 5) (inside 6 8) _ (omega arith) (start_passes m (suc more) has)
    (rounds_come_home m (suc more) has (suc more) 5 (omega (arith, few)) has.stack)
