-- A run that the code makes is a list of steps, and each refusal of it comes where its rule says.
use Rattle.std.proofs.Common.{◌≡◌, ℕ, zero, suc, ◌+◌, ◌<◌, ◌≤◌, true, false, List, [], ◌∷◌, length, Result, Ok, Err, refl, sym, ap, subst, ◌∙◌, arith}
use Rattle.cairo_model.proofs.Outcomes.{bind_gives, bind_refused, err_is, ok_is, ok_no_err, tested}
use Rattle.cairo_model.specs.Machine.Steps.{◌>>=◌}
use Rattle.cairo_model.specs.Pie.Records.{PieRecord, KeepsRules, memory_of}
use Rattle.seg_runner.specs.Answers.{IsRunRefusal, at_start, at_step, at_limit, at_home, RunsToPie}
use Rattle.seg_runner.specs.Endings.{completed, is_returned}
use Rattle.seg_runner.specs.Memories.{GrowingMemory}
use Rattle.seg_runner.specs.Refusals.{RunCause, over_limit}
use Rattle.seg_runner.specs.Runs.{Advances, HasRun, last_configuration}
use Rattle.seg_runner.specs.Starts.{started}
use Rattle.seg_runner.specs.Steps.{Configuration, run_step}
use Rattle.seg_runner.specs.Working.Running.{RunEnd, ended, run_of, runs_on}

-- ---- where it comes home

-- from the n-th step on, with so many left, the run goes through these configurations, the last of which is home
record GoesHome (left n : ℕ) (now : Configuration) (end : RunEnd) : Type 0 where
  rest : List Configuration
  advances : Advances n now rest
  count : n + length rest ≡ end.steps
  in_limit : end.steps ≤ n + left
  home : is_returned (last_configuration now rest).registers ≡ true
  memory : (last_configuration now rest).memory ≡ end.memory

at_once : (left n : ℕ) (now : Configuration) (end : RunEnd) → is_returned now.registers ≡ true → ◌≡◌ {A = Result RunEnd RunCause} (Ok (ended n now.memory)) (Ok end) → GoesHome left n now end
at_once left n now end home is =
    let same = ok_is (ended n now.memory) end is in
    let steps : n ≡ end.steps = ap (λ (x : RunEnd). x.steps) same in
    record { rest = []; advances = tt; count = omega arith; in_limit = omega arith; home = home; memory = ap (λ (x : RunEnd). x.memory) same }

goes_home : (left n : ℕ) (now : Configuration) (end : RunEnd) → runs_on left n now ≡ Ok end → GoesHome left n now end
unfolding runs_on
goes_home zero n now end e =
    tested (is_returned now.registers) (Ok (ended n now.memory)) (Err (over_limit n)) (Ok end) e
    (λ home is. at_once zero n now end home is)
    (λ away none. absurd (cc))
goes_home (suc left) n now end e =
    tested (is_returned now.registers) (Ok (ended n now.memory)) (run_step n now >>= runs_on left (n + 1)) (Ok end) e
    (λ home is. at_once (suc left) n now end home is)
    (λ away more. bind_gives (run_step n now) (runs_on left (n + 1)) end more (λ after is on.
    let later = goes_home left (n + 1) after end on in
    let count = later.count in
    let limit = later.in_limit in
    record { rest = after ∷ later.rest; advances = (away, (is, later.advances)); count = omega arith; in_limit = omega arith; home = later.home; memory = later.memory }))

-- ---- where it is refused

-- the run goes through these configurations, and isn't home
record GoesAway (n : ℕ) (now : Configuration) (rest : List Configuration) : Type 0 where
  advances : Advances n now rest
  away : is_returned (last_configuration now rest).registers ≡ false

data Stops (left n : ℕ) (now : Configuration) (cause : RunCause) : Type 0 where
  by_step : (rest : List Configuration) → GoesAway n now rest → length rest < left → run_step (n + length rest) (last_configuration now rest) ≡ Err cause → Stops left n now cause
  by_limit : (rest : List Configuration) → GoesAway n now rest → length rest ≡ left → cause ≡ over_limit (n + left) → Stops left n now cause

one_before : (left n : ℕ) (now after : Configuration) (cause : RunCause) → is_returned now.registers ≡ false → run_step n now ≡ Ok after → Stops left (n + 1) after cause → Stops (suc left) n now cause
one_before left n now after cause away is (by_step rest goes lt refuses) =
    let number : n + 1 + length rest ≡ n + length (after ∷ rest) = omega arith in
    by_step (after ∷ rest) (record { advances = (away, (is, goes.advances)); away = goes.away }) (omega arith) (subst (λ (k : ℕ). run_step k (last_configuration after rest) ≡ Err cause) number refuses)
one_before left n now after cause away is (by_limit rest goes count same) =
    let number : n + 1 + left ≡ n + suc left = omega arith in
    by_limit (after ∷ rest) (record { advances = (away, (is, goes.advances)); away = goes.away }) (omega arith) (same ∙ ap over_limit number)

stops : (left n : ℕ) (now : Configuration) (cause : RunCause) → runs_on left n now ≡ Err cause → Stops left n now cause
unfolding runs_on
stops zero n now cause e =
    tested (is_returned now.registers) (Ok (ended n now.memory)) (Err (over_limit n)) (Err cause) e
    (λ home none. absurd (cc))
    (λ away is.
    let number : n ≡ n + zero = omega arith in
    by_limit [] (record { advances = tt; away = away }) refl (sym (err_is (over_limit n) cause is) ∙ ap over_limit number))
stops (suc left) n now cause e =
    tested (is_returned now.registers) (Ok (ended n now.memory)) (run_step n now >>= runs_on left (n + 1)) (Err cause) e
    (λ home none. absurd (cc))
    (λ away more. bind_refused (run_step n now) (runs_on left (n + 1)) cause more
    (λ refuses.
    let number : n ≡ n + length {A = Configuration} [] = omega arith in
    by_step [] (record { advances = tt; away = away }) (omega arith) (subst (λ (k : ℕ). run_step k now ≡ Err cause) number refuses))
    (λ after is on. one_before left n now after cause away is (stops left (n + 1) after cause on)))

-- ---- from the start

has_run : (words : List ℕ) (main : ℕ) (start : Configuration) (rest : List Configuration) (steps : ℕ) → started words main ≡ Ok start → Advances 0 start rest → length rest ≡ steps → HasRun words main steps (last_configuration start rest)
has_run words main start rest steps is advances count = record { start = start; rest = rest; starts = is; advances = advances; count = count; ends = refl }

-- the PIE that a run is made into
pub runs_to : (words : List ℕ) (main limit : ℕ) (end : RunEnd) (pie : PieRecord) → run_of words main limit ≡ Ok end
    → pie.main ≡ main → pie.steps ≡ end.steps → pie.sizes ≡ end.memory.sizes → memory_of pie.cells ≡ end.memory.cells → KeepsRules pie → RunsToPie words main limit pie
unfolding run_of
runs_to words main limit end pie e has_main has_steps has_sizes has_cells rules =
    bind_gives (started words main) _ end e (λ start is_start e.
    bind_gives (runs_on limit 0 start) _ end e (λ home is_home e.
    bind_gives (completed home.steps home.memory) _ end e (λ complete is_complete e.
    let goes = goes_home limit 0 start home is_home in
    let same = ok_is (ended home.steps complete) end e in
    let memory : complete ≡ end.memory = ap (λ (x : RunEnd). x.memory) same in
    let steps : home.steps ≡ end.steps = ap (λ (x : RunEnd). x.steps) same in
    let count = goes.count in
    let few = goes.in_limit in
    let long : length goes.rest ≡ pie.steps = omega arith in
    let number : home.steps ≡ pie.steps = steps ∙ sym has_steps in
    let done : completed pie.steps (last_configuration start goes.rest).memory ≡ Ok complete =
    ap (λ (m : GrowingMemory). completed pie.steps m) goes.memory ∙ ap (λ (k : ℕ). completed k home.memory) (sym number) ∙ is_complete in
    record {
      last = last_configuration start goes.rest;
      runs = has_run words main start goes.rest pie.steps is_start goes.advances long;
      in_limit = omega arith;
      home = goes.home;
      memory = complete;
      completes = done;
      has_main = has_main;
      has_sizes = has_sizes ∙ ap (λ (m : GrowingMemory). m.sizes) (sym memory);
      has_cells = has_cells ∙ ap (λ (m : GrowingMemory). m.cells) (sym memory);
      rules = rules;
    })))

-- a run keeps its limit
pub steps_in : (words : List ℕ) (main limit : ℕ) (end : RunEnd) → run_of words main limit ≡ Ok end → end.steps ≤ limit
unfolding run_of
steps_in words main limit end e =
    bind_gives (started words main) _ end e (λ start is_start e.
    bind_gives (runs_on limit 0 start) _ end e (λ home is_home e.
    bind_gives (completed home.steps home.memory) _ end e (λ complete is_complete e.
    let steps : home.steps ≡ end.steps = ap (λ (x : RunEnd). x.steps) (ok_is (ended home.steps complete) end e) in
    let few = (goes_home limit 0 start home is_home).in_limit in
    omega arith)))

from_stop : (words : List ℕ) (main limit : ℕ) (start : Configuration) (cause : RunCause) → started words main ≡ Ok start → Stops limit 0 start cause → IsRunRefusal words main limit cause
from_stop words main limit start cause is (by_step rest goes lt refuses) =
    let number : 0 + length rest ≡ length rest = omega arith in
    at_step (record {
      steps = length rest;
      last = last_configuration start rest;
      runs = has_run words main start rest (length rest) is goes.advances refl;
      in_limit = lt;
      away = goes.away;
      refuses = subst (λ (k : ℕ). run_step k (last_configuration start rest) ≡ Err cause) number refuses;
    })
from_stop words main limit start cause is (by_limit rest goes count same) =
    let number : 0 + limit ≡ limit = omega arith in
    at_limit (record {
      last = last_configuration start rest;
      runs = has_run words main start rest limit is goes.advances count;
      away = goes.away;
      is_cause = same ∙ ap over_limit number;
    })

pub run_refused : (words : List ℕ) (main limit : ℕ) (cause : RunCause) → run_of words main limit ≡ Err cause → IsRunRefusal words main limit cause
unfolding run_of
run_refused words main limit cause e =
    bind_refused (started words main) _ cause e (λ first. at_start first) (λ start is_start e.
    bind_refused (runs_on limit 0 start) _ cause e (λ on. from_stop words main limit start cause is_start (stops limit 0 start cause on)) (λ home is_home e.
    let goes = goes_home limit 0 start home is_home in
    let count = goes.count in
    let few = goes.in_limit in
    bind_refused (completed home.steps home.memory) _ cause e
    (λ refuses.
    at_home (record {
      steps = home.steps;
      last = last_configuration start goes.rest;
      runs = has_run words main start goes.rest home.steps is_start goes.advances (omega arith);
      in_limit = omega arith;
      home = goes.home;
      refuses = ap (λ (m : GrowingMemory). completed home.steps m) goes.memory ∙ refuses;
    }))
    (λ complete is_complete done. ok_no_err (ended home.steps complete) cause done)))
