-- A PIE that is accepted alone has no cause against it, and one that isn't has one first cause.
use Rattle.std.proofs.Common.{◌≡◌, ℕ, ◌<◌, List, length, Err, Result, sym, ap, subst, ◌∙◌, inl, inr, arith}
use Rattle.std.proofs.lemmas.Bool.{cases_lt}
use Rattle.cairo_model.specs.Segments.{builtin_mask, builtin_segments}
use Rattle.cairo_model.specs.Pie.Acceptance.{AcceptedWith, start_of}
use Rattle.cairo_model.specs.Refusals.FirstFailing.{IsFirstFailing}
use Rattle.cairo_model.specs.Machine.Steps.{Registers, next, value_arithmetic}
use Rattle.cairo_model.specs.Pie.Records.{PieRecord, memory_of}
use Rattle.cairo_model.specs.Refusals.ReplayRefusals.{ReplayCause, program_cell, bad_main, bad_frame, output_cell, range_cell, hash_instance, step, not_home, wrong_frame, stop_pointer, replay_number, EndsIn, FailsAfter, IsReplayCause, IsFirstReplayCause}
use Rattle.cairo_model.specs.Pie.Acceptance.{FactRecord, HasStopPointer}
use Rattle.cairo_model.specs.Machine.Values.{Datum}
use Rattle.cairo_model.specs.declared.fault.StepFault.{StepFault}
use Rattle.cairo_model.proofs.Firsts as firsts
use Rattle.cairo_model.proofs.RunLaws.{same_runs, no_longer_run}
use Rattle.pie_replay.specs.Working.Replaying.{Passes}
use Rattle.pie_replay.proofs.FullSegments.{has_each, range_cell_at, instance_at}
use Rattle.pie_replay.proofs.Stages.{one_end, passes_none, passes_on}

-- no cause applies to a PIE that is accepted alone
pub accepted_passes : (pie : PieRecord) (fact : FactRecord) (states : List (Registers Datum)) → AcceptedWith pie fact states → Passes pie 30
accepted_passes pie fact states accepted =
    let run = accepted.isolated in
    let ends : EndsIn pie run.last = record { states = states; runs = run.runs; count = run.count } in
    passes_on pie 29
    (passes_on pie 28
    (passes_on pie 27
    (passes_on pie 26
    (passes_on pie 25
    (passes_on pie 24
    (passes_on pie 23
    (passes_on pie 22
    (passes_on pie 21
    (passes_on pie 20 (passes_none pie)
    (has_each pie.cells 0 _ _ accepted.shows.has_code))
    accepted.main_in_code)
    accepted.frame)
    (has_each pie.cells 2 _ _ accepted.shows.has_outputs))
    (range_cell_at pie accepted.range))
    (instance_at pie accepted.hash))
    (run.last, ends))
    (run.last, (ends, run.home.returned)))
    (run.last, (ends, run.home.restored)))
    (run.last, (ends, run.home.stops))

below_30 : (c : ReplayCause) → replay_number c < 30
below_30 (program_cell i) = omega arith
below_30 (bad_main m) = omega arith
below_30 (bad_frame i) = omega arith
below_30 (output_cell i) = omega arith
below_30 (range_cell i) = omega arith
below_30 (hash_instance i) = omega arith
below_30 (step n fault) = omega arith
below_30 (not_home pc) = omega arith
below_30 (wrong_frame fp) = omega arith
below_30 (stop_pointer i) = omega arith

pub no_cause : (pie : PieRecord) (fact : FactRecord) (states : List (Registers Datum)) → AcceptedWith pie fact states → (c : ReplayCause) → ¬ IsReplayCause pie c
no_cause pie fact states accepted c = accepted_passes pie fact states accepted c (below_30 c)

-- ---- one first cause

err_is : (d e : StepFault) → ◌≡◌ {A = Result (Registers Datum) StepFault} (Err d) (Err e) → d ≡ e
err_is d e same = cc

-- a run fails at one step
abbrev Fails : PieRecord → ℕ → StepFault → Type 0
Fails pie n fault = FailsAfter value_arithmetic (memory_of pie.cells) (start_of pie) n fault

not_later : (pie : PieRecord) (n m : ℕ) (d e : StepFault) → Fails pie n d → Fails pie m e → n < m → ⊥
not_later pie n m d e fails other lt =
    no_longer_run value_arithmetic (memory_of pie.cells) (start_of pie) fails.states fails.last other.states other.last d fails.runs fails.fails other.runs (omega (arith, fails.counts, other.counts, lt))

one_number : (pie : PieRecord) (n m : ℕ) (d e : StepFault) → Fails pie n d → Fails pie m e → n ≡ m
one_number pie n m d e fails other =
    elim (cases_lt n m) [
      | inl before ↦ absurd (not_later pie n m d e fails other before)
      | inr past ↦ elim (cases_lt m n) [
        | inl later ↦ absurd (not_later pie m n e d other fails later)
        | inr same ↦ omega (arith, past, same)
      ]
    ]

one_fault : (pie : PieRecord) (n m : ℕ) (d e : StepFault) → Fails pie n d → Fails pie m e → d ≡ e
one_fault pie n m d e fails other =
    let count = one_number pie n m d e fails other in
    let same = (same_runs value_arithmetic (memory_of pie.cells) (start_of pie) fails.states fails.last other.states other.last fails.runs other.runs (omega (arith, fails.counts, other.counts, count))).1 in
    err_is d e (sym fails.fails ∙ ap (next value_arithmetic (memory_of pie.cells)) same ∙ other.fails)

-- causes of one number that apply are the same
told : (pie : PieRecord) (c d : ReplayCause) → replay_number c ≡ replay_number d → IsReplayCause pie c → IsReplayCause pie d → c ≡ d
told pie (program_cell i) (program_cell j) e a b = ap program_cell (firsts.one_failing _ _ i j a b)
told pie (bad_main m) (bad_main n) e a b = ap bad_main (a.0 ∙ sym b.0)
told pie (bad_frame i) (bad_frame j) e a b = ap bad_frame (firsts.one_failing _ _ i j a b)
told pie (output_cell i) (output_cell j) e a b = ap output_cell (firsts.one_failing _ _ i j a b)
told pie (range_cell i) (range_cell j) e a b = ap range_cell (firsts.one_failing _ _ i j a b)
told pie (hash_instance i) (hash_instance j) e a b = ap hash_instance (firsts.one_failing _ _ i j a b)
told pie (step n f) (step m g) e a b = ap (λ k. step k f) (one_number pie n m f g a.1 b.1) ∙ ap (step m) (one_fault pie n m f g a.1 b.1)
told pie (not_home v) (not_home w) e a b = ap not_home (a.1.1.0 ∙ ap (λ (s : Registers Datum). s.pc) (one_end pie a.0 b.0 a.1.0 b.1.0) ∙ sym b.1.1.0)
told pie (wrong_frame v) (wrong_frame w) e a b = ap wrong_frame (a.1.1.0 ∙ ap (λ (s : Registers Datum). s.fp) (one_end pie a.0 b.0 a.1.0 b.1.0) ∙ sym b.1.1.0)
told pie (stop_pointer i) (stop_pointer j) e a b =
    let same = one_end pie b.0 a.0 b.1.0 a.1.0 in
    ap stop_pointer (firsts.one_failing (λ k. k < length (builtin_segments builtin_mask)) (HasStopPointer builtin_mask pie a.0.ap) i j a.1.1 (subst (λ (s : Registers Datum). IsFirstFailing (λ k. k < length (builtin_segments builtin_mask)) (HasStopPointer builtin_mask pie s.ap) j) same b.1.1))
told pie c d e a b = absurd (omega (arith, e))

pub one_first_replay_cause : (pie : PieRecord) (c d : ReplayCause) → IsFirstReplayCause pie c → IsFirstReplayCause pie d → c ≡ d
one_first_replay_cause pie = firsts.one_first_cause replay_number (IsReplayCause pie) (told pie)
