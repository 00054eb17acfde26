-- Runs state by state, runs put together from parts, and runs taken apart.
use Rattle.std.proofs.Common.{◌≡◌, ℕ, zero, suc, ◌+◌, ◌<◌, List, [], ◌∷◌, ◌++◌, length, drop, slice_get, Option, refl, sym, ap, subst, ◌∙◌, arith, length-append, append_assoc}
use Rattle.cairo_model.specs.Machine.Steps.{Arithmetic, Registers, Step, Run, RunFrom, RunsTo, last_of}
use Rattle.cairo_model.specs.Machine.Runs.{IsState, LeadsOn, EachLeadsOn, RunsByStates, RunsByParts, Passes, GoesOn}
use Rattle.cairo_model.proofs.Outcomes.{some_is}

pub one_state : {V : Type 0} (states : List (Registers V)) (n : ℕ) (s t : Registers V) → IsState states n s → IsState states n t → s ≡ t
one_state states n s t is other = some_is s t (sym is ∙ other)

pub one_on : {V : Type 0} (s : Registers V) (states : List (Registers V)) (k : ℕ) → slice_get (s ∷ states) (suc k + 1) ≡ slice_get states (k + 1)
one_on s states k = let moved : suc k + 1 ≡ suc (k + 1) = omega arith in ap (slice_get (s ∷ states)) moved

module _ {V : Type 0} (A : Arithmetic V) (m : V → Option V) where
  -- ---- state by state

  pub led_here : (s t : Registers V) (ts : List (Registers V)) → Step A m s t → LeadsOn A m (s ∷ t ∷ ts) 0
  led_here s t ts steps = record { state = s; after = t; is_state = refl; is_after = refl; steps = steps }

  pub led_later : (s : Registers V) (states : List (Registers V)) (k : ℕ) → LeadsOn A m states k → LeadsOn A m (s ∷ states) (suc k)
  led_later s states k leads = record {
    state = leads.state;
    after = leads.after;
    is_state = leads.is_state;
    is_after = one_on s states k ∙ leads.is_after;
    steps = leads.steps;
  }

  pub led_before : (s : Registers V) (states : List (Registers V)) (k : ℕ) → LeadsOn A m (s ∷ states) (suc k) → LeadsOn A m states k
  led_before s states k leads = record {
    state = leads.state;
    after = leads.after;
    is_state = leads.is_state;
    is_after = sym (one_on s states k) ∙ leads.is_after;
    steps = leads.steps;
  }

  -- in a run each state leads to the next one
  pub all_lead : (s : Registers V) (ts : List (Registers V)) → RunFrom A m s ts → (k : ℕ) → k + 1 < length (s ∷ ts) → LeadsOn A m (s ∷ ts) k
  all_lead s [] run k lt = absurd (omega arith)
  all_lead s (t ∷ ts) run zero lt = led_here s t ts run.0
  all_lead s (t ∷ ts) run (suc k) lt = led_later s (t ∷ ts) k (all_lead t ts run.1 k (omega arith))

  step_of_first : (s t : Registers V) (ts : List (Registers V)) → LeadsOn A m (s ∷ t ∷ ts) 0 → Step A m s t
  step_of_first s t ts leads =
      let from : leads.state ≡ s = one_state (s ∷ t ∷ ts) 0 leads.state s leads.is_state refl in
      let to : leads.after ≡ t = one_state (s ∷ t ∷ ts) 1 leads.after t leads.is_after refl in
      subst (λ (u : Registers V). Step A m s u) to (subst (λ (u : Registers V). Step A m u leads.after) from leads.steps)

  -- and where each leads to the next one, they are a run
  run_of_leading : (s : Registers V) (ts : List (Registers V)) → ((k : ℕ) → k + 1 < length (s ∷ ts) → LeadsOn A m (s ∷ ts) k) → RunFrom A m s ts
  run_of_leading s [] leads = tt
  run_of_leading s (t ∷ ts) leads = (
    step_of_first s t ts (leads 0 (omega arith)),
    run_of_leading t ts (λ k lt. led_before s (t ∷ ts) k (leads (suc k) (omega (arith, lt)))),
  )

  run_leads : (states : List (Registers V)) → Run A m states → EachLeadsOn A m states
  run_leads [] none = absurd none
  run_leads (s ∷ ss) run = record { some = omega arith; each = all_lead s ss run }

  leading_runs : (states : List (Registers V)) → EachLeadsOn A m states → Run A m states
  leading_runs [] leads = absurd (omega (arith, leads.some))
  leading_runs (s ∷ ss) leads = run_of_leading s ss leads.each

  -- ---- part by part

  pub runs_join : (s : Registers V) (ts us : List (Registers V)) → RunFrom A m s ts → RunFrom A m (last_of s ts) us → RunFrom A m s (ts ++ us)
  runs_join s [] us run next = next
  runs_join s (t ∷ ts) us run next = (run.0, runs_join t ts us run.1 next)

  pub runs_part : (s : Registers V) (ts us : List (Registers V)) → RunFrom A m s (ts ++ us) → RunFrom A m s ts × RunFrom A m (last_of s ts) us
  runs_part s [] us run = (tt, run)
  runs_part s (t ∷ ts) us run = let rest = runs_part t ts us run.1 in ((run.0, rest.0), rest.1)

  pub ends_join : (s : Registers V) (ts us : List (Registers V)) → last_of s (ts ++ us) ≡ last_of (last_of s ts) us
  ends_join s [] us = refl
  ends_join s (t ∷ ts) us = ends_join t ts us

  -- a run by its list of states, its first among them, is one of so many steps
  pub passes_of : (s : Registers V) (ss : List (Registers V)) (t : Registers V) (n : ℕ) → RunsTo A m s ss t → length ss ≡ n + 1 → Passes A m n s (drop 1 ss) t
  passes_of s [] t n none count = absurd none
  passes_of s (u ∷ us) t n run count = record {
    count = omega (arith, count);
    runs = subst (λ (x : Registers V). RunFrom A m x us) run.0 run.1.0;
    ends = ap (λ (x : Registers V). last_of x us) (sym run.0) ∙ run.1.1;
  }

  -- one part after another
  pub joined : {n k : ℕ} {s t u : Registers V} {ts us : List (Registers V)} → Passes A m n s ts t → Passes A m k t us u → Passes A m (n + k) s (ts ++ us) u
  joined {n} {k} {s} {t} {u} {ts} {us} first second = record {
    count = length-append ts us ∙ ap (λ x. x + length us) first.count ∙ ap (λ x. n + x) second.count;
    runs = runs_join s ts us first.runs (subst (λ (x : Registers V). RunFrom A m x us) (sym first.ends) second.runs);
    ends = ends_join s ts us ∙ ap (λ (x : Registers V). last_of x us) first.ends ∙ second.ends;
  }

  pub ends_at : (n : ℕ) {s t u : Registers V} {ts : List (Registers V)} → Passes A m n s ts t → t ≡ u → Passes A m n s ts u
  ends_at n by same = record { count = by.count; runs = by.runs; ends = by.ends ∙ same }

  -- two parts of a long run
  pub and_then : {s t u : Registers V} {rows more ts us rest : List (Registers V)} → GoesOn A m s t rows ts us → GoesOn A m t u more us rest → GoesOn A m s u (rows ++ more) ts rest
  and_then {rows = rows} {more = more} {rest = rest} first second = record {
    parts = first.parts ∙ ap (λ (x : List (Registers V)). rows ++ x) second.parts ∙ sym (append_assoc rows more rest);
    runs = second.runs;
    to_end = second.to_end ∙ first.to_end;
  }

module _ {V : Type 0} (A : Arithmetic V) where
  pub runs_by_states : RunsByStates A
  runs_by_states m states = (run_leads A m states, leading_runs A m states)

  pub runs_by_parts : RunsByParts A
  runs_by_parts m s ts us = (runs_part A m s ts us, λ both. runs_join A m s ts us both.0 both.1)
