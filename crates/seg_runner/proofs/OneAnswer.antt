-- A program has one answer: each answer says what the run of the code gives, and that is one.
use Rattle.std.proofs.Common.{◌≡◌, ℕ, zero, suc, ◌+◌, ◌-◌, ◌≤◌, List, [], ◌∷◌, length, Result, Ok, Err, refl, sym, ap, ap₂, subst, ◌∙◌, arith}
use Rattle.cairo_model.proofs.Outcomes.{err_is, ok_is, ok_no_err}
use Rattle.cairo_model.specs.Pie.Acceptance.{AcceptedAlone}
use Rattle.cairo_model.specs.Pie.Records.{PieRecord, memory_of}
use Rattle.cairo_model.specs.Refusals.ReplayRefusals.{IsFirstReplayCause, IsReplayCause, ReplayCause}
use Rattle.seg_runner.proofs.OneMemory.{one_list}
use Rattle.seg_runner.proofs.Parts.{no_start, run_ends, run_fails, run_stops}
use Rattle.seg_runner.proofs.Turns.{runs_home, runs_more, runs_over, runs_refused}
use Rattle.seg_runner.specs.Answers.{IsRunAnswer, IsRunRefusal, RefusesPie, RunsToPie, at_home, at_limit, at_replay, at_start, at_step}
use Rattle.seg_runner.specs.Endings.{completed}
use Rattle.seg_runner.specs.Memories.{GrowingMemory}
use Rattle.seg_runner.specs.Refusals.{RunCause, not_accepted}
use Rattle.seg_runner.specs.Runs.{Advances, HasRun, last_configuration}
use Rattle.seg_runner.specs.Steps.{Configuration}
use Rattle.seg_runner.specs.Working.Running.{RunEnd, ended, run_of, runs_on}

-- ---- a list of steps is what the code does so far

walked : (left n : ℕ) (now : Configuration) (rest : List Configuration) → Advances n now rest → length rest ≤ left
    → runs_on left n now ≡ runs_on (left - length rest) (n + length rest) (last_configuration now rest)
walked left n now [] goes le =
    let all : left ≡ left - length {A = Configuration} [] = omega arith in
    let here : n ≡ n + length {A = Configuration} [] = omega arith in
    ap₂ (λ (l k : ℕ). runs_on l k now) all here
walked zero n now (after ∷ rest) goes le = absurd (omega arith)
walked (suc left) n now (after ∷ rest) goes le =
    let fewer : left - length rest ≡ suc left - length (after ∷ rest) = omega arith in
    let later : n + 1 + length rest ≡ n + length (after ∷ rest) = omega arith in
    runs_more (suc left) left n now after refl goes.0 goes.1.0
    ∙ walked left (n + 1) after rest goes.1.1 (omega arith)
    ∙ ap₂ (λ (l k : ℕ). runs_on l k (last_configuration after rest)) fewer later

module _ (words : List ℕ) (main limit steps : ℕ) (last : Configuration) (run : HasRun words main steps last) (few : steps ≤ limit) where
  so_far : runs_on limit 0 run.start ≡ runs_on (limit - steps) steps last
  so_far =
      let count = run.count in
      let left : limit - length run.rest ≡ limit - steps = omega arith in
      let number : 0 + length run.rest ≡ steps = omega arith in
      walked limit 0 run.start run.rest run.advances (omega arith)
      ∙ ap₂ (λ (l k : ℕ). runs_on l k (last_configuration run.start run.rest)) left number
      ∙ ap (λ (c : Configuration). runs_on (limit - steps) steps c) run.ends

  -- what is left of the run is refused
  stops_there : (cause : RunCause) → runs_on (limit - steps) steps last ≡ Err cause → run_of words main limit ≡ Err cause
  stops_there cause e = run_stops words main limit run.start run.starts cause (so_far ∙ e)

  -- what is left of the run ends at once, and its memory can't be completed
  fails_there : (cause : RunCause) → runs_on (limit - steps) steps last ≡ Ok (ended steps last.memory) → completed steps last.memory ≡ Err cause → run_of words main limit ≡ Err cause
  fails_there cause home e = run_fails words main limit run.start run.starts (ended steps last.memory) cause (so_far ∙ home) e

  -- what is left of the run ends at once, and its memory is completed
  ends_there : (memory : GrowingMemory) → runs_on (limit - steps) steps last ≡ Ok (ended steps last.memory) → completed steps last.memory ≡ Ok memory → run_of words main limit ≡ Ok (ended steps memory)
  ends_there memory home e = run_ends words main limit run.start run.starts (ended steps last.memory) memory (so_far ∙ home) e

-- ---- what each answer says of the code's run

module _ (words : List ℕ) (main limit : ℕ) where
  run_to : (pie : PieRecord) (r : RunsToPie words main limit pie) → run_of words main limit ≡ Ok (ended pie.steps r.memory)
  run_to pie r = ends_there words main limit pie.steps r.last r.runs r.in_limit r.memory (runs_home (limit - pie.steps) pie.steps r.last r.home) r.completes

  by_cause : {R : Type 0} (cause : RunCause) → IsRunRefusal words main limit cause → (run_of words main limit ≡ Err cause → R) → (RefusesPie words main limit cause → R) → R
  by_cause cause (at_start e) run pie = run (no_start words main limit cause e)
  by_cause cause (at_step s) run pie =
      let few = s.in_limit in
      let one_more : limit - s.steps ≡ suc (limit - s.steps - 1) = omega arith in
      run (stops_there words main limit s.steps s.last s.runs (omega arith) cause
      (runs_refused (limit - s.steps) (limit - s.steps - 1) s.steps s.last cause one_more s.away s.refuses))
  by_cause cause (at_limit s) run pie =
      let none : limit - limit ≡ 0 = omega arith in
      run (stops_there words main limit limit s.last s.runs (omega arith) cause (runs_over (limit - limit) limit s.last none s.away ∙ ap Err (sym s.is_cause)))
  by_cause cause (at_home s) run pie =
      run (fails_there words main limit s.steps s.last s.runs s.in_limit cause (runs_home (limit - s.steps) s.steps s.last s.home) s.refuses)
  by_cause cause (at_replay s) run pie = pie s

  -- a program runs to one PIE
  same_pie : (p q : PieRecord) → RunsToPie words main limit p → RunsToPie words main limit q → p ≡ q
  same_pie p q a b =
      let same = ok_is (ended p.steps a.memory) (ended q.steps b.memory) (sym (run_to p a) ∙ run_to q b) in
      let steps : p.steps ≡ q.steps = ap (λ (e : RunEnd). e.steps) same in
      let memory : a.memory ≡ b.memory = ap (λ (e : RunEnd). e.memory) same in
      let main_is : p.main ≡ q.main = a.has_main ∙ sym b.has_main in
      let sizes : p.sizes ≡ q.sizes = a.has_sizes ∙ ap (λ (m : GrowingMemory). m.sizes) memory ∙ sym b.has_sizes in
      let content : memory_of p.cells ≡ memory_of q.cells = a.has_cells ∙ ap (λ (m : GrowingMemory). m.cells) memory ∙ sym b.has_cells in
      let cells : p.cells ≡ q.cells = one_list p.cells q.cells a.rules.rise b.rules.rise content in
      λ i. record { main = main_is i; steps = steps i; sizes = sizes i; cells = cells i }

  module _ (no_cause : (pie : PieRecord) → AcceptedAlone pie → (cause : ReplayCause) → IsReplayCause pie cause → ⊥)
      (one_cause : (pie : PieRecord) (c d : ReplayCause) → IsFirstReplayCause pie c → IsFirstReplayCause pie d → c ≡ d) where
    not_both : {R : Type 0} (pie : PieRecord) (cause : RunCause) → IsRunAnswer words main limit (Ok pie) → IsRunRefusal words main limit cause → R
    not_both pie cause gives refuses = by_cause cause refuses
        (λ stops. ok_no_err (ended pie.steps gives.runs_to.memory) cause (sym (run_to pie gives.runs_to) ∙ stops))
        (λ given.
        let same = same_pie given.pie pie given.runs_to gives.runs_to in
        absurd (no_cause pie gives.accepted given.first (subst (λ (p : PieRecord). IsReplayCause p given.first) same given.is_first.applies)))

    one_refusal : (c d : RunCause) → IsRunRefusal words main limit c → IsRunRefusal words main limit d → c ≡ d
    one_refusal c d left right = by_cause c left
        (λ stops. by_cause d right
        (λ halts. err_is c d (sym stops ∙ halts))
        (λ given. ok_no_err (ended given.pie.steps given.runs_to.memory) c (sym (run_to given.pie given.runs_to) ∙ stops)))
        (λ given. by_cause d right
        (λ halts. ok_no_err (ended given.pie.steps given.runs_to.memory) d (sym (run_to given.pie given.runs_to) ∙ halts))
        (λ other.
        let same = same_pie other.pie given.pie other.runs_to given.runs_to in
        let firsts = one_cause given.pie given.first other.first given.is_first (subst (λ (p : PieRecord). IsFirstReplayCause p other.first) same other.is_first) in
        given.is_cause ∙ ap not_accepted firsts ∙ sym other.is_cause))

    pub one_answer : (a b : Result PieRecord RunCause) → IsRunAnswer words main limit a → IsRunAnswer words main limit b → a ≡ b
    one_answer (Ok p) (Ok q) left right = ap Ok (same_pie p q left.runs_to right.runs_to)
    one_answer (Ok p) (Err d) left right = not_both p d left right
    one_answer (Err c) (Ok q) left right = not_both q c right left
    one_answer (Err c) (Err d) left right = ap Err (one_refusal c d left right)
