use Rattle.std.proofs.Common.{◌≡◌, ℕ, ◌+◌, map, slice_get, inl, inr, sym, ap, subst, ◌∙◌, rules, arith}
use Rattle.std.proofs.lemmas.Bool.{cases_lt}
use Rattle.std.proofs.lemmas.Option.{slice_get_within}
use Rattle.cairo_model.specs.Machine.Runs.{IsState}
use Rattle.cairo_model.specs.Pie.Layouts.{relocated_state}
use Rattle.cairo_model.specs.Views.Machine.{field_registers, registers}
use Rattle.cairo_model.specs.declared.state.State.{State}
use Rattle.row_checker.proofs.Standing.{item_at, item_is, stretch_has, stretch_is}
use Rattle.row_checker.proofs.tasks.is_stretch.Goals as goal

pub loop-index-preserved : goal.loop-index-preserved
loop-index-preserved c = λ k x lt at.
    elim (cases_lt k c.loop-index.index) [
      | inl earlier ↦ c.loop-index.invariant k x earlier at
      | inr past ↦
          let same : k ≡ c.loop-index.index = omega (arith, lt, past) in
          let item = item_is c.args.run.now c.loop-index.index x c.index-run-index.result c.loop-index-test.true c.index-run-index.is (ap (slice_get c.args.run.now) (sym same) ∙ at) in
          subst (λ (j : ℕ). IsState (map field_registers c.args.states.now) (c.args.row + j) (relocated_state (map (λ f. f.number) c.args.bases.now) (registers x))) (sym same)
          (subst (λ (s : State). IsState (map field_registers c.args.states.now) (c.args.row + c.loop-index.index) (relocated_state (map (λ f. f.number) c.args.bases.now) (registers s))) item
          (c.is_state.ensures.0 c.if-not-is_state.false))
    ]

pub returns-then-not-is_state : goal.returns-then-not-is_state
returns-then-not-is_state c = (
  λ never. absurd (cc),
  λ stretch.
      let bases = map (λ f. f.number) c.args.bases.now in
      let at = item_at c.args.run.now c.loop-index.index c.index-run-index.result c.loop-index-test.true c.index-run-index.is in
      let stands = stretch_has (relocated_state bases) registers (map field_registers c.args.states.now) c.args.run.now c.args.row stretch c.loop-index.index c.index-run-index.result at in
      absurd (let is = c.is_state.ensures.1 stands in search rules),
)

pub returns : goal.returns
returns c = (
  λ all.
      let bases = map (λ f. f.number) c.args.bases.now in
      stretch_is (relocated_state bases) registers (map field_registers c.args.states.now) c.args.run.now c.args.row
      (λ k x at. let inside = slice_get_within c.args.run.now k x at in c.loop-index.invariant k x (search rules) at),
  λ stretch. search rules,
)
