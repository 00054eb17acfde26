use Rattle.std.proofs.Common.{◌≡◌, ℕ, List, ap, map, subst, sym, ◌+◌, ◌∙◌, arith}
use Rattle.std.proofs.lemmas.List.{map-append}
use Rattle.cairo_model.specs.Machine.FieldMemories.{cell_at}
use Rattle.cairo_model.specs.Machine.Steps.{Registers}
use Rattle.cairo_model.specs.Views.Machine.{field_registers}
use Rattle.batch_runner.specs.Working.Stepping.{HasWalked, IsRunOver}
use Rattle.batch_runner.proofs.Walking.{stopped, walked_all, walked_on}
use Rattle.batch_runner.proofs.rows.states_over.Goals as goal

pub returns-in-Err : goal.returns-in-Err
returns-in-Err c =
    stopped (cell_at c.args.cells.now) (field_registers c.args.start) c.loop-row.row (map field_registers c.loop-row.states.items) (field_registers c.loop-row.state) c.loop-row.invariant
    c.args.steps c.in-Err._fault c.loop-row-test.true c.in-Err.ensures.answer

pub loop-row-preserved : goal.loop-row-preserved
loop-row-preserved c =
    let m = cell_at c.args.cells.now in
    let s = field_registers c.args.start in
    let states = c.loop-row.states.items in
    let same = ap (map field_registers) c.in_ok-push-in-Ok.ensures.items ∙ map-append field_registers states _ in
    subst (λ (xs : List (Registers ℕ)). HasWalked m (c.loop-row.row + 1) s xs (field_registers c.in-Ok.next)) (sym same)
    (walked_on m s c.loop-row.row (map field_registers states) (field_registers c.loop-row.state) c.loop-row.invariant (field_registers c.in-Ok.next) c.in-Ok.ensures.answer)

pub returns : goal.returns
returns c =
    let m = cell_at c.args.cells.now in
    let s = field_registers c.args.start in
    let states = map field_registers c.loop-row.states.items in
    let all : c.loop-row.row ≡ c.args.steps = omega (arith, c.loop-row-test.false, c.loop-row.auto.row-end) in
    subst (λ (n : ℕ). IsRunOver m n s states) all (walked_all m s c.loop-row.row states (field_registers c.loop-row.state) c.loop-row.invariant)
