use Rattle.std.proofs.Common.{◌≡◌, Bool, true, IsTrue, sym, ◌∙◌, rules}
use Rattle.cairo_model.specs.Machine.FieldMemories.{cell_at}
use Rattle.cairo_model.specs.Certificate.Records.{AreRegisters}
use Rattle.cairo_model.specs.Views.Machine.{field_registers}
use Rattle.cairo_model.specs.declared.state.FieldState.{FieldState}
use Rattle.cairo_step.proofs.Cased.{Cased, row_gives, row_so}
use Rattle.cairo_step.proofs.Equated.{equations_row, row_equations}
use Rattle.cairo_step.proofs.Steps.{row_steps, steps_row}
use Rattle.cairo_step.proofs.row.row_holds.Goals as goal

-- the numbers of a state are field numbers
felts_of : (s : FieldState) → AreRegisters (field_registers s)
felts_of s = record { pc = s.pc.below; ap = s.ap.below; fp = s.fp.below }

true_is : (b : Bool) → IsTrue b → b ≡ true
true_is b is = search rules

is_true : (b : Bool) → b ≡ true → IsTrue b
is_true b is = search rules

pub returns : goal.returns
returns c =
    let m = cell_at c.args.memory.now in
    let s = field_registers c.args.s in
    let t = field_registers c.args.t in
    let fs = felts_of c.args.s in
    let ft = felts_of c.args.t in
    let gives = λ (is : IsTrue c.tests_row.result). row_gives m s t (sym c.tests_row.ensures ∙ true_is _ is) in
    let goes = λ (row : Cased m s t). is_true _ (c.tests_row.ensures ∙ row_so m s t row) in
    record {
      equations = (
        λ is. row_equations m s t c.cells_are_felts.ensures.memory fs ft (gives is),
        λ e. goes (equations_row m s t c.cells_are_felts.ensures.memory fs ft e),
      );
      step = (λ is. row_steps m s t (gives is), λ step. goes (steps_row m s t step));
    }
