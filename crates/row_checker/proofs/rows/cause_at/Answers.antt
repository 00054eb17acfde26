use Rattle.std.proofs.Common.{◌+◌, arith}
use Rattle.cairo_model.specs.Views.Machine.{field_registers}
use Rattle.row_checker.proofs.Walking.{leads_so, viewed}
use Rattle.row_checker.proofs.rows.cause_at.Goals as goal

pub row_cause-requires : goal.row_cause-requires
row_cause-requires c = λ step.
    c.requires.bad (leads_so c.args.memory.now c.args.states.now c.args.row c.index-states-row.result c.index-states-row-2.result c.requires.inside c.index-states-row.is c.index-states-row-2.is step)

pub returns : goal.returns
returns c = record {
  state = field_registers c.index-states-row.result;
  after = field_registers c.index-states-row-2.result;
  is_state = viewed c.args.states.now c.args.row c.index-states-row.result (omega (arith, c.requires.inside)) c.index-states-row.is;
  is_after = viewed c.args.states.now (c.args.row + 1) c.index-states-row-2.result c.requires.inside c.index-states-row-2.is;
  stops = c.row_cause.ensures;
}
