use Rattle.std.proofs.Common.{◌<◌, refl, sym, ap, map, subst, arith, ◌∙◌}
use Rattle.cairo_model.specs.Certificate.Records.{CertRecord, HasSpelling, batch as batch_kind}
use Rattle.cairo_model.specs.Machine.FieldMemories.{field_cell}
use Rattle.cairo_model.specs.Views.Certificate.{span_of}
use Rattle.cairo_model.specs.Views.Machine.{field_registers}
use Rattle.batch_plan.specs.Plans.{PlanRecord}
use Rattle.batch_runner.specs.Certificates.{IsCertOf}
use Rattle.batch_runner.specs.Working.Places.{first_in, place_of}
use Rattle.batch_runner.proofs.ListsOfTasks.{begins, few_placed, is_cert, of_cert, placed_are, rising, rooms_there}
use Rattle.batch_runner.proofs.boot_maker.certificate.Goals as goal
use Rattle.batch_runner.proofs.boot_maker.certificate.Goals.{In_ok-marks}

-- the output begins with the number of tasks
pub first_place-first-requires-clause-counted : goal.first_place-first-requires-clause-counted
first_place-first-requires-clause-counted c = subst (λ (l : PlanRecord). l.output.start < l.output.stop) (sym c.requires.planned) (omega arith)

pub placed_tasks-requires-clause-rooms : goal.placed_tasks-requires-clause-rooms
placed_tasks-requires-clause-rooms c = rooms_there c.args.tasks.now c.requires.accepted c.requires.batch (place_of c.first_place-first.result) (c.first_place-first.ensures ∙ ap first_in c.requires.planned)

pub batch_cells-requires-clause-few : goal.batch_cells-requires-clause-few
batch_cells-requires-clause-few c = few_placed c.args.tasks.now c.requires.accepted c.requires.batch (place_of c.first_place-first.result) (c.first_place-first.ensures ∙ ap first_in c.requires.planned) c.in_ok-placed.placed.items c.as_slice-placed.result.now c.in_ok-placed.ensures c.as_slice-placed.ensures.value

pub steps_of_all-requires : goal.steps_of_all-requires
steps_of_all-requires c = few_placed c.args.tasks.now c.requires.accepted c.requires.batch (place_of c.first_place-first.result) (c.first_place-first.ensures ∙ ap first_in c.requires.planned) c.in_ok-placed.placed.items c.as_slice-placed.result.now c.in_ok-placed.ensures c.as_slice-placed.ensures.value

pub task_marks-requires : goal.task_marks-requires
task_marks-requires c = few_placed c.args.tasks.now c.requires.accepted c.requires.batch (place_of c.first_place-first.result) (c.first_place-first.ensures ∙ ap first_in c.requires.planned) c.in_ok-placed.placed.items c.as_slice-placed.result.now c.in_ok-placed.ensures c.as_slice-placed.ensures.value

pub of-cells-requires : goal.of-cells-requires
of-cells-requires c = rising c.args.tasks.now c.requires.accepted c.requires.batch (place_of c.first_place-first.result) (c.first_place-first.ensures ∙ ap first_in c.requires.planned) c.in_ok-placed.placed.items c.as_slice-placed.result.now c.in_ok-placed.ensures c.as_slice-placed.ensures.value c.batch_cells_rise.ensures (map field_cell c.in_ok-memory.memory.items) c.in_ok-memory.ensures

cert : In_ok-marks → CertRecord
cert c = record {
  kind = batch_kind;
  output = span_of c.layout.inside.output;
  range = span_of c.layout.inside.range;
  hash = span_of c.layout.inside.hash;
  tasks = c.in_ok-marks.marks.items;
  cells = c.of-cells.result;
  states = map field_registers c.in_ok-states.states.items;
}

made : (c : In_ok-marks) → IsCertOf c.args.tasks.now (cert c)
unfolding cert
made c =
    is_cert c.cells_run.ensures c.plans_are_followed.ensures c.args.layout.now (place_of c.first_place-first.result) c.as_slice-placed.result.now c.steps_of_all.result (field_registers c.entry.result) (cert c)
    c.args.tasks.now c.requires.accepted c.requires.batch
    (record {
      is_plan = c.requires.planned;
      is_first = begins c.args.tasks.now c.requires.accepted c.requires.batch (place_of c.first_place-first.result) (c.first_place-first.ensures ∙ ap first_in c.requires.planned);
      are_placed = placed_are c.args.tasks.now c.requires.accepted c.requires.batch (place_of c.first_place-first.result) (c.first_place-first.ensures ∙ ap first_in c.requires.planned) c.in_ok-placed.placed.items c.as_slice-placed.result.now c.in_ok-placed.ensures c.as_slice-placed.ensures.value;
      counted = c.steps_of_all.ensures.value;
      enters = c.entry.ensures;
    })
    (record {
      is_batch = refl;
      output = ap (λ (l : PlanRecord). l.output) c.layout.view_is;
      range = ap (λ (l : PlanRecord). l.range) c.layout.view_is;
      hash = ap (λ (l : PlanRecord). l.hash) c.layout.view_is;
      marks = c.in_ok-marks.ensures;
      cells = c.of-cells.ensures ∙ c.in_ok-memory.ensures;
      states = c.in_ok-states.ensures;
    })

pub invariant_of-result : goal.invariant_of-result
unfolding cert
invariant_of-result c = of_cert (λ ts d. HasSpelling d) c.batch_is_spelled.ensures c.args.tasks.now _ c.requires.accepted c.requires.batch (made (goal.at.invariant_of-result c).In_ok-marks)

pub returns : goal.returns
unfolding cert
returns c = made (goal.at.returns c).In_ok-marks
