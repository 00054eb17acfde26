use Rattle.boot_program.proofs.SpanInstances.{instances_in}
use Rattle.boot_program.proofs.laws.span_has_instances.Goals as goal

pub returns : goal.returns
returns c = instances_in
