use Rattle.std.proofs.Common.{map}
use Rattle.cairo_model.specs.Certificate.Acceptance.{SpanHolds}
use Rattle.shared_prover_cli.proofs.outputs.outputs_of.Given as goal

abbrev pub invariant-loop-address : goal.invariant-loop-address
invariant-loop-address l = SpanHolds l.cert.cells (record { start = l.cert.output.start; stop = l.address }) (map (λ f. f.number) l.outputs.items)
