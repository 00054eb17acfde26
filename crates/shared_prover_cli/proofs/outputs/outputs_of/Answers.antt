use Rattle.std.proofs.Common.{◌≡◌, ◌-◌, ◌+◌, ◌<◌, ◌≤◌, ℕ, true, is_some, sym, ap, subst, ◌∙◌, arith}
use Rattle.cairo_model.specs.Certificate.Records.{CertRecord}
use Rattle.cairo_model.specs.Machine.FieldMemories.{cell_at}
use Rattle.shared_prover_cli.proofs.CheckLemmas.{is_there, mapped_there}
use Rattle.shared_prover_cli.proofs.outputs.outputs_of.Goals as goal

-- each address of the span has a cell
pub unwrap-requires : goal.unwrap-requires
unwrap-requires c =
    let span = c.args.cert.now.output in
    let from : c.value-address.result ≡ span.start = c.value-address.ensures ∙ ap (λ (r : CertRecord). r.output.start) c.cert.view_is in
    let to : c.value-address-end.result ≡ span.stop = c.value-address-end.ensures ∙ ap (λ (r : CertRecord). r.output.stop) c.cert.view_is in
    let above : span.start ≤ c.loop-address.address = omega (arith, from, c.loop-address.auto.address) in
    let inside : c.loop-address.address - span.start < span.stop - span.start = omega (arith, from, to, above, c.loop-address-test.true) in
    let here : span.start + (c.loop-address.address - span.start) ≡ c.felt_below.result.number = omega (arith, above, c.felt_below.ensures) in
    let good : is_some (cell_at c.args.cert.now.cells c.felt_below.result.number) ≡ true =
    ap (λ (a : ℕ). is_some (cell_at c.args.cert.now.cells a)) (sym here) ∙ is_there _ _ (c.requires.has_outputs.each (c.loop-address.address - span.start) inside) in
    let found : is_some (cell_at c.cert.inside.cells c.felt_below.result.number) ≡ true =
    subst (λ (r : CertRecord). is_some (cell_at r.cells c.felt_below.result.number) ≡ true) (sym c.cert.view_is) good in
    mapped_there (λ f. f.number) c.get.result (ap is_some c.get.ensures ∙ found)
