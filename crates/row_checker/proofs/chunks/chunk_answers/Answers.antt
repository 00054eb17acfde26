use Rattle.std.proofs.Common.{List, ap, ◌∙◌, subst}
use Rattle.std.specs.List.{AllZip}
use Rattle.cairo_model.specs.Machine.FieldMemories.{FieldCell}
use Rattle.cairo_model.specs.declared.state.FieldState.{FieldState}
use Rattle.rayon.proofs.ListFacts.{IfOk-then}
use Rattle.rayon.proofs.ToStd.{slice-AllZip}
use Rattle.row_checker.specs.Working.Chunks.{AnswersChunk}
use Rattle.row_checker.proofs.chunks.chunk_answers.Goals as goal

pub returns : goal.returns
returns g c =
    let slice = ap (λ it. it.base.slice.now) c.map.ensures.base ∙ (ap (λ it. it.slice.now) c.with_min_len.ensures.base ∙ c.par_iter.ensures) in
    let same_states = ap (λ f. f.0.now) c.map.ensures.f in
    let same_cells = ap (λ f. f.1.now) c.map.ensures.f in
    IfOk-then c.collect.result _ _ c.collect.ensures (λ v h.
    let chain = h.1 in
    rw h.2 (subst (λ (states : List FieldState). AllZip (AnswersChunk c.args.memory.now states) c.args.chunks.now h.0) same_states
    (subst (λ (cells : List FieldCell). AllZip (AnswersChunk cells c.map.result.f.0.now) c.args.chunks.now h.0) same_cells
    (slice-AllZip chain.0 c.args.chunks.now (chain.1 ∙ slice) (AnswersChunk c.map.result.f.1.now c.map.result.f.0.now) h.0 chain.2))))
