use denote.Ref.{Bor}
use Rattle.std.proofs.Common.{List, ℕ, Result, ap, ◌∙◌, subst}
use Rattle.std.specs.List.{AllZip}
use Rattle.cairo_model.specs.Working.Answers.{Gives}
use Rattle.cairo_model.specs.declared.end.End.{End}
use Rattle.desk_script.specs.Lines.{line_fields}
use Rattle.desk_script.specs.Views.{line_view}
use Rattle.desk_script.specs.Working.Reading.{read_line}
use Rattle.desk_script.specs.declared.kinds.ScriptKind.{ScriptKind}
use Rattle.desk_script.specs.declared.line.Line.{Line}
use Rattle.rayon.proofs.ListFacts.{IfOk-then}
use Rattle.rayon.proofs.ToStd.{slice-AllZip}
use Rattle.desk_script.proofs.ahead.answers.Goals as goal

pub returns : goal.returns
returns g c =
    let slice = ap (λ it. it.base.slice.now) c.map.ensures.base ∙ (ap (λ it. it.slice.now) c.with_min_len.ensures.base ∙ c.par_iter.ensures) in
    let same_clients = ap (λ f. f.1.now) c.map.ensures.f in
    IfOk-then c.collect.result _ _ c.collect.ensures (λ v h.
    let chain = h.1 in
    rw h.2 (subst (λ (clients : ℕ). AllZip (λ (text : Bor (List ℕ)) (answer : Result Line (End ScriptKind)). Gives line_view answer (read_line clients (line_fields text.now))) c.args.texts.now h.0) same_clients
    (slice-AllZip chain.0 c.args.texts.now (chain.1 ∙ slice) (λ text answer. Gives line_view answer (read_line c.map.result.f.1.now (line_fields text.now))) h.0 chain.2)))
