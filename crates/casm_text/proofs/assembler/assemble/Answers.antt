use Rattle.cairo_model.specs.declared.end.End.TheVariants.{Refused}
use Rattle.casm_text.proofs.Bounds.{words_felts}
use Rattle.casm_text.proofs.Settings.{offset_is}
use Rattle.casm_text.proofs.assembler.assemble.Goals as goal
use Rattle.casm_text.specs.Lines.{main_of}
use Rattle.casm_text.specs.Refusals.{Assembles}
use Rattle.casm_text.specs.Tokens.{lines_of}
use Rattle.casm_text.specs.Working.Assembling.{kept_setting, known_lines}
use Rattle.std.proofs.Common.{◌≡◌, ℕ, List, Err, ap, sym, subst, ◌∙◌}
use Rattle.std.specs.Prelude.{codes}
use Rattle.std.proofs.lemmas.Bool.{false≢true}
use Rattle.std.proofs.lemmas.Result.{err_from_is_err_and}

pub returns-in_err-labels-clause-refused : goal.returns-in_err-labels-clause-refused
returns-in_err-labels-clause-refused c =
    λ r same.
    let p = err_from_is_err_and c.from_residual.result c.from_residual.ensures.1 in
    let err : Err p.0 ≡ Err (Refused r) = sym p.1 ∙ same in
    let is : c.in_err-labels.field-0.0 ≡ Refused r = cc in
    c.in_err-labels.ensures.refused r (ap Err is)

pub returns-in_err-check_labels-clause-refused : goal.returns-in_err-check_labels-clause-refused
returns-in_err-check_labels-clause-refused c =
    λ r same.
    let p = err_from_is_err_and c.from_residual-in_err-check_labels.result c.from_residual-in_err-check_labels.ensures.1 in
    let err : Err p.0 ≡ Err (Refused r) = sym p.1 ∙ same in
    let is : c.in_err-check_labels.field-0.0 ≡ Refused r = cc in
    c.in_err-check_labels.ensures.refused r (ap Err is)

pub returns-in_err-words-clause-refused : goal.returns-in_err-words-clause-refused
returns-in_err-words-clause-refused c =
    λ r same.
    let p = err_from_is_err_and c.from_residual-in_err-words.result c.from_residual-in_err-words.ensures.1 in
    let err : Err p.0 ≡ Err (Refused r) = sym p.1 ∙ same in
    let is : c.in_err-words.field-0.0 ≡ Refused r = cc in
    c.in_err-words.ensures.refused r (ap Err is)

pub unreachable-requires : goal.unreachable-requires
unreachable-requires c = false≢true (c.in-None.ensures.found.1 (words_felts c.args.text.now c.in_ok-words.words.items (main_of (known_lines (lines_of c.args.text.now))) c.in_ok-words.ensures.words))

pub returns-clause-code : goal.returns-clause-code
returns-clause-code c =
    let main : c.offset_of.result.number ≡ main_of (known_lines (lines_of c.args.text.now)) =
    c.offset_of.ensures ∙ offset_is (known_lines (lines_of c.args.text.now)) (codes "main") (kept_setting c.in_ok-labels.labels (codes "main")) (c.in_ok-labels.ensures.surveyed.settings (codes "main")) in
    subst (λ (words : List ℕ). Assembles c.args.text.now words c.in-Some.code.main) (sym c.in-Some.ensures.words)
    (subst (λ (n : ℕ). Assembles c.args.text.now c.in_ok-words.words.items n) (sym (c.in-Some.ensures.main ∙ (c.value-main.ensures ∙ main))) c.in_ok-words.ensures.words)
