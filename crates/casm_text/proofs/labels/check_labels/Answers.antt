use Rattle.casm_text.proofs.Causes.{label_first}
use Rattle.casm_text.proofs.CheckingLabels.{Checked, bad_filled, checked_all, checked_on, checked_until}
use Rattle.casm_text.proofs.Surveying.{index_fits, number_fits}
use Rattle.casm_text.proofs.labels.check_labels.Goals as goal
use Rattle.casm_text.specs.Lines.{Line}
use Rattle.casm_text.specs.Refusals.{IsFirstAsmCause}
use Rattle.casm_text.specs.Tokens.{lines_of}
use Rattle.casm_text.specs.Working.Assembling.{kept_setting, known_lines, labels_good, lines_left}
use Rattle.casm_text.specs.declared.refusal.AsmRefusal.TheVariants.{Label}
use denote.Ref.{Bor}
use Rattle.std.proofs.Common.{◌≡◌, ℕ, List, Option, ap, sym, subst, ◌∙◌, arith}

pub line_number-requires : goal.line_number-requires
line_number-requires c =
    number_fits c.args.text.now (lines_left c.loop-left.left) (lines_left c.first_line.result.1) c.first_line.result.0.now c.loop-left.index c.requires.short c.loop-left.invariant.walk
    (ap lines_left c.in-Some.is ∙ c.first_line.ensures)
    (bad_filled (kept_setting c.args.labels.now) c.loop-left.index c.first_line.result.0.now
    (sym c.if-not-has_good_labels.true ∙ (c.has_good_labels.ensures ∙ ap (λ (l : Line). labels_good (kept_setting c.args.labels.now) c.loop-left.index l) c.in_ok-line.ensures.line)))

pub returns-then-not-has_good_labels-clause-refused : goal.returns-then-not-has_good_labels-clause-refused
returns-then-not-has_good_labels-clause-refused c =
    λ r same.
    let is : Label c.line_number.result ≡ r = cc in
    subst (IsFirstAsmCause c.args.text.now) is
    (label_first c.args.text.now (known_lines (lines_of c.args.text.now)) c.loop-left.index c.line_number.result c.requires.surveyed.lines
    (checked_until c.args.text.now c.args.labels.now c.requires.surveyed (lines_left c.loop-left.left) (lines_left c.first_line.result.1) c.first_line.result.0.now c.loop-left.index c.line_number.result c.loop-left.invariant
    (ap lines_left c.in-Some.is ∙ c.first_line.ensures)
    (sym c.if-not-has_good_labels.true ∙ (c.has_good_labels.ensures ∙ ap (λ (l : Line). labels_good (kept_setting c.args.labels.now) c.loop-left.index l) c.in_ok-line.ensures.line))
    c.line_number.ensures))

pub overflow_add-index : goal.overflow_add-index
overflow_add-index c =
    omega (
      arith,
      index_fits c.args.text.now (lines_left c.loop-left.left) (lines_left c.first_line.result.1) c.first_line.result.0.now c.loop-left.index c.requires.short c.loop-left.invariant.walk (ap lines_left c.in-Some.is ∙ c.first_line.ensures),
    )

pub loop-left-preserved : goal.loop-left-preserved
loop-left-preserved c =
    checked_on c.args.text.now c.args.labels.now c.requires.surveyed (lines_left c.loop-left.left) (lines_left c.first_line.result.1) c.first_line.result.0.now c.loop-left.index c.loop-left.invariant
    (ap lines_left c.in-Some.is ∙ c.first_line.ensures)
    (sym c.if-not-has_good_labels.false ∙ (c.has_good_labels.ensures ∙ ap (λ (l : Line). labels_good (kept_setting c.args.labels.now) c.loop-left.index l) c.in_ok-line.ensures.line))

pub returns-clause-kept : goal.returns-clause-kept
returns-clause-kept c =
    checked_all c.args.text.now c.loop-left.index (subst (λ (left : Option (Bor (List ℕ))). Checked c.args.text.now (lines_left left) c.loop-left.index) c.in_default.is c.loop-left.invariant)
