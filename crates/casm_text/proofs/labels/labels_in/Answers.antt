use Rattle.casm_text.proofs.Causes.{syntax_first}
use Rattle.casm_text.proofs.Surveying.{Surveyed, index_fits, number_fits, surveyed_all, surveyed_on, surveyed_until, unread_filled}
use Rattle.casm_text.proofs.labels.labels_in.Goals as goal
use Rattle.casm_text.specs.Refusals.{IsFirstAsmCause}
use Rattle.casm_text.specs.Working.Assembling.{kept_setting, lines_left, setting_with}
use Rattle.casm_text.specs.Working.Views.{line_view}
use Rattle.casm_text.specs.declared.refusal.AsmRefusal.TheVariants.{Syntax}
use denote.Ref.{Bor}
use Rattle.std.proofs.Common.{◌≡◌, ℕ, ◌+◌, List, Option, ap, sym, subst, ◌∙◌, arith}
use Rattle.std.specs.Prelude.{option_map}

pub line_number-requires : goal.line_number-requires
line_number-requires c =
    number_fits c.args.text.now (lines_left c.loop-left.left) (lines_left c.first_line.result.1) c.first_line.result.0.now c.loop-left.index c.requires c.loop-left.invariant.walk
    (ap lines_left c.in-Some.is ∙ c.first_line.ensures) (unread_filled c.first_line.result.0.now (sym c.in_ok-line.ensures ∙ ap (option_map line_view) c.in_default-2.is))

pub returns-in_default-2-clause-refused : goal.returns-in_default-2-clause-refused
returns-in_default-2-clause-refused c =
    λ r same.
    let is : Syntax c.line_number.result ≡ r = cc in
    subst (IsFirstAsmCause c.args.text.now) is
    (syntax_first c.args.text.now c.loop-left.index c.line_number.result
    (surveyed_until c.args.text.now c.loop-left.labels (lines_left c.loop-left.left) (lines_left c.first_line.result.1) c.first_line.result.0.now c.loop-left.index c.loop-left.at c.line_number.result c.loop-left.invariant
    (ap lines_left c.in-Some.is ∙ c.first_line.ensures) (sym c.in_ok-line.ensures ∙ ap (option_map line_view) c.in_default-2.is) c.line_number.ensures))

pub felt_below-requires : goal.felt_below-requires
felt_below-requires c =
    omega (
      arith,
      c.loop-left.invariant.small,
      index_fits c.args.text.now (lines_left c.loop-left.left) (lines_left c.first_line.result.1) c.first_line.result.0.now c.loop-left.index c.requires c.loop-left.invariant.walk (ap lines_left c.in-Some.is ∙ c.first_line.ensures),
    )

pub overflow_add-index : goal.overflow_add-index
overflow_add-index c =
    omega (
      arith,
      index_fits c.args.text.now (lines_left c.loop-left.left) (lines_left c.first_line.result.1) c.first_line.result.0.now c.loop-left.index c.requires c.loop-left.invariant.walk (ap lines_left c.in-Some.is ∙ c.first_line.ensures),
    )

pub loop-left-preserved : goal.loop-left-preserved
loop-left-preserved c =
    surveyed_on c.args.text.now c.loop-left.labels c.keep_label.new.labels (lines_left c.loop-left.left) (lines_left c.first_line.result.1) c.first_line.result.0.now (line_view c.in-Some-2.line) c.loop-left.index c.loop-left.at (c.loop-left.at + c.line_words-at.result)
    c.loop-left.invariant (ap lines_left c.in-Some.is ∙ c.first_line.ensures) (sym c.in_ok-line.ensures ∙ ap (option_map line_view) c.in-Some-2.is)
    (λ name. c.in_ok-keep_label.ensures name ∙ ap (λ (n : ℕ). setting_with (kept_setting c.loop-left.labels name) c.loop-left.index n (line_view c.in-Some-2.line) name) c.felt_below.ensures)
    (ap (λ (n : ℕ). c.loop-left.at + n) c.line_words-at.ensures.size) (omega (arith, c.line_words-at.ensures.size, c.line_words-at.ensures.few))

pub returns-clause-surveyed : goal.returns-clause-surveyed
returns-clause-surveyed c =
    surveyed_all c.args.text.now c.loop-left.labels c.loop-left.index c.loop-left.at
    (subst (λ (left : Option (Bor (List ℕ))). Surveyed c.args.text.now c.loop-left.labels (lines_left left) c.loop-left.index c.loop-left.at) c.in_default.is c.loop-left.invariant)
