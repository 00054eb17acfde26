use Rattle.casm_text.proofs.Causes.{range_first}
use Rattle.casm_text.proofs.Settings.{offset_is}
use Rattle.casm_text.proofs.Surveying.{index_fits, number_fits}
use Rattle.casm_text.proofs.WritingWords.{Written, out_filled, written_all, written_on, written_until}
use Rattle.casm_text.proofs.assembler.words_in.Goals as goal
use Rattle.casm_text.specs.Lines.{Line, label_offset}
use Rattle.casm_text.specs.Refusals.{IsFirstAsmCause}
use Rattle.casm_text.specs.Tokens.{lines_of}
use Rattle.casm_text.specs.Working.Assembling.{LineAdds, kept_setting, known_line, known_lines, lines_left, offset_in, range_good}
use Rattle.casm_text.specs.Working.Views.{line_view}
use Rattle.casm_text.specs.declared.refusal.AsmRefusal.TheVariants.{Range}
use denote.Ref.{Bor}
use Rattle.std.proofs.Common.{◌≡◌, ℕ, List, length, Option, Ok, ap, sym, subst, ◌∙◌, arith}

pub line_number-requires : goal.line_number-requires
line_number-requires c =
    number_fits c.args.text.now (lines_left c.loop-left.left) (lines_left c.first_line.result.1) c.first_line.result.0.now c.loop-left.index c.requires.short c.loop-left.invariant.walk
    (ap lines_left c.in-Some.is ∙ c.first_line.ensures)
    (out_filled (length c.loop-left.words.items) c.first_line.result.0.now
    (sym c.if-not-branch.true ∙ (c.in_ok-put_line.ensures.good ∙ ap (λ (l : Line). range_good (length c.loop-left.words.items) l) c.in_ok-line.ensures.line)))

pub returns-then-not-branch-clause-refused : goal.returns-then-not-branch-clause-refused
returns-then-not-branch-clause-refused c =
    λ r same.
    let is : Range c.line_number.result ≡ r = cc in
    subst (IsFirstAsmCause c.args.text.now) is
    (range_first c.args.text.now (known_lines (lines_of c.args.text.now)) c.loop-left.index c.line_number.result c.requires.surveyed.lines c.requires.labels_kept
    (written_until c.args.text.now c.loop-left.words.items (lines_left c.loop-left.left) (lines_left c.first_line.result.1) c.first_line.result.0.now c.loop-left.index c.line_number.result c.loop-left.invariant
    (ap lines_left c.in-Some.is ∙ c.first_line.ensures)
    (sym c.if-not-branch.true ∙ (c.in_ok-put_line.ensures.good ∙ ap (λ (l : Line). range_good (length c.loop-left.words.items) l) c.in_ok-line.ensures.line))
    c.line_number.ensures))

pub overflow_add-index : goal.overflow_add-index
overflow_add-index c =
    omega (
      arith,
      index_fits c.args.text.now (lines_left c.loop-left.left) (lines_left c.first_line.result.1) c.first_line.result.0.now c.loop-left.index c.requires.short c.loop-left.invariant.walk (ap lines_left c.in-Some.is ∙ c.first_line.ensures),
    )

pub loop-left-preserved : goal.loop-left-preserved
loop-left-preserved c =
    let offsets : (λ name. offset_in (kept_setting c.args.labels.now name)) ≡ label_offset (known_lines (lines_of c.args.text.now)) =
    λ i name. offset_is (known_lines (lines_of c.args.text.now)) name (kept_setting c.args.labels.now name) (c.requires.surveyed.settings name) i in
    let told : LineAdds (λ name. offset_in (kept_setting c.args.labels.now name)) (line_view c.in_ok-line.line) c.loop-left.words.items c.put_line.new.words.items = c.in_ok-put_line.ensures.words (ap Ok c.if-not-branch.false) in
    let known : LineAdds (λ name. offset_in (kept_setting c.args.labels.now name)) (known_line c.first_line.result.0.now) c.loop-left.words.items c.put_line.new.words.items =
    subst (λ (l : Line). LineAdds (λ name. offset_in (kept_setting c.args.labels.now name)) l c.loop-left.words.items c.put_line.new.words.items) c.in_ok-line.ensures.line told in
    written_on c.args.text.now c.loop-left.words.items c.put_line.new.words.items (lines_left c.loop-left.left) (lines_left c.first_line.result.1) c.first_line.result.0.now c.loop-left.index c.loop-left.invariant
    (ap lines_left c.in-Some.is ∙ c.first_line.ensures)
    (sym c.if-not-branch.false ∙ (c.in_ok-put_line.ensures.good ∙ ap (λ (l : Line). range_good (length c.loop-left.words.items) l) c.in_ok-line.ensures.line))
    (subst (λ (f : List ℕ → ℕ). LineAdds f (known_line c.first_line.result.0.now) c.loop-left.words.items c.put_line.new.words.items) offsets known)

pub returns-clause-words : goal.returns-clause-words
returns-clause-words c =
    written_all c.args.text.now c.loop-left.words.items c.loop-left.index c.requires.surveyed.lines c.requires.labels_kept
    (subst (λ (left : Option (Bor (List ℕ))). Written c.args.text.now c.loop-left.words.items (lines_left left) c.loop-left.index) c.in_default.is c.loop-left.invariant)
