-- What the code of a text has, its main entry no further than behind its words; and that a PIE that is written is admitted.
use Rattle.std.proofs.Common.{◌≡◌, ℕ, ◌+◌, ◌<◌, ◌≤◌, Bool, true, false, if◌then◌else◌, List, [], ◌∷◌, length, Option, Some, None, Ok, Err, codes, ap, subst, ◌∙◌, arith}
use Rattle.std.proofs.lemmas.List.{length-append}
use Rattle.std.specs.Option.{unwrap_or}
use Rattle.cairo_model.specs.Limits.{most_cells, offset_limit}
use Rattle.cairo_model.specs.Pie.Acceptance.{CheckedRecord}
use Rattle.cairo_model.specs.Refusals.Verdicts.{IsVerdict, admitted}
use Rattle.casm_text.specs.Lines.{Line, empty_line, label_line, statement_line, is_label, label_at, label_offset, statement_size, GivesFrom}
use Rattle.casm_text.specs.Refusals.{Assembles}
use Rattle.casm_text.proofs.Relists.{gives_size}
use Rattle.shared_prover_cli.specs.Answers.Run.{TextOutcome, IsOutcomeOf, no_code, ran}
use Rattle.shared_prover_cli.specs.Answers.RunTexts.{IsFileOf, outcome_status}

-- an offset, if there is one, is at most this
abbrev pub AtMost : ℕ → Option ℕ → Type 0
AtMost most None = Unit {0}
AtMost most (Some offset) = offset ≤ most

chosen : (most at : ℕ) (here : Bool) (further : Option ℕ) → at ≤ most → AtMost most further → AtMost most (if here then Some at else further)
chosen most at true further below others = below
chosen most at false further below others = others

labels_within : (f : List ℕ → ℕ) (at most : ℕ) (lines : List Line) (words name : List ℕ) → GivesFrom f at lines words → at + length words ≤ most → AtMost most (label_at at lines name)
labels_within f at most [] words name h below = tt
labels_within f at most (empty_line ∷ lines) words name h below =
    subst (λ (n : ℕ). AtMost most (label_at n lines name)) (omega arith) (labels_within f at most lines words name h below)
labels_within f at most (label_line other ∷ lines) words name h below =
    let others : AtMost most (label_at (at + 0) lines name) = subst (λ (n : ℕ). AtMost most (label_at n lines name)) (omega arith) (labels_within f at most lines words name h below) in
    chosen most at (is_label name (label_line other)) (label_at (at + 0) lines name) (omega arith) others
labels_within f at most (statement_line s ∷ lines) words name (first, rest, is, gives, more) below =
    let size = gives_size f at s first gives in
    let count : length words ≡ length first + length rest = ap length is ∙ length-append first rest in
    labels_within f (at + statement_size s) most lines rest name more (omega arith)

small_offset : (o : Option ℕ) → AtMost most_cells o → unwrap_or o 0 < offset_limit
small_offset None small = omega arith
small_offset (Some offset) small = omega arith

pub main_small : (text words : List ℕ) (main : ℕ) → Assembles text words main → length words ≤ most_cells → main < offset_limit
main_small text words main h few =
    let within = labels_within (label_offset h.lines) 0 most_cells h.lines words (codes "main") h.code.0 (omega arith) in
    let small = small_offset (label_at 0 h.lines (codes "main")) within in
    omega (arith, h.code.1, small)

-- ---- what is written

pub admitted_outcome : (input text : List ℕ) (o : TextOutcome) → IsOutcomeOf input o → IsFileOf o text → outcome_status o ≡ 0
    → (found : CheckedRecord) × IsVerdict text (admitted found)
admitted_outcome input text (no_code refusal) p file done = absurd (omega (arith, done))
admitted_outcome input text (ran (Err cause)) p file done = absurd (omega (arith, done))
admitted_outcome input text (ran (Ok pie)) p file done =
    let accepted = p.1.runs.accepted in
    (record { pie = pie; fact = accepted.0; states = accepted.1.0 }, (file, accepted.1.1))
