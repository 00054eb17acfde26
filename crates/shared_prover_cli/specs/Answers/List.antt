-- `list`: the listing of the code of the PIE that the input is a file of.
use Rattle.std.specs.Prelude.{◌≡◌, ℕ, List}
use Rattle.cairo_model.specs.Pie.Acceptance.{HoldsNumbers}
use Rattle.cairo_model.specs.Pie.Records.{PieRecord, segment_size}
use Rattle.cairo_model.specs.Refusals.Verdicts.{IsVerdict, Verdict, admitted, no_file, not_alone}
use Rattle.cairo_model.specs.Segments.{program_segment}
use Rattle.casm_text.specs.Listings.{IsListing}
use Rattle.shared_prover_cli.specs.Replies.{ReplyRecord}
use Rattle.shared_prover_cli.specs.Texts.{verdict_status, verdict_text}

-- the words of its program segment, in order
abbrev pub IsCodeOf : PieRecord → List ℕ → Type 0
IsCodeOf pie words = HoldsNumbers pie.cells program_segment (segment_size pie program_segment) words

-- the listing of the code of an admitted PIE, or the line of the refusal
abbrev pub IsListedFor : Verdict → List ℕ → Type 0
IsListedFor (admitted found) text = (words : List ℕ) × (IsCodeOf found.pie words × IsListing words text)
IsListedFor (no_file refusal) text = text ≡ verdict_text (no_file refusal)
IsListedFor (not_alone cause) text = text ≡ verdict_text (not_alone cause)

pub record ListAnswer (input : List ℕ) (reply : ReplyRecord) : Type 0 where
  pub verdict : Verdict
  pub is_verdict : IsVerdict input verdict
  pub has_status : reply.status ≡ verdict_status verdict
  pub has_text : IsListedFor verdict reply.text
