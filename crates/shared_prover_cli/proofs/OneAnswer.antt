-- A command has one answer to an input, and none has the status of a script.
use Rattle.std.proofs.Common.{◌≡◌, ◌≢◌, ℕ, ◌+◌, List, Option, Ok, Err, length, slice_index, sym, ap, subst, ◌∙◌, arith}
use Rattle.std.proofs.lemmas.List.{ext_get_or}
use Rattle.cairo_model.specs.Pie.Acceptance.{CheckedRecord}
use Rattle.cairo_model.specs.Certificate.Records.{CertRecord, SpanRecord}
use Rattle.cairo_model.specs.Machine.FieldMemories.{FieldCell}
use Rattle.cairo_model.specs.Certificate.Acceptance.{SpanHolds}
use Rattle.cairo_model.specs.Refusals.Verdicts.{Verdict, IsVerdict, admitted, no_file, not_alone}
use Rattle.cairo_model.specs.Pie.Records.{segment_size}
use Rattle.cairo_model.specs.Segments.{program_segment}
use Rattle.cairo_model.proofs.Outcomes.{some_is}
use Rattle.cairo_model.proofs.RunLaws.{one_content}
use Rattle.boot_program.specs.Faults.Causes.{AcceptsRun, IsFirstRunFault}
use Rattle.boot_program.specs.Faults.Records.{FaultCause}
use Rattle.casm_text.specs.Listings.{IsListing, Lists, listing_text}
use Rattle.casm_text.specs.Statements.{Statement}
use Rattle.cert_format.specs.Refusals.{IsFirstCertCause}
use Rattle.cert_format.specs.Spelling.{CertBytes, spelling}
use Rattle.cert_format.specs.declared.refusal.CertRefusal.{CertRefusal}
use Rattle.relocator.specs.LoneCertificates.{IsLoneCertificate}
use Rattle.shared_prover_cli.specs.Answers.List.{IsListedFor}
use Rattle.shared_prover_cli.specs.Answers.Place.{IsPlaced}
use Rattle.shared_prover_cli.specs.Answers.Check.{CheckAnswer, IsCheckOf, accepted, faulty, no_certificate}
use Rattle.shared_prover_cli.specs.Answers.CheckTexts.{check_status, check_text}
use Rattle.shared_prover_cli.specs.Answers.Run.{IsOutcomeOf, TextOutcome, no_code, ran}
use Rattle.shared_prover_cli.specs.Answers.RunTexts.{outcome_status, outcome_text}
use Rattle.desk_core.specs.DeskRecords.{DeskRecord}
use Rattle.shared_prover_cli.specs.Commands.{AnswerOf, RunsNoScript}
use Rattle.shared_prover_cli.specs.Replies.{ReplyRecord}
use Rattle.shared_prover_cli.specs.Texts.{verdict_status, verdict_text}
use Rattle.command_words.specs.declared.command.Command.{Command}
use Rattle.command_words.specs.declared.command.Command.TheVariants as commands

one_list : (cells : List FieldCell) (span : SpanRecord) (xs ys : List ℕ) → SpanHolds cells span xs → SpanHolds cells span ys → xs ≡ ys
one_list cells span xs ys p q =
    ext_get_or 0 xs ys (p.count ∙ sym q.count) (λ i lt.
    some_is (slice_index xs i) (slice_index ys i) (sym (p.each i (omega (arith, lt, p.count))) ∙ q.each i (omega (arith, lt, p.count))))

abbrev pub OneVerdict : Type 0
OneVerdict = (bytes : List ℕ) (v w : Verdict) → IsVerdict bytes v → IsVerdict bytes w → v ≡ w

abbrev pub OnePlacement : Type 0
OnePlacement = (checked : CheckedRecord) (c d : CertRecord) → IsLoneCertificate checked c → IsLoneCertificate checked d → c ≡ d

abbrev pub OneCertificate : Type 0
OneCertificate = (bytes : List ℕ) (c d : CertRecord) → CertBytes bytes c → CertBytes bytes d → c ≡ d

abbrev pub OneRefusal : Type 0
OneRefusal = (bytes : List ℕ) (r s : CertRefusal) → IsFirstCertCause bytes r → IsFirstCertCause bytes s → r ≡ s

abbrev pub OneFault : Type 0
OneFault = (cert : CertRecord) (c d : FaultCause) → IsFirstRunFault cert c → IsFirstRunFault cert d → c ≡ d

abbrev pub OneListing : Type 0
OneListing = (words : List ℕ) (ss others : List Statement) → Lists words ss → Lists words others → ss ≡ others

abbrev pub OneOutcome : Type 0
OneOutcome = (bytes : List ℕ) (a b : TextOutcome) → IsOutcomeOf bytes a → IsOutcomeOf bytes b → a ≡ b

module _ (one_verdict : OneVerdict) (one_placement : OnePlacement) (one_certificate : OneCertificate) (one_refusal : OneRefusal) (one_fault : OneFault) (one_listing : OneListing) (one_outcome : OneOutcome) where
  -- ---- check

  module _ (bytes : List ℕ) where
    -- a property of the certificate of these bytes holds of the certificate of these bytes
    moved : (P : CertRecord → Type 0) (c d : CertRecord) → CertBytes bytes c → CertBytes bytes d → P c → P d
    moved P c d theirs ours kept = subst P (one_certificate bytes c d theirs ours) kept

    one_check : (a b : CheckAnswer) → IsCheckOf bytes a → IsCheckOf bytes b → a ≡ b
    one_check (no_certificate r) (no_certificate s) p q = ap no_certificate (one_refusal bytes r s p.0 q.0)
    one_check (no_certificate r) (faulty f) p q = absurd (p.1 q.0 q.1.0)
    one_check (no_certificate r) (accepted k n xs) p q = absurd (p.1 q.0 q.1.0)
    one_check (faulty f) (no_certificate s) p q = absurd (q.1 p.0 p.1.0)
    one_check (faulty f) (faulty g) p q = ap faulty (one_fault q.0 f g (moved (λ c. IsFirstRunFault c f) p.0 q.0 p.1.0 q.1.0 p.1.1.0) q.1.1.0)
    one_check (faulty f) (accepted k n xs) p q = absurd (p.1.1.1 (moved AcceptsRun q.0 p.0 q.1.0 p.1.0 q.1.1.1.0))
    one_check (accepted k n xs) (no_certificate s) p q = absurd (q.1 p.0 p.1.0)
    one_check (accepted k n xs) (faulty f) p q = absurd (q.1.1.1 (moved AcceptsRun p.0 q.0 p.1.0 q.1.0 p.1.1.1.0))
    one_check (accepted k n xs) (accepted l m ys) p q =
        let kinds : k ≡ l = sym (moved (λ c. c.kind ≡ k) p.0 q.0 p.1.0 q.1.0 p.1.1.0) ∙ q.1.1.0 in
        let count : length q.0.states ≡ n + 1 = moved (λ c. length c.states ≡ n + 1) p.0 q.0 p.1.0 q.1.0 p.1.1.1.1.0 in
        let holds : SpanHolds q.0.cells q.0.output xs = moved (λ c. SpanHolds c.cells c.output xs) p.0 q.0 p.1.0 q.1.0 p.1.1.1.1.1 in
        let steps : n ≡ m = omega (arith, count, q.1.1.1.1.0) in
        let outputs : xs ≡ ys = one_list q.0.cells q.0.output xs ys holds q.1.1.1.1.1 in
        λ i. accepted (kinds i) (steps i) (outputs i)

  -- ---- place

  one_text : (v : Verdict) (text other : List ℕ) → IsPlaced v text → IsPlaced v other → text ≡ other
  one_text (admitted found) text other p q = p.1.1 ∙ ap spelling (one_placement found p.0 q.0 p.1.0 q.1.0) ∙ sym q.1.1
  one_text (no_file refusal) text other p q = p ∙ sym q
  one_text (not_alone cause) text other p q = p ∙ sym q

  -- ---- list

  one_listing_text : (words text other : List ℕ) → IsListing words text → IsListing words other → text ≡ other
  one_listing_text words text other p q = p.2 ∙ ap listing_text (one_listing words p.0 q.0 p.1 q.1) ∙ sym q.2

  one_listed : (v : Verdict) (text other : List ℕ) → IsListedFor v text → IsListedFor v other → text ≡ other
  one_listed (admitted found) text other p q =
      let pie = found.pie in
      let same : p.0 ≡ q.0 = one_content pie.cells program_segment (segment_size pie program_segment) p.0 q.0 p.1.0 q.1.0 in
      one_listing_text q.0 text other (subst (λ (words : List ℕ). IsListing words text) same p.1.1) q.1.1
  one_listed (no_file refusal) text other p q = p ∙ sym q
  one_listed (not_alone cause) text other p q = p ∙ sym q

  -- ---- all commands

  same_reply : (reply other : ReplyRecord) → reply.status ≡ other.status → reply.text ≡ other.text → reply ≡ other
  same_reply reply other status text = λ i. record { status = status i; text = text i }

  pub one_answer : (command : Command) (input : List ℕ) (reply other : ReplyRecord) (desk others : Option DeskRecord) → RunsNoScript command → AnswerOf command input reply desk → AnswerOf command input other others → reply ≡ other
  one_answer commands.Replay input reply other desk others none p q =
      let same = one_verdict input p.0.verdict q.0.verdict p.0.is_verdict q.0.is_verdict in
      same_reply reply other (p.0.has_status ∙ ap verdict_status same ∙ sym q.0.has_status) (p.0.has_text ∙ ap verdict_text same ∙ sym q.0.has_text)
  one_answer commands.Place input reply other desk others none p q =
      let same = one_verdict input p.0.verdict q.0.verdict p.0.is_verdict q.0.is_verdict in
      same_reply reply other (p.0.has_status ∙ ap verdict_status same ∙ sym q.0.has_status) (one_text q.0.verdict reply.text other.text (subst (λ (v : Verdict). IsPlaced v reply.text) same p.0.has_text) q.0.has_text)
  one_answer commands.List input reply other desk others none p q =
      let same = one_verdict input p.0.verdict q.0.verdict p.0.is_verdict q.0.is_verdict in
      same_reply reply other (p.0.has_status ∙ ap verdict_status same ∙ sym q.0.has_status) (one_listed q.0.verdict reply.text other.text (subst (λ (v : Verdict). IsListedFor v reply.text) same p.0.has_text) q.0.has_text)
  one_answer commands.Run input reply other desk others none p q =
      let same = one_outcome input p.0.outcome q.0.outcome p.0.is_outcome q.0.is_outcome in
      same_reply reply other (p.0.has_status ∙ ap outcome_status same ∙ sym q.0.has_status) (p.0.has_text ∙ ap outcome_text same ∙ sym q.0.has_text)
  one_answer commands.Boot input reply other desk others none p q = same_reply reply other (p.0.has_status ∙ sym q.0.has_status) (p.0.has_text ∙ sym q.0.has_text)
  one_answer (commands.Make jobs) input reply other desk others none p q = same_reply reply other (p.0.has_status ∙ sym q.0.has_status) (p.0.has_text ∙ sym q.0.has_text)
  one_answer commands.Check input reply other desk others none p q =
      let same = one_check input p.0.answer q.0.answer p.0.is_answer q.0.is_answer in
      same_reply reply other (p.0.has_status ∙ ap check_status same ∙ sym q.0.has_status) (p.0.has_text ∙ ap check_text same ∙ sym q.0.has_text)
  one_answer (commands.Batch clients) input reply other desk others none p q = absurd none
  one_answer (commands.Export clients batch) input reply other desk others none p q = absurd none
  one_answer (commands.Trial jobs) input reply other desk others none p q = absurd none
  one_answer (commands.Serve clients workers) input reply other desk others none p q = absurd none

-- ---- scripts

no_verdict : (v : Verdict) → verdict_status v ≢ 3
no_verdict (no_file refusal) = λ e. omega (arith, e)
no_verdict (not_alone cause) = λ e. omega (arith, e)
no_verdict (admitted found) = λ e. omega (arith, e)

no_check : (a : CheckAnswer) → check_status a ≢ 3
no_check (accepted kind steps outputs) = λ e. omega (arith, e)
no_check (no_certificate refusal) = λ e. omega (arith, e)
no_check (faulty fault) = λ e. omega (arith, e)

no_outcome : (o : TextOutcome) → outcome_status o ≢ 3
no_outcome (no_code refusal) = λ e. omega (arith, e)
no_outcome (ran (Ok pie)) = λ e. omega (arith, e)
no_outcome (ran (Err cause)) = λ e. omega (arith, e)

pub no_script : (command : Command) (input : List ℕ) (reply : ReplyRecord) (desk : Option DeskRecord) → RunsNoScript command → AnswerOf command input reply desk → reply.status ≢ 3
no_script commands.Replay input reply desk none p = λ e. no_verdict p.0.verdict (sym p.0.has_status ∙ e)
no_script commands.Place input reply desk none p = λ e. no_verdict p.0.verdict (sym p.0.has_status ∙ e)
no_script commands.List input reply desk none p = λ e. no_verdict p.0.verdict (sym p.0.has_status ∙ e)
no_script commands.Check input reply desk none p = λ e. no_check p.0.answer (sym p.0.has_status ∙ e)
no_script commands.Run input reply desk none p = λ e. no_outcome p.0.outcome (sym p.0.has_status ∙ e)
no_script commands.Boot input reply desk none p = λ e. omega (arith, p.0.has_status, e)
no_script (commands.Make jobs) input reply desk none p = λ e. omega (arith, p.0.has_status, e)
no_script (commands.Batch clients) input reply desk none p = absurd none
no_script (commands.Export clients batch) input reply desk none p = absurd none
no_script (commands.Trial jobs) input reply desk none p = absurd none
no_script (commands.Serve clients workers) input reply desk none p = absurd none
