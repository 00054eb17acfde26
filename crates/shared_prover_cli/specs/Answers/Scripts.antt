-- `batch`, `export`, `trial` and `serve`: a script is run on a desk of its own, or served by threads, and something of that desk is told.
use Rattle.std.specs.Prelude.{◌≡◌, ℕ, List, [], ◌∷◌, ◌++◌, codes, length, Option, Some, None, slice_get}
use Rattle.cairo_model.specs.Certificate.Records.{CertRecord}
use Rattle.cairo_model.specs.Texts.Numbers.{numbers_text}
use Rattle.cert_format.specs.Spelling.{CertBytes}
use Rattle.desk_core.specs.DeskRecords.{DeskRecord}
use Rattle.desk_core.specs.GoodDesks.{IsGoodDesk}
use Rattle.desk_core.specs.declared.batch.Batch.{Batch}
use Rattle.desk_script.specs.Lines.{ScriptLine}
use Rattle.desk_script.specs.Scripts.{IsFirstBadScriptLine, IsScript, kind_number}
use Rattle.desk_script.specs.Transcripts.{IsTranscript, steps_of_jobs}
use Rattle.desk_script.specs.declared.kinds.ScriptRefusal.{ScriptRefusal}
use Rattle.script_runner.specs.Runs.{RunsScript}
use Rattle.work_maker.specs.Generator.{script_of}
use Rattle.work_maker.specs.Limits.{script_clients}
use Rattle.shared_prover_cli.specs.Replies.{ReplyRecord}

-- ---- the run

-- The bytes are a script for so many clients, and the desk is one at which this was done with its lines.
pub record DidScript (Does : ℕ → List ScriptLine → DeskRecord → Type 0) (clients : ℕ) (bytes : List ℕ) (desk : DeskRecord) : Type 0 where
  pub lines : List ScriptLine
  pub is_script : IsScript clients bytes lines
  pub does : Does clients lines desk
  pub good : IsGoodDesk desk

abbrev pub bad_line_text : ScriptRefusal → List ℕ
bad_line_text r = codes "script" ++ numbers_text (r.line ∷ kind_number r.kind ∷ []) ++ 10 ∷ []

-- The bytes are no script, and the reply names the first bad line.
pub record TellsBadLine (clients : ℕ) (bytes : List ℕ) (reply : ReplyRecord) : Type 0 where
  pub refusal : ScriptRefusal
  pub first : IsFirstBadScriptLine clients bytes refusal
  pub has_status : reply.status ≡ 3
  pub has_text : reply.text ≡ bad_line_text refusal

-- the desk at which a script was run or served is handed out, and this is told of it; of bytes that are none there is no desk
abbrev pub ScriptAnswer : (ℕ → List ScriptLine → DeskRecord → Type 0) → ℕ → (DeskRecord → ReplyRecord → Type 0) → List ℕ → ReplyRecord → Option DeskRecord → Type 0
ScriptAnswer Does clients Tells bytes reply None = TellsBadLine clients bytes reply
ScriptAnswer Does clients Tells bytes reply (Some desk) = DidScript Does clients bytes desk × Tells desk reply

-- ---- what is told of the desk

-- `batch` and `serve`: its transcript
pub record TellsTranscript (desk : DeskRecord) (reply : ReplyRecord) : Type 0 where
  pub has_status : reply.status ≡ 0
  pub is_transcript : IsTranscript desk reply.text

-- the file of the certificate that a batch keeps
pub record TellsCertificate (batch : Batch) (reply : ReplyRecord) : Type 0 where
  pub cert : CertRecord
  pub kept : batch.cert ≡ Some cert
  pub has_status : reply.status ≡ 0
  pub is_file : CertBytes reply.text cert

-- that so few batches were made
abbrev pub few_batches_text : ℕ → ℕ → List ℕ
few_batches_text b count = codes "refused batch" ++ numbers_text (b ∷ count ∷ []) ++ 10 ∷ []

pub record TellsFewBatches (b count : ℕ) (reply : ReplyRecord) : Type 0 where
  pub has_status : reply.status ≡ 1
  pub has_text : reply.text ≡ few_batches_text b count

-- of the batch of this number, where there is one, among so many
abbrev pub TellsBatch : ℕ → ℕ → Option Batch → ReplyRecord → Type 0
TellsBatch b count None reply = TellsFewBatches b count reply
TellsBatch b count (Some batch) reply = TellsCertificate batch reply

-- `export`: the certificate of that batch
abbrev pub TellsBatchOf : ℕ → DeskRecord → ReplyRecord → Type 0
TellsBatchOf b desk reply = TellsBatch b (length desk.batches) (slice_get desk.batches b) reply

-- a line with a number
abbrev pub count_line : List ℕ → ℕ → List ℕ
count_line name n = name ++ numbers_text (n ∷ []) ++ 10 ∷ []

-- the numbers of jobs, of batches and of registered facts, and the steps of all jobs together
abbrev pub trial_text : DeskRecord → List ℕ
trial_text desk =
    count_line (codes "jobs") (length desk.jobs) ++ count_line (codes "batches") (length desk.batches)
    ++ count_line (codes "facts") (length desk.registry) ++ count_line (codes "steps") (steps_of_jobs desk.jobs)

pub record TellsNumbers (desk : DeskRecord) (reply : ReplyRecord) : Type 0 where
  pub has_status : reply.status ≡ 0
  pub has_text : reply.text ≡ trial_text desk

-- the script of so many jobs was run, its desk is handed out, and those numbers are told of it
abbrev pub TrialAnswer : ℕ → ReplyRecord → Option DeskRecord → Type 0
TrialAnswer jobs reply None = ⊥
TrialAnswer jobs reply (Some desk) = DidScript RunsScript script_clients (script_of jobs) desk × TellsNumbers desk reply
