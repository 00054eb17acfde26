-- Bytes that are a script are not answered as a bad one.
use Rattle.std.proofs.Common.{◌≡◌, ◌≢◌, ◌≤◌, ◌^◌, ℕ, List, Option, Some, None, arith, refl}
use Rattle.desk_core.specs.DeskRecords.{DeskRecord}
use Rattle.desk_core.specs.declared.batch.Batch.{Batch}
use Rattle.desk_script.specs.Lines.{ScriptLine}
use Rattle.desk_script.specs.Scripts.{IsFirstBadScriptLine, IsScript}
use Rattle.desk_script.specs.declared.kinds.ScriptRefusal.{ScriptRefusal}
use Rattle.std.specs.Prelude.{length, slice_get}
use Rattle.script_runner.specs.Runs.{RunsScript}
use Rattle.shared_prover_cli.specs.Answers.Scripts.{DidScript, ScriptAnswer, TellsBatch, TellsBatchOf, TellsTranscript}
use Rattle.shared_prover_cli.specs.Replies.{ReplyRecord}

abbrev pub IsTaken : Type 0
IsTaken = (clients : ℕ) (bytes : List ℕ) (lines : List ScriptLine) (r : ScriptRefusal) → clients ≤ 2 ^ 32 → IsScript clients bytes lines → ¬ IsFirstBadScriptLine clients bytes r

no_batch_line : (b n : ℕ) (o : Option Batch) (reply : ReplyRecord) → TellsBatch b n o reply → reply.status ≢ 3
no_batch_line b n None reply t = λ e. omega (arith, t.has_status, e)
no_batch_line b n (Some batch) reply t = λ e. omega (arith, t.has_status, e)

-- a script that was run or served
pub batch_runs : IsTaken → (Does : ℕ → List ScriptLine → DeskRecord → Type 0) (clients : ℕ) (input : List ℕ) (lines : List ScriptLine) (reply : ReplyRecord) (desk : Option DeskRecord) → clients ≤ 2 ^ 32 → IsScript clients input lines
    → ScriptAnswer Does clients TellsTranscript input reply desk → reply.status ≡ 0
batch_runs taken Does clients input lines reply None few is p = absurd (taken clients input lines p.refusal few is p.first)
batch_runs taken Does clients input lines reply (Some desk) few is p = p.1.has_status

pub export_runs : IsTaken → (clients batch : ℕ) (input : List ℕ) (lines : List ScriptLine) (reply : ReplyRecord) (desk : Option DeskRecord) → clients ≤ 2 ^ 32 → IsScript clients input lines
    → ScriptAnswer RunsScript clients (TellsBatchOf batch) input reply desk → reply.status ≢ 3
export_runs taken clients batch input lines reply None few is p = absurd (taken clients input lines p.refusal few is p.first)
export_runs taken clients batch input lines reply (Some desk) few is p = no_batch_line batch (length desk.batches) (slice_get desk.batches batch) reply p.1

-- what is told of it at status 0
pub did_at_done : (Does : ℕ → List ScriptLine → DeskRecord → Type 0) (clients : ℕ) (input : List ℕ) (reply : ReplyRecord) (desk : Option DeskRecord) → ScriptAnswer Does clients TellsTranscript input reply desk → reply.status ≡ 0
    → (d : DeskRecord) × (desk ≡ Some d) × DidScript Does clients input d
did_at_done Does clients input reply None p done = absurd (omega (arith, p.has_status, done))
did_at_done Does clients input reply (Some desk) p done = (desk, refl, p.0)
