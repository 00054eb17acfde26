-- The table of commands.
use Rattle.std.specs.Prelude.{◌≡◌, ℕ, Bool, false, true, List, Option, None, String}
use Rattle.std.specs.declared.alloc.Global.{Global}
use Rattle.desk_core.specs.DeskRecords.{DeskRecord}
use Rattle.command_words.specs.Words.{Asks}
use Rattle.command_words.specs.declared.command.Command.{Command}
use Rattle.command_words.specs.declared.command.Command.TheVariants as commands
use Rattle.script_runner.specs.Runs.{RunsScript}
use Rattle.script_runner.specs.Serving.{ServesScript}
use Rattle.shared_prover_cli.specs.Answers.Boot.{BootAnswer}
use Rattle.shared_prover_cli.specs.Answers.CheckTexts.{CheckLine}
use Rattle.shared_prover_cli.specs.Answers.List.{ListAnswer}
use Rattle.shared_prover_cli.specs.Answers.Make.{MakeAnswer}
use Rattle.shared_prover_cli.specs.Answers.Place.{PlaceAnswer}
use Rattle.shared_prover_cli.specs.Answers.Replay.{ReplayAnswer}
use Rattle.shared_prover_cli.specs.Answers.RunTexts.{RunAnswer}
use Rattle.shared_prover_cli.specs.Answers.Scripts.{ScriptAnswer, TellsBatchOf, TellsTranscript, TrialAnswer}
use Rattle.shared_prover_cli.specs.Replies.{ReplyRecord}

-- A row: whether the command reads the input, and what it answers to the bytes that it read, which are none where it reads nothing:
-- its reply, and the desk at which it ran a script, if it did. The words that ask for it stand in the table of `command_words`.
pub record Row : Type 1 where
  pub reads : Bool
  pub answers : List ℕ → ReplyRecord → Option DeskRecord → Type 0

-- an answer for which no script is run
abbrev pub WithoutDesk : (List ℕ → ReplyRecord → Type 0) → List ℕ → ReplyRecord → Option DeskRecord → Type 0
WithoutDesk Answers input reply desk = Answers input reply × (desk ≡ None)

abbrev pub row_of : Command → Row
row_of commands.Replay = record { reads = true; answers = WithoutDesk ReplayAnswer }
row_of commands.Place = record { reads = true; answers = WithoutDesk PlaceAnswer }
row_of commands.List = record { reads = true; answers = WithoutDesk ListAnswer }
row_of commands.Check = record { reads = true; answers = WithoutDesk CheckLine }
row_of commands.Run = record { reads = true; answers = WithoutDesk RunAnswer }
row_of commands.Boot = record { reads = false; answers = WithoutDesk (λ input. BootAnswer) }
row_of (commands.Make jobs) = record { reads = false; answers = WithoutDesk (λ input. MakeAnswer jobs) }
row_of (commands.Batch clients) = record { reads = true; answers = ScriptAnswer RunsScript clients TellsTranscript }
row_of (commands.Export clients batch) = record { reads = true; answers = ScriptAnswer RunsScript clients (TellsBatchOf batch) }
row_of (commands.Trial jobs) = record { reads = false; answers = λ input. TrialAnswer jobs }
row_of (commands.Serve clients workers) = record { reads = true; answers = ScriptAnswer ServesScript clients TellsTranscript }

-- ---- the table read aloud

-- The reply is the command's to this input, and this is the desk of the script that it ran.
abbrev pub AnswerOf : Command → List ℕ → ReplyRecord → Option DeskRecord → Type 0
AnswerOf command = (row_of command).answers

abbrev pub reads_input : Command → Bool
reads_input command = (row_of command).reads

-- the command runs no script
abbrev pub RunsNoScript : Command → Type 0
RunsNoScript commands.Replay = Unit {0}
RunsNoScript commands.Place = Unit {0}
RunsNoScript commands.List = Unit {0}
RunsNoScript commands.Check = Unit {0}
RunsNoScript commands.Run = Unit {0}
RunsNoScript commands.Boot = Unit {0}
RunsNoScript (commands.Make jobs) = Unit {0}
RunsNoScript (commands.Batch clients) = ⊥
RunsNoScript (commands.Export clients batch) = ⊥
RunsNoScript (commands.Trial jobs) = ⊥
RunsNoScript (commands.Serve clients workers) = ⊥

-- ---- which commands are a top call's own

-- that of `run_serve`
abbrev pub IsServeCommand : Command → Type 0
IsServeCommand (commands.Serve clients workers) = Unit {0}
IsServeCommand _ = ⊥

-- those of `run_plain`: all others
abbrev pub IsPlainCommand : Command → Type 0
IsPlainCommand command = ¬ IsServeCommand command

-- no command of these is asked for
abbrev pub AsksForNone : (Command → Type 0) → List (String Global) → Type 0
AsksForNone IsOwn words = (command : Command) → IsOwn command → ¬ Asks words command
