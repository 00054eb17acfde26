-- The commands by their first words.
use Rattle.std.specs.Prelude.{codes}
use Rattle.clap.specs.Simple.{App}
use Rattle.clap.specs.Walk.{Text}
use Rattle.command_words.specs.Readings.{bare_app, clients_and_batch_app, clients_and_workers_app, clients_app, jobs_app}
use Rattle.command_words.specs.declared.command.Command.{Command}
use Rattle.command_words.specs.declared.command.Command.TheVariants as commands
use Rattle.command_words.specs.declared.first_word.FirstWord.{FirstWord}
use Rattle.command_words.specs.declared.first_word.FirstWord.TheVariants as first_words

-- the first word of a command
abbrev pub first_word_of : Command → FirstWord
first_word_of commands.Replay = first_words.Replay
first_word_of commands.Place = first_words.Place
first_word_of commands.List = first_words.List
first_word_of commands.Check = first_words.Check
first_word_of commands.Run = first_words.Run
first_word_of commands.Boot = first_words.Boot
first_word_of (commands.Make jobs) = first_words.Make
first_word_of (commands.Trial jobs) = first_words.Trial
first_word_of (commands.Batch clients) = first_words.Batch
first_word_of (commands.Export clients batch) = first_words.Export
first_word_of (commands.Serve clients workers) = first_words.Serve

-- how it is spelled
abbrev pub spelling_of : FirstWord → Text
spelling_of first_words.Replay = codes "replay"
spelling_of first_words.Place = codes "place"
spelling_of first_words.List = codes "list"
spelling_of first_words.Check = codes "check"
spelling_of first_words.Run = codes "run"
spelling_of first_words.Boot = codes "boot"
spelling_of first_words.Make = codes "make"
spelling_of first_words.Batch = codes "batch"
spelling_of first_words.Export = codes "export"
spelling_of first_words.Trial = codes "trial"
spelling_of first_words.Serve = codes "serve"

-- the command of `clap` that reads the words after it
abbrev pub app_after : FirstWord → App
app_after first_words.Replay = bare_app
app_after first_words.Place = bare_app
app_after first_words.List = bare_app
app_after first_words.Check = bare_app
app_after first_words.Run = bare_app
app_after first_words.Boot = bare_app
app_after first_words.Make = jobs_app
app_after first_words.Trial = jobs_app
app_after first_words.Batch = clients_app
app_after first_words.Export = clients_and_batch_app
app_after first_words.Serve = clients_and_workers_app
