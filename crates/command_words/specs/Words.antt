-- Which words ask for which command.
use Rattle.std.specs.Prelude.{◌≡◌, ℕ, List, [], ◌∷◌, codes, map, String, string_bytes}
use Rattle.std.specs.declared.alloc.Global.{Global}
use Rattle.clap.specs.Faults.{fault_of}
use Rattle.clap.specs.Simple.{App, matches_of}
use Rattle.clap.specs.Walk.{Text}
use Rattle.desk_core.specs.Limits.{most_clients}
use Rattle.script_server.specs.Limits.{most_workers}
use Rattle.work_maker.specs.Limits.{most_jobs}
use Rattle.command_words.specs.Limits.{least_batch, least_clients, least_jobs, least_workers, most_batch}
use Rattle.command_words.specs.Readings.{AskedNumber, GiveNumbers, bare_app, clients_and_batch_app, clients_and_workers_app, clients_app, jobs_app, program_name}
use Rattle.command_words.specs.declared.command.Command.{Command}
use Rattle.command_words.specs.declared.command.Command.TheVariants as commands

-- A row: the command's first word, the command of `clap` that reads those after it, and the numbers that they give.
pub record Wording : Type 0 where
  pub word : Text
  pub app : App
  pub numbers : List AskedNumber

abbrev pub jobs_number : ℕ → AskedNumber
jobs_number jobs = record { id = codes "jobs"; least = least_jobs; most = most_jobs; number = jobs }

abbrev pub clients_number : ℕ → AskedNumber
clients_number clients = record { id = codes "clients"; least = least_clients; most = most_clients; number = clients }

abbrev pub batch_number : ℕ → AskedNumber
batch_number batch = record { id = codes "batch"; least = least_batch; most = most_batch; number = batch }

abbrev pub workers_number : ℕ → AskedNumber
workers_number workers = record { id = codes "workers"; least = least_workers; most = most_workers; number = workers }

abbrev pub wording_of : Command → Wording
wording_of commands.Replay = record { word = codes "replay"; app = bare_app; numbers = [] }
wording_of commands.Place = record { word = codes "place"; app = bare_app; numbers = [] }
wording_of commands.List = record { word = codes "list"; app = bare_app; numbers = [] }
wording_of commands.Check = record { word = codes "check"; app = bare_app; numbers = [] }
wording_of commands.Run = record { word = codes "run"; app = bare_app; numbers = [] }
wording_of commands.Boot = record { word = codes "boot"; app = bare_app; numbers = [] }
wording_of (commands.Make jobs) = record { word = codes "make"; app = jobs_app; numbers = jobs_number jobs ∷ [] }
wording_of (commands.Trial jobs) = record { word = codes "trial"; app = jobs_app; numbers = jobs_number jobs ∷ [] }
wording_of (commands.Batch clients) = record { word = codes "batch"; app = clients_app; numbers = clients_number clients ∷ [] }
wording_of (commands.Export clients batch) =
    record { word = codes "export"; app = clients_and_batch_app; numbers = clients_number clients ∷ batch_number batch ∷ [] }
wording_of (commands.Serve clients workers) =
    record { word = codes "serve"; app = clients_and_workers_app; numbers = clients_number clients ∷ workers_number workers ∷ [] }

-- The words after the first, behind the program's name, are taken by the reading that `clap` defines, which gives these numbers.
pub record IsReadBy (app : App) (numbers : List AskedNumber) (others : List Text) : Type 0 where
  pub taken : fault_of app (program_name ∷ others) ≡ []
  pub numbered : GiveNumbers (matches_of app (program_name ∷ others)) numbers

-- They begin with the word of the row, and those after it are read so.
pub record IsWordedBy (row : Wording) (words : List Text) : Type 0 where
  pub others : List Text
  pub are : words ≡ row.word ∷ others
  pub read : IsReadBy row.app row.numbers others

abbrev pub Asks : List (String Global) → Command → Type 0
Asks words command = IsWordedBy (wording_of command) (map string_bytes words)

-- they ask for no command at all
abbrev pub AsksForNothing : List (String Global) → Type 0
AsksForNothing words = (command : Command) → ¬ Asks words command
