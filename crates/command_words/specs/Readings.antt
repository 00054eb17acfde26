-- The commands of `clap` that read the words after the first. Each has required arguments alone, with neither help nor a version.
use Rattle.std.specs.Prelude.{◌≡◌, ℕ, List, [], ◌∷◌, Some, true, codes}
use Rattle.clap.specs.Simple.{App, new_app, new_rule, on_top, with_rule}
use Rattle.clap.specs.Walk.{Row, Rule, Text, first_of}
use Rattle.clap.specs.declared.builder.action.ArgAction.TheVariants.{Set}
use Rattle.command_words.specs.Numbers.{IsNumberIn}

-- `clap` takes the first word for the program's name
abbrev pub program_name : Text
program_name = codes "shared_prover"

-- an argument that is known by its place
abbrev pub place_rule : Text → Rule
place_rule id = record (new_rule id) { required = true }

-- an option with a value, as `--clients 4` or `--clients=4`
abbrev pub option_rule : Text → Rule
option_rule name = record (new_rule name) { long = Some name; action = Some Set; required = true }

-- no argument
abbrev pub bare_app : App
bare_app = on_top (λ s. record s { disable_help_flag = true; disable_version_flag = true }) (new_app program_name)

-- `N`
abbrev pub jobs_app : App
jobs_app = with_rule bare_app (place_rule (codes "jobs"))

-- `--clients C`
abbrev pub clients_app : App
clients_app = with_rule bare_app (option_rule (codes "clients"))

-- `--clients C --batch B`
abbrev pub clients_and_batch_app : App
clients_and_batch_app = with_rule clients_app (option_rule (codes "batch"))

-- `--clients C --workers W`
abbrev pub clients_and_workers_app : App
clients_and_workers_app = with_rule clients_app (option_rule (codes "workers"))

-- the number of an argument, from `least` to `most`
pub record AskedNumber : Type 0 where
  pub id : Text
  pub least : ℕ
  pub most : ℕ
  pub number : ℕ

-- The matches of a reading give the argument a value that is this number.
pub record GivesNumber (matches : List Row) (asked : AskedNumber) : Type 0 where
  pub spelled : Text
  pub is_value : first_of asked.id matches ≡ Some spelled
  pub is_number : IsNumberIn asked.least asked.most spelled asked.number

abbrev pub GiveNumbers : List Row → List AskedNumber → Type 0
GiveNumbers matches [] = Unit {0}
GiveNumbers matches (asked ∷ rest) = GivesNumber matches asked × GiveNumbers matches rest
