-- What the matches of a reading say of the words that were read.
use Rattle.std.proofs.Common.{◌≡◌, ◌≢◌, ◌∷◌, ℕ, List, [], Option, Some, None, subst, sym}
use Rattle.clap.specs.Faults.{fault_of}
use Rattle.clap.specs.Simple.{matches_of}
use Rattle.clap.specs.Walk.{Row, Text}
use Rattle.command_words.specs.Readings.{GivesNumber, GiveNumbers, program_name}
use Rattle.command_words.specs.Words.{batch_number, clients_number, jobs_number, wording_of, workers_number}
use Rattle.command_words.specs.Working.Asking.{IsAnyAsked, IsAnyMatched, IsMatched}
use Rattle.command_words.specs.Working.FirstWords.{app_after}
use Rattle.command_words.specs.declared.command.Command.{Command}
use Rattle.command_words.specs.declared.command.Command.TheVariants as commands
use Rattle.command_words.specs.declared.first_word.FirstWord.{FirstWord}
use Rattle.command_words.specs.declared.first_word.FirstWord.TheVariants as first_words

module _ (first : FirstWord) (others : List Text) where
  -- words that are taken ask for what the matches give
  pub asked_by_matches : (matches : List Row) (found : Option Command) → fault_of (app_after first) (program_name ∷ others) ≡ []
      → matches ≡ matches_of (app_after first) (program_name ∷ others) → IsAnyMatched first matches found → IsAnyAsked first others found
  asked_by_matches matches (Some command) taken are p = record {
    some = record {
      begins = p.some.begins;
      read = record { taken = taken; numbered = subst (λ (m : List Row). GiveNumbers m (wording_of command).numbers) are p.some.numbered };
    };
    none = tt;
  }
  asked_by_matches matches None taken are p = record {
    some = tt;
    none = λ command q. p.none command (record {
      begins = q.begins;
      numbered = subst (λ (m : List Row). GiveNumbers m (wording_of command).numbers) (sym are) q.read.numbered;
    });
  }

  -- words that are refused ask for nothing
  pub asked_for_none : fault_of (app_after first) (program_name ∷ others) ≢ [] → IsAnyAsked first others None
  asked_for_none refused = record { some = tt; none = λ command q. refused q.read.taken }

-- a command whose number isn't given is not the one
module _ (matches : List Row) where
  pub no_make : ((jobs : ℕ) → ¬ (GivesNumber matches (jobs_number jobs))) → (command : Command) → ¬ (IsMatched first_words.Make matches command)
  no_make none (commands.Make jobs) p = none jobs p.numbered.0
  no_make none command p = let bad = p.begins in cc

  pub no_trial : ((jobs : ℕ) → ¬ (GivesNumber matches (jobs_number jobs))) → (command : Command) → ¬ (IsMatched first_words.Trial matches command)
  no_trial none (commands.Trial jobs) p = none jobs p.numbered.0
  no_trial none command p = let bad = p.begins in cc

  pub no_batch : ((clients : ℕ) → ¬ (GivesNumber matches (clients_number clients))) → (command : Command) → ¬ (IsMatched first_words.Batch matches command)
  no_batch none (commands.Batch clients) p = none clients p.numbered.0
  no_batch none command p = let bad = p.begins in cc

  pub no_export_clients : ((clients : ℕ) → ¬ (GivesNumber matches (clients_number clients))) → (command : Command) → ¬ (IsMatched first_words.Export matches command)
  no_export_clients none (commands.Export clients batch) p = none clients p.numbered.0
  no_export_clients none command p = let bad = p.begins in cc

  pub no_export_batch : ((batch : ℕ) → ¬ (GivesNumber matches (batch_number batch))) → (command : Command) → ¬ (IsMatched first_words.Export matches command)
  no_export_batch none (commands.Export clients batch) p = none batch p.numbered.1.0
  no_export_batch none command p = let bad = p.begins in cc

  pub no_serve_clients : ((clients : ℕ) → ¬ (GivesNumber matches (clients_number clients))) → (command : Command) → ¬ (IsMatched first_words.Serve matches command)
  no_serve_clients none (commands.Serve clients workers) p = none clients p.numbered.0
  no_serve_clients none command p = let bad = p.begins in cc

  pub no_serve_workers : ((workers : ℕ) → ¬ (GivesNumber matches (workers_number workers))) → (command : Command) → ¬ (IsMatched first_words.Serve matches command)
  no_serve_workers none (commands.Serve clients workers) p = none workers p.numbered.1.0
  no_serve_workers none command p = let bad = p.begins in cc
