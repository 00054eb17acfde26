-- What the words after the first are found to ask for.
use Rattle.std.specs.Prelude.{◌≡◌, List, Option, IfNone, IfSome}
use Rattle.clap.specs.Walk.{Row, Text}
use Rattle.command_words.specs.Readings.{GiveNumbers}
use Rattle.command_words.specs.Words.{IsReadBy, wording_of}
use Rattle.command_words.specs.Working.FirstWords.{app_after, first_word_of}
use Rattle.command_words.specs.declared.command.Command.{Command}
use Rattle.command_words.specs.declared.first_word.FirstWord.{FirstWord}

-- the command begins with this word, and the matches give its numbers
pub record IsMatched (first : FirstWord) (matches : List Row) (command : Command) : Type 0 where
  pub begins : first_word_of command ≡ first
  pub numbered : GiveNumbers matches (wording_of command).numbers

-- the command that the matches give, where they give one
pub record IsAnyMatched (first : FirstWord) (matches : List Row) (found : Option Command) : Type 0 where
  pub some : IfSome found (IsMatched first matches)
  pub none : IfNone found ((command : Command) → ¬ IsMatched first matches command)

-- the command begins with this word, and these words after the first ask for it
pub record IsAsked (first : FirstWord) (others : List Text) (command : Command) : Type 0 where
  pub begins : first_word_of command ≡ first
  pub read : IsReadBy (app_after first) (wording_of command).numbers others

-- the command that they ask for, where they ask for one
pub record IsAnyAsked (first : FirstWord) (others : List Text) (found : Option Command) : Type 0 where
  pub some : IfSome found (IsAsked first others)
  pub none : IfNone found ((command : Command) → ¬ IsAsked first others command)
