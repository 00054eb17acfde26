-- A first word is known by its spelling.
use Rattle.std.proofs.Common.{◌≡◌, ◌+◌, ◌*◌, ℕ, true, arith, ap, get_or, refl}
use Rattle.clap.specs.Faults.{is_simple_and_free}
use Rattle.clap.specs.Simple.{is_simple}
use Rattle.clap.specs.Walk.{Text}
use Rattle.command_words.specs.Words.{wording_of}
use Rattle.command_words.specs.Working.FirstWords.{app_after, first_word_of, spelling_of}
use Rattle.command_words.specs.declared.command.Command.{Command}
use Rattle.command_words.specs.declared.command.Command.TheVariants as commands
use Rattle.command_words.specs.declared.first_word.FirstWord.{FirstWord}
use Rattle.command_words.specs.declared.first_word.FirstWord.TheVariants as first_words

-- the first two letters tell the words apart
abbrev letters : Text → ℕ
letters word = get_or word 0 0 * 256 + get_or word 1 0

pub one_first_word : (v u : FirstWord) → spelling_of v ≡ spelling_of u → v ≡ u
one_first_word first_words.Replay first_words.Replay e = refl
one_first_word first_words.Place first_words.Place e = refl
one_first_word first_words.List first_words.List e = refl
one_first_word first_words.Check first_words.Check e = refl
one_first_word first_words.Run first_words.Run e = refl
one_first_word first_words.Boot first_words.Boot e = refl
one_first_word first_words.Make first_words.Make e = refl
one_first_word first_words.Batch first_words.Batch e = refl
one_first_word first_words.Export first_words.Export e = refl
one_first_word first_words.Trial first_words.Trial e = refl
one_first_word first_words.Serve first_words.Serve e = refl
one_first_word v u e = absurd (omega (arith, ap letters e))

-- the row of a command is that of its first word
pub spelled_by_row : (command : Command) → (wording_of command).word ≡ spelling_of (first_word_of command)
spelled_by_row commands.Replay = refl
spelled_by_row commands.Place = refl
spelled_by_row commands.List = refl
spelled_by_row commands.Check = refl
spelled_by_row commands.Run = refl
spelled_by_row commands.Boot = refl
spelled_by_row (commands.Make jobs) = refl
spelled_by_row (commands.Batch clients) = refl
spelled_by_row (commands.Export clients batch) = refl
spelled_by_row (commands.Trial jobs) = refl
spelled_by_row (commands.Serve clients workers) = refl

pub read_by_row : (command : Command) → (wording_of command).app ≡ app_after (first_word_of command)
read_by_row commands.Replay = refl
read_by_row commands.Place = refl
read_by_row commands.List = refl
read_by_row commands.Check = refl
read_by_row commands.Run = refl
read_by_row commands.Boot = refl
read_by_row (commands.Make jobs) = refl
read_by_row (commands.Batch clients) = refl
read_by_row (commands.Export clients batch) = refl
read_by_row (commands.Trial jobs) = refl
read_by_row (commands.Serve clients workers) = refl

-- the words after it are read with no rule of one argument on another
pub simple_reading : (first : FirstWord) → is_simple (app_after first) ≡ true
simple_reading first_words.Replay = refl
simple_reading first_words.Place = refl
simple_reading first_words.List = refl
simple_reading first_words.Check = refl
simple_reading first_words.Run = refl
simple_reading first_words.Boot = refl
simple_reading first_words.Make = refl
simple_reading first_words.Batch = refl
simple_reading first_words.Export = refl
simple_reading first_words.Trial = refl
simple_reading first_words.Serve = refl

pub free_reading : (first : FirstWord) → is_simple_and_free (app_after first) ≡ true
free_reading first_words.Replay = refl
free_reading first_words.Place = refl
free_reading first_words.List = refl
free_reading first_words.Check = refl
free_reading first_words.Run = refl
free_reading first_words.Boot = refl
free_reading first_words.Make = refl
free_reading first_words.Batch = refl
free_reading first_words.Export = refl
free_reading first_words.Trial = refl
free_reading first_words.Serve = refl
