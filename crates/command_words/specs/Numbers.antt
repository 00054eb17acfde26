-- Words that are numbers.
use Rattle.std.specs.Prelude.{ℕ, ◌≡◌, ◌≤◌, List, length}
use Rattle.std.specs.Str.Parse.{IsNumeral, digits_value}
use Rattle.command_words.specs.Limits.{most_digits}

-- The word is this number, from `least` to `most`: one to ten decimal digits, with or without zeros before them.
pub record IsNumberIn (least most : ℕ) (word : List ℕ) (number : ℕ) : Type 0 where
  pub digits : IsNumeral 10 word
  pub short : length word ≤ most_digits
  pub value : number ≡ digits_value 10 word
  pub above : least ≤ number
  pub below : number ≤ most
