-- What a command answers.
use Rattle.std.specs.Prelude.{ℕ, List}

-- the exit status, and the text that is written
pub record ReplyRecord : Type 0 where
  pub status : ℕ
  pub text : List ℕ
