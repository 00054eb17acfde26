-- `make`: the script of so many jobs. The answer is the same to every input.
use Rattle.std.specs.Prelude.{◌≡◌, ℕ}
use Rattle.work_maker.specs.Generator.{script_of}
use Rattle.shared_prover_cli.specs.Replies.{ReplyRecord}

pub record MakeAnswer (jobs : ℕ) (reply : ReplyRecord) : Type 0 where
  pub has_status : reply.status ≡ 0
  pub has_text : reply.text ≡ script_of jobs
