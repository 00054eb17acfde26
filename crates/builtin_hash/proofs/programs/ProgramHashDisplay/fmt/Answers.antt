use Rattle.std.proofs.lemmas.Str.{IsUtf8-from_ascii}
use Rattle.builtin_hash.specs.Programs.{hash_text}
use Rattle.builtin_hash.proofs.ProgramLemmas.{IsAscii-hash_text}
use Rattle.builtin_hash.proofs.programs.ProgramHashDisplay.fmt.Goals as goal

pub unreachable-requires : goal.unreachable-requires
unreachable-requires g c =
    let words = c.args.self.now.words in
    c.in_default.ensures.cases.0
    (rw c.digits-digits.ensures (IsUtf8-from_ascii (hash_text words) (IsAscii-hash_text words)))
