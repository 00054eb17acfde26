use Rattle.desk_script.proofs.Hashes.{hash_known}
use Rattle.desk_script.proofs.lines.hash_of.Goals as goal

pub returns : goal.returns
returns c = hash_known (λ hash. hash.words) c.args.digits.now c.from_digits.result c.from_digits.ensures.found c.from_digits.ensures.value
