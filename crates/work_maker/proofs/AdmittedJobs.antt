-- What a script hands in is admitted.
use Rattle.std.proofs.Common.{◌≡◌, ℕ, ◌+◌, ◌*◌, ◌%◌, ◌<◌, ◌≤◌, Ok, lit<, arith}
use Rattle.std.proofs.Math.Nat.{mod-lt}
use Rattle.hex.specs.Hex.{decode_of}
use Rattle.hex.proofs.HexLemmas.{decode_of-encode_lower}
use Rattle.pie_format.specs.Writing.{file_of}
use Rattle.work_maker.specs.Accepted.{IsAdmittedGiving, SpellsAdmitted}
use Rattle.work_maker.specs.Down.{down_outputs, down_pie}
use Rattle.work_maker.specs.Generator.{down_digits, rounds_of_job}
use Rattle.work_maker.specs.Limits.{most_rounds, rounds_factor, rounds_shift}
use Rattle.work_maker.proofs.DownAccepted.{down_accepted}
use Rattle.work_maker.proofs.DownRules.{down_rules}
use Rattle.work_maker.proofs.Files.{file_bytes, file_is_of}

pub file_admitted : (rounds : ℕ) → 1 ≤ rounds → rounds ≤ 500 → IsAdmittedGiving (file_of (down_pie rounds)) down_outputs
file_admitted rounds some few =
    let by = down_accepted rounds some few in
    record {
      found = record { pie = down_pie rounds; fact = by.fact; states = by.states };
      verdict = (file_is_of (down_pie rounds) (down_rules rounds few) (omega arith), by.accepted);
      gives = by.gives;
    }

pub down_decodes : (rounds : ℕ) → rounds ≤ 500 → decode_of (down_digits rounds) ≡ Ok (file_of (down_pie rounds))
unfolding down_digits
down_decodes rounds few = decode_of-encode_lower (file_of (down_pie rounds)) (file_bytes (down_pie rounds) (down_rules rounds few) (omega arith))

-- the rounds of each job are from 1 to the most
pub some_rounds : (job : ℕ) → 1 ≤ rounds_of_job job
some_rounds job = omega arith

pub few_rounds : (job : ℕ) → rounds_of_job job ≤ 500
few_rounds job =
    let below : (rounds_factor * job + rounds_shift) % most_rounds < 500 = mod-lt _ (lit< tt) in
    omega (arith, below)

pub job_admitted : (job : ℕ) → SpellsAdmitted (down_digits (rounds_of_job job)) down_outputs
job_admitted job =
    let rounds = rounds_of_job job in
    record { bytes = file_of (down_pie rounds); decodes = down_decodes rounds (few_rounds job); is_admitted = file_admitted rounds (some_rounds job) (few_rounds job) }
