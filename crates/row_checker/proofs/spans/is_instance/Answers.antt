use Rattle.std.proofs.Common.{slice_index}
use Rattle.row_checker.proofs.Groups.{are_instance}
use Rattle.row_checker.proofs.spans.is_instance.Goals as goal

pub returns-in-Some : goal.returns-in-Some
returns-in-Some c = (
  λ is. record { numbers = c.in-Some.numbers; holds = c.in-Some.ensures.some; is_instance = c.check_instance.ensures.0 is },
  λ has. c.check_instance.ensures.1 (are_instance c.args.cells.now c.args.address c.in-Some.numbers c.in-Some.ensures.twenty c.in-Some.ensures.some has),
)

pub returns-in-None : goal.returns-in-None
returns-in-None c = (λ never. absurd (cc), λ has. absurd (c.in-None.ensures.none (λ k lt. (slice_index has.numbers k, has.holds k lt))))
