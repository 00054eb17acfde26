use Rattle.boot_program.proofs.HeaderLaws as audits
use Rattle.boot_program.proofs.laws.headers_are_true.Goals as goal

pub returns : goal.returns
returns c = audits.header_true
