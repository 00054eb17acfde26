use Rattle.std.proofs.Common.{rules}
use Rattle.relocator.proofs.Spelling.{has_spelling}
use Rattle.relocator.proofs.lone_certificate.lone_cert.Goals as goal

pub invariant_of-result : goal.invariant_of-result
invariant_of-result c = has_spelling c.args.checked.now _ c.states-run.ensures.accepted (search rules)

pub returns-clause-certificate : goal.returns-clause-certificate
returns-clause-certificate c = search rules

pub returns-clause-accepted : goal.returns-clause-accepted
returns-clause-accepted c = c.lone_certificates_hold.ensures c.args.checked.now _ c.states-run.ensures.accepted (returns-clause-certificate c)
