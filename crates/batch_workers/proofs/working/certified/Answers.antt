use Rattle.boot_program.specs.Faults.Records.{fault_cause}
use Rattle.batch_workers.proofs.working.certified.Goals as goal

pub returns-in-Ok-clause-faulty : goal.returns-in-Ok-clause-faulty
returns-in-Ok-clause-faulty g c = λ e same.
    let first = c.certify.ensures.refused e same in
    record {
      cert = c.in-Ok.cert;
      gives = c.in-Ok.ensures.gives;
      fails = first;
      not_honest = λ honest. c.certified_has_no_fault.ensures c.in-Ok.cert c.args.parcel.tasks (c.in-Ok.ensures.accepted honest) (c.in-Ok.ensures.stand honest) (fault_cause e) first.applies;
    }
