use Rattle.batch_workers.proofs.Returning.{back_works}
use Rattle.batch_workers.proofs.RoundEnds.{refused_as, rejected_so}
use Rattle.cairo_model.specs.declared.end.End.TheVariants as end
use Rattle.batch_workers.proofs.working.not_certified.Goals as goal

pub returns-in-OutOfMemory-clause-done : goal.returns-in-OutOfMemory-clause-done
returns-in-OutOfMemory-clause-done c = λ pies h. back_works c.args.pass c.args.batch pies c.args.desk.now c.handed_back-back.new.desk c.handed_back-back.result (c.handed_back-back.ensures.back pies h)

pub returns-in-Refused-clause-done : goal.returns-in-Refused-clause-done
returns-in-Refused-clause-done c = λ pies h.
    refused_as c.args.pass c.args.batch pies c.args.desk.now c.handed_back-back.new.desk c.args.end (end.Refused c.in-Refused.fault) c.rejected.result c.in-Refused.is
    (rejected_so c.args.pass c.args.batch pies c.args.desk.now c.handed_back-back.new.desk c.handed_back-back.result c.in-Refused.fault c.rejected.result (c.handed_back-back.ensures.back pies h) c.rejected.ensures)
