use Rattle.std.proofs.Common.{Ok, Err, sym, ap, ◌∙◌}
use Rattle.cairo_model.specs.declared.end.End.TheVariants.{Refused}
use Rattle.cert_format.specs.Feeding.{rest_of}
use Rattle.cert_format.specs.Working.DraftViews.{partial}
use Rattle.cert_format.specs.Working.Passing.{reader_with}
use Rattle.cert_format.proofs.CertLaws.{cert_takes, none_is_refused}
use Rattle.cert_format.proofs.CauseLaws.{is_first}
use Rattle.cert_format.proofs.EndLaws.{keeps_certificate, fed_answer}
use Rattle.cert_format.proofs.reader.CertReader.finish.Goals as goal

pub answer_of-requires-clause-keeps : goal.answer_of-requires-clause-keeps
answer_of-requires-clause-keeps c d e =
    keeps_certificate (reader_with c.self.inside.failed (partial c.self.inside.partial) c.self.inside.carry) (c.self.invariant c.if-self.false) d (ap (rest_of (partial c.self.inside.partial)) (sym c.as_slice.ensures) ∙ e)

pub returns-in-Ok-clause-sound : goal.returns-in-Ok-clause-sound
returns-in-Ok-clause-sound c fed h =
    let r = reader_with c.self.inside.failed (partial c.self.inside.partial) c.self.inside.carry in
    let a = fed_answer r c.args.self c.as_slice.result.now fed (Ok c.in-Ok.cert) c.self.view_is c.as_slice.ensures c.in-Ok.ensures h in
    cert_takes fed c.in-Ok.cert a.are_bytes a.is

pub returns-in-Err-clause-refused : goal.returns-in-Err-clause-refused
returns-in-Err-clause-refused c e same fed h =
    let r = reader_with c.self.inside.failed (partial c.self.inside.partial) c.self.inside.carry in
    let a = fed_answer r c.args.self c.as_slice.result.now fed (Err c.in-Err.refusal) c.self.view_is c.as_slice.ensures c.in-Err.ensures h in
    is_first fed (Err (Refused c.in-Err.refusal)) a.are_bytes a.is e same

pub returns-in-Err-clause-only : goal.returns-in-Err-clause-only
returns-in-Err-clause-only c e same fed h =
    let r = reader_with c.self.inside.failed (partial c.self.inside.partial) c.self.inside.carry in
    let a = fed_answer r c.args.self c.as_slice.result.now fed (Err c.in-Err.refusal) c.self.view_is c.as_slice.ensures c.in-Err.ensures h in
    none_is_refused fed (Err (Refused c.in-Err.refusal)) a.is e same
