use Rattle.std.proofs.Common.{Result, Err, refl, sym, ap, subst, ◌∙◌}
use Rattle.cairo_model.specs.Certificate.Records.{CertRecord}
use Rattle.cert_format.specs.declared.refusal.CertRefusal.{CertRefusal}
use Rattle.cert_format.specs.Working.Answers.{Tells}
use Rattle.cert_format.specs.Working.DraftViews.{partial}
use Rattle.cert_format.proofs.EndLaws.{front_ends, foreign_ends, end_at, truncated, body_of}
use Rattle.cert_format.proofs.answer.answer_of.Goals as goal

pub answer_at_end-requires : goal.answer_at_end-requires
answer_at_end-requires c = record { keeps = λ d e. c.requires.keeps d (end_at (partial c.args.partial) c.args.carry.now c.in-End.start c.in-End.is c.requires.waiting ∙ e) }

pub returns-in-Front : goal.returns-in-Front
returns-in-Front c = front_ends (partial c.args.partial) c.args.carry.now c.in-Front.is c.requires.waiting ∙ ap Err (sym c.front_refusal.ensures)

pub returns-in-Foreign : goal.returns-in-Foreign
returns-in-Foreign c = foreign_ends (partial c.args.partial) c.args.carry.now c.in-Foreign.is

pub returns-in-End : goal.returns-in-End
returns-in-End c =
    subst (λ (given : Result CertRecord CertRefusal). Tells (λ (d : CertRecord). d) c.answer_at_end.result given)
    (sym (end_at (partial c.args.partial) c.args.carry.now c.in-End.start c.in-End.is c.requires.waiting)) c.answer_at_end.ensures

pub returns-in_default : goal.returns-in_default
returns-in_default c =
    truncated c.args.partial.stage (partial c.args.partial) c.args.carry.now (body_of c.args.partial.stage c.in_default.not-Front c.in_default.not-Foreign c.in_default.not-End) refl c.requires.waiting
