use Rattle.std.proofs.Common.{rules, ◌≡◌, ℕ, List, sym, subst}
use Rattle.desk_script.specs.Views.{line_view}
use Rattle.desk_script.specs.declared.line.Line.{Line}
use Rattle.script_runner.specs.Lines.{line_client}
use Rattle.script_server.specs.Working.PassLines.{PassDoesLine}
use Rattle.session_desk.specs.Offers.{OffersBytes}
use Rattle.script_server.proofs.LineTurns.{did_ask, did_status, did_submit}
use Rattle.script_server.proofs.lines.do_line.Goals as goal

pub returns-in_ok-submit-in-Submit-clause-did : goal.returns-in_ok-submit-in-Submit-clause-did
returns-in_ok-submit-in-Submit-clause-did g c =
    let these : c.as_slice.result.now ≡ c.in-Submit.bytes.items = search rules in
    let of_bytes = subst (λ (bytes : List ℕ). OffersBytes bytes c.in_ok-offer-in-Submit.offer) these c.in_ok-offer-in-Submit.ensures in
    let own = subst (λ (l : Line). line_client (line_view l) ≡ c.args.pass.now.number) c.in-Submit.is c.requires.client in
    subst (λ (l : Line). PassDoesLine (line_view l) c.args.pass.now c.submit.new.pass) (sym c.in-Submit.is)
    (did_submit c.in-Submit.client c.in-Submit.bytes.items c.in_ok-offer-in-Submit.offer c.args.pass.now c.submit.new.pass c.in_ok-submit-in-Submit.field-0 of_bytes own c.in_ok-submit-in-Submit.ensures.mine c.requires.idle)

pub returns-in_ok-ask-in-Ask-clause-did : goal.returns-in_ok-ask-in-Ask-clause-did
returns-in_ok-ask-in-Ask-clause-did g c =
    let own = subst (λ (l : Line). line_client (line_view l) ≡ c.args.pass.now.number) c.in-Ask.is c.requires.client in
    subst (λ (l : Line). PassDoesLine (line_view l) c.args.pass.now c.ask.new.pass) (sym c.in-Ask.is)
    (did_ask c.in-Ask.client c.in-Ask.fact c.args.pass.now c.ask.new.pass c.in_ok-ask-in-Ask.field-0 own c.in_ok-ask-in-Ask.ensures.mine c.requires.idle)

pub returns-in_ok-status-in-Status-clause-did : goal.returns-in_ok-status-in-Status-clause-did
returns-in_ok-status-in-Status-clause-did g c =
    let own = subst (λ (l : Line). line_client (line_view l) ≡ c.args.pass.now.number) c.in-Status.is c.requires.client in
    subst (λ (l : Line). PassDoesLine (line_view l) c.args.pass.now c.status.new.pass) (sym c.in-Status.is)
    (did_status c.in-Status.client c.in-Status.number c.args.pass.now c.status.new.pass c.in_ok-status-in-Status.field-0 own c.in_ok-status-in-Status.ensures.mine c.requires.idle)
