use Rattle.std.proofs.Common.{◌≡◌, ◌<◌, ℕ, List, map, refl, rules, ap, subst}
use Rattle.std.specs.Prelude.{All}
use Rattle.std.proofs.lemmas.List.Elements.{All-map}
use Rattle.desk_core.specs.DeskRecords.{DeskRecord}
use Rattle.desk_core.specs.Journals.{no_pie}
use Rattle.desk_core.specs.declared.event.Event.TheVariants.{Close}
use Rattle.desk_script.specs.Lines.{ScriptLine}
use Rattle.desk_script.specs.Views.{line_view}
use Rattle.desk_script.specs.declared.line.Line.{Line}
use Rattle.script_runner.specs.Lines.{line_client}
use Rattle.script_runner.specs.Working.Doing.{DidLines}
use Rattle.script_runner.proofs.DeskSteps.{free_after}
use Rattle.script_runner.proofs.WholeRuns.{whole_run}
use Rattle.script_runner.proofs.running.run_script.Goals as goal

-- closing takes no batch
pub settle-requires-clause-free : goal.settle-requires-clause-free
settle-requires-clause-free g c = λ κs lives.
    free_after c.do_lines.new.desk c.close.new.self c.args.clients Close no_pie c.in_ok-close.field-0 refl c.in_ok-close.ensures.ok c.in_ok-do_lines.ensures.did.free

pub returns-clause-runs : goal.returns-clause-runs
returns-clause-runs g c =
    let these : c.as_slice.result.now ≡ c.args.script.now.lines.items = search rules in
    let lines = map line_view c.args.script.now.lines.items in
    let count : c.in_ok-desk.desk.clients ≡ c.args.clients = ap (λ (x : DeskRecord). x.clients) c.in_ok-desk.ensures in
    let all : DidLines c.in_ok-desk.desk.clients lines c.do_lines.new.desk =
    subst (λ (ls : List Line). DidLines c.in_ok-desk.desk.clients (map line_view ls) c.do_lines.new.desk) these c.in_ok-do_lines.ensures.did in
    let did : DidLines c.args.clients lines c.do_lines.new.desk = subst (λ (n : ℕ). DidLines n lines c.do_lines.new.desk) count all in
    let few : All (λ (l : ScriptLine). line_client l < c.args.clients) lines = All-map (λ (l : ScriptLine). line_client l < c.args.clients) line_view c.args.script.now.lines.items c.requires.clients in
    whole_run c.args.clients lines c.do_lines.new.desk c.close.new.self c.settle.new.desk c.in_ok-close.field-0 few did c.in_ok-close.ensures.ok c.in_ok-settle.ensures.settled c.in_ok-settle.ensures.good.1
