use Rattle.std.proofs.Common.{◌≡◌, ◌+◌, List, [], ◌∷◌, ◌++◌, map, take, sym, ap, ◌∙◌, subst}
use Rattle.std.proofs.lemmas.List.{map-append, take_more}
use Rattle.desk_script.specs.Lines.{ScriptLine}
use Rattle.desk_script.specs.Views.{line_view}
use Rattle.desk_script.specs.declared.line.Line.{Line}
use Rattle.script_runner.specs.Working.Doing.{DidLines}
use Rattle.script_runner.proofs.InTurn.{one_line_more}
use Rattle.script_runner.proofs.doing.do_lines.Goals as goal

pub loop-line-preserved : goal.loop-line-preserved
loop-line-preserved g c =
    let lines = c.args.lines.now in
    let i = c.loop-line.line-index in
    let l = c.line-item.result in
    let more : map line_view (take (i + 1) lines) ≡ map line_view (take i lines) ++ line_view l ∷ [] =
    ap (map line_view) (take_more lines i l c.loop-line-test.true ∙ ap (λ (x : Line). take i lines ++ x ∷ []) (sym c.line-item.is)) ∙ map-append line_view (take i lines) (l ∷ []) in
    subst (λ (ls : List ScriptLine). DidLines c.args.desk.now.clients ls c.do_line.new.desk) (sym more)
    (one_line_more c.args.desk.now.clients (map line_view (take i lines)) (line_view l) c.loop-line.desk c.do_line.new.desk c.loop-line.invariant c.in_ok-do_line.ensures.did c.in_ok-do_line.ensures.good.1)
