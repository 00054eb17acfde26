use Rattle.std.proofs.Common.{◌≡◌, ℕ, ◌+◌, List, [], ◌∷◌, ◌++◌, map, take, sym, ap, ◌∙◌, subst}
use Rattle.std.proofs.lemmas.List.{map-append, take_more}
use Rattle.desk_script.specs.Lines.{ScriptLine}
use Rattle.desk_script.specs.Views.{line_view}
use Rattle.desk_script.specs.declared.line.Line.{Line}
use Rattle.script_runner.specs.Lines.{client_lines}
use Rattle.script_server.specs.Working.PassLines.{PassDoesLines}
use Rattle.script_server.proofs.Closes.{same_itself, same_then}
use Rattle.script_server.proofs.LineTurns.{next_line, no_lines}
use Rattle.script_server.proofs.lines.do_lines.Goals as goal

pub loop-line-init : goal.loop-line-init
loop-line-init g c = (same_itself c.args.pass.now, no_lines c.args.pass.now c.requires.idle)

pub loop-line-preserved : goal.loop-line-preserved
loop-line-preserved g c =
    let was = c.loop-line.invariant in
    let lines = c.args.lines.now in
    let i = c.loop-line.line-index in
    let l = c.line-item.result in
    let n = c.args.pass.now.number in
    let more : map line_view (take (i + 1) lines) ≡ map line_view (take i lines) ++ line_view l ∷ [] =
    ap (map line_view) (take_more lines i l c.loop-line-test.true ∙ ap (λ (x : Line). take i lines ++ x ∷ []) (sym c.line-item.is)) ∙ map-append line_view (take i lines) (l ∷ []) in
    let did : PassDoesLines (client_lines n (line_view l ∷ [])) c.loop-line.pass c.do_if_own.new.pass =
    subst (λ (k : ℕ). PassDoesLines (client_lines k (line_view l ∷ [])) c.loop-line.pass c.do_if_own.new.pass) was.0.number c.in_ok-do_if_own.ensures.did in (
      same_then c.args.pass.now c.loop-line.pass c.do_if_own.new.pass was.0 c.in_ok-do_if_own.ensures.same,
      subst (λ (ls : List ScriptLine). PassDoesLines (client_lines n ls) c.args.pass.now c.do_if_own.new.pass) (sym more)
          (next_line n (map line_view (take i lines)) (line_view l) c.args.pass.now c.loop-line.pass c.do_if_own.new.pass was.1 did),
    )
