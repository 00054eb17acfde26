use Rattle.casm_text.proofs.KnownLines.{known_spelled}
use Rattle.casm_text.proofs.lines.known_line.Goals as goal
use Rattle.casm_text.specs.Lines.{Line}
use Rattle.casm_text.specs.Working.Assembling.{known_line, line_spelled}
use Rattle.casm_text.specs.Working.Views.{line_view}
use Rattle.std.proofs.Common.{◌≡◌, true, sym, subst, rules}

pub returns-in-Some-clause-spelled : goal.returns-in-Some-clause-spelled
returns-in-Some-clause-spelled c =
    let same : line_view c.in-Some.line ≡ known_line c.args.bytes.now = search rules in
    subst (λ (line : Line). line_spelled line ≡ true) (sym same) (known_spelled c.args.bytes.now)
