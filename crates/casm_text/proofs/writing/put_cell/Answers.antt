use mir.Facts.{to_z-of_z}
use mir.Syntax.{w16}
use mir.Val.{SFits}
use Rattle.casm_text.proofs.Putting.{puts_cell}
use Rattle.casm_text.proofs.writing.put_cell.Goals as goal
use Rattle.casm_text.specs.Statements.{cell_then}
use Rattle.casm_text.specs.Working.Rendering.{plain_cell}
use Rattle.casm_text.specs.Working.Writing.{Puts}
use Rattle.std.proofs.Common.{ℕ, ℤ, List, ◌++◌, ap, ◌∙◌, rules, subst}
use Rattle.std.specs.Prelude.{string_bytes}

pub returns : goal.returns
returns c =
    let fits : SFits w16 c.args.cell.offset = search rules in
    subst (λ (k : ℤ). Puts (string_bytes c.args.text.now) (string_bytes c.push_str-3.new.self) (cell_then (plain_cell c.args.cell.register k))) (to_z-of_z fits)
    (puts_cell _ _ _ _ _ _ _ c.in_ok-push_str.ensures.bytes (c.in_ok-push_str-2.ensures.bytes ∙ ap (λ (name : List ℕ). string_bytes c.push_str.new.self ++ name) c.register_name.ensures) c.in_ok-put_offset.ensures c.in_ok-push_str-3.ensures.bytes)
