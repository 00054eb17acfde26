use mir.Facts.{to_z-of_z}
use mir.Syntax.{w16}
use mir.Val.{SFits}
use Rattle.casm_text.proofs.Putting.{puts_double}
use Rattle.casm_text.proofs.writing.put_source.Goals as goal
use Rattle.casm_text.specs.Statements.{double, source_then}
use Rattle.casm_text.specs.Working.PlainViews.{listed_cell, listed_source}
use Rattle.casm_text.specs.Working.Rendering.{plain_offset}
use Rattle.casm_text.specs.Working.Writing.{Puts}
use Rattle.casm_text.specs.declared.plain.PlainSource.{PlainSource}
use Rattle.std.proofs.Common.{ℤ, rules, subst, sym}
use Rattle.std.specs.Prelude.{string_bytes}

pub returns-in_ok-push_str-in-Double-2 : goal.returns-in_ok-push_str-in-Double-2
returns-in_ok-push_str-in-Double-2 c =
    let fits : SFits w16 c.in-Double.offset = search rules in
    subst (λ (s : PlainSource). Puts (string_bytes c.args.text.now) (string_bytes c.push_str-in-Double.new.self) (source_then (listed_source s))) (sym c.in-Double.is)
    (subst (λ (k : ℤ). Puts (string_bytes c.args.text.now) (string_bytes c.push_str-in-Double.new.self) (source_then (double (listed_cell c.in-Double.cell) (plain_offset k)))) (to_z-of_z fits)
    (puts_double _ _ _ _ _ _ _ c.in_ok-push_str-in-Double.ensures.bytes c.in_ok-put_cell-in-Double.ensures c.in_ok-put_offset-in-Double.ensures c.in_ok-push_str-in-Double-2.ensures.bytes))
