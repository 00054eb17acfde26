use mir.Syntax.{w16}
use mir.Val.{SFits}
use Rattle.casm_text.proofs.Fitting.{two_fit}
use Rattle.casm_text.proofs.resolving.source.Goals as goal
use Rattle.casm_text.specs.Statements.{Cell, Source, double, sum, product}
use Rattle.casm_text.specs.Words.{offset_fits, offset_value, operand_fits, source_fits}
use Rattle.casm_text.specs.Working.Rendering.{plain_offset}
use Rattle.casm_text.specs.Working.PlainViews.{listed_cell, listed_operand}
use Rattle.casm_text.specs.Working.Resolving.{resolved_cell, resolved_operand, resolved_source, where_fits}
use Rattle.casm_text.specs.Working.Views.{cell_view, offset_view, operand_view, source_view}
use Rattle.casm_text.specs.declared.syntax.Source.{Source as CodeSource}
use Rattle.std.proofs.Common.{◌≡◌, ℤ, Some, ap, sym, subst, ◌∙◌, rules, to_z-of_z}

-- the source fits as this
abbrev IsResolved : Source → CodeSource → Type 0
IsResolved plain s = Some plain ≡ where_fits (source_fits (source_view s)) (resolved_source (source_view s))

pub returns-in_ok-x-in-Sum : goal.returns-in_ok-x-in-Sum
returns-in_ok-x-in-Sum c =
    subst (IsResolved (sum (listed_cell c.in_ok-c-in-Sum.c) (listed_operand c.in_ok-x-in-Sum.x))) (sym c.in-Sum.is)
    (two_fit sum (offset_fits (cell_view c.in-Sum.c).offset) (operand_fits (operand_view c.in-Sum.x)) (resolved_cell (cell_view c.in-Sum.c)) (listed_cell c.in_ok-c-in-Sum.c) (resolved_operand (operand_view c.in-Sum.x)) (listed_operand c.in_ok-x-in-Sum.x)
    c.in_ok-c-in-Sum.ensures c.in_ok-x-in-Sum.ensures)

pub returns-in_ok-x-in-Product : goal.returns-in_ok-x-in-Product
returns-in_ok-x-in-Product c =
    subst (IsResolved (product (listed_cell c.in_ok-c-in-Product.c) (listed_operand c.in_ok-x-in-Product.x))) (sym c.in-Product.is)
    (two_fit product (offset_fits (cell_view c.in-Product.c).offset) (operand_fits (operand_view c.in-Product.x)) (resolved_cell (cell_view c.in-Product.c)) (listed_cell c.in_ok-c-in-Product.c) (resolved_operand (operand_view c.in-Product.x)) (listed_operand c.in_ok-x-in-Product.x)
    c.in_ok-c-in-Product.ensures c.in_ok-x-in-Product.ensures)

pub returns-in_ok-k-in-Double : goal.returns-in_ok-k-in-Double
returns-in_ok-k-in-Double c =
    let fits : SFits w16 c.in_ok-k-in-Double.k = search rules in
    ap (λ (k : ℤ). Some (double (listed_cell c.in_ok-c-in-Double.c) (plain_offset k))) (to_z-of_z fits)
    ∙ subst (IsResolved (double (listed_cell c.in_ok-c-in-Double.c) (plain_offset c.in_ok-k-in-Double.k))) (sym c.in-Double.is)
    (two_fit (λ (cell : Cell) (k : ℤ). double cell (plain_offset k)) (offset_fits (cell_view c.in-Double.c).offset) (offset_fits (offset_view c.in-Double.k)) (resolved_cell (cell_view c.in-Double.c)) (listed_cell c.in_ok-c-in-Double.c) (offset_value (offset_view c.in-Double.k)) c.in_ok-k-in-Double.k
    c.in_ok-c-in-Double.ensures c.in_ok-k-in-Double.ensures)
