use Rattle.casm_text.proofs.Fitting.{one_fits, two_fit}
use Rattle.casm_text.proofs.Tokenizing.{and_both}
use Rattle.casm_text.proofs.resolving.resolved.Goals as goal
use Rattle.casm_text.specs.Statements.{Cell, Source, Statement, assert, is_spelled, offset_spelled, source_spelled}
use Rattle.casm_text.specs.Words.{offset_fits, source_fits, statement_fits}
use Rattle.casm_text.specs.Working.Assembling.{kept_setting, offset_in}
use Rattle.casm_text.specs.Working.PlainViews.{listed_cell, listed_source, listed_statement}
use Rattle.casm_text.specs.Working.Resolving.{resolved_cell, resolved_source, resolved_statement, where_fits}
use Rattle.casm_text.specs.Working.Views.{cell_view, source_view, statement_view}
use Rattle.casm_text.specs.declared.syntax.Statement.{Statement as CodeStatement}
use Rattle.std.proofs.Common.{◌≡◌, ℕ, true, List, Option, Some, None, ap, sym, subst, ◌∙◌}
use Rattle.std.specs.Prelude.{option_map}

-- the statement fits as this, or doesn't
abbrev IsResolved : (List ℕ → ℕ) → ℕ → Option Statement → CodeStatement → Type 0
IsResolved offset_of at plain s = plain ≡ where_fits (statement_fits (statement_view s)) (resolved_statement offset_of at (statement_view s))

pub source-requires : goal.source-requires
source-requires c =
    (and_both (offset_spelled (cell_view c.in-Assert.dst).offset) (source_spelled (source_view c.in-Assert.right)) (subst (λ (s : CodeStatement). is_spelled (statement_view s) ≡ true) c.in-Assert.is c.requires)).1

pub returns-in_err-right-in-Assert : goal.returns-in_err-right-in-Assert
returns-in_err-right-in-Assert c =
    ap (option_map listed_statement) c.from_residual-in_err-right-in-Assert.ensures
    ∙ subst (IsResolved (λ name. offset_in (kept_setting c.args.labels.now name)) c.args.at.number None) (sym c.in-Assert.is)
    (one_fits (λ (cell : Cell) (s : Source). assert cell s c.in-Assert.step) (offset_fits (cell_view c.in-Assert.dst).offset) (source_fits (source_view c.in-Assert.right)) (resolved_cell (cell_view c.in-Assert.dst)) (listed_cell c.in_ok-dst-in-Assert.dst) (resolved_source (source_view c.in-Assert.right))
    c.in_ok-dst-in-Assert.ensures c.in_err-right-in-Assert.ensures)

pub returns-in_ok-right-in-Assert : goal.returns-in_ok-right-in-Assert
returns-in_ok-right-in-Assert c =
    subst (IsResolved (λ name. offset_in (kept_setting c.args.labels.now name)) c.args.at.number (Some (assert (listed_cell c.in_ok-dst-in-Assert.dst) (listed_source c.in_ok-right-in-Assert.right) c.in-Assert.step))) (sym c.in-Assert.is)
    (two_fit (λ (cell : Cell) (s : Source). assert cell s c.in-Assert.step) (offset_fits (cell_view c.in-Assert.dst).offset) (source_fits (source_view c.in-Assert.right)) (resolved_cell (cell_view c.in-Assert.dst)) (listed_cell c.in_ok-dst-in-Assert.dst) (resolved_source (source_view c.in-Assert.right)) (listed_source c.in_ok-right-in-Assert.right)
    c.in_ok-dst-in-Assert.ensures c.in_ok-right-in-Assert.ensures)
