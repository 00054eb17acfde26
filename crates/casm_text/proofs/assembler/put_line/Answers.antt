use Rattle.casm_text.proofs.RangesOfLines.{ends_within}
use Rattle.casm_text.proofs.ResolvedWords.{line_puts}
use Rattle.casm_text.proofs.assembler.put_line.Goals as goal
use Rattle.casm_text.specs.Working.Assembling.{LineAdds, kept_setting, offset_in, range_good}
use Rattle.casm_text.specs.Working.PlainViews.{listed_statement}
use Rattle.casm_text.specs.Working.Views.{line_view, statement_view}
use Rattle.casm_text.specs.declared.syntax.Line.{Line as CodeLine}
use Rattle.std.proofs.Common.{◌≡◌, nat_le, length, sym, subst, rules}

pub returns-clause-good : goal.returns-clause-good
returns-clause-good c =
    let there : c.felt_below-at.result.number ≡ length c.args.words.now.items = search rules in
    let puts = line_puts (λ name. offset_in (kept_setting c.args.labels.now name)) c.felt_below-at.result.number (statement_view c.in-Statement.statement) (listed_statement c.in-Some.statement) c.args.words.now.items c.put_words.new.words.items
    c.in-Some.ensures there c.in_ok-put_words.ensures in
    let end : c.len-2.result ≡ length c.put_words.new.words.items = search rules in
    subst (λ (line : CodeLine). nat_le c.len-2.result 65536 ≡ range_good (length c.args.words.now.items) (line_view line)) (sym c.in-Statement.is)
    (ends_within (λ name. offset_in (kept_setting c.args.labels.now name)) (statement_view c.in-Statement.statement) c.args.words.now.items c.put_words.new.words.items c.len-2.result end puts.0 puts.1)

pub returns-clause-words : goal.returns-clause-words
returns-clause-words c =
    λ same.
    let there : c.felt_below-at.result.number ≡ length c.args.words.now.items = search rules in
    let puts = line_puts (λ name. offset_in (kept_setting c.args.labels.now name)) c.felt_below-at.result.number (statement_view c.in-Statement.statement) (listed_statement c.in-Some.statement) c.args.words.now.items c.put_words.new.words.items
    c.in-Some.ensures there c.in_ok-put_words.ensures in
    subst (λ (line : CodeLine). LineAdds (λ name. offset_in (kept_setting c.args.labels.now name)) (line_view line) c.args.words.now.items c.put_words.new.words.items) (sym c.in-Statement.is) puts.1
