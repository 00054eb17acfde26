use Rattle.casm_text.proofs.Walking.{line_on, listed_all}
use Rattle.casm_text.proofs.Walks.{lists_statements}
use Rattle.casm_text.proofs.lister.listing.Goals as goal
use Rattle.casm_text.specs.Listings.{listing_text}
use Rattle.casm_text.specs.Lines.{statement_size}
use Rattle.casm_text.specs.Working.Rendering.{listed_at, statements_of}
use Rattle.casm_text.specs.Working.Writing.{PutsLine}
use Rattle.std.proofs.Common.{ℕ, ◌+◌, List, get_or, ap, subst, ◌∙◌, arith}
use Rattle.std.proofs.lemmas.List.{take_rest}
use Rattle.std.specs.Prelude.{string_bytes}

pub loop-at-preserved : goal.loop-at-preserved
loop-at-preserved c =
    let cut = take_rest c.as_slice-words.result.now (c.loop-at.at + 1) in
    record {
      within = omega (arith, c.in_ok-at.ensures.some);
      told = line_on c.as_slice-words.result.now (string_bytes c.loop-at.text) (string_bytes c.put_line.new.text) c.loop-at.at c.in_ok-at.field-0 c.loop-at-test.true c.in_ok-at.ensures.some.0
          (c.in_ok-at.ensures.size ∙ ap (λ (rest : List ℕ). statement_size (listed_at (get_or c.as_slice-words.result.now c.loop-at.at 0) rest)) cut) c.loop-at.invariant.told
          (subst (λ (rest : List ℕ). PutsLine (string_bytes c.loop-at.text) (string_bytes c.put_line.new.text) (listed_at (get_or c.as_slice-words.result.now c.loop-at.at 0) rest)) cut
          c.in_ok-at.ensures.line);
    }

pub returns : goal.returns
returns c = (
  statements_of c.args.code.now.words.items,
  lists_statements c.args.code.now.words.items c.args.code.now.felts,
  listed_all c.as_slice-words.result.now (string_bytes c.loop-at.text) c.loop-at.at c.loop-at-test.false c.loop-at.invariant.told
      ∙ ap (λ (words : List ℕ). listing_text (statements_of words)) c.as_slice-words.ensures.value,
)
