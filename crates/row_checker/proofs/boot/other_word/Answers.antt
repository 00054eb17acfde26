use Rattle.std.proofs.Common.{◌<◌, length, below_more, rules, arith}
use Rattle.boot_program.specs.Words.{boot_words}
use Rattle.cairo_model.specs.Machine.FieldMemories.{cell_at}
use Rattle.row_checker.proofs.Booting.{before_word, other_there, whole_boot}
use Rattle.row_checker.proofs.boot.other_word.Goals as goal

pub loop-index-preserved : goal.loop-index-preserved
loop-index-preserved c = below_more _ _ c.loop-index.invariant (c.has_word.ensures.0 c.if-not-has_word.false)

pub returns-then-not-has_word-clause-some : goal.returns-then-not-has_word-clause-some
returns-then-not-has_word-clause-some c =
    let m = cell_at c.args.cells.now in
    let inside : c.loop-index.index < length boot_words = search rules in
    record {
      inside = (omega arith, omega (arith, inside, c.boot_constants.ensures.end));
      fails = other_there m c.loop-index.index inside (λ holds. absurd (let is = c.has_word.ensures.1 holds in search rules));
      before = before_word m c.loop-index.index c.loop-index.invariant;
    }

pub returns-clause-none : goal.returns-clause-none
returns-clause-none c = whole_boot (cell_at c.args.cells.now) (λ k lt. c.loop-index.invariant k (search rules))
