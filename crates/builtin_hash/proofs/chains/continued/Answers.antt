use Rattle.std.proofs.Common.{◌∙◌, arith, ap₂, sym}
use Rattle.builtin_hash.specs.Instances.{instance_of}
use Rattle.builtin_hash.proofs.ChainLemmas.{words_after-more, words_after-all}
use Rattle.builtin_hash.proofs.chains.continued.Goals as goal

pub loop-k-preserved : goal.loop-k-preserved
loop-k-preserved c =
    c.instance-next.ensures ∙ ap₂ instance_of c.loop-k.invariant c.group.ensures
    ∙ sym (words_after-more c.args.start c.args.list.now c.loop-k.k (omega arith))

pub returns : goal.returns
returns c = c.loop-k.invariant ∙ words_after-all c.args.start c.args.list.now c.loop-k.k (omega arith)
