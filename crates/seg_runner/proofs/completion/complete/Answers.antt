use Rattle.std.proofs.Common.{◌≡◌, suc, ◌+◌, ◌-◌, sym, ap, ◌∙◌, arith, rules}
use Rattle.seg_runner.specs.Endings.{with_instances}
use Rattle.seg_runner.specs.Views.{run_cause}
use Rattle.seg_runner.specs.Working.Seen.{growing}
use Rattle.seg_runner.proofs.Turns.{instances_done, instances_on, instances_refused}
use Rattle.seg_runner.proofs.completion.complete.Goals as goal

pub loop-index-preserved : goal.loop-index-preserved
loop-index-preserved c =
    let i = c.loop-index.index in
    let count = c.begun_instances-count.result in
    let left : count - i ≡ suc (count - (i + 1)) = omega arith in
    record {
      sizes = c.in_ok-put_outputs.ensures.keeps;
      on = sym (instances_on c.args.steps (growing c.loop-index.memory) (growing c.put_outputs.new.memory) i (count - i) (count - (i + 1)) left c.in_ok-put_outputs.ensures.ok) ∙ c.loop-index.invariant.on;
    }

pub returns-in_err-put_outputs : goal.returns-in_err-put_outputs
returns-in_err-put_outputs c = record {
  ok = search rules;
  keeps = search rules;
  refused = λ e same.
      let i = c.loop-index.index in
      let count = c.begun_instances-count.result in
      let left : count - i ≡ suc (count - (i + 1)) = omega arith in
      ap (with_instances c.args.steps (growing c.args.memory.now) 0) (sym c.begun_instances-count.ensures.value)
      ∙ sym c.loop-index.invariant.on
      ∙ instances_refused c.args.steps (growing c.loop-index.memory) (run_cause e) i (count - i) (count - (i + 1)) left (c.in_err-put_outputs.ensures.refused e (search rules));
}

pub returns : goal.returns
returns c =
    let i = c.loop-index.index in
    let count = c.begun_instances-count.result in
    let done : count - i ≡ 0 = omega arith in
    record {
      ok = ap (with_instances c.args.steps (growing c.args.memory.now) 0) (sym c.begun_instances-count.ensures.value) ∙ sym c.loop-index.invariant.on ∙ instances_done c.args.steps (growing c.loop-index.memory) i (count - i) done;
      keeps = c.loop-index.invariant.sizes;
      refused = λ e same. absurd (cc);
    }
