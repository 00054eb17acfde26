use Rattle.std.proofs.Common.{◌≡◌, suc, ◌+◌, ◌-◌, Some, Err, sym, ap, ◌∙◌, arith, rules}
use Rattle.cairo_model.specs.Machine.Values.{Datum, place}
use Rattle.seg_runner.specs.Hashes.{output_word}
use Rattle.seg_runner.specs.Memories.{put_where_absent}
use Rattle.seg_runner.specs.Views.{run_cause}
use Rattle.seg_runner.specs.Working.Seen.{growing}
use Rattle.seg_runner.proofs.Turns.{words_done, words_on, words_refused}
use Rattle.seg_runner.proofs.completion.put_words.Goals as goal

pub loop-k-preserved : goal.loop-k-preserved
loop-k-preserved c =
    let k = c.loop-k.k in
    let m = growing c.loop-k.memory in
    let left : 8 - k ≡ suc (8 - (k + 1)) = omega arith in
    let put = ap (λ (v : Datum). put_where_absent c.args.steps m (place 4 (c.args.start + k)) (Some v)) (sym c.output_word.ensures) ∙ c.in_ok-put_where_absent.ensures.ok in
    record {
      sizes = c.in_ok-put_where_absent.ensures.keeps;
      on = sym (words_on c.args.steps m (growing c.put_where_absent.new.memory) c.args.start c.args.words.now k (8 - k) (8 - (k + 1)) left put) ∙ c.loop-k.invariant.on;
    }

pub returns-in_err-put_where_absent : goal.returns-in_err-put_where_absent
returns-in_err-put_where_absent c = record {
  ok = search rules;
  keeps = search rules;
  refused = λ e same.
      let k = c.loop-k.k in
      let m = growing c.loop-k.memory in
      let left : 8 - k ≡ suc (8 - (k + 1)) = omega arith in
      let put : put_where_absent c.args.steps m (place 4 (c.args.start + k)) (Some (output_word c.args.words.now k)) ≡ Err (run_cause e) =
      ap (λ (v : Datum). put_where_absent c.args.steps m (place 4 (c.args.start + k)) (Some v)) (sym c.output_word.ensures) ∙ c.in_err-put_where_absent.ensures.refused e (search rules) in
      sym c.loop-k.invariant.on ∙ words_refused c.args.steps m (run_cause e) c.args.start c.args.words.now k (8 - k) (8 - (k + 1)) left put;
}

pub returns : goal.returns
returns c =
    let done : 8 - c.loop-k.k ≡ 0 = omega arith in
    record {
      ok = sym c.loop-k.invariant.on ∙ words_done c.args.steps (growing c.loop-k.memory) c.args.start c.args.words.now c.loop-k.k (8 - c.loop-k.k) done;
      keeps = c.loop-k.invariant.sizes;
      refused = λ e same. absurd (cc);
    }
