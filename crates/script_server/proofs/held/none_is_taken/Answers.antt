use Rattle.std.proofs.Common.{◌≡◌, ◌<◌, ◌≤◌, length, rules, slice_index_or, subst, sym, ◌∙◌, take_all}
use Rattle.std.specs.Prelude.{take}
use Rattle.std.proofs.lemmas.List.Elements.{All-more, All-same}
use Rattle.script_server.specs.Working.FreeBatches.{IsFreeBatch}
use Rattle.script_server.proofs.FreeDesks.{none_taken}
use Rattle.script_server.proofs.held.none_is_taken.Goals as goal

pub loop-batch-preserved : goal.loop-batch-preserved
loop-batch-preserved c =
    let xs = c.batches-batch-items.result.now in
    let lt : c.loop-batch.batch-index < length xs = search rules in
    let is : c.batch-item.result ≡ slice_index_or xs c.loop-batch.batch-index c.batch-item.result = search rules in
    let free : IsFreeBatch c.batch-item.result = c.is_free.ensures (search rules) in
    All-more IsFreeBatch xs c.loop-batch.batch-index c.batch-item.result lt c.loop-batch.invariant (subst IsFreeBatch is free)

pub returns : goal.returns
returns c =
    let xs = c.batches-batch-items.result.now in
    let past : length xs ≤ c.loop-batch.batch-index = search rules in
    let these : xs ≡ c.args.desk.now.batches = search rules in
    λ _. none_taken c.args.desk.now (All-same IsFreeBatch c.args.desk.now.batches (take c.loop-batch.batch-index xs) (sym these ∙ sym (take_all c.loop-batch.batch-index xs past)) c.loop-batch.invariant)
