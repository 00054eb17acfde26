use Rattle.std.proofs.Common.{ℕ, ◌+◌, ◌≤◌, sum, take, arith}
use Rattle.std.proofs.lemmas.List.Sums.{sum_by-take-le}
use Rattle.seg_runner.proofs.SizeSums.{sum_more}
use Rattle.seg_runner.proofs.puts.size_in_all.Goals as goal

pub overflow_add-total : goal.overflow_add-total
overflow_add-total c =
    let sizes = c.args.memory.now.sizes in
    let k = c.loop-segment.segment in
    let more = sum_more sizes k (omega arith) in
    let below : sum (take (k + 1) sizes) ≤ sum sizes = sum_by-take-le (λ (x : ℕ). x) sizes (k + 1) in
    omega arith

pub loop-segment-preserved : goal.loop-segment-preserved
loop-segment-preserved c =
    let more = sum_more c.args.memory.now.sizes c.loop-segment.segment (omega arith) in
    omega arith
