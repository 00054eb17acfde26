use Rattle.std.proofs.Common.{◌≡◌, ◌<◌, ◌++◌, List, ℕ, [], length, refl, sym, ap, subst, arith}
use Rattle.cert_format.specs.Working.DraftViews.{partial}
use Rattle.cert_format.specs.Working.Passing.{Goes}
use Rattle.cert_format.specs.Working.Taking.{size_of}
use Rattle.cert_format.proofs.FedLaws.{takes_part, passes_over, filled}
use Rattle.cert_format.proofs.feeding.take_whole.Goals as goal

pub loop-size-preserved : goal.loop-size-preserved
loop-size-preserved c =
    let q = partial c.loop-size.partial in
    let part = c.split_at.result.0.now in
    let behind = c.split_at.result.1.now in
    let split : c.loop-size.rest.now ≡ part ++ behind = filled [] c.loop-size.rest.now part behind part _ c.split_at.ensures.front c.split_at.ensures.back refl in
    let len : length part ≡ size_of q.stage = omega (arith, c.split_at.ensures.front_len, c.loop-size.invariant.sized, c.if-size-rest.true) in
    let some : 0 < size_of q.stage = omega (arith, c.loop-size-test.true, c.loop-size.invariant.sized) in
    record {
      sized = c.size_of_part-size-in-loop-size.ensures;
      goes = takes_part (partial c.args.partial.now) c.args.bytes.now q c.loop-size.rest.now part behind (partial c.take.new.self) c.loop-size.invariant.goes split len some c.in_ok-take.ensures;
    }

pub returns : goal.returns
returns c =
    let q = partial c.loop-size.partial in
    let none : size_of q.stage ≡ 0 = omega (arith, c.loop-size.invariant.sized, c.if-size-gt0.false) in
    let empty : c.split_at-2.result.0.now ≡ [] = c.split_at-2.ensures.front in
    let count : length c.split_at-2.result.0.now ≡ 0 = ap length empty in
    let over = passes_over (partial c.args.partial.now) c.args.bytes.now q c.loop-size.rest.now (partial c.pass_over.new.self) c.loop-size.invariant.goes none c.pass_over.ensures in
    record {
      goes = subst (λ (b : List ℕ). Goes (partial c.args.partial.now) c.args.bytes.now (partial c.pass_over.new.self) b) (sym empty) over;
      short = omega (arith, count);
    }
