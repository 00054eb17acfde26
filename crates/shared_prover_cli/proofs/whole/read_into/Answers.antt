use Rattle.std.proofs.Common.{◌≡◌, ◌++◌, ◌∙◌, List, ℕ, arith, rules, length, subst, sym, take}
use Rattle.shared_prover_cli.proofs.TakenSoFar.{read_on, taken_on, written_over}
use Rattle.shared_prover_cli.proofs.whole.read_into.Goals as goal

-- the bytes taken before, and then those of the last read
pub returns-then-count-limit-clause-long : goal.returns-then-count-limit-clause-long
returns-then-count-limit-clause-long g c = λ is_long.
    let last = take c.in_ok-count.count c.read.new.buf in
    let size : length last ≡ c.in_ok-count.count = sym c.in_ok-count.ensures.bound.1 in
    let all = read_on c.loop-piece.invariant.0 _ last c.in_ok-count.count c.in_ok-count.ensures.bytes.0 size in
    (all.0, all.1, omega (arith, all.2))

pub returns-in_err-take-clause-within : goal.returns-in_err-take-clause-within
returns-in_err-take-clause-within g c = λ is_other.
    let last = take c.in_ok-count.count c.read.new.buf in
    let size : length last ≡ c.in_ok-count.count = sym c.in_ok-count.ensures.bound.1 in
    let all = read_on c.loop-piece.invariant.0 _ last c.in_ok-count.count c.in_ok-count.ensures.bytes.0 size in
    (all.0, all.1, omega (arith, all.2))

pub loop-piece-preserved : goal.loop-piece-preserved
loop-piece-preserved g c =
    let last = take c.in_ok-count.count c.read.new.buf in
    let size : length last ≡ c.in_ok-count.count = sym c.in_ok-count.ensures.bound.1 in
    let full : length c.read.new.buf ≡ c.loop-piece.piece.len = search rules in
    let handed : c.deref.result.now ≡ c.read.new.buf = c.deref.ensures.value ∙ written_over c.loop-piece.piece.len c.read.new.buf _ full in
    let HasNow : List ℕ → Type 0 = g.T.Taker.has_taken c.take.new.self in
    let takes : (taken : List ℕ) → g.T.Taker.has_taken c.loop-piece.taker taken → HasNow (taken ++ last) = λ taken before. subst (λ (piece : List ℕ). HasNow (taken ++ take c.in_ok-count.count piece)) handed (c.in_ok-take.ensures taken before) in (
      taken_on c.loop-piece.invariant.0 _ last c.in_ok-count.count HasNow c.in_ok-count.ensures.bytes.0 size takes,
      omega (arith, c.loop-piece.invariant.1, c.in_ok-count.ensures.cause.later),
      omega (arith, c.loop-piece.invariant.2, c.if-count-limit.false),
      c.loop-piece.invariant.3,
    )
