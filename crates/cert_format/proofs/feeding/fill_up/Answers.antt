use Rattle.std.proofs.Common.{◌≡◌, ◌<◌, length, ap, ◌∙◌, arith, length-append}
use Rattle.cert_format.specs.Working.DraftViews.{partial}
use Rattle.cert_format.specs.Working.Taking.{size_of, taken}
use Rattle.cert_format.proofs.FedLaws.{goes_nowhere, takes_part, filled}
use Rattle.cert_format.proofs.feeding.fill_up.Goals as goal

pub returns-clause-goes : goal.returns-clause-goes
returns-clause-goes c =
    let p = partial c.args.partial.now in
    let split = filled c.args.carry.now c.args.piece.now c.split_at.result.0.now c.split_at.result.1.now c.add.new.self _ c.split_at.ensures.front c.split_at.ensures.back c.add.ensures in
    let some : 0 < size_of p.stage = omega (arith, c.if-len-eq0.false, c.len.ensures.count, c.requires.waiting.short) in
    let len : length c.add.new.self ≡ size_of p.stage = omega (arith, ap length c.add.ensures, length-append c.args.carry.now c.split_at.result.0.now, c.split_at.ensures.front_len, c.len-2.ensures.count, c.requires.size, c.requires.enough, c.requires.waiting.short) in
    takes_part p _ p _ c.add.new.self c.split_at.result.1.now (partial c.take.new.self) (goes_nowhere p _ c.requires.waiting.ready) split len some (c.in_ok-take.ensures ∙ ap (taken p) c.as_slice.ensures)
