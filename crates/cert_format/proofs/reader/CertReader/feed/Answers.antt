use Rattle.std.proofs.Common.{rules, ◌+◌, ◌^◌, ◌<◌, ◌++◌, length, refl, arith, length-append}
use Rattle.cert_format.specs.Working.DraftViews.{partial}
use Rattle.cert_format.specs.Working.Passing.{reader_with}
use Rattle.cert_format.proofs.FedLaws.{fed_on}
use Rattle.cert_format.proofs.reader.CertReader.feed.Goals as goal

pub invariant_of-self-2 : goal.invariant_of-self-2
invariant_of-self-2 c same =
    let p = partial c.self.inside.partial in
    let was = c.self.invariant c.if-self.false in
    let passed = c.in_ok-feed_on.ensures in
    let fits : c.self.inside.partial.place + (length c.self.inside.carry + length c.args.piece.now) < 2 ^ 64 = search rules in
    record {
      waiting = record { ready = passed.goes.ready; short = passed.short };
      in_all = omega (arith, passed.goes.many, fits, length-append c.self.inside.carry c.args.piece.now);
      bytes = was.bytes ++ c.args.piece.now;
      is_fed = fed_on c.self.inside.failed p c.self.inside.carry c.args.piece.now (partial c.feed_on.new.partial) c.feed_on.new.carry was.bytes (reader_with c.self.inside.failed p c.self.inside.carry) refl passed (λ i. omega (arith, c.type_inv.piece i)) was.is_fed;
    }

pub returns-clause-fed : goal.returns-clause-fed
returns-clause-fed c fed h =
    fed_on c.self.inside.failed (partial c.self.inside.partial) c.self.inside.carry c.args.piece.now (partial c.feed_on.new.partial) c.feed_on.new.carry fed c.args.self.now c.self.view_is c.in_ok-feed_on.ensures (λ i. omega (arith, c.type_inv.piece i)) h
