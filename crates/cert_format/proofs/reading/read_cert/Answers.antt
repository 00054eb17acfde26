use Rattle.std.proofs.Common.{[]}
use Rattle.cert_format.proofs.EndLaws.{fed_ok}
use Rattle.cert_format.proofs.reading.read_cert.Goals as goal

pub returns-clause-sound : goal.returns-clause-sound
returns-clause-sound c = fed_ok c.finish.result _ c.args.bytes.now c.finish.ensures.sound (c.in_ok-feed.ensures.fed [] c.new-reader.ensures)

pub returns-clause-refused : goal.returns-clause-refused
returns-clause-refused c r same = c.finish.ensures.refused r same c.args.bytes.now (c.in_ok-feed.ensures.fed [] c.new-reader.ensures)

pub returns-clause-only : goal.returns-clause-only
returns-clause-only c r same = c.finish.ensures.only r same c.args.bytes.now (c.in_ok-feed.ensures.fed [] c.new-reader.ensures)
