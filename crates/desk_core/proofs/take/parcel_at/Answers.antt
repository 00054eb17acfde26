use Rattle.std.proofs.Common.{◌≡◌, ◌<◌, length, rules}
use Rattle.std.specs.Prelude.{Some}
use Rattle.desk_core.proofs.TakeTurn.{at_index, parcel_found}
use Rattle.desk_core.proofs.take.parcel_at.Goals as goal

pub copies-requires : goal.copies-requires
copies-requires c =
    let lt : c.in-Some.b < length c.args.batches.now = search rules in
    c.requires.fits c.in-Some.b c.index-batches-b.result (at_index c.args.batches.now c.in-Some.b c.index-batches-b.result lt c.index-batches-b.is)

pub returns : goal.returns
returns c =
    let lt : c.in-Some.b < length c.args.batches.now = search rules in
    let found : c.args.found ≡ Some c.in-Some.b = search rules in
    parcel_found c.args.jobs.now c.args.batches.now c.args.found c.in-Some.b c.index-batches-b.result c.in_ok-tasks.tasks.items found
    (at_index c.args.batches.now c.in-Some.b c.index-batches-b.result lt c.index-batches-b.is) c.in_ok-tasks.ensures.tasks
