use Rattle.std.proofs.Common.{◌<◌, ◌^◌, slice_index_or, arith}
use Rattle.pie_format.proofs.ReadingSizes.{below_at}
use Rattle.pie_format.proofs.metadata_rules.narrowed.Goals as goal

pub overflow_cast-size : goal.overflow_cast-size
overflow_cast-size c =
    let small : slice_index_or c.args.sizes.now c.loop-size.size-index 0 < 2 ^ 31 = below_at (2 ^ 31) c.args.sizes.now c.loop-size.size-index c.requires c.loop-size-test.true in
    omega arith
