use Rattle.std.proofs.Common.{sym, ◌∙◌}
use Rattle.pie_format.proofs.ReadingSizes.{sum_fits, sizes_small}
use Rattle.pie_format.proofs.metadata_rules.metadata_fault.Goals as goal

pub total_of-total-requires : goal.total_of-total-requires
total_of-total-requires c =
    let sizes = c.as_slice-sizes.result.now in
    sum_fits sizes (sizes_small sizes (sym c.has_sizes.ensures ∙ c.if-not-has_sizes.false)) c.if-sizes-gt-MOST_SEGMENTS.false
