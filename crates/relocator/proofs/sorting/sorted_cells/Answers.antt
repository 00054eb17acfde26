use Rattle.std.proofs.Common.{rules}
use Rattle.std.proofs.lemmas.List.Sorted.{IsNonDecreasingBy-from_sort_by_key, IsPermutation-map}
use Rattle.cairo_model.specs.Machine.FieldMemories.{field_cell}
use Rattle.relocator.proofs.PlacedCells.{address, sorted_rise}
use Rattle.relocator.proofs.sorting.sorted_cells.Goals as goal

pub returns-clause-rise : goal.returns-clause-rise
returns-clause-rise c =
    sorted_rise _ _ c.in_ok-sort_by_key.ensures.permutation
    (IsNonDecreasingBy-from_sort_by_key address _ c.in_ok-sort_by_key.ensures.sorted (λ a r f' called. search rules)) c.requires

pub returns-clause-same_cells : goal.returns-clause-same_cells
returns-clause-same_cells c = IsPermutation-map field_cell _ _ c.in_ok-sort_by_key.ensures.permutation
