-- A field memory by its list of cells: what a look-up finds, and cells that are sorted by address.
use Rattle.std.proofs.Common.{◌≡◌, ℕ, ◌==◌, List, Some, option_map, refl, ap, subst, arith}
use Rattle.std.specs.List.{find, Contains, IsDistinct}
use Rattle.std.specs.List.Sorted.{IsPermutation, IsNonDecreasing}
use Rattle.std.proofs.lemmas.Bool.Decides.{nat_tests}
use Rattle.std.proofs.lemmas.List.Sorted.{IsPermutation-map}
use Rattle.std.proofs.lemmas.Map.Keys.{IsStrictlyIncreasing-from_distinct, IsDistinct-IsPermutation}
use Rattle.cairo_model.specs.Machine.FieldMemories.{FieldCell, addresses, AddressesRise, cell_at}
use Rattle.cairo_model.specs.Laws.{LooksUp}
use Rattle.cairo_model.proofs.Finding.{find_gives, found_in, option_map_gives}
use Rattle.cairo_model.proofs.Searching.{TellsKey}
use Rattle.cairo_model.proofs.NumberTests.{eq_is}

pub address_tells : (cells : List FieldCell) (address : ℕ) → TellsKey (λ (c : FieldCell). c.0) (λ (c : FieldCell). c.0 == address) address cells
address_tells cells address = record {
  here = λ i d lt same. grind (arith, nat_tests, same);
  elsewhere = λ i d lt other. grind (arith, nat_tests, other);
}

-- where addresses rise, a cell is found at its address
pub cell_found : (cells : List FieldCell) → AddressesRise cells → (c : FieldCell) → Contains cells c → cell_at cells c.0 ≡ Some c.1
cell_found cells rise c stands =
    ap (option_map (λ (x : FieldCell). x.1)) (found_in (λ (x : FieldCell). x.0) (λ (x : FieldCell). x.0 == c.0) c.0 cells (address_tells cells c.0) rise c stands refl)

pub record IsCellWith (cells : List FieldCell) (a v : ℕ) : Type 0 where
  pub cell : FieldCell
  pub stands : Contains cells cell
  pub has_address : cell.0 ≡ a
  pub has_value : cell.1 ≡ v

-- what a look-up finds stands there
pub cell_gives : (cells : List FieldCell) (a v : ℕ) → cell_at cells a ≡ Some v → IsCellWith cells a v
cell_gives cells a v e =
    option_map_gives (λ (c : FieldCell). c.1) (find (λ (c : FieldCell). c.0 == a) cells) v e (λ c is value.
    let found = find_gives (λ (x : FieldCell). x.0 == a) cells c is in
    record { cell = c; stands = found.stands; has_address = eq_is c.0 a found.passes; has_value = value })

cell_there : (cells : List FieldCell) (a v : ℕ) → cell_at cells a ≡ Some v → Contains cells (a, v)
cell_there cells a v e =
    let found = cell_gives cells a v e in
    let same : found.cell ≡ (a, v) = λ i. (found.has_address i, found.has_value i) in
    subst (Contains cells) same found.stands

pub looks_up : LooksUp
looks_up cells rise a v = (cell_there cells a v, λ stands. cell_found cells rise (a, v) stands)

-- ---- sorting

flips : (x y : ℕ) → (x == y) ≡ (y == x)
flips x y = grind (arith, nat_tests)

-- cells of distinct addresses, put into an order in which addresses don't fall, rise
pub sorted_cells : (cells sorted : List FieldCell) → IsPermutation cells sorted → IsNonDecreasing (addresses sorted) → IsDistinct ◌==◌ (addresses cells) → AddressesRise sorted
sorted_cells cells sorted moved up distinct =
    IsStrictlyIncreasing-from_distinct (addresses sorted) up
    (IsDistinct-IsPermutation ◌==◌ flips _ _ (IsPermutation-map _ _ _ moved) distinct)
