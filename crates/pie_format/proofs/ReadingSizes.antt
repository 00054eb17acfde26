-- The numbers of the metadata: what the reading of their array keeps, and their bounds.
use Rattle.std.proofs.Common.{◌≡◌, ℕ, ◌*◌, ◌^◌, ◌<◌, ◌≤◌, true, ltb, leb, eqb, ◌&&◌, List, [], ◌∷◌, ◌++◌, length, sum, All, Option, option_map, refl, arith, inl, inr}
use Rattle.std.specs.List.{AllByRecursion}
use Rattle.std.proofs.lemmas.Bool.{cases_lt, ltb-true, lt-ltb, eqb-true, and_parts, and_from}
use Rattle.std.proofs.lemmas.Bool.Decides.{nat_tests}
use Rattle.std.proofs.lemmas.List.{get_or_past}
use Rattle.std.proofs.lemmas.List.Elements.{All-from_recursion, All-head, All-tail, All-weaker, All-get_or, All-from_get_or}
use Rattle.std.proofs.lemmas.List.Sums.{sum_by-le, get_or-le-sum_by}
use Rattle.std.specs.Prelude.{slice_index}
use Rattle.serde_json.specs.View.{items_view}
use Rattle.serde_json.specs.declared.value.Value.{Value}
use Rattle.serde_json.proofs.Views.{members_len-members_view}
use Rattle.cairo_model.specs.Pie.Records.{AreSizes}
use Rattle.cairo_model.specs.Pie.Files.{wholes_in}
use Rattle.cairo_model.specs.Refusals.ReadRefusals.{HasSizes}
use Rattle.pie_format.specs.Working.Reading.{all_below, has_sizes, is_inside}

-- the numbers so far, and then those of the items
abbrev pub wholes_after : List ℕ → List Value → Option (List ℕ)
wholes_after ns vs = option_map (λ ms. ns ++ ms) (wholes_in (items_view vs))

pub ruleset member_counts = members_len-members_view

below_all : (limit : ℕ) (ns : List ℕ) → all_below limit ns ≡ true → AllByRecursion (λ n. n < limit) ns
below_all limit [] h = tt
below_all limit (n ∷ ns) h =
    let p = and_parts (ltb n limit) (all_below limit ns) h in
    (ltb-true n limit p.0, below_all limit ns p.1)

pub below_each : (limit : ℕ) (ns : List ℕ) → all_below limit ns ≡ true → All (λ n. n < limit) ns
below_each limit ns h = All-from_recursion (λ n. n < limit) ns (below_all limit ns h)

pub below_at : (limit : ℕ) (ns : List ℕ) (i : ℕ) → all_below limit ns ≡ true → i < length ns → slice_index ns i < limit
below_at limit ns i h lt = All-get_or (λ n. n < limit) ns i 0 lt (below_each limit ns h)

pub all_below_from : (limit : ℕ) (ns : List ℕ) → All (λ n. n < limit) ns → all_below limit ns ≡ true
all_below_from limit [] h = refl
all_below_from limit (n ∷ ns) h =
    let head : n < limit = All-head (λ m. m < limit) n ns h in
    and_from (ltb n limit) (all_below limit ns) (lt-ltb n limit head) (all_below_from limit ns (All-tail (λ m. m < limit) n ns h))

pub sum_fits : (ns : List ℕ) → all_below (2 ^ 31) ns ≡ true → length ns ≤ 64 → sum ns < 2 ^ 64
sum_fits ns h few =
    let small : All (λ n. n ≤ 2147483648) ns = All-weaker (λ n. n < 2 ^ 31) (λ n. n ≤ 2147483648) (λ n lt. omega arith) ns (below_each (2 ^ 31) ns h) in
    let b : sum ns ≤ length ns * 2147483648 = sum_by-le (λ n. n) 2147483648 ns small in
    omega arith

-- what the test of the sizes says
pub sizes_small : (ns : List ℕ) → has_sizes ns ≡ true → all_below (2 ^ 31) ns ≡ true
sizes_small ns h =
    let a = and_parts _ _ h in
    let b = and_parts _ _ a.0 in
    let c = and_parts _ _ b.0 in
    c.1

-- an offset below the size of its segment is small
pub inside_small : (ns : List ℕ) (segment offset : ℕ) → all_below (2 ^ 31) ns ≡ true → is_inside ns segment offset ≡ true → offset < 2 ^ 31
inside_small ns segment offset h inside =
    let p = and_parts (ltb segment (length ns)) (ltb offset (slice_index ns segment)) inside in
    let lt : segment < length ns = ltb-true _ _ p.0 in
    let below : offset < slice_index ns segment = ltb-true _ _ p.1 in
    let small : slice_index ns segment < 2 ^ 31 = below_at (2 ^ 31) ns segment h lt in
    omega arith

-- sizes with a small sum are small
pub small_from_sum : (sizes : List ℕ) → sum sizes ≤ 65536 → all_below (2 ^ 31) sizes ≡ true
small_from_sum sizes in_all = all_below_from (2 ^ 31) sizes (All-from_get_or (λ n. n < 2 ^ 31) sizes 0 (λ i lt. omega (arith, get_or-le-sum_by (λ n. n) sizes i 0 lt)))

-- ---- the test of the sizes

all_small : (sizes : List ℕ) → all_below (2 ^ 31) sizes ≡ true → (segment : ℕ) → slice_index sizes segment < 2 ^ 31
all_small sizes h segment =
    elim (cases_lt segment (length sizes)) [
      | inl lt ↦ below_at (2 ^ 31) sizes segment h lt
      | inr le ↦ omega (arith, get_or_past sizes segment 0 le)
    ]

pub sizes_hold : (sizes : List ℕ) → has_sizes sizes ≡ true → HasSizes sizes
sizes_hold sizes h =
    let least = leb 7 (length sizes) in
    let small = all_below (2 ^ 31) sizes in
    let fp = eqb (slice_index sizes 5) 0 in
    let pc = eqb (slice_index sizes 6) 0 in
    let a = and_parts (least && small && fp) pc h in
    let b = and_parts (least && small) fp a.0 in
    let c = and_parts least small b.0 in
    let long : 7 ≤ length sizes = grind (arith, nat_tests, c.0) in
    record { at_least = long; small = all_small sizes c.1; no_return_fp = eqb-true _ _ b.1; no_return_pc = eqb-true _ _ a.1 }

pub sizes_pass : (sizes : List ℕ) → HasSizes sizes → has_sizes sizes ≡ true
sizes_pass sizes h =
    let small : all_below (2 ^ 31) sizes ≡ true = all_below_from (2 ^ 31) sizes (All-from_get_or (λ n. n < 2 ^ 31) sizes 0 (λ i lt. h.small i)) in
    let least : leb 7 (length sizes) ≡ true = grind (arith, nat_tests, h.at_least) in
    let fp : eqb (slice_index sizes 5) 0 ≡ true = rw h.no_return_fp refl in
    let pc : eqb (slice_index sizes 6) 0 ≡ true = rw h.no_return_pc refl in
    and_from _ _ (and_from _ _ (and_from _ _ least small) fp) pc

-- the sizes of a PIE pass the test
pub are_held : (sizes : List ℕ) → AreSizes sizes → HasSizes sizes
are_held sizes h = record { at_least = h.at_least; small = all_small sizes (small_from_sum sizes h.in_all); no_return_fp = h.no_return_fp; no_return_pc = h.no_return_pc }
