-- The bases of the layout alone.
use Rattle.std.proofs.Common.{◌≡◌, ℕ, zero, suc, ◌+◌, ◌<◌, ◌≤◌, List, [], ◌∷◌, inl, inr, length, sum, get_or, refl, ap, arith}
use Rattle.std.proofs.lemmas.Bool.{cases_order}
use Rattle.std.proofs.lemmas.List.Sums.{sum_by-cons}
use Rattle.cairo_model.specs.Pie.Records.{PieRecord, KeepsRules}
use Rattle.cairo_model.specs.Pie.Layouts.{Fits, IsApart, bases_from, lone_bases}

pub count_of : (base : ℕ) (sizes : List ℕ) → length (bases_from base sizes) ≡ length sizes
count_of base [] = refl
count_of base (size ∷ sizes) = ap suc (count_of (base + size + 1) sizes)

sum_is : (size : ℕ) (sizes : List ℕ) → sum (size ∷ sizes) ≡ size + sum sizes
sum_is size sizes = sum_by-cons (λ (x : ℕ). x) size sizes

from_base : (base : ℕ) (sizes : List ℕ) (i d : ℕ) → i < length sizes → base ≤ get_or (bases_from base sizes) i d
from_base base [] i d lt = absurd (omega arith)
from_base base (size ∷ sizes) zero d lt = omega arith
from_base base (size ∷ sizes) (suc i) d lt = let later = from_base (base + size + 1) sizes i d (omega arith) in omega (arith, later)

to_end : (base : ℕ) (sizes : List ℕ) (i d : ℕ) → i < length sizes → get_or (bases_from base sizes) i d < base + sum sizes + length sizes
to_end base [] i d lt = absurd (omega arith)
to_end base (size ∷ sizes) zero d lt = omega arith
to_end base (size ∷ sizes) (suc i) d lt = let later = to_end (base + size + 1) sizes i d (omega arith) in omega (arith, later, sum_is size sizes)

-- each segment ends below the base of each later one
ends_below : (base : ℕ) (sizes : List ℕ) (i j : ℕ) → i < j → j < length sizes → get_or (bases_from base sizes) i 0 + get_or sizes i 0 < get_or (bases_from base sizes) j 0
ends_below base [] i j lt in_range = absurd (omega arith)
ends_below base (size ∷ sizes) i zero lt in_range = absurd (omega arith)
ends_below base (size ∷ sizes) zero (suc j) lt in_range = let later = from_base (base + size + 1) sizes j 0 (omega arith) in omega (arith, later)
ends_below base (size ∷ sizes) (suc i) (suc j) lt in_range = ends_below (base + size + 1) sizes i j (omega arith) (omega arith)

apart : (base : ℕ) (sizes : List ℕ) (s : ℕ) → s < length sizes → IsApart (bases_from base sizes) sizes s
apart base sizes s here t there differ o q p r same =
    elim (cases_order s t) [
      | inl e ↦ differ e
      | inr other ↦ elim other [
        | inl lt ↦ omega (arith, ends_below base sizes s t lt there, p, same)
        | inr lt ↦ omega (arith, ends_below base sizes t s lt here, r, same)
      ]
    ]

pub lone_fits : (pie : PieRecord) → KeepsRules pie → Fits (lone_bases pie.sizes) pie.sizes
lone_fits pie rules = record {
  one_each = count_of 1 pie.sizes;
  in_bounds = λ i d lt.
      let inside : i < length pie.sizes = omega (arith, count_of 1 pie.sizes) in
      (from_base 1 pie.sizes i d inside, omega (arith, to_end 1 pie.sizes i d inside, rules.are_sizes.in_all, rules.are_sizes.at_most));
  apart = apart 1 pie.sizes;
}
