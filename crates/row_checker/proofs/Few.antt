-- An index before which all have cells is no greater than the number of cells.
use Rattle.std.proofs.Common.{◌≡◌, ℕ, zero, suc, ◌+◌, ◌*◌, ◌<◌, ◌≤◌, ◌==◌, Bool, true, false, cond, List, [], ◌∷◌, length, find, Option, Some, None, is_some, option_map, inl, inr, ◌⊎◌, refl, arith}
use Rattle.std.proofs.lemmas.Bool.Decides.{nat_tests}
use Rattle.std.proofs.lemmas.Bool.{ltb-true}
use Rattle.cairo_model.specs.Machine.FieldMemories.{AddressesRise, FieldCell, addresses, cell_at}
use Rattle.cairo_model.proofs.Rising.{Chain, chain_of}
use Rattle.boot_program.specs.Faults.Rules.{IsThere}

abbrev There : List FieldCell → ℕ → Type 0
There cells a = is_some (cell_at cells a) ≡ true

-- a cell is the first, or among the others
first_or_later : (here : Bool) (c : FieldCell) (found : Option FieldCell) → is_some (option_map (λ (d : FieldCell). d.1) (cond here (Some c) found)) ≡ true
    → (here ≡ true) ⊎ (is_some (option_map (λ (d : FieldCell). d.1) found) ≡ true)
first_or_later true c found e = inl refl
first_or_later false c found e = inr e

split : (c : FieldCell) (cells : List FieldCell) (a : ℕ) → There (c ∷ cells) a → (c.0 ≡ a) ⊎ There cells a
split c cells a there = elim (first_or_later (c.0 == a) c (find (λ (d : FieldCell). d.0 == a) cells) there) [
  | inl here ↦ inl (grind (arith, nat_tests, here))
  | inr later ↦ inr later
]

above : (b : ℕ) (cells : List FieldCell) → Chain (Some b) (addresses cells) → (a : ℕ) → There cells a → b < a
above b [] chain a there = absurd (cc)
above b (c ∷ cells) chain a there =
    let up : b < c.0 = ltb-true b c.0 chain.0 in
    elim (split c cells a there) [
      | inl here ↦ omega (arith, up, here)
      | inr later ↦ omega (arith, up, above c.0 cells chain.1 a later)
    ]

few_from : (cells : List FieldCell) (before : Option ℕ) → Chain before (addresses cells) → (at : ℕ → ℕ) → ((j k : ℕ) → j < k → at j < at k) → (n : ℕ) → ((k : ℕ) → k < n → There cells (at k)) → n ≤ length cells
few_from [] before chain at rises zero there = omega arith
few_from [] before chain at rises (suc n) there = absurd (let none = there 0 (omega arith) in cc)
few_from (c ∷ cells) before chain at rises zero there = omega arith
few_from (c ∷ cells) before chain at rises (suc n) there =
    let least : c.0 ≤ at 0 = elim (split c cells (at 0) (there 0 (omega arith))) [
      | inl here ↦ omega (arith, here)
      | inr later ↦ omega (arith, above c.0 cells chain.1 (at 0) later)
    ] in
    let rest : n ≤ length cells = few_from cells (Some c.0) chain.1 (λ k. at (suc k)) (λ j k lt. rises (suc j) (suc k) (omega (arith, lt))) n (λ k lt.
    elim (split c cells (at (suc k)) (there (suc k) (omega (arith, lt)))) [
      | inl here ↦ absurd (omega (arith, here, least, rises 0 (suc k) (omega arith)))
      | inr later ↦ later
    ]) in
    omega (arith, rest)

few : (cells : List FieldCell) → AddressesRise cells → (at : ℕ → ℕ) → ((j k : ℕ) → j < k → at j < at k) → (n : ℕ) → ((k : ℕ) → k < n → There cells (at k)) → n ≤ length cells
few cells rise at rises n there = few_from cells None (chain_of (addresses cells) rise) at rises n there

is_there : (o : Option ℕ) → IsThere o → is_some o ≡ true
is_there o there = rw there.1 refl

-- indices from a start on that all have cells
pub few_indices : (cells : List FieldCell) → AddressesRise cells → (start n : ℕ) → ((k : ℕ) → k < n → IsThere (cell_at cells (start + k))) → n ≤ length cells
few_indices cells rise start n there = few cells rise (λ k. start + k) (λ j k lt. omega (arith, lt)) n (λ k lt. is_there (cell_at cells (start + k)) (there k lt))

-- and so with twenty between them
pub few_groups : (cells : List FieldCell) → AddressesRise cells → (start n : ℕ) → ((k : ℕ) → k < n → IsThere (cell_at cells (start + 20 * k))) → n ≤ length cells
few_groups cells rise start n there = few cells rise (λ k. start + 20 * k) (λ j k lt. omega (arith, lt)) n (λ k lt. is_there (cell_at cells (start + 20 * k)) (there k lt))
