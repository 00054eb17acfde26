-- What the types of the code keep of each item of a list.
use Rattle.std.proofs.Common.{◌≡◌, ℕ, ◌+◌, ◌<◌, ◌==◌, Bool, true, false, Some, refl, sym, List, [], ◌∷◌, length, get_or, map, All, inl, inr, subst, ◌∙◌, arith}
use Rattle.std.specs.List.{AllByRecursion}
use Rattle.std.proofs.lemmas.Bool.{cases_lt}
use Rattle.std.proofs.lemmas.List.{get_or_default}
use Rattle.std.proofs.lemmas.List.Elements.{All-from_recursion, recursion_from_All}
use Rattle.goldi_field.specs.Numbers.{IsFelt}
use Rattle.goldi_field.specs.declared.Felt.{Felt}
use Rattle.cairo_model.specs.Certificate.Records.{MarkRecord, IsMark, AreRegisters}
use Rattle.cairo_model.specs.Machine.FieldMemories.{FieldCell, field_cell, cell_at, IsCell, IsFieldMemory}
use Rattle.cairo_model.specs.Views.Machine.{field_registers}
use Rattle.cairo_model.specs.declared.state.FieldState.{FieldState}

felts : (xs : List Felt) → AllByRecursion IsFelt (map (λ f. f.number) xs)
felts [] = tt
felts (f ∷ fs) = (f.below, felts fs)

pub felts_kept : (xs : List Felt) → All IsFelt (map (λ f. f.number) xs)
felts_kept xs = All-from_recursion IsFelt (map (λ f. f.number) xs) (felts xs)

cells : (xs : List (Felt × Felt)) → AllByRecursion IsCell (map field_cell xs)
cells [] = tt
cells (c ∷ cs) = (record { address = c.0.below; value = c.1.below }, cells cs)

pub cells_kept : (xs : List (Felt × Felt)) → All IsCell (map field_cell xs)
cells_kept xs = All-from_recursion IsCell (map field_cell xs) (cells xs)

states : (xs : List FieldState) → AllByRecursion AreRegisters (map field_registers xs)
states [] = tt
states (s ∷ ss) = (record { pc = s.pc.below; ap = s.ap.below; fp = s.fp.below }, states ss)

pub states_kept : (xs : List FieldState) → All AreRegisters (map field_registers xs)
states_kept xs = All-from_recursion AreRegisters (map field_registers xs) (states xs)

-- the marks below an index
abbrev pub MarksBelow : List MarkRecord → ℕ → Type 0
MarksBelow ms i = (k : ℕ) (d : MarkRecord) → k < i → IsMark (get_or ms k d)

pub one_more : (ms : List MarkRecord) (i : ℕ) (m : MarkRecord) → MarksBelow ms i → i < length ms → m ≡ get_or ms i m → IsMark m → MarksBelow ms (i + 1)
one_more ms i m below lt is kept k d small =
    elim (cases_lt k i) [
      | inl before ↦ below k d before
      | inr past ↦
          let here : i ≡ k = omega arith in
          let P : ℕ → Type 0 = λ n. IsMark (get_or ms n d) in
          let Q : MarkRecord → Type 0 = λ x. IsMark x in
          subst P here (subst Q (is ∙ get_or_default ms i m d lt) kept)
    ]

found_here : (c : FieldCell) (cs : List FieldCell) (a : ℕ) → (c.0 == a) ≡ true → cell_at (c ∷ cs) a ≡ Some c.1
found_here c cs a same = rw same refl

found_there : (c : FieldCell) (cs : List FieldCell) (a : ℕ) → (c.0 == a) ≡ false → cell_at (c ∷ cs) a ≡ cell_at cs a
found_there c cs a other = rw other refl

some_same : (a b : ℕ) → Some a ≡ Some b → a ≡ b
some_same a b e = cc

-- what a look-up gives is a cell's value
value_kept : (c : FieldCell) (cs : List FieldCell) (a v : ℕ) → IsCell c → (cell_at cs a ≡ Some v → IsFelt v) → (b : Bool) → (c.0 == a) ≡ b → cell_at (c ∷ cs) a ≡ Some v → IsFelt v
value_kept c cs a v is later true same at = subst IsFelt (some_same c.1 v (sym (found_here c cs a same) ∙ at)) is.value
value_kept c cs a v is later false other at = later (sym (found_there c cs a other) ∙ at)

looked_up : (cells : List FieldCell) → AllByRecursion IsCell cells → IsFieldMemory (cell_at cells)
looked_up [] kept a v is = absurd (cc)
looked_up (c ∷ cs) kept a v is = value_kept c cs a v kept.0 (looked_up cs kept.1 a v) (c.0 == a) refl is

pub field_memory : (cells : List FieldCell) → All IsCell cells → IsFieldMemory (cell_at cells)
field_memory cells kept = looked_up cells (recursion_from_All IsCell cells kept)
