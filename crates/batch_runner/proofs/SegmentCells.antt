-- A segment's cells, relocated: they rise in the segment's stretch, and each cell of the PIE stands there.
use Rattle.std.proofs.Common.{◌≡◌, ℕ, suc, ◌+◌, ◌-◌, ◌*◌, ◌^◌, ◌<◌, ◌≤◌, ◌==◌, ◌&&◌, Bool, true, false, if◌then◌else◌, List, [], ◌∷◌, slice_index, All, Option, Some, option_map, inl, inr, refl, ap, subst, arith}
use Rattle.std.specs.List.{find}
use Rattle.std.proofs.lemmas.Bool.Decides.{nat_tests}
use Rattle.std.proofs.lemmas.List.Elements.{All-head, All-tail}
use Rattle.cairo_model.specs.Machine.Values.{Datum}
use Rattle.cairo_model.specs.Pie.Records.{MemoryCell, IsCellOf, Rise, place_number, value_at, stands_at}
use Rattle.cairo_model.specs.Pie.Layouts.{base_of, relocated}
use Rattle.cairo_model.specs.Machine.FieldMemories.{FieldCell}
use Rattle.batch_runner.specs.Memory.{placed}
use Rattle.batch_runner.specs.Pieces.{Stands}
use Rattle.batch_runner.specs.Working.Rising.{RisesIn}

abbrev number_of : MemoryCell → ℕ
number_of c = place_number c.segment c.offset

-- the cells' places rise from n on
unfoldable pub Climbs : ℕ → List MemoryCell → Type 0
Climbs n [] = Unit {0}
Climbs n (c ∷ cs) = (n ≤ number_of c) × Climbs (suc (number_of c)) cs

climbs_on : (n : ℕ) (c : MemoryCell) (cs : List MemoryCell) → n ≤ number_of c → Rise (c ∷ cs) → Climbs n (c ∷ cs)
unfolding Climbs
climbs_on n c [] le rise = (le, tt)
climbs_on n c (d ∷ cs) le rise =
    let next : number_of c < number_of d = rise 0 (omega arith) in
    let tail : Rise (d ∷ cs) = λ k lt. let e : suc k + 1 ≡ suc (k + 1) = omega arith in rw e at (rise (suc k) (omega arith)) in
    (le, climbs_on (suc (number_of c)) d cs (omega (arith, next)) tail)

pub climbs : (cs : List MemoryCell) → Rise cs → Climbs 0 cs
unfolding Climbs
climbs [] rise = tt
climbs (c ∷ cs) rise = climbs_on 0 c cs (omega arith) rise

module _ (bases sizes : List ℕ) (s : ℕ) where
  base : ℕ
  base = base_of bases s

  pick_rises : (b : Bool) (lo hi : ℕ) (x : FieldCell) (rest : List FieldCell) → (b ≡ true → RisesIn lo hi (x ∷ rest)) → (b ≡ false → RisesIn lo hi rest) → RisesIn lo hi (if b then x ∷ rest else rest)
  pick_rises true lo hi x rest here there = here refl
  pick_rises false lo hi x rest here there = there refl

  pub placed_rises : (lo n : ℕ) (cells : List MemoryCell) → Climbs n cells → All (IsCellOf sizes) cells → lo ≤ n - s * 2 ^ 32 → lo ≤ slice_index sizes s
      → RisesIn (base_of bases s + lo) (base_of bases s + slice_index sizes s) (placed bases s cells)
  unfolding Climbs RisesIn placed
  placed_rises lo n [] climb are low fits = omega (arith, fits)
  placed_rises lo n (c ∷ cs) climb are low fits =
      let first = climb.0 in
      pick_rises (c.segment == s) (base_of bases s + lo) (base_of bases s + slice_index sizes s) (base_of bases s + c.offset, relocated bases c.value) (placed bases s cs)
      (λ is. let same : c.segment ≡ s = grind (arith, nat_tests, is) in
      let inside : c.offset < slice_index sizes s = subst (λ (x : ℕ). c.offset < slice_index sizes x) same (All-head (IsCellOf sizes) c cs are).in_size in
      let shift : base_of bases s + suc c.offset ≡ suc (base_of bases s + c.offset) = omega arith in
      let rest = placed_rises (suc c.offset) (suc (number_of c)) cs climb.1 (All-tail (IsCellOf sizes) c cs are) (omega (arith, same)) (omega (arith, inside)) in
      (omega (arith, low, first, same), subst (λ (x : ℕ). RisesIn x (base_of bases s + slice_index sizes s) (placed bases s cs)) shift rest))
      (λ other. placed_rises lo (suc (number_of c)) cs climb.1 (All-tail (IsCellOf sizes) c cs are) (omega (arith, low, first)) fits)

value_is : (x v : Datum) → Some x ≡ Some v → x ≡ v
value_is x v e = cc

module _ (bases : List ℕ) (s o : ℕ) (v : Datum) where
  pick_stands : (b1 b2 : Bool) (c : MemoryCell) (later : Option MemoryCell) (rest : List FieldCell) → (b1 ≡ true → c.segment ≡ s) → (b2 ≡ true → c.offset ≡ o)
      → option_map (λ (x : MemoryCell). x.value) (if b1 && b2 then Some c else later) ≡ Some v
      → (option_map (λ (x : MemoryCell). x.value) later ≡ Some v → Stands (base_of bases s + o) (relocated bases v) rest)
      → Stands (base_of bases s + o) (relocated bases v) (if b1 then (base_of bases s + c.offset, relocated bases c.value) ∷ rest else rest)
  unfolding Stands
  pick_stands true true c later rest segment offset is next = inl (ap (λ x. base_of bases s + x) (offset refl), ap (relocated bases) (value_is c.value v is))
  pick_stands true false c later rest segment offset is next = inr (next is)
  pick_stands false true c later rest segment offset is next = next is
  pick_stands false false c later rest segment offset is next = next is

  pub stands_placed : (cells : List MemoryCell) → value_at cells s o ≡ Some v → Stands (base_of bases s + o) (relocated bases v) (placed bases s cells)
  unfolding placed
  stands_placed [] is = absurd (cc)
  stands_placed (c ∷ cs) is = pick_stands (c.segment == s) (c.offset == o) c (find (stands_at s o) cs) (placed bases s cs)
      (λ e. grind (arith, nat_tests, e)) (λ e. grind (arith, nat_tests, e)) is (stands_placed cs)
