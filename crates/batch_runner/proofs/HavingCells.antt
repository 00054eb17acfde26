-- What a memory tells that has a list of cells: regions, and a PIE's cells relocated.
use Rattle.std.proofs.Common.{◌≡◌, ℕ, zero, suc, ◌+◌, ◌*◌, ◌<◌, ◌≤◌, List, [], ◌∷◌, ◌++◌, sum, length, slice_index, All, Option, Some, inl, inr, refl, sym, ap, subst, ◌∙◌, arith}
use Rattle.std.proofs.lemmas.List.Elements.{All-contains}
use Rattle.std.proofs.lemmas.List.Sums.{sum_by-cons}
use Rattle.goldi_field.specs.Numbers.{prime, sum_of}
use Rattle.cairo_model.specs.Machine.Values.{Datum, number, place}
use Rattle.cairo_model.specs.Pie.Records.{MemoryCell, IsCellOf, value_at, memory_of}
use Rattle.cairo_model.specs.Pie.Layouts.{base_of, relocated}
use Rattle.cairo_model.specs.Machine.FieldMemories.{FieldCell, cell_at}
use Rattle.cairo_model.specs.Pie.Relocation.{HasRelocated}
use Rattle.cairo_model.proofs.PieMemories.{memory_gives}
use Rattle.batch_plan.specs.Plans.{bases_on}
use Rattle.batch_runner.specs.Memory.{placed, placed_on}
use Rattle.batch_runner.specs.Pieces.{Stands, numbered}
use Rattle.batch_runner.specs.Working.Memories.{HasEach}
use Rattle.batch_runner.specs.Working.Rising.{RisesIn}
use Rattle.cairo_model.specs.Machine.Addresses.{up}
use Rattle.boot_program.specs.Cells.{Four}
use Rattle.boot_program.specs.Instances.{InOrderFrom}
use Rattle.boot_program.specs.Frames.{code_list}
use Rattle.batch_runner.proofs.PiecesLaws.{is_found, stands_first, stands_second}
use Rattle.boot_program.proofs.RowLaw.{sum_moved}
use Rattle.batch_runner.proofs.SegmentCells.{stands_placed}

pub has_all : (lo hi : ℕ) (cells : List FieldCell) → RisesIn lo hi cells → HasEach (cell_at cells) cells
has_all lo hi cells h a v is = is_found a v lo hi cells h is

module _ (m : ℕ → Option ℕ) where
  pub has_first : (xs ys : List FieldCell) → HasEach m (xs ++ ys) → HasEach m xs
  has_first xs ys h a v is = h a v (stands_first a v xs ys is)

  pub has_second : (xs ys : List FieldCell) → HasEach m (xs ++ ys) → HasEach m ys
  has_second xs ys h a v is = h a v (stands_second a v xs ys is)

  -- numbers from a base on, seen from an address x that is k below it
  pub in_order : (vs : List ℕ) (x k base : ℕ) → base + length vs < prime → sum_of x k ≡ base → HasEach m (numbered base vs) → InOrderFrom m x k vs
  unfolding InOrderFrom numbered Stands
  in_order [] x k base fits from has = tt
  in_order (v ∷ vs) x k base fits from has =
      (ap m from ∙ has base v (inl (refl, refl)), in_order vs x (sum_of k 1) (suc base) (omega (arith, fits)) (next_place vs base fits from) (λ a w is. has a w (inr is)))
    where
      next_place : (rest : List ℕ) (base : ℕ) → base + suc (length rest) < prime → sum_of x k ≡ base → sum_of x (sum_of k 1) ≡ suc base
      next_place rest base fits from = omega (arith, fits, from)

  pub unbased : (x j k : ℕ) (vs : List ℕ) → InOrderFrom m (up x j) k vs → InOrderFrom m x (sum_of j k) vs
  unfolding InOrderFrom
  unbased x j k [] h = tt
  unbased x j k (v ∷ vs) h = (ap m (sym (sum_moved x j k)) ∙ h.0, subst (λ (d : ℕ). InOrderFrom m x d vs) (sym (sum_moved j k 1)) (unbased x j (sum_of k 1) vs h.1))

  -- numbers told by their index, four at a time
  pub code_region : (more x : ℕ) (ds : ℕ → ℕ → ℕ) (value : ℕ → ℕ) → ((j : ℕ) → Four (λ i. value (4 * j + i) ≡ ds j i))
      → ((n : ℕ) → n < 4 * (more + 1) → m (up x n) ≡ Some (value n)) → InOrderFrom m x 0 (code_list more ds)
  unfolding InOrderFrom code_list
  code_region zero x ds value same there =
      let s = same 0 in
      (there 0 (omega arith) ∙ ap Some s.0, (there 1 (omega arith) ∙ ap Some s.1, (there 2 (omega arith) ∙ ap Some s.2, (there 3 (omega arith) ∙ ap Some s.3, tt))))
  code_region (suc more) x ds value same there =
      let s = same 0 in
      let later = code_region more (up x 4) (λ j. ds (suc j)) (λ n. value (4 + n)) (λ j. let t = same (suc j) in
      (ap value (omega arith) ∙ t.0, ap value (omega arith) ∙ t.1, ap value (omega arith) ∙ t.2, ap value (omega arith) ∙ t.3))
      (λ n lt. ap m (four_on x n) ∙ there (4 + n) (omega (arith, lt))) in (
        there 0 (omega arith) ∙ ap Some s.0,
        (
          there 1 (omega arith) ∙ ap Some s.1,
          (
            there 2 (omega arith) ∙ ap Some s.2,
            (
              there 3 (omega arith) ∙ ap Some s.3,
              unbased x 4 0 (code_list more (λ j. ds (suc j))) later,
            ),
          ),
        ),
      )
    where
      four_on : (x n : ℕ) → up (up x 4) n ≡ up x (4 + n)
      four_on x n = omega arith

  -- a cell of a PIE, relocated
  pub cell_has : (bases : List ℕ) (s o : ℕ) (v : Datum) (cells : List MemoryCell) → HasEach m (placed bases s cells) → value_at cells s o ≡ Some v
      → m (base_of bases s + o) ≡ Some (relocated bases v)
  cell_has bases s o v cells has is = has _ _ (stands_placed bases s o v cells is)

  pub has_others : (bases : List ℕ) (cells : List MemoryCell) (s : ℕ) (zs : List ℕ) → HasEach m (placed_on bases s zs cells) → (i : ℕ) → i < length zs → HasEach m (placed bases (s + i) cells)
  unfolding placed_on
  has_others bases cells s [] has i lt = absurd (omega (arith, lt))
  has_others bases cells s (z ∷ zs) has zero lt = let e : s ≡ s + 0 = omega arith in
      subst (λ (x : ℕ). HasEach m (placed bases x cells)) e (has_first (placed bases s cells) (placed_on bases (suc s) zs cells) has)
  has_others bases cells s (z ∷ zs) has (suc i) lt = let e : suc s + i ≡ s + suc i = omega arith in
      subst (λ (x : ℕ). HasEach m (placed bases x cells)) e
      (has_others bases cells (suc s) zs (has_second (placed bases s cells) (placed_on bases (suc s) zs cells) has) i (omega (arith, lt)))

  pub has_relocated : (bases sizes : List ℕ) (cells : List MemoryCell) → All (IsCellOf sizes) cells
      → ((s : ℕ) → s < length sizes → base_of bases s + slice_index sizes s < prime)
      → ((s : ℕ) → s < length sizes → 0 < slice_index sizes s → HasEach m (placed bases s cells)) → HasRelocated bases (memory_of cells) m
  has_relocated bases sizes cells are fits has (number a) v is = absurd (cc)
  has_relocated bases sizes cells are fits has (place s o) v is =
      let found = memory_gives cells (place s o) v is in
      let cell = All-contains (IsCellOf sizes) cells found.cell are found.stands in
      let same_s : found.cell.segment ≡ s = segment_is found.cell.segment found.cell.offset s o found.address in
      let same_o : found.cell.offset ≡ o = offset_is found.cell.segment found.cell.offset s o found.address in
      let inside : s < length sizes = subst (λ (x : ℕ). x < length sizes) same_s cell.in_segments in
      let below : o < slice_index sizes s = subst (λ (x : ℕ). o < slice_index sizes x) same_s (subst (λ (x : ℕ). x < slice_index sizes found.cell.segment) same_o cell.in_size) in
      let room = fits s inside in
      let plain_number : sum_of (base_of bases s) o ≡ base_of bases s + o = omega (arith, room, below) in
      ap m plain_number ∙ cell_has bases s o v cells (has s inside (omega (arith, below))) is
    where
      segment_is : (s o q r : ℕ) → place s o ≡ place q r → s ≡ q
      segment_is s o q r e = cc

      offset_is : (s o q r : ℕ) → place s o ≡ place q r → o ≡ r
      offset_is s o q r e = cc

-- each segment from 7 on lies below the end of all
pub bases_below : (base : ℕ) (zs : List ℕ) (i : ℕ) → i < length zs → slice_index (bases_on base zs) i + slice_index zs i ≤ base + sum zs
unfolding bases_on
bases_below base [] i lt = absurd (omega (arith, lt))
bases_below base (z ∷ zs) zero lt = let e : sum (z ∷ zs) ≡ z + sum zs = sum_by-cons (λ (x : ℕ). x) z zs in omega (arith, e)
bases_below base (z ∷ zs) (suc i) lt =
    let e : sum (z ∷ zs) ≡ z + sum zs = sum_by-cons (λ (x : ℕ). x) z zs in
    let h = bases_below (base + z) zs i (omega (arith, lt)) in
    omega (arith, e, h)
