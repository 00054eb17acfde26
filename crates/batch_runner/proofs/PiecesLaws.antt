-- Pieces one after the other rise, and each cell of each is found.
use Rattle.std.proofs.Common.{◌≡◌, ℕ, zero, suc, ◌+◌, ◌<◌, ◌≤◌, ◌==◌, true, false, if◌then◌else◌, List, [], ◌∷◌, ◌++◌, length, slice_index, Option, Some, option_map, inl, inr, refl, sym, subst, arith}
use Rattle.std.specs.List.{find}
use Rattle.std.proofs.lemmas.Bool.Decides.{nat_tests}
use Rattle.cairo_model.specs.Machine.FieldMemories.{FieldCell, cell_at, AddressesRise}
use Rattle.batch_runner.specs.Pieces.{Stands, numbered}
use Rattle.batch_runner.specs.Working.Rising.{RisesIn}

pub joined : (lo mid hi : ℕ) (xs ys : List FieldCell) → RisesIn lo mid xs → RisesIn mid hi ys → RisesIn lo hi (xs ++ ys)
unfolding RisesIn
joined lo mid hi [] ys first second = lower lo mid hi ys first second
  where
    lower : (lo mid hi : ℕ) (ys : List FieldCell) → lo ≤ mid → RisesIn mid hi ys → RisesIn lo hi ys
    lower lo mid hi [] le rises = omega (arith, le, rises)
    lower lo mid hi (y ∷ ys) le rises = let e = rises.0 in (omega (arith, le, e), rises.1)
joined lo mid hi (x ∷ xs) ys first second = (first.0, joined (suc x.0) mid hi xs ys first.1 second)

pub numbered_rises : (base : ℕ) (vs : List ℕ) (hi : ℕ) → base + length vs ≤ hi → RisesIn base hi (numbered base vs)
unfolding RisesIn numbered
numbered_rises base [] hi fits = omega (arith, fits)
numbered_rises base (v ∷ vs) hi fits = (omega arith, numbered_rises (suc base) vs hi (omega (arith, fits)))

pub rises : (lo hi : ℕ) (cells : List FieldCell) → RisesIn lo hi cells → AddressesRise cells
unfolding RisesIn
rises lo hi [] h k lt = absurd (omega arith)
rises lo hi (c ∷ []) h k lt = absurd (omega arith)
rises lo hi (c ∷ d ∷ cs) h zero lt = h.1.0
rises lo hi (c ∷ d ∷ cs) h (suc k) lt = let e : suc k + 1 ≡ suc (k + 1) = omega arith in rw e (rises (suc c.0) hi (d ∷ cs) h.1 k (omega arith))

pub stands_first : (a v : ℕ) (xs ys : List FieldCell) → Stands a v xs → Stands a v (xs ++ ys)
unfolding Stands
stands_first a v [] ys none = absurd none
stands_first a v (x ∷ xs) ys (inl is) = inl is
stands_first a v (x ∷ xs) ys (inr later) = inr (stands_first a v xs ys later)

pub stands_second : (a v : ℕ) (xs ys : List FieldCell) → Stands a v ys → Stands a v (xs ++ ys)
unfolding Stands
stands_second a v [] ys is = is
stands_second a v (x ∷ xs) ys is = inr (stands_second a v xs ys is)

pub stands_numbered : (base : ℕ) (vs : List ℕ) (i : ℕ) → i < length vs → Stands (base + i) (slice_index vs i) (numbered base vs)
unfolding Stands numbered
stands_numbered base [] i lt = absurd (omega (arith, lt))
stands_numbered base (v ∷ vs) zero lt = inl (omega arith, refl)
stands_numbered base (v ∷ vs) (suc i) lt = let e : base + suc i ≡ suc base + i = omega arith in
    inr (subst (λ (x : ℕ). Stands x (slice_index vs i) (numbered (suc base) vs)) (sym e) (stands_numbered (suc base) vs i (omega (arith, lt))))

-- a cell that stands is not below where the addresses begin
above : (a v lo hi : ℕ) (cells : List FieldCell) → RisesIn lo hi cells → Stands a v cells → lo ≤ a
unfolding RisesIn Stands
above a v lo hi [] h none = absurd none
above a v lo hi (c ∷ cs) h (inl is) = let e = is.0 in let f = h.0 in omega (arith, e, f)
above a v lo hi (c ∷ cs) h (inr later) = let e = above a v (suc c.0) hi cs h.1 later in let f = h.0 in omega (arith, e, f)

found_here : (c : FieldCell) (rest : Option FieldCell) (a v : ℕ) → c.0 ≡ a → c.1 ≡ v → option_map (λ (x : FieldCell). x.1) (if c.0 == a then Some c else rest) ≡ Some v
found_here c rest a v is value = let e : (c.0 == a) ≡ true = grind (arith, nat_tests, is) in rw (e, value) refl

found_later : (c : FieldCell) (rest : Option FieldCell) (a v : ℕ) → suc c.0 ≤ a → option_map (λ (x : FieldCell). x.1) rest ≡ Some v → option_map (λ (x : FieldCell). x.1) (if c.0 == a then Some c else rest) ≡ Some v
found_later c rest a v below is = let e : (c.0 == a) ≡ false = grind (arith, nat_tests, below) in rw e is

pub is_found : (a v lo hi : ℕ) (cells : List FieldCell) → RisesIn lo hi cells → Stands a v cells → cell_at cells a ≡ Some v
unfolding RisesIn Stands
is_found a v lo hi [] h none = absurd none
is_found a v lo hi (c ∷ cs) h (inl is) = found_here c (find (λ (x : FieldCell). x.0 == a) cs) a v is.0 is.1
is_found a v lo hi (c ∷ cs) h (inr later) =
    found_later c (find (λ (x : FieldCell). x.0 == a) cs) a v (above a v (suc c.0) hi cs h.1 later) (is_found a v (suc c.0) hi cs h.1 later)
