-- Lists of passes, told by their numbers, and the entries of a number in a journal.
use Rattle.std.proofs.Common.{◌≡◌, ◌⊎◌, inl, inr, ℕ, zero, suc, ◌+◌, ◌<◌, ◌≤◌, ◌==◌, Bool, true, false, cond, List, [], ◌∷◌, ◌++◌, map, refl, sym, ◌∙◌, subst, arith}
use Rattle.std.specs.List.{AllZip, range_with_len}
use Rattle.std.specs.Prelude.{All, Contains}
use Rattle.std.proofs.Math.Nat.{eq-or-lt_of_le}
use Rattle.std.proofs.lemmas.Bool.{eqb-true}
use Rattle.std.proofs.lemmas.List.Elements.{All-cons, All-contains, All-contains_itself, All-head, All-nil, All-tail, All-weaker, Contains-append_right, filter_passes}
use Rattle.desk_core.specs.declared.entry.FullEntry.{FullEntry}
use Rattle.script_runner.specs.Lines.{entries_under}
use Rattle.script_runner.proofs.LineEntries.{IsUnder}
use Rattle.turn_lock.specs.Passes.{IsNumberOf, Token}

-- ---- all of a list

module _ {X : Type 0} (P : X → Type 0) where
  pub all_mapped : {Y : Type 0} (f : Y → X) (ys : List Y) → All P (map f ys) → All (λ y. P (f y)) ys
  all_mapped f [] all = All-nil (λ y. P (f y))
  all_mapped f (y ∷ ys) all = All-cons (λ z. P (f z)) y ys (All-head P (f y) (map f ys) all) (all_mapped f ys (All-tail P (f y) (map f ys) all))

  pub all_front : (xs ys : List X) → All P (xs ++ ys) → All P xs
  all_front [] ys all = All-nil P
  all_front (x ∷ xs) ys all = All-cons P x xs (All-head P x (xs ++ ys) all) (all_front xs ys (All-tail P x (xs ++ ys) all))

  pub all_back : (xs ys : List X) → All P (xs ++ ys) → All P ys
  all_back [] ys all = all
  all_back (x ∷ xs) ys all = all_back xs ys (All-tail P x (xs ++ ys) all)

-- ---- beside numbers that follow one another

module _ {X : Type 0} (R : ℕ → X → Type 0) where
  -- some number of the range that is its own
  abbrev pub HasPlace : ℕ → ℕ → X → Type 0
  HasPlace a n x = (c : ℕ) × (a ≤ c) × (c < a + n) × R c x

  further : (a n : ℕ) (x : X) → HasPlace (a + 1) n x → HasPlace a (suc n) x
  further a n x (c, low, high, is) = (c, omega (arith, low), omega (arith, high), is)

  pub each_has_place : (a n : ℕ) (xs : List X) → AllZip R (range_with_len a n) xs → All (HasPlace a n) xs
  each_has_place a zero [] zip = All-nil (HasPlace a zero)
  each_has_place a zero (x ∷ xs) zip = absurd zip
  each_has_place a (suc n) [] zip = absurd zip
  each_has_place a (suc n) (x ∷ xs) zip =
      All-cons (HasPlace a (suc n)) x xs (a, omega arith, omega arith, zip.0) (All-weaker (HasPlace (a + 1) n) (HasPlace a (suc n)) (further a n) xs (each_has_place (a + 1) n xs zip.1))

  -- the element that stands at a number
  abbrev pub StandsAt : List X → ℕ → Type 0
  StandsAt xs c = (x : X) × Contains xs x × R c x

  behind : (x : X) (xs : List X) (c : ℕ) → StandsAt xs c → StandsAt (x ∷ xs) c
  behind x xs c (y, has, is) = (y, Contains-append_right (x ∷ []) xs y has, is)

  here_or_behind : (a c : ℕ) (x : X) (xs : List X) → R a x → (a < c → StandsAt xs c) → (a ≡ c) ⊎ (a < c) → StandsAt (x ∷ xs) c
  here_or_behind a c x xs is later (inl same) = (x, (0, omega arith, refl), subst (λ (k : ℕ). R k x) same is)
  here_or_behind a c x xs is later (inr less) = behind x xs c (later less)

  pub stands_at : (a n : ℕ) (xs : List X) → AllZip R (range_with_len a n) xs → (c : ℕ) → a ≤ c → c < a + n → StandsAt xs c
  stands_at a zero xs zip c low high = absurd (omega (arith, low, high))
  stands_at a (suc n) [] zip c low high = absurd zip
  stands_at a (suc n) (x ∷ xs) zip c low high = here_or_behind a c x xs zip.0 (λ less. stands_at (a + 1) n xs zip.1 c (omega (arith, less)) (omega (arith, high))) (eq-or-lt_of_le low)

-- ---- passes

pub has_number : {N : Type 0} (ps : List (Token N)) (p : Token N) → Contains ps p → IsNumberOf ps p.number
has_number {N} ps p has =
    let numbers = map (λ (q : Token N). q.number) ps in
    All-contains (λ (q : Token N). Contains numbers q.number) ps p (all_mapped (Contains numbers) (λ (q : Token N). q.number) ps (All-contains_itself numbers)) has

-- ---- the entries of a number

abbrev pub IfNumber : (FullEntry → Type 0) → ℕ → FullEntry → Type 0
IfNumber P number e = (e.entry.pass == number) ≡ true → P e

with_number : (P : FullEntry → Type 0) (number : ℕ) (e : FullEntry) (es own_es : List FullEntry) → (All P own_es → All (IfNumber P number) es) → (b : Bool) → (e.entry.pass == number) ≡ b → All P (cond b (e ∷ own_es) own_es)
    → All (IfNumber P number) (e ∷ es)
with_number P number e es own_es later true is all = All-cons (IfNumber P number) e es (λ _. All-head P e own_es all) (later (All-tail P e own_es all))
with_number P number e es own_es later false is all = All-cons (IfNumber P number) e es (λ its. absurd (let t : true ≡ false = sym its ∙ is in cc)) (later all)

-- what holds of all entries of a number holds of each that has it
pub of_number : (P : FullEntry → Type 0) (number : ℕ) (es : List FullEntry) → All P (entries_under number es) → All (IfNumber P number) es
of_number P number [] all = All-nil (IfNumber P number)
of_number P number (e ∷ es) all = with_number P number e es (entries_under number es) (of_number P number es) (e.entry.pass == number) refl all

abbrev pub HasOther : ℕ → FullEntry → Type 0
HasOther number e = (e.entry.pass == number) ≡ false

not_this : (number : ℕ) (e : FullEntry) (es own_es : List FullEntry) → (own_es ≡ [] → All (HasOther number) es) → (b : Bool) → (e.entry.pass == number) ≡ b → cond b (e ∷ own_es) own_es ≡ [] → All (HasOther number) (e ∷ es)
not_this number e es own_es later true is none = absurd (cc)
not_this number e es own_es later false is none = All-cons (HasOther number) e es is (later none)

-- where a number has no entry, each entry has another
pub none_has : (number : ℕ) (es : List FullEntry) → entries_under number es ≡ [] → All (HasOther number) es
none_has number [] none = All-nil (HasOther number)
none_has number (e ∷ es) none = not_this number e es (entries_under number es) (none_has number es) (e.entry.pass == number) refl none

pub all_under : (number : ℕ) (es : List FullEntry) → All (IsUnder number) (entries_under number es)
all_under number es =
    All-weaker (λ (e : FullEntry). (e.entry.pass == number) ≡ true) (IsUnder number) (λ e its. eqb-true e.entry.pass number its) (entries_under number es) (filter_passes (λ (e : FullEntry). e.entry.pass == number) es)
