-- Values that the machine computes, and the states of a run, stay in the segments in which they began.
use Rattle.std.proofs.Common.{◌≡◌, ℕ, ◌+◌, ◌-◌, ◌*◌, ◌%◌, ◌^◌, ◌<◌, ◌==◌, Bool, true, false, nat_lt, if◌then◌else◌, List, [], ◌∷◌, length, All, Option, Some, None, refl, sym, subst, arith, lit<}
use Rattle.std.proofs.Math.Nat.{mod-lt}
use Rattle.std.proofs.lemmas.Bool.Decides.{nat_tests}
use Rattle.std.proofs.lemmas.List.Elements.{All-cons, All-head, All-tail}
use Rattle.goldi_field.specs.Numbers.{prime, IsFelt, sum_of, difference_of}
use Rattle.cairo_model.specs.Machine.Values.{Datum, number, place, place_at, Sum, Difference, Product}
use Rattle.cairo_model.specs.Machine.Steps.{Arithmetic, Registers, value_arithmetic, RunFrom, RunsTo, last_of}
use Rattle.cairo_model.proofs.Inversion.{moves, value_exact}
use Rattle.cairo_model.specs.Pie.Records.{PieRecord, KeepsRules, IsValueIn, memory_of}
use Rattle.cairo_model.proofs.Outcomes.{some_is}
use Rattle.cairo_model.specs.Pie.Staying.{AllValuesIn, AreIn, StatesStay, ValuesStay}
use Rattle.cairo_model.proofs.PieMemories.{values_in}
use Rattle.cairo_model.proofs.Staying.{Closed, step_good}

below : (n : ℕ) → IsFelt (n % prime)
below n = mod-lt n (lit< tt)

-- a number that is computed modulo the prime lies in each number of segments
number_in_segments : (count n : ℕ) (c : Datum) → Some (number (n % prime)) ≡ Some c → IsValueIn count c
number_in_segments count n c e = subst (IsValueIn count) (some_is (number (n % prime)) c e) (below n)

-- so does a place that was found near
near_in_segments : (count s o : ℕ) (c : Datum) (b : Bool) → (b ≡ true → o < 2 ^ 31) → s < count → (if b then Some (place s o) else None) ≡ Some c → IsValueIn count c
near_in_segments count s o c true near inside e = subst (IsValueIn count) (some_is (place s o) c e) (record { in_segments = inside; is_near = near refl })
near_in_segments count s o c false near inside e = absurd (cc)

place_in_segments : (count s o : ℕ) (c : Datum) → s < count → place_at s o ≡ Some c → IsValueIn count c
place_in_segments count s o c inside e = near_in_segments count s o c (nat_lt o (2 ^ 31)) (λ is. grind (arith, nat_tests)) inside e

sums_stay : (count : ℕ) (a b c : Datum) → IsValueIn count a → IsValueIn count b → Sum a b ≡ Some c → IsValueIn count c
sums_stay count (number a) (number b) c g h e = number_in_segments count (a + b) c e
sums_stay count (number a) (place s o) c g h e = place_in_segments count s (sum_of o a) c h.in_segments e
sums_stay count (place s o) (number b) c g h e = place_in_segments count s (sum_of o b) c g.in_segments e
sums_stay count (place s o) (place t q) c g h e = absurd (cc)

moves_stay : (count : ℕ) (a : Datum) (n : ℕ) (c : Datum) → IsValueIn count a → Sum a (number n) ≡ Some c → IsValueIn count c
moves_stay count (number a) n c g e = number_in_segments count (a + n) c e
moves_stay count (place s o) n c g e = place_in_segments count s (sum_of o n) c g.in_segments e

-- a difference of two places of one segment is a number, and of a place and a number a place of its segment
differences_stay : (count : ℕ) (a b c : Datum) → IsValueIn count a → IsValueIn count b → Difference a b ≡ Some c → IsValueIn count c
differences_stay count (number a) (number b) c g h e = number_in_segments count (a + prime - b) c e
differences_stay count (number a) (place s o) c g h e = absurd (cc)
differences_stay count (place s o) (number b) c g h e = place_in_segments count s (sum_of o (difference_of 0 b)) c g.in_segments e
differences_stay count (place s o) (place t q) c g h e = same_segment (s == t) e
  where
    same_segment : (b : Bool) → (if b then Some (number (difference_of o q)) else None) ≡ Some c → IsValueIn count c
    same_segment true e = number_in_segments count (o + prime - q) c e
    same_segment false e = absurd (cc)

products_stay : (count : ℕ) (a b c : Datum) → Product a b ≡ Some c → IsValueIn count c
products_stay count (number a) (number b) c e = number_in_segments count (a * b) c e
products_stay count (number a) (place s o) c e = absurd (cc)
products_stay count (place s o) (number b) c e = absurd (cc)
products_stay count (place s o) (place t q) c e = absurd (cc)

pub values_stay : (count : ℕ) → ValuesStay count
values_stay count = record { sums = sums_stay count; differences = differences_stay count; products = λ a b c g h. products_stay count a b c }

values_closed : (count : ℕ) → Closed value_arithmetic (IsValueIn count)
values_closed count = record { sums = sums_stay count; moves = moves_stay count; products = products_stay count }

rest_stays : (count : ℕ) (m : Datum → Option Datum) → AllValuesIn count m → (s : Registers Datum) (ss : List (Registers Datum)) → AreIn count s → RunFrom value_arithmetic m s ss → All (AreIn count) (s ∷ ss)
rest_stays count m inside s [] good run = All-cons (AreIn count) s [] good (λ k d lt. absurd (omega arith))
rest_stays count m inside s (t ∷ ts) good run =
    let next = step_good value_arithmetic (IsValueIn count) (values_closed count) m inside s t (record { pc = good.pc; ap = good.ap; fp = good.fp }) (moves value_arithmetic value_exact m s t run.0) in
    All-cons (AreIn count) s (t ∷ ts) good (rest_stays count m inside t ts (record { pc = next.pc; ap = next.ap; fp = next.fp }) run.1)

pub states_stay : (count : ℕ) (m : Datum → Option Datum) → AllValuesIn count m → StatesStay count m
states_stay count m inside s t [] good none = absurd none
states_stay count m inside s t (u ∷ us) good run = rest_stays count m inside u us (subst (AreIn count) (sym run.0) good) run.1.0

pub pie_states_stay : (pie : PieRecord) → KeepsRules pie → StatesStay (length pie.sizes) (memory_of pie.cells)
pie_states_stay pie rules = states_stay (length pie.sizes) (memory_of pie.cells) (values_in pie rules)

-- ---- the last state

last_in : {V : Type 0} (P : Registers V → Type 0) (u : Registers V) (us : List (Registers V)) → All P (u ∷ us) → P (last_of u us)
last_in P u [] all = All-head P u [] all
last_in P u (v ∷ vs) all = last_in P v vs (All-tail P u (v ∷ vs) all)

-- what holds of each state of a run holds of its last
pub end_in : {V : Type 0} (A : Arithmetic V) (P : Registers V → Type 0) (m : V → Option V) (s t : Registers V) (ss : List (Registers V)) → RunsTo A m s ss t → All P ss → P t
end_in A P m s t [] none all = absurd none
end_in A P m s t (u ∷ us) run all = subst P run.1.1 (last_in P u us all)
