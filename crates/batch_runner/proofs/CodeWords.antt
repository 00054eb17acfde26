-- The words of a program are the numbers of its PIE's first cells.
use Rattle.std.proofs.Common.{◌≡◌, ℕ, zero, suc, ◌+◌, ◌^◌, ◌<◌, ◌≤◌, ◌==◌, ◌&&◌, Bool, true, false, if◌then◌else◌, List, [], ◌∷◌, length, map, take, Option, Some, None, is_some, option_map, unwrap_or, refl, sym, ap, ap₂, subst, ◌∙◌, arith}
use Rattle.std.specs.List.{find}
use Rattle.std.proofs.lemmas.Bool.Decides.{nat_tests}
use Rattle.cairo_model.specs.Machine.Values.{Datum}
use Rattle.cairo_model.specs.Pie.Records.{MemoryCell, place_number, stands_at, value_at}
use Rattle.batch_runner.specs.Layout.{code_from, plain_number, size}
use Rattle.batch_runner.specs.Working.Tasks.{Task}
use Rattle.batch_runner.proofs.Limits.{size_few}
use Rattle.batch_runner.proofs.ReadOff.{code_each}
use Rattle.batch_runner.proofs.SegmentCells.{Climbs, climbs}

abbrev key : MemoryCell → ℕ
key c = place_number c.segment c.offset

abbrev pub word_in : MemoryCell → ℕ
word_in c = plain_number c.value

-- a look-up passes by a cell that stands elsewhere, and finds one that stands there
passed : (b1 b2 : Bool) (c : MemoryCell) (rest : Option MemoryCell) → (b1 ≡ true → b2 ≡ true → ⊥) → option_map (λ (x : MemoryCell). x.value) (if b1 && b2 then Some c else rest) ≡ option_map (λ (x : MemoryCell). x.value) rest
passed true true c rest elsewhere = absurd (elsewhere refl refl)
passed true false c rest elsewhere = refl
passed false true c rest elsewhere = refl
passed false false c rest elsewhere = refl

found_here : (b1 b2 : Bool) (c : MemoryCell) (rest : Option MemoryCell) → b1 ≡ true → b2 ≡ true → option_map (λ (x : MemoryCell). x.value) (if b1 && b2 then Some c else rest) ≡ Some c.value
found_here true true c rest e f = refl
found_here true false c rest e f = absurd (cc)
found_here false true c rest e f = absurd (cc)
found_here false false c rest e f = absurd (cc)

skipped : (c : MemoryCell) (cs : List MemoryCell) (o : ℕ) → (key c ≡ o → ⊥) → value_at (c ∷ cs) 0 o ≡ value_at cs 0 o
skipped c cs o other = passed (c.segment == 0) (c.offset == o) c (find (stands_at 0 o) cs)
    (λ e f. let s : c.segment ≡ 0 = grind (arith, nat_tests, e) in let q : c.offset ≡ o = grind (arith, nat_tests, f) in other (omega (arith, s, q)))

absent : (n o : ℕ) (cells : List MemoryCell) → Climbs n cells → o < n → value_at cells 0 o ≡ None
unfolding Climbs
absent n o [] climb lt = refl
absent n o (c ∷ cs) climb lt =
    let first = climb.0 in
    skipped c cs o (λ e. omega (arith, e, first, lt)) ∙ absent (suc (key c)) o cs climb.1 (omega (arith, first, lt))

-- where a look-up at the least place finds a cell, it is the first
first_key : (i : ℕ) (c : MemoryCell) (cs : List MemoryCell) → Climbs i (c ∷ cs) → is_some (value_at (c ∷ cs) 0 i) ≡ true → key c ≡ i
unfolding Climbs
first_key i c cs climb there = pick (i == key c) refl
  where
    pick : (b : Bool) → (i == key c) ≡ b → key c ≡ i
    pick true e = grind (arith, nat_tests, e)
    pick false e =
        let first = climb.0 in
        let other : key c ≡ i → ⊥ = λ s. false_is_not_true (sym e ∙ (let f : (i == key c) ≡ true = grind (arith, nat_tests, s) in f)) in
        let none = skipped c cs i other ∙ absent (suc (key c)) i cs climb.1 (omega (arith, first)) in
        absurd (false_is_not_true (sym (ap is_some none) ∙ there))
      where
        false_is_not_true : false ≡ true → ⊥
        false_is_not_true e = cc

first_value : (i : ℕ) (c : MemoryCell) (cs : List MemoryCell) → i < 2 ^ 32 → key c ≡ i → value_at (c ∷ cs) 0 i ≡ Some c.value
first_value i c cs low is = found_here (c.segment == 0) (c.offset == i) c (find (stands_at 0 i) cs)
    (let s : c.segment ≡ 0 = omega (arith, low, is) in grind (arith, nat_tests, s))
    (let q : c.offset ≡ i = omega (arith, low, is) in grind (arith, nat_tests, q))

later_words : (c : MemoryCell) (cs : List MemoryCell) (i j n : ℕ) → key c ≡ i → i < j → code_from (c ∷ cs) j n ≡ code_from cs j n
unfolding code_from
later_words c cs i j zero is lt = refl
later_words c cs i j (suc n) is lt =
    ap₂ (λ (v : Option Datum) (rest : List ℕ). unwrap_or (option_map plain_number v) 0 ∷ rest) (skipped c cs j (λ e. omega (arith, e, is, lt)))
    (later_words c cs i (suc j) n is (omega (arith, lt)))

pub record AreFirst (cells : List MemoryCell) (i n : ℕ) : Type 0 where
  pub words : map word_in (take n cells) ≡ code_from cells i n
  pub enough : n ≤ length cells

are_first : (cells : List MemoryCell) (i n : ℕ) → Climbs i cells → i + n ≤ 2 ^ 32 → ((k : ℕ) → k < n → is_some (value_at cells 0 (i + k)) ≡ true) → AreFirst cells i n
unfolding Climbs code_from
are_first cells i zero climb low there = record { words = refl; enough = omega arith }
are_first [] i (suc n) climb low there = absurd (nothing (there 0 (omega arith)))
  where
    nothing : false ≡ true → ⊥
    nothing e = cc
are_first (c ∷ cs) i (suc n) climb low there =
    let at : i + 0 ≡ i = omega arith in
    let is = first_key i c cs climb (subst (λ x. is_some (value_at (c ∷ cs) 0 x) ≡ true) at (there 0 (omega arith))) in
    let climb_on : Climbs (suc i) cs = subst (λ x. Climbs (suc x) cs) is climb.1 in
    let rest = are_first cs (suc i) n climb_on (omega (arith, low)) (λ k lt. later_there k lt is) in
    record {
      words = ap₂ (λ (v : Option Datum) (words : List ℕ). unwrap_or (option_map plain_number v) 0 ∷ words) (sym (first_value i c cs (omega (arith, low)) is)) (rest.words ∙ sym (later_words c cs i (suc i) n is (omega arith)));
      enough = let e = rest.enough in omega (arith, e);
    }
  where
    later_there : (k : ℕ) → k < n → key c ≡ i → is_some (value_at cs 0 (suc i + k)) ≡ true
    later_there k lt is =
        let e : i + suc k ≡ suc i + k = omega arith in
        ap is_some (sym (skipped c cs (suc i + k) (λ f. omega (arith, f, is)))) ∙ subst (λ x. is_some (value_at (c ∷ cs) 0 x) ≡ true) e (there (suc k) (omega (arith, lt)))

pub code_first : (t : Task) → AreFirst t.checked.pie.cells 0 (size t.checked 0)
code_first t =
    let few = size_few t 0 (omega arith) in
    are_first t.checked.pie.cells 0 (size t.checked 0) (climbs t.checked.pie.cells t.accepted.rules.rise) (omega (arith, few)) (λ k lt. ap is_some (code_each t (0 + k) (omega (arith, lt))))
