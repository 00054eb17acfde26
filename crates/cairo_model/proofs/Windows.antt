-- Where a key can be in a list whose keys rise: each key is so many above another as it stands places behind it, at least.
use Rattle.std.proofs.Common.{◌≡◌, ℕ, zero, suc, ◌+◌, ◌-◌, ◌<◌, ◌≤◌, List, length, get_or, inl, inr, sym, ap, subst, ◌∙◌, arith}
use Rattle.std.proofs.lemmas.Bool.{cases_lt}
use Rattle.std.specs.List.Sorted.{IsStrictlyIncreasing}
use Rattle.cairo_model.specs.Working.Keys.{IsKeyAt, IsGapFor, AreBelow, AreAbove}

module _ (keys : List ℕ) (rise : IsStrictlyIncreasing keys) where
  rises_by : (i n : ℕ) → i + n < length keys → get_or keys i 0 + n ≤ get_or keys (i + n) 0
  rises_by i zero lt =
      let same : i ≡ i + 0 = omega arith in
      subst (λ (k : ℕ). get_or keys i 0 + 0 ≤ get_or keys k 0) same (omega arith)
  rises_by i (suc n) lt =
      let before = rises_by i n (omega (arith, lt)) in
      let step = rise (i + n) (omega (arith, lt)) in
      let same : i + n + 1 ≡ i + suc n = omega arith in
      subst (λ (k : ℕ). get_or keys i 0 + suc n ≤ get_or keys k 0) same (omega (arith, before, step))

  pub rises_between : (i j : ℕ) → i ≤ j → j < length keys → get_or keys i 0 + (j - i) ≤ get_or keys j 0
  rises_between i j le lt =
      let same : i + (j - i) ≡ j = omega (arith, le) in
      subst (λ (k : ℕ). get_or keys i 0 + (j - i) ≤ get_or keys k 0) same (rises_by i (j - i) (omega (arith, le, lt)))

  -- before the place where the key is if none is left out up to the last one
  pub below_last : (key last : ℕ) → last ≡ get_or keys (length keys - 1) 0 → key ≤ last → AreBelow keys key (length keys - 1 - (last - key))
  below_last key last is le j lt = omega (arith, is, le, lt, rises_between j (length keys - 1) (omega (arith, lt)) (omega (arith, lt)))

  pub all_below : (key last : ℕ) → last ≡ get_or keys (length keys - 1) 0 → last < key → AreBelow keys key (length keys)
  all_below key last is less j lt = omega (arith, is, less, lt, rises_between j (length keys - 1) (omega (arith, lt)) (omega (arith, lt)))

  -- behind the place where the key is if none is left out from the first one on
  pub above_first : (key i : ℕ) → key < get_or keys 0 0 + i → AreAbove keys key i
  above_first key i less j le lt = omega (arith, less, le, rises_between 0 j (omega arith) lt)

-- the keys of a part that begins at an index
pub record IsPart (keys part : List ℕ) (from : ℕ) : Type 0 where
  pub inside : from + length part ≤ length keys
  pub same : (j : ℕ) → j < length part → get_or part j 0 ≡ get_or keys (from + j) 0

module _ (keys part : List ℕ) (from : ℕ) (is : IsPart keys part from) where
  pub part_rises : IsStrictlyIncreasing keys → IsStrictlyIncreasing part
  part_rises rise k lt =
      let next : get_or part (k + 1) 0 ≡ get_or keys (from + k + 1) 0 = is.same (k + 1) lt ∙ ap (λ (n : ℕ). get_or keys n 0) (omega arith) in
      omega (arith, is.same k (omega (arith, lt)), next, rise (from + k) (omega (arith, lt, is.inside)))

  pub part_found : (key i : ℕ) → IsKeyAt part key i → IsKeyAt keys key (from + i)
  part_found key i at = record { in_range = omega (arith, at.in_range, is.inside); has_key = sym (is.same i at.in_range) ∙ at.has_key }

  -- what is in no part in between, and neither before nor behind it, is nowhere
  pub part_absent : (key i : ℕ) → AreBelow keys key from → AreAbove keys key (from + length part) → IsGapFor part key i → IsGapFor keys key (from + i)
  part_absent key i below above gap = record {
    in_range = omega (arith, gap.in_range, is.inside);
    smaller_before = λ j lt. elim (cases_lt j from) [
      | inl before ↦ below j before
      | inr past ↦
          let here : from + (j - from) ≡ j = omega (arith, past) in
          subst (λ (n : ℕ). get_or keys n 0 < key) here (subst (λ (n : ℕ). n < key) (is.same (j - from) (omega (arith, lt, past, gap.in_range))) (gap.smaller_before (j - from) (omega (arith, lt, past))))
    ];
    greater_after = λ j le lt. elim (cases_lt j (from + length part)) [
      | inl before ↦
          let here : from + (j - from) ≡ j = omega (arith, le) in
          let small : j - from < length part = omega (arith, le, before) in
          subst (λ (n : ℕ). key < get_or keys n 0) here (subst (λ (n : ℕ). key < n) (is.same (j - from) small) (gap.greater_after (j - from) (omega (arith, le)) small))
      | inr past ↦ above j past lt
    ];
  }
