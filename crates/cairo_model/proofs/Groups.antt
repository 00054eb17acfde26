-- A list of numbers that is read place by place, and its groups of twenty.
use Rattle.std.proofs.Common.{◌≡◌, ℕ, zero, suc, ◌+◌, ◌*◌, ◌/◌, ◌%◌, ◌<◌, ◌≤◌, List, [], ◌∷◌, ◌++◌, length, take, drop, slice_index, get_or, inl, inr, refl, sym, ap, subst, ◌∙◌, arith, lit<}
use Rattle.std.proofs.Math.Nat.{div-add-mod, mod-lt}
use Rattle.std.proofs.lemmas.Bool.{cases_lt}
use Rattle.std.proofs.lemmas.List.{ext_get_or, get_or-drop, get_or-take, get_or_append_left, get_or_push, length-append, length-take-le, length-drop}
use Rattle.builtin_hash.specs.Instances.{IsInstance}
use Rattle.cairo_model.specs.Pie.BuiltinCells.{AreInstances}

-- `Is o n` says that n stands at place o. At one place stands one number.
module _ (Is : ℕ → ℕ → Type 0) (one : (o a b : ℕ) → Is o a → Is o b → a ≡ b) where
  -- the numbers at so many places, in order
  pub record Reads (size : ℕ) (numbers : List ℕ) : Type 0 where
    pub count : length numbers ≡ size
    pub each : (o : ℕ) → o < size → Is o (slice_index numbers o)

  -- a number more
  pub reads_more : (size : ℕ) (numbers : List ℕ) (n : ℕ) → Reads size numbers → Is size n → Reads (size + 1) (numbers ++ n ∷ [])
  reads_more size numbers n reads there = record {
    count = omega (arith, length-append numbers (n ∷ []), reads.count);
    each = λ o lt. elim (cases_lt o size) [
      | inl before ↦ subst (Is o) (sym (get_or_append_left numbers (n ∷ []) 0 o (omega (arith, reads.count)))) (reads.each o before)
      | inr past ↦ last_number o (omega (arith, lt, past))
    ];
  }
    where
      last_number : (o : ℕ) → o ≡ size → Is o (slice_index (numbers ++ n ∷ []) o)
      last_number o is =
          subst (λ (k : ℕ). Is k (slice_index (numbers ++ n ∷ []) k)) (sym is)
          (subst (Is size) (sym (get_or_push numbers n 0 size reads.count)) there)

  pub all_read : (size : ℕ) → ((o : ℕ) → o < size → (n : ℕ) × Is o n) → (numbers : List ℕ) × Reads size numbers
  all_read zero each = ([], record { count = refl; each = λ o lt. absurd (omega arith) })
  all_read (suc size) each =
      let before = all_read size (λ o lt. each o (omega arith)) in
      let here = each size (omega arith) in
      let numbers = before.0 ++ here.0 ∷ [] in
      let next : size + 1 ≡ suc size = omega arith in
      (numbers, subst (λ (k : ℕ). Reads k numbers) next (reads_more size before.0 here.0 before.1 here.1))

  -- twenty numbers from a place on, which are an instance
  pub record ReadsInstance (size start : ℕ) : Type 0 where
    pub numbers : List ℕ
    pub below : start + 20 ≤ size
    pub holds : (k : ℕ) → k < 20 → Is (start + k) (slice_index numbers k)
    pub is_instance : IsInstance numbers

  -- so many numbers are whole instances where each group that begins among them is one
  pub instances_read : (size : ℕ) → ((i : ℕ) → 20 * i < size → ReadsInstance size (20 * i)) → (numbers : List ℕ) × (Reads size numbers × AreInstances numbers)
  instances_read size groups =
      let found = all_read size each in
      (found.0, (found.1, record { whole = whole found.0 found.1; each = λ i lt. group found.0 found.1 i (omega (arith, lt, found.1.count)) }))
    where
      each : (o : ℕ) → o < size → (n : ℕ) × Is o n
      each o lt =
          let parts : 20 * (o / 20) + o % 20 ≡ o = div-add-mod o 20 in
          let small : o % 20 < 20 = mod-lt o (lit< tt) in
          let here = groups (o / 20) (omega (arith, parts, lt)) in
          (slice_index here.numbers (o % 20), subst (λ (k : ℕ). Is k (slice_index here.numbers (o % 20))) parts (here.holds (o % 20) small))

      whole : (numbers : List ℕ) → Reads size numbers → length numbers % 20 ≡ 0
      whole numbers reads =
          let parts : 20 * (size / 20) + size % 20 ≡ size = div-add-mod size 20 in
          let small : size % 20 < 20 = mod-lt size (lit< tt) in
          let none : size % 20 ≡ 0 = elim (cases_lt 0 (size % 20)) [
            | inl some ↦ absurd (omega (arith, parts, small, some, (groups (size / 20) (omega (arith, parts, some))).below))
            | inr past ↦ omega (arith, past)
          ] in
          ap (λ (n : ℕ). n % 20) reads.count ∙ none

      group : (numbers : List ℕ) → Reads size numbers → (i : ℕ) → 20 * i < size → IsInstance (take 20 (drop (20 * i) numbers))
      group numbers reads i lt =
          let here = groups i lt in
          let long : 20 ≤ length (drop (20 * i) numbers) = omega (arith, length-drop (20 * i) numbers, reads.count, here.below) in
          let count : length (take 20 (drop (20 * i) numbers)) ≡ 20 = length-take-le 20 (drop (20 * i) numbers) long in
          let same : here.numbers ≡ take 20 (drop (20 * i) numbers) =
          ext_get_or 0 here.numbers (take 20 (drop (20 * i) numbers)) (here.is_instance.twenty ∙ sym count) (λ k inside.
          let small : k < 20 = omega (arith, inside, here.is_instance.twenty) in
          let there : get_or (take 20 (drop (20 * i) numbers)) k 0 ≡ get_or numbers (20 * i + k) 0 = get_or-take 20 (drop (20 * i) numbers) k 0 small ∙ get_or-drop (20 * i) numbers k 0 in
          one (20 * i + k) (get_or here.numbers k 0) (get_or (take 20 (drop (20 * i) numbers)) k 0) (here.holds k small)
          (subst (Is (20 * i + k)) (sym there) (reads.each (20 * i + k) (omega (arith, small, here.below))))) in
          subst IsInstance same here.is_instance

  -- and the other way round
  pub group_read : (size : ℕ) (numbers : List ℕ) → Reads size numbers → AreInstances numbers → (i : ℕ) → 20 * i < size → ReadsInstance size (20 * i)
  group_read size numbers reads are i lt =
      let inside : 20 * i < length numbers = omega (arith, lt, reads.count) in
      let here : IsInstance (take 20 (drop (20 * i) numbers)) = are.each i inside in
      let parts : 20 * (length numbers / 20) + length numbers % 20 ≡ length numbers = div-add-mod (length numbers) 20 in
      let below : 20 * i + 20 ≤ size = omega (arith, parts, are.whole, reads.count, lt) in
      record {
        numbers = take 20 (drop (20 * i) numbers);
        below = below;
        holds = λ k small.
            let there : get_or (take 20 (drop (20 * i) numbers)) k 0 ≡ get_or numbers (20 * i + k) 0 = get_or-take 20 (drop (20 * i) numbers) k 0 small ∙ get_or-drop (20 * i) numbers k 0 in
            subst (Is (20 * i + k)) (sym there) (reads.each (20 * i + k) (omega (arith, small, below)));
        is_instance = here;
      }
