-- What a view knows of the log, as the view changes and as the log goes on.
use Rattle.std.proofs.Common.{◌≡◌, ◌≢◌, ℕ, zero, suc, ◌<◌, ◌≤◌, ◌⊎◌, ◌==◌, Bool, true, false, cond, if◌then◌else◌, nat_lt, List, [], ◌∷◌, ◌++◌, map, length, All, Contains, slice_index_or, sym, refl, ap, ◌∙◌, subst, inl, inr, ⊎_elim, arith, append_assoc, append-nil, length-append}
use mathlib.Core.Option.{some, some-injective, some-ne-none}
use lib.ListN.{get_elem?}
use Rattle.std.proofs.lemmas.List.Elements.{filter-append}
use Rattle.std.proofs.lemmas.Bool.Decides.{nat_tests}
use Rattle.turn_lock.specs.declared.view.Part.{Part}
use Rattle.turn_lock.specs.declared.view.View.{View}
use Rattle.turn_lock.specs.Journals.{entries_by, IsPrefix, longer, IsAtMostOne}
use Rattle.turn_lock.specs.Views.{IsPass, parts_or, numbers_of, numbers_or, widths_or, own_part, longest}
use Rattle.turn_lock.specs.Locks.{Knows}

module _ {N : Type 0} where
  pub prefix_more : (front log more : List (ℕ × N)) → IsPrefix front log → IsPrefix front (log ++ more)
  prefix_more front log more p = (p.0 ++ more, ap (λ (l : List (ℕ × N)). l ++ more) p.1 ∙ append_assoc front p.0 more)

  pub prefix_itself : (log : List (ℕ × N)) → IsPrefix log log
  prefix_itself log = ([], sym (append-nil log))

  pub prefix_nil : (log : List (ℕ × N)) → IsPrefix [] log
  prefix_nil log = (log, refl)

  -- a beginning that is as long as the whole is the whole
  prefix_whole : (xs log : List (ℕ × N)) → IsPrefix xs log → length log ≤ length xs → xs ≡ log
  prefix_whole xs log p long = whole p.0 (omega (arith, ap length p.1, length-append xs p.0)) p.1
    where
      whole : (rest : List (ℕ × N)) → length rest ≡ 0 → log ≡ xs ++ rest → xs ≡ log
      whole [] none is = sym (append-nil xs) ∙ sym is
      whole (e ∷ es) none is = absurd (omega arith)

  prefix_short : (xs log : List (ℕ × N)) → IsPrefix xs log → length xs ≤ length log
  prefix_short xs log p = omega (arith, ap length p.1, length-append xs p.0)

  pub longer_left : (xs ys log : List (ℕ × N)) → xs ≡ log → IsPrefix ys log → longer xs ys ≡ log
  longer_left xs ys log is p = by_test (nat_lt (length xs) (length ys)) refl
    where
      by_test : (b : Bool) → b ≡ nat_lt (length xs) (length ys) → (if b then ys else xs) ≡ log
      by_test true test = let short = prefix_short ys log p in let same = ap length is in absurd (grind (arith, nat_tests))
      by_test false test = is

  pub longer_right : (xs ys log : List (ℕ × N)) → IsPrefix xs log → ys ≡ log → longer xs ys ≡ log
  longer_right xs ys log p is = by_test (nat_lt (length xs) (length ys)) refl
    where
      by_test : (b : Bool) → b ≡ nat_lt (length xs) (length ys) → (if b then ys else xs) ≡ log
      by_test true test = is
      by_test false test = prefix_whole xs log p (let same = ap length is in grind (arith, nat_tests))

  -- of two beginnings of one list, the shorter begins the longer
  front_of : (xs ys rest more : List (ℕ × N)) → xs ++ rest ≡ ys ++ more → length xs ≤ length ys → IsPrefix xs ys
  front_of [] ys rest more is short = (ys, refl)
  front_of (x ∷ xs) [] rest more is short = absurd (omega arith)
  front_of (x ∷ xs) (y ∷ ys) rest more is short =
      let p = front_of xs ys rest more (ap tail is) (omega arith) in
      (p.0, cons_same x y (xs ++ rest) (ys ++ more) is ys (xs ++ p.0) p.1)
    where
      tail : List (ℕ × N) → List (ℕ × N)
      tail [] = []
      tail (e ∷ es) = es

      cons_same : (a b : ℕ × N) (es fs : List (ℕ × N)) → a ∷ es ≡ b ∷ fs → (cs ds : List (ℕ × N)) → cs ≡ ds → b ∷ cs ≡ a ∷ ds
      cons_same a b es fs is cs ds same = cc

  begins_longer_left : (xs ys log : List (ℕ × N)) → IsPrefix xs log → IsPrefix ys log → IsPrefix xs (longer xs ys)
  begins_longer_left xs ys log p q = by_test (nat_lt (length xs) (length ys)) refl
    where
      by_test : (b : Bool) → b ≡ nat_lt (length xs) (length ys) → IsPrefix xs (if b then ys else xs)
      by_test true test = front_of xs ys p.0 q.0 (sym p.1 ∙ q.1) (grind (arith, nat_tests))
      by_test false test = prefix_itself xs

  begins_longer_right : (xs ys log : List (ℕ × N)) → IsPrefix xs log → IsPrefix ys log → IsPrefix ys (longer xs ys)
  begins_longer_right xs ys log p q = by_test (nat_lt (length xs) (length ys)) refl
    where
      by_test : (b : Bool) → b ≡ nat_lt (length xs) (length ys) → IsPrefix ys (if b then ys else xs)
      by_test true test = prefix_itself ys
      by_test false test = front_of ys xs q.0 p.0 (sym q.1 ∙ p.1) (grind (arith, nat_tests))

  pub begins_longer : (xs ys log : List (ℕ × N)) → IsPrefix xs log → IsPrefix ys log → IsPrefix xs (longer xs ys) × IsPrefix ys (longer xs ys)
  begins_longer xs ys log p q = (begins_longer_left xs ys log p q, begins_longer_right xs ys log p q)

  pub longer_begins : (xs ys log : List (ℕ × N)) → IsPrefix xs log → IsPrefix ys log → IsPrefix (longer xs ys) log
  longer_begins xs ys log a b = elim (nat_lt (length xs) (length ys)) as (λ t. IsPrefix (if t then ys else xs) log) [ true ↦ b | false ↦ a ]

  pub no_entry : (n k : ℕ) (added : List (ℕ × N)) → IsAtMostOne n added → n ≢ k → entries_by k added ≡ []
  no_entry n k added one differ = ⊎_elim
      (λ (none : added ≡ []). ap (entries_by k) none)
      (λ (entry : (note : N) × (added ≡ (n, note) ∷ [])). ap (entries_by k) entry.1 ∙ by_test (n == k) (n, entry.0) refl)
      one
    where
      by_test : (b : Bool) (e : ℕ × N) → b ≡ (n == k) → cond b (e ∷ []) [] ≡ []
      by_test true e is = absurd (differ (grind (arith, nat_tests)))
      by_test false e is = refl

  pub its_entry : (n : ℕ) (added : List (ℕ × N)) → IsAtMostOne n added → entries_by n added ≡ added
  its_entry n added one = ⊎_elim
      (λ (none : added ≡ []). ap (entries_by n) none ∙ sym none)
      (λ (entry : (note : N) × (added ≡ (n, note) ∷ [])). ap (entries_by n) entry.1 ∙ by_test (n == n) (n, entry.0) refl ∙ sym entry.1)
      one
    where
      by_test : (b : Bool) (e : ℕ × N) → b ≡ (n == n) → cond b (e ∷ []) [] ≡ e ∷ []
      by_test true e is = refl
      by_test false e is = absurd (grind (arith, nat_tests))

  pub entries_more : (k : ℕ) (log added : List (ℕ × N)) → entries_by k added ≡ [] → entries_by k (log ++ added) ≡ entries_by k log
  entries_more k log added none = filter-append (λ e. e.0 == k) log added ∙ ap (λ (l : List (ℕ × N)). entries_by k log ++ l) none ∙ append-nil (entries_by k log)

  no_length : (xs : List (ℕ × N)) → length xs ≡ 0 → xs ≡ []
  no_length [] none = refl
  no_length (x ∷ xs) none = absurd (omega arith)

  -- where a list and a beginning of it have the same entries of a number, so has each list between them
  pub entries_between : (k : ℕ) (front middle whole mine : List (ℕ × N)) → IsPrefix front middle → IsPrefix middle whole → entries_by k front ≡ mine → entries_by k whole ≡ mine → entries_by k middle ≡ mine
  entries_between k front middle whole mine p q is was =
      let a : entries_by k middle ≡ mine ++ entries_by k p.0 = ap (entries_by k) p.1 ∙ filter-append (λ e. e.0 == k) front p.0 ∙ ap (λ (l : List (ℕ × N)). l ++ entries_by k p.0) is in
      let b : mine ≡ (mine ++ entries_by k p.0) ++ entries_by k q.0 = sym was ∙ ap (entries_by k) q.1 ∙ filter-append (λ e. e.0 == k) middle q.0 ∙ ap (λ (l : List (ℕ × N)). l ++ entries_by k q.0) a in
      let none : length (entries_by k p.0) ≡ 0 = omega (arith, ap length b, length-append (mine ++ entries_by k p.0) (entries_by k q.0), length-append mine (entries_by k p.0)) in
      a ∙ ap (λ (l : List (ℕ × N)). mine ++ l) (no_length (entries_by k p.0) none) ∙ append-nil mine

  -- the entries of a number, where its pass added one or none
  pub entries_added : (k : ℕ) (log added mine : List (ℕ × N)) → entries_by k log ≡ mine → IsAtMostOne k added → entries_by k (log ++ added) ≡ mine ++ added
  entries_added k log added mine is one = filter-append (λ e. e.0 == k) log added ∙ ap (λ (l : List (ℕ × N)). l ++ entries_by k added) is ∙ ap (λ (l : List (ℕ × N)). mine ++ l) (its_entry k added one)

  -- each part has one of the numbers
  pub number_of_part : (joined : List (Part N)) (own p : Part N) (i : ℕ) → get_elem? (parts_or joined own) i ≡ some p → Contains (numbers_or joined own.number) p.number
  number_of_part [] own p zero at = (0, omega arith, ap (λ (q : Part N). q.number) (some-injective own p at))
  number_of_part [] own p (suc i) at = absurd (some-ne-none p (sym at))
  number_of_part (q ∷ qs) own p i at = among (q ∷ qs) i at
    where
      among : (ps : List (Part N)) (j : ℕ) → get_elem? ps j ≡ some p → Contains (map (λ r. r.number) ps) p.number
      among [] j is = absurd (some-ne-none p (sym is))
      among (r ∷ rs) zero is = (0, omega arith, ap (λ (s : Part N). s.number) (some-injective r p is))
      among (r ∷ rs) (suc j) is = let more = among rs j is in (suc more.0, (let h = more.1 in omega arith), more.2)

  -- and each has one of the widths
  pub width_of_part : (joined : List (Part N)) (own p : Part N) (i : ℕ) → get_elem? (parts_or joined own) i ≡ some p → Contains (widths_or joined own.width) p.width
  width_of_part [] own p zero at = (0, omega arith, ap (λ (q : Part N). q.width) (some-injective own p at))
  width_of_part [] own p (suc i) at = absurd (some-ne-none p (sym at))
  width_of_part (q ∷ qs) own p i at = among (q ∷ qs) i at
    where
      among : (ps : List (Part N)) (j : ℕ) → get_elem? ps j ≡ some p → Contains (map (λ r. r.width) ps) p.width
      among [] j is = absurd (some-ne-none p (sym is))
      among (r ∷ rs) zero is = (0, omega arith, ap (λ (s : Part N). s.width) (some-injective r p is))
      among (r ∷ rs) (suc j) is = let more = among rs j is in (suc more.0, (let h = more.1 in omega arith), more.2)

  -- a pass that has taken in no other has one part
  only_part : (joined : List (Part N)) (own p : Part N) (i : ℕ) → joined ≡ [] → get_elem? (parts_or joined own) i ≡ some p → p ≡ own
  only_part joined own p i none at = one i (subst (λ (ps : List (Part N)). get_elem? (parts_or ps own) i ≡ some p) none at)
    where
      one : (j : ℕ) → get_elem? (own ∷ []) j ≡ some p → p ≡ own
      one zero is = sym (some-injective own p is)
      one (suc j) is = absurd (some-ne-none p (sym is))

  pub own_entries : (log : List (ℕ × N)) (v : View N) → IsPass v.stage → v.joined ≡ [] → Knows log v → entries_by v.number log ≡ v.mine
  own_entries log v pass alone k = (k.parts pass 0 (own_part v) (subst (λ (ps : List (Part N)). get_elem? (parts_or ps (own_part v)) 0 ≡ some (own_part v)) (sym alone) refl)).1

  -- what a pass knows that has taken in no other
  pub knows_alone : (log : List (ℕ × N)) (w : View N) → w.joined ≡ [] → IsPrefix w.seen log → All (λ xs. IsPrefix xs log) w.heard → entries_by w.number log ≡ w.mine → Knows log w
  knows_alone log w alone sees hears entries = record {
    seen = sees;
    heard = hears;
    parts = λ pass i p at. let is = only_part w.joined (own_part w) p i alone at in
        subst (λ (q : Part N). IsPrefix q.seen log × (entries_by q.number log ≡ q.mine)) (sym is) (sees, entries);
  }

  pub nothing_heard : (log : List (ℕ × N)) (heard : List (List (ℕ × N))) → heard ≡ [] → All (λ xs. IsPrefix xs log) heard
  nothing_heard log heard none = subst (λ (xss : List (List (ℕ × N))). All (λ xs. IsPrefix xs log) xss) (sym none) (λ k d h. absurd (omega arith))

  -- a view knows as much of a log that goes on with an entry of another number
  pub knows_more : (n : ℕ) (log added : List (ℕ × N)) (v : View N) → IsAtMostOne n added → (IsPass v.stage → Contains (numbers_of v) n → ⊥) → Knows log v → Knows (log ++ added) v
  knows_more n log added v one differ k = record {
    seen = prefix_more v.seen log added k.seen;
    heard = λ i d h. prefix_more _ log added (k.heard i d h);
    parts = λ pass i p at.
        let old = k.parts pass i p at in
        let other : n ≢ p.number = λ same. differ pass (subst (λ (m : ℕ). Contains (numbers_of v) m) (sym same) (number_of_part v.joined (own_part v) p i at)) in
        (prefix_more p.seen log added old.0, entries_more p.number log added (no_entry n p.number added one other) ∙ old.1);
  }

  pub longest_begins : (seen log : List (ℕ × N)) (heard : List (List (ℕ × N))) → IsPrefix seen log → All (λ xs. IsPrefix xs log) heard → IsPrefix (longest seen heard) log
  longest_begins seen log [] begins each = begins
  longest_begins seen log (xs ∷ xss) begins each =
      longest_begins (longer seen xs) log xss (longer_begins seen xs log begins (each 0 [] (omega arith))) (λ k d h. each (suc k) d (omega arith))

  -- where the log is among beginnings of it, it is the longest of them
  pub longest_whole : (seen log : List (ℕ × N)) (heard : List (List (ℕ × N))) → IsPrefix seen log → All (λ xs. IsPrefix xs log) heard → (seen ≡ log) ⊎ Contains heard log → longest seen heard ≡ log
  longest_whole seen log [] begins each one = ⊎_elim (λ (is : seen ≡ log). is) (λ (c : Contains [] log). let h = c.1 in absurd (omega arith)) one
  longest_whole seen log (xs ∷ xss) begins each one =
      longest_whole (longer seen xs) log xss (longer_begins seen xs log begins (each 0 [] (omega arith))) (λ k d h. each (suc k) d (omega arith)) (⊎_elim
      (λ (is : seen ≡ log). inl (longer_left seen xs log is (each 0 [] (omega arith))))
      (λ (c : Contains (xs ∷ xss) log). by_place c.0 c.1 c.2)
      one)
    where
      by_place : (k : ℕ) → k < length (xs ∷ xss) → slice_index_or (xs ∷ xss) k log ≡ log → (longer seen xs ≡ log) ⊎ Contains xss log
      by_place zero h is = inl (longer_right seen xs log begins is)
      by_place (suc k) h is = inr (k, omega arith, is)

  -- a pass that heard a note has of its number just its own entries, in what it has seen then
  pub settles_own : (k : ℕ) (note log : List (ℕ × N)) (before mid after : View N) → entries_by k before.seen ≡ before.mine → before.number ≡ k
      → mid.seen ≡ before.seen → mid.mine ≡ before.mine → mid.number ≡ before.number → mid.heard ≡ note ∷ [] → after.seen ≡ longest mid.seen mid.heard → after.mine ≡ mid.mine
      → IsPrefix mid.seen (longer mid.seen note) → IsPrefix (longer mid.seen note) log → entries_by mid.number log ≡ mid.mine → entries_by k after.seen ≡ after.mine
  settles_own k note log before mid after own is_k seen mine number heard settled settled_mine begins within was =
      ap (entries_by k) (settled ∙ ap (longest mid.seen) heard)
      ∙ entries_between k mid.seen (longer mid.seen note) log mid.mine begins within (ap (entries_by k) seen ∙ own ∙ sym mine) (subst (λ (n : ℕ). entries_by n log ≡ mid.mine) (number ∙ is_k) was)
      ∙ sym settled_mine
