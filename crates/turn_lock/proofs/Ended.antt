-- All passes are taken into one, and then the table ends.
use Rattle.std.proofs.Common.{◌≡◌, ℕ, ◌<◌, Option, Some, None, List, [], ◌∷◌, ◌++◌, map, get_or, Contains, All, sym, refl, ap, ◌∙◌, subst, arith, append_assoc}
use mathlib.Core.Option.{Option as Maybe, some, some-injective}
use lib.ListN.{get_elem?}
use Rattle.std.proofs.lemmas.List.{map-append, get_or_default}
use Rattle.std.proofs.lemmas.List.Elements.{All-pop, All-weaker}
use Rattle.atomic_table.specs.Table.{State, Final, Seen as SeenBy}
use Rattle.atomic_table.specs.Seated.{TableId}
use Rattle.atomic_table.specs.declared.shared.Seat.{Seat}
use Rattle.atomic_table.proofs.Lists.{at_index, at_map}
use Rattle.turn_lock.specs.declared.view.Stage.TheVariants.{Resting}
use Rattle.turn_lock.specs.declared.view.Part.{Part}
use Rattle.turn_lock.specs.declared.view.View.{View}
use Rattle.turn_lock.specs.Journals.{entries_by, IsPrefix}
use Rattle.turn_lock.specs.Views.{IsAtRest, gathered, own_part, all_parts, parts_or, numbers_of}
use Rattle.turn_lock.specs.Locks.{Knows}
use Rattle.turn_lock.specs.Passes.{Token, IsNumberOf}
use Rattle.turn_lock.specs.Working.Parts.{part_of}
use Rattle.turn_lock.specs.Tables.{Hold, Standing}
use Rattle.turn_lock.proofs.Allowed.{at_lock}
use Rattle.turn_lock.proofs.Numbers.{resting_pass}
use Rattle.turn_lock.proofs.Logs.{width_of_part}
use Rattle.turn_lock.proofs.Gathers.{numbers_of_parts}
use Rattle.turn_lock.proofs.Closes.{close_finds, close_entries}

-- what holds while passes are taken in: the seat stands for those that are no longer in the list
pub record Gathering {S N : Type 0} (lock : TableId) (all left : List (Token N)) (seat : Seat (Option S) (View N)) : Type 0 where
  pub own : seat.table_id ≡ lock
  pub free : seat.me.1 ≡ []
  pub rests : seat.me.0.stage ≡ Resting
  pub quiet : seat.me.0.heard ≡ []
  pub parts : map part_of all ≡ map part_of left ++ all_parts seat.me.0
  pub rest_own : All (λ p. p.lock ≡ lock) left

-- a fact of each element of a list that was mapped
each_mapped : {A B : Type 0} (P : B → Type 0) (f : A → B) (xs : List A) → ((i : ℕ) (y : B) → get_elem? (map f xs) i ≡ some y → P y) → All (λ x. P (f x)) xs
each_mapped P f xs each k d h = each k (f (get_or xs k d)) (at_map f xs k (get_or xs k d) (at_index xs k (get_or xs k d) h (get_or_default xs k d (get_or xs k d) h)))

module _ {N : Type 0} where
  one_part : (joined : List (Part N)) (own : Part N) → joined ≡ [] → parts_or joined own ≡ own ∷ []
  one_part joined own none = ap (λ (ps : List (Part N)). parts_or ps own) none

  numbers_of_tokens : (ps : List (Token N)) → map (λ (q : Part N). q.number) (map part_of ps) ≡ map (λ (p : Token N). p.number) ps
  numbers_of_tokens [] = refl
  numbers_of_tokens (p ∷ ps) = ap (λ (ns : List ℕ). p.number ∷ ns) (numbers_of_tokens ps)

  numbers_of_all : (v : View N) (ps : List (Token N)) → all_parts v ≡ map part_of ps → map (λ (p : Token N). p.number) ps ≡ numbers_of v
  numbers_of_all v ps is = sym (numbers_of_tokens ps) ∙ ap (map (λ (q : Part N). q.number)) (sym is) ∙ numbers_of_parts v.joined (own_part v)

module _ {S N : Type 0} where
  -- the first pass is taken
  pub gather_first : (lock : TableId) (all left : List (Token N)) (p : Token N) (seat : Seat (Option S) (View N)) → all ≡ left ++ p ∷ [] → seat.table_id ≡ p.lock → seat.me.1 ≡ [] → IsAtRest seat.me.0 → own_part seat.me.0 ≡ part_of p
      → All (λ q. q.lock ≡ lock) all → Gathering lock all left seat
  gather_first lock all left p seat is own free rests part each =
      let owns = All-pop (λ q. q.lock ≡ lock) all left (Some p) is each in
      record {
        own = own ∙ owns.1;
        free = free;
        rests = rests.rests;
        quiet = rests.quiet;
        parts = ap (map part_of) is ∙ map-append part_of left (p ∷ []) ∙ ap (λ (ps : List (Part N)). map part_of left ++ ps) (sym (one_part seat.me.0.joined (own_part seat.me.0) rests.alone ∙ ap (λ (q : Part N). q ∷ []) part));
        rest_own = owns.0;
      }

  -- one more is taken in
  pub gather_next : (lock : TableId) (all now left : List (Token N)) (p : Token N) (seat seat' : Seat (Option S) (View N)) (w : View N) → Gathering lock all now seat → now ≡ left ++ p ∷ [] → own_part w ≡ part_of p
      → seat'.table_id ≡ seat.table_id → seat'.me ≡ (gathered seat.me.0 w, seat.me.1) → Gathering lock all left seat'
  gather_next lock all now left p seat seat' w r is part same becomes =
      let owns = All-pop (λ q. q.lock ≡ lock) now left (Some p) is r.rest_own in
      let before = all_parts seat.me.0 in
      record {
        own = same ∙ r.own;
        free = ap (λ (m : Hold S N). m.1) becomes ∙ r.free;
        rests = ap (λ (m : Hold S N). m.0.stage) becomes ∙ r.rests;
        quiet = ap (λ (m : Hold S N). m.0.heard) becomes ∙ r.quiet;
        parts = r.parts ∙ ap (λ (ps : List (Part N)). ps ++ before) (ap (map part_of) is ∙ map-append part_of left (p ∷ [])) ∙ append_assoc (map part_of left) (part_of p ∷ []) before
            ∙ ap (λ (q : Part N). map part_of left ++ (q ∷ before)) (sym part) ∙ ap (λ (m : Hold S N). map part_of left ++ all_parts m.0) (sym becomes);
        rest_own = owns.0;
      }

module _ {S N : Type 0} (journal : S → List (ℕ × N)) (turns width : S → ℕ) where
  -- what is known of the value at the end
  pub record Ends (ps : List (Token N)) (y : S) : Type 0 where
    pub wide : All (λ p. width y ≡ p.width) ps
    pub seen : All (λ p. IsPrefix p.seen (journal y)) ps
    pub mine : All (λ p. entries_by p.number (journal y) ≡ p.mine) ps
    pub others : All (λ e. IsNumberOf ps e.0) (journal y)

  pub ends : (passes id : ℕ) (ps : List (Token N)) (v : View N) (s : State (Option S) (View N)) → Standing journal turns width passes s → get_elem? s.views id ≡ some v → v.stage ≡ Resting → all_parts v ≡ map part_of ps
      → ((n : ℕ) → n < passes → IsNumberOf ps n) → (y : S) × (get_elem? s.homes 0 ≡ some (some (Some y))) × Ends ps y
  ends passes id ps v s r at rests is every =
      let l = r.lock in
      let at_l = at_lock journal turns width passes id s r v at in
      let numbers = numbers_of_all v ps is in
      let home = close_finds journal turns width passes id l r.keeps record { view = v; at = at_l; rests = rests; all = λ n small. subst (λ (ns : List ℕ). Contains ns n) numbers (every n small) } in
      let known : Knows (journal home.value) v = subst (λ (xs : List (ℕ × N)). Knows xs v) (sym home.journal_is) (r.keeps.seen.knows id v at_l) in
      let pass = resting_pass v.stage rests in
      let parts : (i : ℕ) (q : Part N) → get_elem? (map part_of ps) i ≡ some q → get_elem? (all_parts v) i ≡ some q = λ i q found. ap (λ (qs : List (Part N)). get_elem? qs i) is ∙ found in (
        home.value,
        ap (λ (hs : List (Maybe (Option S))). get_elem? hs 0) r.homes ∙ ap some home.slot,
        record {
          wide = each_mapped (λ (q : Part N). width home.value ≡ q.width) part_of ps (λ i q found. home.width_is ∙ sym (r.keeps.numbered.joined_width id v at_l q.width (pass, width_of_part v.joined (own_part v) q i (parts i q found))));
          seen = each_mapped (λ (q : Part N). IsPrefix q.seen (journal home.value)) part_of ps (λ i q found. (known.parts pass i q (parts i q found)).0);
          mine = each_mapped (λ (q : Part N). entries_by q.number (journal home.value) ≡ q.mine) part_of ps (λ i q found. (known.parts pass i q (parts i q found)).1);
          others = subst (All (λ (e : ℕ × N). IsNumberOf ps e.0)) (sym home.journal_is) (All-weaker (λ (e : ℕ × N). e.0 < passes) (λ (e : ℕ × N). IsNumberOf ps e.0) (λ e small. every e.0 small) r.keeps.log (close_entries journal turns width passes l r.keeps));
        },
      )

  -- the slot has a value at the end
  found_at_end : (passes id : ℕ) (ps : List (Token N)) (v : View N) (ws : List ℕ) (xs : List (Option S)) (slot : Option S) → Final (SeenBy (Standing journal turns width passes) id v) ws xs → v.stage ≡ Resting → all_parts v ≡ map part_of ps
      → ((n : ℕ) → n < passes → IsNumberOf ps n) → get_elem? xs 0 ≡ some slot → (y : S) × (slot ≡ Some y) × Ends ps y
  found_at_end passes id ps v ws xs slot last rests is every found =
      let e = ends passes id ps v last.0 last.1.0 last.1.1 rests is every in
      (e.0, some-injective slot (Some e.0) (sym found ∙ last.4 0 (Some e.0) e.1), e.2)

  pub no_other : (passes id : ℕ) (ps : List (Token N)) (v : View N) (ws : List ℕ) (xs : List (Option S)) (slot : Option S) → Final (SeenBy (Standing journal turns width passes) id v) ws xs → v.stage ≡ Resting → all_parts v ≡ map part_of ps
      → ((n : ℕ) → n < passes → IsNumberOf ps n) → get_elem? xs 0 ≡ some slot → slot ≡ None → ⊥
  no_other passes id ps v ws xs slot last rests is every found none = let e = found_at_end passes id ps v ws xs slot last rests is every found in differ e.0 slot e.1 none
    where
      differ : (x : S) (o : Option S) → o ≡ Some x → o ≡ None → ⊥
      differ x o a b = grind arith

  pub closed : (passes id : ℕ) (ps : List (Token N)) (v : View N) (ws : List ℕ) (xs : List (Option S)) (slot : Option S) (value : S) → Final (SeenBy (Standing journal turns width passes) id v) ws xs → v.stage ≡ Resting → all_parts v ≡ map part_of ps
      → ((n : ℕ) → n < passes → IsNumberOf ps n) → get_elem? xs 0 ≡ some slot → slot ≡ Some value → Ends ps value
  closed passes id ps v ws xs slot value last rests is every found has = let e = found_at_end passes id ps v ws xs slot last rests is every found in subst (Ends ps) (same_value e.0 value slot e.1 has) e.2
    where
      same_value : (x y : S) (o : Option S) → o ≡ Some x → o ≡ Some y → x ≡ y
      same_value x y o a b = grind arith
