-- Each step on a word of the table is a step of the lock, so the rule allows it.
use Rattle.std.proofs.Common.{◌≡◌, ℕ, ◌+◌, ◌%◌, ◌^◌, Option, Some, List, [], ◌∷◌, ◌++◌, get_or, set, sym, refl, ap, ◌∙◌, subst, arith}
use mathlib.Core.Logic.{dite}
use mathlib.Core.Option.{Option as Maybe, some, none}
use native.Mathlib.Decide.{ℕ_discrete}
use lib.ListN.{get_elem?}
use Rattle.std.proofs.lemmas.List.{append_cancel_left}
use Rattle.atomic_table.specs.Table.{State, step, keeps, takes, gives, Allows, rest, put_back}
use Rattle.atomic_table.proofs.Lists.{set_again}
use Rattle.turn_lock.specs.declared.view.Stage.{Stage}
use Rattle.turn_lock.specs.declared.view.Stage.TheVariants.{Waiting, Called}
use Rattle.turn_lock.specs.declared.view.View.{View}
use Rattle.turn_lock.specs.Journals.{IsAtMostOne}
use Rattle.turn_lock.specs.Views.{IsAtRest, waiting, called, raised}
use Rattle.turn_lock.specs.Locks.{At, Knows}
use Rattle.turn_lock.specs.Working.Steps.{drawn, taken, raises}
use Rattle.turn_lock.specs.Tables.{Hold, Standing, Took, drew, looked, passed}
use Rattle.turn_lock.proofs.Numbers.{ticket_pass}
use Rattle.turn_lock.proofs.Logs.{own_entries}
use Rattle.turn_lock.proofs.Turns.{draw_keeps, look_keeps, raise_keeps, due_home, has_ticket}

waits_same : (st : Stage) (t u : ℕ) → st ≡ Waiting t → st ≡ Waiting u → t ≡ u
waits_same st t u a b = grind arith

pub same_carried : {S : Type 0} (y z : S) (c more : List (ℕ × Option S)) → c ≡ (0, Some y) ∷ [] → c ≡ (0, Some z) ∷ more → y ≡ z
same_carried y z c more a b = grind arith

-- a seat that has one slot has no other
pub alone_carried : {S : Type 0} (c : List (ℕ × S)) (p : ℕ × S) → c ≡ p ∷ [] → c ≡ p ∷ rest c
alone_carried c p is = is ∙ ap (λ xs. p ∷ rest xs) (sym is)

module _ {S N : Type 0} (journal : S → List (ℕ × N)) (turns width : S → ℕ) where
  pub at_lock : (passes id : ℕ) (s : State (Option S) (View N)) (r : Standing journal turns width passes s) (v : View N) → get_elem? s.views id ≡ some v → At r.lock.views id v
  at_lock passes id s r v at = ap (λ (vs : List (View N)). get_elem? vs id) (sym r.views) ∙ at

  pub draws : (passes n id : ℕ) (me : Hold S N) → IsAtRest me.0 → Allows (Standing journal turns width passes) n id me 0 (λ x. (x + 1) % 2 ^ 64) (drew (step n 0 1 0 none) me)
  draws passes n id me rests s r len at small =
      let l = r.lock in
      let word : get_or s.words 0 0 ≡ l.ticket = ap (λ (ws : List ℕ). get_or ws 0 0) r.words in
      let w = waiting me.0 (get_or s.words 0 0) in (
        w,
        keeps,
        tt,
        record {
          lock = drawn l id me.0;
          words = ap (λ (ws : List ℕ). set ws 0 ((get_or ws 0 0 + 1) % 2 ^ 64)) r.words;
          homes = r.homes;
          views = ap (λ (vs : List (View N)). set vs id w) r.views ∙ ap (λ (t : ℕ). set l.views id (waiting me.0 t)) word;
          keeps = draw_keeps journal turns width passes id l (drawn l id me.0) r.keeps record { view = me.0; at = at_lock passes id s r me.0 at; rests = rests; becomes = refl };
        },
        refl,
      )

  pub looks : (passes n id : ℕ) (me : Hold S N) (t : ℕ) → me.0.stage ≡ Waiting t → Allows (Standing journal turns width passes) n id me 1 (λ x. x) (looked journal turns width (step n 1 0 0 none) me)
  looks passes n id me t waits s r len at small =
      let l = r.lock in
      let at_l = at_lock passes id s r me.0 at in
      let word : get_or s.words 1 0 ≡ l.serving = ap (λ (ws : List ℕ). get_or ws 1 0) r.words in
      let same_words : set s.words 1 (get_or s.words 1 0) ≡ l.ticket ∷ l.serving ∷ [] = ap (λ (ws : List ℕ). set ws 1 (get_or ws 1 0)) r.words in
      dite (ℕ_discrete (get_or s.words 1 0) t)
      (λ found.
      let due : l.serving ≡ t = sym word ∙ found in
      let home = due_home journal turns width passes id t l r.keeps me.0 at_l waits due in
      let y = home.value in
      let w = called me.0 t (journal y) in
      let has = has_ticket me.0.stage t waits in
      let knows : Knows (journal y) me.0 = subst (λ (xs : List (ℕ × N)). Knows xs me.0) (sym home.journal_is) (r.keeps.seen.knows id me.0 at_l) in
      let took : Took journal turns width me.0 t me.1 (w, (0, Some y) ∷ me.1) = record {
        value = y;
        becomes = refl;
        turns_is = home.turns_is ∙ due;
        width_is = home.width_is ∙ sym (r.keeps.numbered.one_width id me.0 at_l (ticket_pass me.0.stage t has));
        has_seen = knows.seen;
        has_mine = own_entries (journal y) me.0 (ticket_pass me.0.stage t has) (r.keeps.alone id me.0 at_l t has).0 knows;
      } in (
        w,
        takes 0 (Some y),
        ap (λ (hs : List (Maybe (Option S))). get_elem? hs 0) r.homes ∙ ap some home.slot,
        record {
          lock = taken journal turns width l id me.0 t y;
          words = same_words;
          homes = ap (λ (hs : List (Maybe (Option S))). set hs 0 none) r.homes;
          views = ap (λ (vs : List (View N)). set vs id w) r.views;
          keeps = look_keeps journal turns width passes id t l (taken journal turns width l id me.0 t y) r.keeps record { view = me.0; at = at_l; waits = waits; early = λ early. absurd (early due); due = λ _. (y, home.slot, refl) };
        },
        λ u is. (
          λ _. subst (λ (x : ℕ). Took journal turns width me.0 x me.1 (w, (0, Some y) ∷ me.1)) (waits_same me.0.stage t u waits is) took,
          λ differs. absurd (differs (found ∙ waits_same me.0.stage t u waits is)),
        ),
      ))
      (λ early. (
        me.0,
        keeps,
        tt,
        record {
          lock = l;
          words = same_words;
          homes = r.homes;
          views = set_again s.views id me.0 at ∙ r.views;
          keeps = look_keeps journal turns width passes id t l l r.keeps record { view = me.0; at = at_l; waits = waits; early = λ _. refl; due = λ due. absurd (early (word ∙ due)) };
        },
        λ u is. (λ found. absurd (early (found ∙ sym (waits_same me.0.stage t u waits is))), λ _. refl),
      ))

  pub passes_on : (passes n id : ℕ) (me : Hold S N) (t : ℕ) (y : S) (added : List (ℕ × N)) → me.0.stage ≡ Called t → me.1 ≡ (0, Some y) ∷ [] → turns y ≡ (t + 1) % 2 ^ 64 → width y ≡ me.0.width
      → journal y ≡ me.0.seen ++ added → IsAtMostOne me.0.number added
      → Allows (Standing journal turns width passes) n id me 1 (λ x. (x + 1) % 2 ^ 64) (passed journal turns width (step n 1 1 0 none) me)
  passes_on passes n id me t y added turn carries counts wide grows one s r len at small =
      let l = r.lock in
      let w = raised me.0 (journal y) added in (
        w,
        gives,
        tt,
        record {
          lock = raises journal turns width l id me.0 y added;
          words = ap (λ (ws : List ℕ). set ws 1 ((get_or ws 1 0 + 1) % 2 ^ 64)) r.words;
          homes = ap (put_back s.homes) carries ∙ ap (λ (hs : List (Maybe (Option S))). set hs 0 (some (Some y))) r.homes;
          views = ap (λ (vs : List (View N)). set vs id w) r.views;
          keeps = raise_keeps journal turns width passes id l (raises journal turns width l id me.0 y added) r.keeps record {
            view = me.0;
            ticket = t;
            value = y;
            added = added;
            at = at_lock passes id s r me.0 at;
            turn = turn;
            counts = counts;
            keeps_width = wide;
            grows = grows;
            one = one;
            becomes = refl;
          };
        },
        λ z more is its.
            let same : y ≡ z = same_carried y z me.1 (rest me.1) carries is in
            let rest_same : added ≡ more = append_cancel_left me.0.seen added more (sym grows ∙ ap journal same ∙ its) in
            ap (λ (x : S). (raised me.0 (journal x) added, rest me.1)) same ∙ ap (λ (xs : List (ℕ × N)). (raised me.0 (journal z) xs, rest me.1)) rest_same,
      )
