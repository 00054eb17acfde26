-- The steps that make, join and end passes are steps of the lock, so the rule allows them; and the rule holds at the start.
use Rattle.std.proofs.Common.{◌≡◌, ℕ, zero, suc, ◌%◌, ◌^◌, ◌<◌, ◌≤◌, Option, Some, List, [], ◌∷◌, ◌++◌, map, get_or, set, All, sym, refl, ap, ◌∙◌, subst, inl, arith, mod-eq_of_lt, add-zero}
use mathlib.Core.Option.{some, none, some-injective, some-ne-none}
use Rattle.atomic_table.specs.Table.{step, keeps, Allows, Splits, Joins, opening}
use Rattle.atomic_table.proofs.Lists.{set_again, set_else}
use Rattle.turn_lock.specs.declared.view.Stage.TheVariants.{Resting, Called, Note}
use Rattle.turn_lock.specs.declared.view.View.{View}
use Rattle.turn_lock.specs.Journals.{IsPrefix}
use Rattle.turn_lock.specs.Views.{IsPass, HasTicket, IsAtRest, newcomer, dealt, next_pass, note_of, hearing, settled, gathered, spent}
use Rattle.turn_lock.specs.Locks.{Lock, At, StandsFor, HasWidth, Deals, Knows, Rule}
use Rattle.turn_lock.specs.Working.Steps.{with_view, with_new}
use Rattle.turn_lock.specs.Tables.{Hold, Standing, learned}
use Rattle.turn_lock.proofs.Allowed.{at_lock}
use Rattle.turn_lock.proofs.Numbers.{contains_one, resting_pass}
use Rattle.turn_lock.proofs.Logs.{prefix_itself, knows_alone, nothing_heard, begins_longer, longer_begins, own_entries}
use Rattle.turn_lock.proofs.Slots.{resting_not_called}
use Rattle.turn_lock.proofs.Deals.{deal_keeps}
use Rattle.turn_lock.proofs.Meets.{copy_keeps, hear_keeps, settle_keeps}
use Rattle.turn_lock.proofs.Gathers.{gather_keeps}

module _ {S N : Type 0} (journal : S → List (ℕ × N)) (turns width : S → ℕ) where
  pub deals : (passes id : ℕ) (v : View N) → IsAtRest v → 0 < v.made → v.made < passes → Splits (Standing journal turns width passes) id v (dealt v) (next_pass v)
  deals passes id v rests some_made room s r at =
      let l = r.lock in
      record {
        lock = with_new (with_view l id (dealt v)) (next_pass v);
        words = r.words;
        homes = r.homes;
        views = ap (λ (vs : List (View N)). set vs id (dealt v) ++ next_pass v ∷ []) r.views;
        keeps = deal_keeps journal turns width passes id l (with_new (with_view l id (dealt v)) (next_pass v)) r.keeps record { view = v; at = at_lock journal turns width passes id s r v at; rests = rests; deals = some_made; room = room; becomes = refl };
      }

  pub copies : (passes id : ℕ) (v : View N) → IsAtRest v → Splits (Standing journal turns width passes) id v v (note_of v)
  copies passes id v rests s r at =
      let l = r.lock in
      record {
        lock = with_new l (note_of v);
        words = r.words;
        homes = r.homes;
        views = ap (λ (vs : List (View N)). vs ++ note_of v ∷ []) (set_again s.views id v at ∙ r.views);
        keeps = copy_keeps journal turns width passes id l (with_new l (note_of v)) r.keeps record { view = v; at = at_lock journal turns width passes id s r v at; rests = rests; becomes = refl };
      }

  pub hears : (passes id other : ℕ) (v note : View N) → IsAtRest v → note.stage ≡ Note → note.heard ≡ [] → Joins (Standing journal turns width passes) id v other note (hearing v note) spent
  hears passes id other v note rests is_note quiet s r at apart at_other =
      let l = r.lock in
      let w = hearing v note in
      let found = at_lock journal turns width passes other s r note (sym (set_else s.views id other w apart) ∙ at_other) in
      record {
        lock = with_view (with_view l id w) other spent;
        words = r.words;
        homes = r.homes;
        views = ap (λ (vs : List (View N)). set (set vs id w) other spent) r.views;
        keeps = hear_keeps journal turns width passes id other l (with_view (with_view l id w) other spent) r.keeps record {
          view = v;
          note = note;
          at = at_lock journal turns width passes id s r v at;
          at_other = found;
          apart = apart;
          rests = rests;
          is_note = is_note;
          quiet_note = quiet;
          becomes = refl;
        };
      }

  pub learns : (passes n id : ℕ) (me : Hold S N) → me.0.stage ≡ Resting → me.0.joined ≡ [] → Allows (Standing journal turns width passes) n id me 0 (λ x. x) (learned (step n 0 0 0 none) me)
  learns passes n id me rests alone s r len at small =
      let l = r.lock in
      let w = settled me.0 in
      let at_l = at_lock journal turns width passes id s r me.0 at in
      let known = r.keeps.seen.knows id me.0 at_l in (
        w,
        keeps,
        tt,
        record {
          lock = with_view l id w;
          words = ap (λ (ws : List ℕ). set ws 0 (get_or ws 0 0)) r.words;
          homes = r.homes;
          views = ap (λ (vs : List (View N)). set vs id w) r.views;
          keeps = settle_keeps journal turns width passes id l (with_view l id w) r.keeps record { view = me.0; at = at_l; rests = rests; alone = alone; becomes = refl };
        },
        (
          refl,
          λ xs is.
              let hears = subst (λ (xss : List (List (ℕ × N))). All (λ ys. IsPrefix ys r.keeps.log) xss) is known.heard 0 [] (omega arith) in
              let both = begins_longer me.0.seen xs r.keeps.log known.seen hears in
              (both.0, (both.1, (r.keeps.log, (longer_begins me.0.seen xs r.keeps.log known.seen hears, own_entries r.keeps.log me.0 (resting_pass me.0.stage rests) alone known)))),
        ),
      )

  pub gathers : (passes id other : ℕ) (v w : View N) → v.stage ≡ Resting → v.heard ≡ [] → IsAtRest w → Joins (Standing journal turns width passes) id v other w (gathered v w) spent
  gathers passes id other v w rests quiet rests_too s r at apart at_other =
      let l = r.lock in
      let both = gathered v w in
      let found = at_lock journal turns width passes other s r w (sym (set_else s.views id other both apart) ∙ at_other) in
      record {
        lock = with_view (with_view l id both) other spent;
        words = r.words;
        homes = r.homes;
        views = ap (λ (vs : List (View N)). set (set vs id both) other spent) r.views;
        keeps = gather_keeps journal turns width passes id other l (with_view (with_view l id both) other spent) r.keeps record {
          view = v;
          taken_in = w;
          at = at_lock journal turns width passes id s r v at;
          at_other = found;
          apart = apart;
          rests = rests;
          quiet = quiet;
          rests_too = rests_too;
          becomes = refl;
        };
      }

  -- at the start the one view is that of number 0
  abbrev start : ℕ → S → ℕ → Lock S N
  start size y t = record { ticket = t; serving = t; slot = some (Some y); views = newcomer 0 size 1 ∷ [] }

  only : (P : ℕ → View N → Type 0) (v : View N) → P 0 v → (j : ℕ) (u : View N) → At (v ∷ []) j u → P j u
  only P v h zero u at = subst (P 0) (some-injective v u at) h
  only P v h (suc j) u at = absurd (some-ne-none u (sym at))

  only_seat : (v : View N) (j : ℕ) (u : View N) → At (v ∷ []) j u → j ≡ 0
  only_seat v = only (λ j u. j ≡ 0) v refl

  starts : (passes : ℕ) (y : S) (t : ℕ) → 1 ≤ passes → passes < 2 ^ 32 → t < 2 ^ 64 → turns y ≡ t → journal y ≡ [] → Rule journal turns width passes (start (width y) y t)
  starts passes y t some_pass few small turns_is empty =
      let v : View N = newcomer 0 (width y) 1 in
      record {
        log = [];
        size = width y;
        most = 1;
        line = [];
        numbered = record {
          few = few;
          within = some_pass;
          greatest = (0, v, refl, (tt, refl));
          one_width = only (λ j u. IsPass u.stage → u.width ≡ width y) v (λ _. refl);
          joined_width = only (λ j u. (n : ℕ) → HasWidth u n → n ≡ width y) v (λ n s. sym (contains_one (width y) n s.1));
          made = only (λ j u. Deals u tt → u.made ≡ 1) v (λ _. refl);
          dealer = λ j k a b x at_j at_k has has_too. only_seat v j a at_j ∙ sym (only_seat v k b at_k);
          below = only (λ j u. (n : ℕ) → StandsFor u n → n < 1) v (λ n s. let e = contains_one 0 n s.1 in omega arith);
          differ = λ j k a b x at_j at_k has has_too. only_seat v j a at_j ∙ sym (only_seat v k b at_k);
          unused = λ n past. refl;
        };
        in_line = record {
          word = small;
          next = sym (mod-eq_of_lt small) ∙ ap (λ (n : ℕ). n % 2 ^ 64) (sym (add-zero t));
          stands = λ k j is. absurd (some-ne-none j (sym is));
          listed = λ j u x at has. absurd (only (λ i z. HasTicket z.stage x → ⊥) v (λ none. none) j u at has);
          once = λ k i j is is_too. absurd (some-ne-none j (sym is));
        };
        served = only (λ j u. (x : ℕ) → u.stage ≡ Called x → x ≡ t) v (λ x is. absurd (resting_not_called Resting refl x is));
        seen = record {
          longest = (0, v, refl, inl refl);
          knows = only (λ j u. Knows [] u) v (knows_alone [] v refl (prefix_itself []) (nothing_heard [] [] refl) refl);
        };
        slot = inl record { value = y; slot = refl; journal_is = empty; turns_is = turns_is; width_is = refl; idle = only (λ j u. (x : ℕ) → u.stage ≡ Called x → ⊥) v (resting_not_called Resting refl) };
        alone = only (λ j u. (x : ℕ) → HasTicket u.stage x → (u.joined ≡ []) × (u.heard ≡ [])) v (λ x has. absurd has);
      }

  pub opens : (passes : ℕ) (y : S) (t : ℕ) (slots : List (Option S)) → slots ≡ Some y ∷ [] → 1 ≤ passes → passes < 2 ^ 32 → t < 2 ^ 64 → turns y ≡ t → journal y ≡ []
      → Standing journal turns width passes (opening (t ∷ t ∷ []) slots (newcomer 0 (width y) 1))
  opens passes y t slots is some_pass few small turns_is empty = record {
    lock = start (width y) y t;
    words = refl;
    homes = ap (λ (xs : List (Option S)). map some xs) is;
    views = refl;
    keeps = starts passes y t some_pass few small turns_is empty;
  }
