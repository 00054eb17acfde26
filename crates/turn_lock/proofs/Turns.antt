-- The steps of a turn keep the rule.
use Rattle.std.proofs.Common.{◌≡◌, ℕ, ◌+◌, ◌%◌, ◌^◌, ◌<◌, ◌≤◌, ◌==◌, Option, Some, List, [], ◌∷◌, ◌++◌, length, set, sym, refl, ap, ◌∙◌, subst, inl, inr, ⊎_elim, arith}
use mathlib.Core.Logic.{dite}
use mathlib.Core.Option.{some, none, some-injective}
use native.Mathlib.Decide.{ℕ_discrete}
use Rattle.atomic_table.proofs.Lists.{set_here}
use Rattle.std.proofs.lemmas.List.Elements.{filter-append}
use Rattle.turn_lock.specs.declared.view.Stage.{Stage}
use Rattle.turn_lock.specs.declared.view.Stage.TheVariants.{Resting, Waiting, Called}
use Rattle.turn_lock.specs.declared.view.View.{View}
use Rattle.turn_lock.specs.Journals.{entries_by, IsPrefix}
use Rattle.turn_lock.specs.Views.{HasTicket, waiting, called, raised}
use Rattle.turn_lock.specs.Locks.{Lock, At, Everyone, StandsFor, Knows, Saw, AtHome, Away, Rule}
use Rattle.turn_lock.specs.Working.Steps.{Draw, Look, TakeOut, PutBack, Raise, drawn, taken}
use Rattle.turn_lock.proofs.Seats.{there, one_at, everyone_set, someone_set}
use Rattle.turn_lock.proofs.Numbers.{resting_pass, ticket_pass, numbered_same, line_at_most, stands_for_own}
use Rattle.turn_lock.proofs.Lines.{line_same, line_draw, line_raise, served_first}
use Rattle.turn_lock.proofs.Logs.{prefix_itself, no_entry, its_entry, entries_more, own_entries, knows_alone, knows_more, nothing_heard}
use Rattle.turn_lock.proofs.Slots.{NotCalled, slot_same, resting_not_called, waiting_not_called}

pub no_ticket : (st : Stage) (t : ℕ) → st ≡ Resting → HasTicket st t → ⊥
no_ticket st t is has = subst (λ (z : Stage). HasTicket z t) is has

pub waits_for : (st : Stage) (t u : ℕ) → st ≡ Waiting t → HasTicket st u → t ≡ u
waits_for st t u is has = subst (λ (z : Stage). HasTicket z u) is has

pub has_ticket : (st : Stage) (t : ℕ) → st ≡ Waiting t → HasTicket st t
has_ticket st t is = subst (λ (z : Stage). HasTicket z t) (sym is) refl

pub calls_ticket : (st : Stage) (t : ℕ) → st ≡ Called t → HasTicket st t
calls_ticket st t is = subst (λ (z : Stage). HasTicket z t) (sym is) refl

called_one : (t u : ℕ) → Called t ≡ Called u → t ≡ u
called_one t u is = grind arith

module _ {S N : Type 0} (journal : S → List (ℕ × N)) (turns width : S → ℕ) where
  pub draw_keeps : (passes seat : ℕ) (l l' : Lock S N) → Rule journal turns width passes l → Draw seat l l' → Rule journal turns width passes l'
  draw_keeps passes seat l l' r d = subst (Rule journal turns width passes) (sym d.becomes) record {
    log = r.log;
    size = r.size;
    most = r.most;
    line = r.line ++ seat ∷ [];
    numbered = numbered_same passes r.size r.most r.log r.log l.views seat v w d.at (refl, refl, refl, refl, resting_pass v.stage d.rests.rests, tt) r.numbered.unused r.numbered;
    in_line = line_draw l.ticket l.serving r.line l.views seat v d.at (λ t. no_ticket v.stage t d.rests.rests) r.in_line;
    served = everyone_set (λ u. (t : ℕ) → u.stage ≡ Called t → t ≡ l.serving) l.views seat w (λ t is. absurd (waiting_not_called (Waiting l.ticket) l.ticket refl t is)) (λ k u other found. r.served k u found);
    seen = record {
      longest = someone_set (Saw r.log) l.views seat v w d.at (λ h. h) r.seen.longest;
      knows = everyone_set (Knows r.log) l.views seat w (let k = r.seen.knows seat v d.at in record { seen = k.seen; heard = k.heard; parts = λ _. k.parts (resting_pass v.stage d.rests.rests) }) (λ k u other found. r.seen.knows k u found);
    };
    slot = slot_same journal turns width r.size r.log l (drawn l seat v) seat v w d.at (resting_not_called v.stage d.rests.rests) (waiting_not_called (Waiting l.ticket) l.ticket refl) refl refl refl r.slot;
    alone = everyone_set (λ u. (t : ℕ) → HasTicket u.stage t → (u.joined ≡ []) × (u.heard ≡ [])) l.views seat w (λ t has. (d.rests.alone, d.rests.quiet)) (λ k u other found. r.alone k u found);
  }
    where
      v : View N
      v = d.view

      w : View N
      w = waiting d.view l.ticket

  pub few_in_line : (passes : ℕ) (l : Lock S N) (r : Rule journal turns width passes l) → length r.line < 2 ^ 32
  few_in_line passes l r =
      let most = line_at_most passes r.size r.most l.ticket l.serving r.log r.line l.views r.numbered r.in_line r.alone in
      let within = r.numbered.within in
      let few = r.numbered.few in
      omega arith

  -- two passes with the ticket that is served are one
  pub one_served : (passes : ℕ) (l : Lock S N) (r : Rule journal turns width passes l) (j k : ℕ) (v w : View N) → At l.views j v → At l.views k w → HasTicket v.stage l.serving → HasTicket w.stage l.serving → j ≡ k
  one_served passes l r j k v w at_j at_k has has_too =
      let few = few_in_line passes l r in
      some-injective j k (sym (served_first l.ticket l.serving r.line l.views j v at_j has few r.in_line) ∙ served_first l.ticket l.serving r.line l.views k w at_k has_too few r.in_line)

  -- where a waiting pass's ticket is served, the slot is at home
  pub due_home : (passes seat t : ℕ) (l : Lock S N) (r : Rule journal turns width passes l) (v : View N) → At l.views seat v → v.stage ≡ Waiting t → l.serving ≡ t → AtHome journal turns width r.size r.log l
  due_home passes seat t l r v at waits due = ⊎_elim
      (λ (h : AtHome journal turns width r.size r.log l). h)
      (λ (a : Away journal turns width r.log l).
      let same = one_served passes l r a.seat seat a.view v a.at at (calls_ticket a.view.stage l.serving a.turn) (subst (HasTicket v.stage) (sym due) (has_ticket v.stage t waits)) in
      absurd (waiting_not_called v.stage t waits l.serving (ap (λ (u : View N). u.stage) (sym (one_at l.views a.seat seat a.view v a.at at same)) ∙ a.turn)))
      r.slot

  -- the pass whose turn it is has seen the log
  pub turn_sees : (passes seat t : ℕ) (l : Lock S N) (r : Rule journal turns width passes l) (v : View N) → At l.views seat v → v.stage ≡ Called t → v.seen ≡ r.log
  turn_sees passes seat t l r v at turn = ⊎_elim
      (λ (h : AtHome journal turns width r.size r.log l). absurd (h.idle seat v at t turn))
      (λ (a : Away journal turns width r.log l).
      let now = r.served seat v at t turn in
      let same = one_served passes l r a.seat seat a.view v a.at at (calls_ticket a.view.stage l.serving a.turn) (subst (HasTicket v.stage) now (calls_ticket v.stage t turn)) in
      ap (λ (u : View N). u.seen) (sym (one_at l.views a.seat seat a.view v a.at at same)) ∙ a.sees)
      r.slot

  taken_keeps : (passes seat t : ℕ) (l : Lock S N) (y : S) (v : View N) (r : Rule journal turns width passes l) → At l.views seat v → v.stage ≡ Waiting t → l.serving ≡ t → journal y ≡ r.log
      → Rule journal turns width passes (taken journal turns width l seat v t y)
  taken_keeps passes seat t l y v r at waits due log_is =
      let has : (u : ℕ) → t ≡ u → HasTicket v.stage u = λ u same. subst (HasTicket v.stage) same (has_ticket v.stage t waits) in
      let pass = ticket_pass v.stage t (has t refl) in
      let alone = r.alone seat v at t (has t refl) in
      let w : View N = called v t (journal y) in
      let here = set_here l.views seat w (there l.views seat v at) in
      record {
        log = r.log;
        size = r.size;
        most = r.most;
        line = r.line;
        numbered = numbered_same passes r.size r.most r.log r.log l.views seat v w at (refl, refl, refl, refl, pass, tt) r.numbered.unused r.numbered;
        in_line = line_same l.ticket l.serving r.line l.views seat v w at (λ u. waits_for v.stage t u waits) has r.in_line;
        served = everyone_set (λ u. (x : ℕ) → u.stage ≡ Called x → x ≡ l.serving) l.views seat w (λ x is. sym (called_one t x is) ∙ sym due) (λ k u other found. r.served k u found);
        seen = record {
          longest = (seat, w, here, inl log_is);
          knows = everyone_set (Knows r.log) l.views seat w
              (knows_alone r.log w alone.0 (subst (λ (xs : List (ℕ × N)). IsPrefix xs r.log) (sym log_is) (prefix_itself r.log)) (nothing_heard r.log v.heard alone.1) (own_entries r.log v pass alone.0 (r.seen.knows seat v at)))
              (λ k u other found. r.seen.knows k u found);
        };
        slot = inr record { seat = seat; view = w; at = here; slot = refl; turn = ap Called (sym due); sees = log_is };
        alone = everyone_set (λ u. (x : ℕ) → HasTicket u.stage x → (u.joined ≡ []) × (u.heard ≡ [])) l.views seat w (λ x theirs. alone) (λ k u other found. r.alone k u found);
      }

  pub look_keeps : (passes seat t : ℕ) (l l' : Lock S N) → Rule journal turns width passes l → Look journal turns width seat t l l' → Rule journal turns width passes l'
  look_keeps passes seat t l l' r d = dite (ℕ_discrete l.serving t)
      (λ due.
      let took = d.due due in
      let home = due_home passes seat t l r d.view d.at d.waits due in
      let same : home.value ≡ took.0 = one_value home.value took.0 (sym home.slot ∙ took.1) in
      subst (Rule journal turns width passes) (sym took.2) (taken_keeps passes seat t l took.0 d.view r d.at d.waits due (ap journal (sym same) ∙ home.journal_is)))
      (λ early. subst (Rule journal turns width passes) (sym (d.early early)) r)
    where
      one_value : (x y : S) → some (Some x) ≡ some (Some y) → x ≡ y
      one_value x y is = grind arith

  -- in a turn the slot is away, so what its seat does with it is no step of the words or the views
  away_in_turn : (passes seat t : ℕ) (l : Lock S N) (r : Rule journal turns width passes l) (v : View N) → At l.views seat v → v.stage ≡ Called t → l.slot ≡ none
  away_in_turn passes seat t l r v at turn = ⊎_elim (λ (h : AtHome journal turns width r.size r.log l). absurd (h.idle seat v at t turn)) (λ (a : Away journal turns width r.log l). a.slot) r.slot

  pub take_out_keeps : (passes seat : ℕ) (inside inside' : Option S) (l l' : Lock S N) → Rule journal turns width passes l → TakeOut journal turns width seat inside inside' l l' → Rule journal turns width passes l' × (l'.slot ≡ none)
  take_out_keeps passes seat inside inside' l l' r d = subst (λ (k : Lock S N). Rule journal turns width passes k × (k.slot ≡ none)) (sym d.becomes) (r, away_in_turn passes seat d.ticket l r d.view d.at d.turn)

  pub put_back_keeps : (passes seat : ℕ) (inside inside' : Option S) (l l' : Lock S N) → Rule journal turns width passes l → PutBack journal turns width seat inside inside' l l' → Rule journal turns width passes l' × (l'.slot ≡ none)
  put_back_keeps passes seat inside inside' l l' r d = subst (λ (k : Lock S N). Rule journal turns width passes k × (k.slot ≡ none)) (sym d.becomes) (r, away_in_turn passes seat d.ticket l r d.view d.at d.turn)

  pub raise_keeps : (passes seat : ℕ) (l l' : Lock S N) → Rule journal turns width passes l → Raise journal turns width seat l l' → Rule journal turns width passes l'
  raise_keeps passes seat l l' r d =
      let v = d.view in
      let y = d.value in
      let added = d.added in
      let w : View N = raised v (journal y) added in
      let now : d.ticket ≡ l.serving = r.served seat v d.at d.ticket d.turn in
      let has : HasTicket v.stage l.serving = subst (HasTicket v.stage) now (calls_ticket v.stage d.ticket d.turn) in
      let pass = ticket_pass v.stage l.serving has in
      let alone = r.alone seat v d.at l.serving has in
      let few = few_in_line passes l r in
      let here = set_here l.views seat w (there l.views seat v d.at) in
      let log_is : journal y ≡ r.log ++ added = d.grows ∙ ap (λ (xs : List (ℕ × N)). xs ++ added) (turn_sees passes seat d.ticket l r v d.at d.turn) in
      let own : StandsFor v v.number = stands_for_own v pass alone.0 in
      let unused : (n : ℕ) → r.most ≤ n → entries_by n (journal y) ≡ [] = λ n past.
      let below = r.numbered.below seat v d.at v.number own in
      ap (entries_by n) log_is ∙ entries_more n r.log added (no_entry v.number n added d.one (λ same. let e = same in absurd (omega arith))) ∙ r.numbered.unused n past in
      let mine : entries_by v.number (journal y) ≡ v.mine ++ added =
      ap (entries_by v.number) log_is ∙ filter-append (λ e. e.0 == v.number) r.log added ∙ ap (λ (xs : List (ℕ × N)). xs ++ entries_by v.number added) (own_entries r.log v pass alone.0 (r.seen.knows seat v d.at)) ∙ ap (λ (xs : List (ℕ × N)). v.mine ++ xs) (its_entry v.number added d.one) in
      let left = line_raise l.ticket l.serving r.line l.views seat v w d.at has (λ t none. none) few r.in_line in
      let not_called : Everyone (λ u. NotCalled u.stage) (set l.views seat w) = everyone_set (λ u. NotCalled u.stage) l.views seat w (resting_not_called Resting refl) (λ k u other found t is.
      other (one_served passes l r k seat u v found d.at (subst (HasTicket u.stage) (r.served k u found t is) (calls_ticket u.stage t is)) has)) in
      subst (Rule journal turns width passes) (sym d.becomes) record {
        log = journal y;
        size = r.size;
        most = r.most;
        line = left.0;
        numbered = numbered_same passes r.size r.most r.log (journal y) l.views seat v w d.at (refl, refl, refl, refl, pass, tt) unused r.numbered;
        in_line = left.1;
        served = λ k u found t is. absurd (not_called k u found t is);
        seen = record {
          longest = (seat, w, here, inl refl);
          knows = everyone_set (Knows (journal y)) l.views seat w
              (knows_alone (journal y) w alone.0 (prefix_itself (journal y)) (nothing_heard (journal y) v.heard alone.1) mine)
              (λ k u other found. subst (λ (xs : List (ℕ × N)). Knows xs u) (sym log_is) (knows_more v.number r.log added u d.one (λ theirs stands. other (r.numbered.differ k seat u v v.number found d.at (theirs, stands) own)) (r.seen.knows k u found)));
        };
        slot = inl record { value = y; slot = refl; journal_is = refl; turns_is = d.counts ∙ ap (λ (n : ℕ). (n + 1) % 2 ^ 64) now; width_is = d.keeps_width ∙ r.numbered.one_width seat v d.at pass; idle = not_called };
        alone = everyone_set (λ u. (x : ℕ) → HasTicket u.stage x → (u.joined ≡ []) × (u.heard ≡ [])) l.views seat w (λ x none. absurd none) (λ k u other found. r.alone k u found);
      }
