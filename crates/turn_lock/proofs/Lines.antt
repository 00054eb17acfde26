-- The line of the seats that have tickets, as views change.
use Rattle.std.proofs.Common.{◌≡◌, ◌≢◌, ℕ, zero, suc, ◌+◌, ◌%◌, ◌^◌, ◌<◌, List, [], ◌∷◌, ◌++◌, length, set, sym, refl, ap, ◌∙◌, subst, ⊎_elim, arith, length-append, mod-lt, mod-eq_of_lt, lit<}
use mathlib.Core.Logic.{dite}
use mathlib.Core.Option.{some, some-injective, some-ne-none}
use native.Mathlib.Decide.{ℕ_discrete}
use lib.ListN.{get_elem?}
use Rattle.std.proofs.Math.Nat.{mod-add-mod}
use Rattle.atomic_table.proofs.Lists.{at_longer, at_last, set_here, set_else, one_turn}
use Rattle.turn_lock.specs.declared.view.Stage.{Stage}
use Rattle.turn_lock.specs.declared.view.Stage.TheVariants.{Resting, Waiting, Called, Note, Spent}
use Rattle.turn_lock.specs.declared.view.View.{View}
use Rattle.turn_lock.specs.Views.{HasTicket, waiting}
use Rattle.turn_lock.specs.Locks.{At, InLine}
use Rattle.turn_lock.proofs.Seats.{there, at_end, one_at, each_set}

-- a word that counts on
pub counts_on : (x k : ℕ) → ((x + k) % 2 ^ 64 + 1) % 2 ^ 64 ≡ (x + (k + 1)) % 2 ^ 64
counts_on x k = mod-add-mod (x + k) (2 ^ 64) 1 ∙ ap (λ (n : ℕ). n % 2 ^ 64) (omega arith)

moves_up : (x k : ℕ) → (x + suc k) % 2 ^ 64 ≡ ((x + 1) % 2 ^ 64 + k) % 2 ^ 64
moves_up x k = ap (λ (n : ℕ). n % 2 ^ 64) (omega arith) ∙ sym (mod-add-mod (x + 1) (2 ^ 64) k)

-- of fewer than 2 ^ 32 tickets in line, only the first is the one that is served
pub first_in_line : (x k : ℕ) → x < 2 ^ 64 → k < 2 ^ 32 → (x + k) % 2 ^ 64 ≡ x → k ≡ 0
first_in_line x k small few same =
    let one = one_turn x (x + k) (2 ^ 64) (omega arith) (omega arith) (mod-eq_of_lt small ∙ sym same) in
    omega arith

pub word_small : (x : ℕ) → x % 2 ^ 64 < 2 ^ 64
word_small x = mod-lt x (lit< tt)

-- a stage has one ticket at most
pub one_ticket : (st : Stage) (t u : ℕ) → HasTicket st t → HasTicket st u → t ≡ u
one_ticket Resting t u a b = absurd a
one_ticket (Waiting x) t u a b = sym a ∙ b
one_ticket (Called x) t u a b = sym a ∙ b
one_ticket Note t u a b = absurd a
one_ticket Spent t u a b = absurd a

module _ {N : Type 0} where
  -- a change of a view that leaves its ticket
  pub line_same : (ticket serving : ℕ) (line : List ℕ) (views : List (View N)) (me : ℕ) (v w : View N) → At views me v
      → ((t : ℕ) → HasTicket v.stage t → HasTicket w.stage t) → ((t : ℕ) → HasTicket w.stage t → HasTicket v.stage t)
      → InLine ticket serving line views → InLine ticket serving line (set views me w)
  line_same ticket serving line views me v w at to back l = record {
    word = l.word;
    next = l.next;
    stands = λ k j is.
        let s = l.stands k j is in
        dite (ℕ_discrete j me)
        (λ mine. (w, subst (λ (i : ℕ). At (set views me w) i w) (sym mine) (set_here views me w (there views me v at)), to _ (subst (λ (u : View N). HasTicket u.stage ((serving + k) % 2 ^ 64)) (one_at views j me s.0 v s.1 at mine) s.2)))
        (λ other. (s.0, set_else views me j w other ∙ s.1, s.2));
    listed = λ i z x is has. each_set (λ j u. (t : ℕ) → HasTicket u.stage t → (k : ℕ) × (get_elem? line k ≡ some j)) views me w (λ t has. l.listed me v t at (back t has)) (λ k u other found t has. l.listed k u t found has) i z is x has;
    once = l.once;
  }

  -- a new view without a ticket
  pub line_new : (ticket serving : ℕ) (line : List ℕ) (views : List (View N)) (w : View N) → ((t : ℕ) → HasTicket w.stage t → ⊥)
      → InLine ticket serving line views → InLine ticket serving line (views ++ w ∷ [])
  line_new ticket serving line views w free l = record {
    word = l.word;
    next = l.next;
    stands = λ k j is. let s = l.stands k j is in (s.0, at_longer views (w ∷ []) j s.0 s.1, s.2);
    listed = λ j u t at has. ⊎_elim
        (λ (old : At views j u). l.listed j u t old has)
        (λ (is : (j ≡ length views) × (w ≡ u)). absurd (free t (subst (λ (z : View N). HasTicket z.stage t) (sym is.1) has)))
        (at_end views w u j at);
    once = l.once;
  }

  -- the seat's pass had no ticket, and draws the next one
  pub line_draw : (ticket serving : ℕ) (line : List ℕ) (views : List (View N)) (me : ℕ) (v : View N) → At views me v → ((t : ℕ) → HasTicket v.stage t → ⊥)
      → InLine ticket serving line views → InLine ((ticket + 1) % 2 ^ 64) serving (line ++ me ∷ []) (set views me (waiting v ticket))
  line_draw ticket serving line views me v at free l =
      let here = set_here views me (waiting v ticket) (there views me v at) in
      let not_me : (k : ℕ) → get_elem? line k ≡ some me → ⊥ = λ k is. let s = l.stands k me is in free _ (subst (λ (u : View N). HasTicket u.stage ((serving + k) % 2 ^ 64)) (one_at views me me s.0 v s.1 at refl) s.2) in
      let new_one : (k j : ℕ) → get_elem? line k ≡ some j → j ≢ me = λ k j is same. not_me k (is ∙ ap some same) in
      record {
        word = l.word;
        next = ap (λ (n : ℕ). (n + 1) % 2 ^ 64) l.next ∙ counts_on serving (length line) ∙ ap (λ (n : ℕ). (serving + n) % 2 ^ 64) (sym (length-append line (me ∷ [])));
        stands = λ k j is. ⊎_elim
            (λ (old : get_elem? line k ≡ some j). let s = l.stands k j old in (s.0, set_else views me j (waiting v ticket) (new_one k j old) ∙ s.1, s.2))
            (λ (new : (k ≡ length line) × (me ≡ j)). (
              waiting v ticket,
              subst (λ (i : ℕ). At (set views me (waiting v ticket)) i (waiting v ticket)) new.1 here,
              l.next ∙ ap (λ (n : ℕ). (serving + n) % 2 ^ 64) (sym new.0),
            ))
            (at_end line me j k is);
        listed = λ i z x is has. each_set (λ j u. (t : ℕ) → HasTicket u.stage t → (k : ℕ) × (get_elem? (line ++ me ∷ []) k ≡ some j)) views me (waiting v ticket)
            (λ t has. (length line, at_last line me (length line) refl))
            (λ j u other found t has. let p = l.listed j u t found has in (p.0, at_longer line (me ∷ []) p.0 j p.1)) i z is x has;
        once = λ k i j is_k is_i. ⊎_elim
            (λ (old : get_elem? line k ≡ some j). ⊎_elim
            (λ (old_too : get_elem? line i ≡ some j). l.once k i j old old_too)
            (λ (new : (i ≡ length line) × (me ≡ j)). absurd (new_one k j old (sym new.1)))
            (at_end line me j i is_i))
            (λ (new : (k ≡ length line) × (me ≡ j)). ⊎_elim
            (λ (old : get_elem? line i ≡ some j). absurd (new_one i j old (sym new.1)))
            (λ (new_too : (i ≡ length line) × (me ≡ j)). new.0 ∙ sym new_too.0)
            (at_end line me j i is_i))
            (at_end line me j k is_k);
      }

  -- the pass whose ticket is served is the first in line
  pub served_first : (ticket serving : ℕ) (line : List ℕ) (views : List (View N)) (me : ℕ) (v : View N) → At views me v → HasTicket v.stage serving → length line < 2 ^ 32
      → InLine ticket serving line views → get_elem? line 0 ≡ some me
  served_first ticket serving line views me v at has few l =
      let p = l.listed me v serving at has in
      let s = l.stands p.0 me p.1 in
      let its_ticket : HasTicket v.stage ((serving + p.0) % 2 ^ 64) = subst (λ (u : View N). HasTicket u.stage ((serving + p.0) % 2 ^ 64)) (one_at views me me s.0 v s.1 at refl) s.2 in
      let place : p.0 ≡ 0 = first_in_line serving p.0 l.word (let h = there line p.0 me p.1 in omega arith) (one_ticket v.stage _ _ its_ticket has) in
      subst (λ (k : ℕ). get_elem? line k ≡ some me) place p.1

  -- the first in line leaves it
  pub line_raise : (ticket serving : ℕ) (line : List ℕ) (views : List (View N)) (me : ℕ) (v w : View N) → At views me v → HasTicket v.stage serving → ((t : ℕ) → HasTicket w.stage t → ⊥) → length line < 2 ^ 32
      → InLine ticket serving line views → (rest : List ℕ) × InLine ticket ((serving + 1) % 2 ^ 64) rest (set views me w)
  line_raise ticket serving [] views me v w at has free few l = let p = l.listed me v serving at has in absurd (some-ne-none me (sym p.1))
  line_raise ticket serving (first ∷ rest) views me v w at has free few l =
      let is_first = served_first ticket serving (first ∷ rest) views me v at has few l in
      let not_me : (k j : ℕ) → get_elem? rest k ≡ some j → j ≢ me = λ k j is same. let e = l.once (suc k) 0 me (is ∙ ap some same) is_first in omega arith in (
        rest,
        record {
          word = word_small (serving + 1);
          next = l.next ∙ moves_up serving (length rest);
          stands = λ k j is. let t = l.stands (suc k) j is in (t.0, set_else views me j w (not_me k j is) ∙ t.1, subst (HasTicket t.0.stage) (moves_up serving k) t.2);
          listed = λ i z x is its. each_set (λ j u. (t : ℕ) → HasTicket u.stage t → (k : ℕ) × (get_elem? rest k ≡ some j)) views me w
              (λ t none. absurd (free t none))
              (λ j u other found t theirs. further j (l.listed j u t found theirs) (λ same. other (some-injective j me (sym same ∙ is_first)))) i z is x its;
          once = λ k i j is_k is_i. let e = l.once (suc k) (suc i) j is_k is_i in omega arith;
        },
      )
    where
      by_place : (j k : ℕ) → get_elem? (first ∷ rest) k ≡ some j → (get_elem? (first ∷ rest) 0 ≡ some j → ⊥) → (i : ℕ) × (get_elem? rest i ≡ some j)
      by_place j zero is not_first = absurd (not_first is)
      by_place j (suc k) is not_first = (k, is)

      further : (j : ℕ) (p : (k : ℕ) × (get_elem? (first ∷ rest) k ≡ some j)) → (get_elem? (first ∷ rest) 0 ≡ some j → ⊥) → (k : ℕ) × (get_elem? rest k ≡ some j)
      further j p not_first = by_place j p.0 p.1 not_first
