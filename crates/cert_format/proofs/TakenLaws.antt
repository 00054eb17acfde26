-- The next part is taken: what follows means the same, and another part is awaited.
use Rattle.std.proofs.Common.{◌≡◌, ℕ, zero, suc, ◌+◌, ◌-◌, ◌<◌, Bool, true, false, cond, List, [], ◌∷◌, ◌++◌, length, drop, Ok, Err, refl, sym, ap, ◌∙◌, arith}
use Rattle.cert_format.specs.declared.stage.Stage.{Stage}
use Rattle.cert_format.specs.declared.stage.Stage.TheVariants.{Front, Foreign, Marks, Bases, CellCount, Cells, StateCount, States, End}
use Rattle.cert_format.specs.Reading.{has_magic, Reads, felt_at, cell_numbers_at, state_at}
use Rattle.cert_format.specs.Feeding.{FrontRecord, Partial, rest_by, rest_of}
use Rattle.cert_format.specs.Working.Taking.{size_of, IsAwaiting, marks_left, cells_left, states_left, front_at, kept, going, count_in, front_kept, front_taken, bases_left, mark_taken, base_kept, base_taken, cell_count_taken, cell_taken, state_count_taken, state_kept, state_taken, nothing, taken_at, taken}
use Rattle.cert_format.proofs.PartsPass.{kept_place, cell_pass, to_cells, state_pass, to_states, base_pass, mark_pass, to_bases, cell_count_pass, state_count_pass}
use Rattle.cert_format.proofs.FrontPass.{front_pass}

less_one : (n : ℕ) → n ≡ suc n - 1
less_one n = omega arith

-- ---- what follows means the same

passes_at : (s : Stage) (p : Partial) (u t : List ℕ) → IsAwaiting s → (s ≡ Front → p ≡ nothing) → length u ≡ size_of s → 0 < size_of s → rest_by s p (u ++ t) ≡ rest_of (taken_at s p u) t
passes_at Front p u t awaiting fresh len some = front_pass u t len ∙ ap (λ (q : Partial). rest_of (front_taken q u) t) (sym (fresh refl))
passes_at Foreign p u t awaiting fresh len some = absurd (omega (arith, some))
passes_at (Marks zero) p u t awaiting fresh len some = absurd (omega (arith, awaiting))
passes_at (Marks (suc n)) p u t awaiting fresh len some =
    mark_pass p n u t len
    ∙ (sym (to_bases (count_in (drop 4 u)) n (record p { place = p.place + 8; row = count_in u; bases = [] }) t)
    ∙ ap (λ (k : ℕ). rest_of (mark_taken p k u) t) (less_one n))
passes_at (Bases zero n) p u t awaiting fresh len some = absurd (omega (arith, awaiting))
passes_at (Bases (suc m) n) p u t awaiting fresh len some =
    let q : Partial = base_kept p u in
    base_pass p m n u t len
    ∙ (sym (to_bases m n (record q { place = q.place + 8 }) t) ∙ ap (λ (k : ℕ). rest_of (base_taken p k n u) t) (less_one m))
passes_at CellCount p u t awaiting fresh len some = cell_count_pass p u t len ∙ sym (to_cells (count_in u) (cell_count_taken p u) t refl)
passes_at (Cells zero) p u t awaiting fresh len some = absurd (omega (arith, awaiting))
passes_at (Cells (suc n)) p u t awaiting fresh len some =
    cell_pass p n (cells_left n) u t len
    ∙ (sym (to_cells n (cell_taken p n u) t refl) ∙ ap (λ (k : ℕ). rest_of (cell_taken p k u) t) (less_one n))
passes_at StateCount p u t awaiting fresh len some = state_count_pass p u t len ∙ sym (to_states (count_in u) (state_count_taken p u) t refl)
passes_at (States zero) p u t awaiting fresh len some = absurd (omega (arith, awaiting))
passes_at (States (suc n)) p u t awaiting fresh len some =
    let place : (state_kept p u).place ≡ p.place = kept_place p.bad p (state_at (p.place + 24) u) (λ state. record p { states = p.states ++ state ∷ [] }) (λ a. refl) in
    state_pass p n (states_left (p.place + 24) n) u t len
    ∙ (sym (to_states n (state_taken p n u) t (ap (λ (k : ℕ). states_left (k + 24) n) (sym place))) ∙ ap (λ (k : ℕ). rest_of (state_taken p k u) t) (less_one n))
passes_at (End start) p u t awaiting fresh len some = absurd (omega (arith, some))

-- ---- another part is awaited

-- a part behind the front
pub record IsLater (s : Stage) : Type 0 where
  pub awaiting : IsAwaiting s
  pub apart : s ≡ Front → ⊥

marks_later : (n : ℕ) → IsLater (marks_left n)
marks_later zero = record { awaiting = tt; apart = λ e. absurd (cc) }
marks_later (suc n) = record { awaiting = omega arith; apart = λ e. absurd (cc) }

cells_later : (n : ℕ) → IsLater (cells_left n)
cells_later zero = record { awaiting = tt; apart = λ e. absurd (cc) }
cells_later (suc n) = record { awaiting = omega arith; apart = λ e. absurd (cc) }

states_later : (place n : ℕ) → IsLater (states_left place n)
states_later place zero = record { awaiting = tt; apart = λ e. absurd (cc) }
states_later place (suc n) = record { awaiting = omega arith; apart = λ e. absurd (cc) }

bases_later : (p : Partial) (m n : ℕ) → IsLater (bases_left p m n).stage
bases_later p zero n = marks_later n
bases_later p (suc m) n = record { awaiting = omega arith; apart = λ e. absurd (cc) }

foreign_later : IsLater Foreign
foreign_later = record { awaiting = tt; apart = λ e. absurd (cc) }

front_later : (b : Bool) (p q : Partial) (n : ℕ) → IsLater (cond b (going q 61 (marks_left n)) (going p 61 Foreign)).stage
front_later true p q n = marks_later n
front_later false p q n = foreign_later

later_at : (s : Stage) (p : Partial) (u : List ℕ) → 0 < size_of s → IsLater (taken_at s p u).stage
later_at Front p u some = front_later (has_magic u) p (front_kept p (drop 8 u)) (count_in (drop 57 u))
later_at Foreign p u some = absurd (omega (arith, some))
later_at (Marks n) p u some = bases_later (record p { place = p.place + 8; row = count_in u; bases = [] }) (count_in (drop 4 u)) (n - 1)
later_at (Bases m n) p u some = bases_later (record (base_kept p u) { place = (base_kept p u).place + 8 }) (m - 1) n
later_at CellCount p u some = cells_later (count_in u)
later_at (Cells n) p u some = cells_later (n - 1)
later_at StateCount p u some = states_later (p.place + 4) (count_in u)
later_at (States n) p u some = states_later (p.place + 24) (n - 1)
later_at (End start) p u some = absurd (omega (arith, some))

-- ---- places

bases_place : (p : Partial) (m n : ℕ) → (bases_left p m n).place ≡ p.place
bases_place p zero n = refl
bases_place p (suc m) n = refl

kept_front : (p : Partial) (r : Reads FrontRecord) → (kept p r (λ f. record p { front = f })).place ≡ p.place
kept_front p (Ok x) = refl
kept_front p (Err e) = refl

front_place : (b : Bool) (p q : Partial) (n : ℕ) → q.place ≡ p.place → (cond b (going q 61 (marks_left n)) (going p 61 Foreign)).place ≡ p.place + 61
front_place true p q n same = ap (λ (k : ℕ). k + 61) same
front_place false p q n same = refl

place_at : (s : Stage) (p : Partial) (u : List ℕ) → 0 < size_of s → (taken_at s p u).place ≡ p.place + size_of s
place_at Front p u some = front_place (has_magic u) p (front_kept p (drop 8 u)) (count_in (drop 57 u)) (kept_front p (front_at 61 (drop 8 u)))
place_at Foreign p u some = absurd (omega (arith, some))
place_at (Marks n) p u some = bases_place (record p { place = p.place + 8; row = count_in u; bases = [] }) (count_in (drop 4 u)) (n - 1)
place_at (Bases m n) p u some =
    bases_place (record (base_kept p u) { place = (base_kept p u).place + 8 }) (m - 1) n
    ∙ ap (λ (k : ℕ). k + 8) (kept_place p.bad p (felt_at (p.place + 8) u) (λ base. record p { bases = p.bases ++ base ∷ [] }) (λ a. refl))
place_at CellCount p u some = refl
place_at (Cells n) p u some = ap (λ (k : ℕ). k + 16) (kept_place p.bad p (cell_numbers_at (p.place + 16) u) (λ cell. record p { cells = p.cells ++ cell ∷ [] }) (λ a. refl))
place_at StateCount p u some = refl
place_at (States n) p u some = ap (λ (k : ℕ). k + 24) (kept_place p.bad p (state_at (p.place + 24) u) (λ state. record p { states = p.states ++ state ∷ [] }) (λ a. refl))
place_at (End start) p u some = absurd (omega (arith, some))

-- ---- all of it

pub record Took (p : Partial) (u : List ℕ) : Type 0 where
  pub answers : (t : List ℕ) → rest_of p (u ++ t) ≡ rest_of (taken p u) t
  pub awaiting : IsAwaiting (taken p u).stage
  pub apart : (taken p u).stage ≡ Front → ⊥
  pub place : (taken p u).place ≡ p.place + length u

pub took : (p : Partial) (u : List ℕ) → IsAwaiting p.stage → (p.stage ≡ Front → p ≡ nothing) → length u ≡ size_of p.stage → 0 < size_of p.stage → Took p u
unfolding taken rest_of
took p u awaiting fresh len some = record {
  answers = λ t. passes_at p.stage p u t awaiting fresh len some;
  awaiting = (later_at p.stage p u some).awaiting;
  apart = (later_at p.stage p u some).apart;
  place = place_at p.stage p u some ∙ ap (λ (k : ℕ). p.place + k) (sym len);
}
