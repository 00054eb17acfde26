-- One more part of a certificate is taken: what follows means the same.
use Rattle.std.proofs.Common.{inl, inr, ◌≡◌, ℕ, zero, suc, ◌+◌, ◌-◌, ◌*◌, Bool, cond, ltb, List, [], ◌∷◌, ◌++◌, length, drop, Option, Some, None, Ok, Err, refl, sym, ap, ap₂, ◌∙◌, arith, length-append}
use Rattle.std.specs.Prelude.{option_and_then}
use Rattle.std.proofs.lemmas.Bool.{cases_lt, le-ltb, lt-ltb}
use Rattle.std.proofs.lemmas.List.{append-nil, drop_at, drop-drop, length-drop}
use Rattle.cairo_model.specs.Machine.Steps.{Registers, ◌>>=◌, required}
use Rattle.cairo_model.specs.Machine.FieldMemories.{FieldCell}
use Rattle.cairo_model.specs.Certificate.Records.{MarkRecord}
use Rattle.cert_format.specs.declared.refusal.CertRefusal.{CertRefusal}
use Rattle.cert_format.specs.declared.refusal.CertRefusal.TheVariants.{Truncated}
use Rattle.cert_format.specs.declared.stage.Stage.{Stage}
use Rattle.cert_format.specs.declared.stage.Stage.TheVariants.{Marks, Bases, CellCount, Cells, StateCount, States}
use Rattle.cert_format.specs.Reading.{count_at, bytes_after, after_counted, after_mark, after_marks, Reads, count_read, felt_at, items_at, list_at, mark_at, cell_numbers_at, state_at, Draft, order_fault, ordered, ended_by, with_draft}
use Rattle.cert_format.specs.Feeding.{Partial, after_cells, after_both, after_tasks, after_rest, with_front, draft_of, with_states, with_cells, all_states_from, all_cells_from, with_tasks, marks_read, with_mark, with_bases, parts_from, noted, body_in, body_rest, end_rest, rest_by, rest_of}
use Rattle.cert_format.specs.Working.Taking.{marks_left, cells_left, states_left, noting, going, count_in, bases_left, base_kept, cell_count_taken, cell_kept, state_count_taken, state_kept}
use Rattle.cert_format.proofs.LocalReads.{IsLocal, part_read, part_refused, felt_local, cell_local, state_local, count_there, count_unit}
use Rattle.cert_format.proofs.Loop.{regroup, goes_on, stops}

-- ---- lengths

pub after_none : (t : List ℕ) → bytes_after 0 t ≡ Some t
after_none t = rw (le-ltb (length t) 0 (omega arith)) refl

-- both tests of the length go one way
same_test : (b : Bool) (c : Bool) (x y : List ℕ) → b ≡ c → x ≡ y → cond b None (Some x) ≡ cond c None (Some y)
same_test b c x y p q = ap₂ (λ (t : Bool) (r : List ℕ). cond t None (Some r)) p q

shifted : (k m : ℕ) (a : ℕ) → ltb (k + a) (k + m) ≡ ltb a m
shifted k m a = elim (cases_lt a m) [
  | inl lt ↦ lt-ltb (k + a) (k + m) (omega (arith, lt)) ∙ sym (lt-ltb a m lt)
  | inr past ↦ le-ltb (k + a) (k + m) (omega (arith, past)) ∙ sym (le-ltb a m past)
]

pub after_part : (k m : ℕ) (u t : List ℕ) → length u ≡ k → bytes_after (k + m) (u ++ t) ≡ bytes_after m t
after_part k m u t len =
    let long : length (u ++ t) ≡ k + length t = length-append u t ∙ ap (λ (n : ℕ). n + length t) len in
    same_test (ltb (length (u ++ t)) (k + m)) (ltb (length t) m) (drop (k + m) (u ++ t)) (drop m t)
    (ap (λ (n : ℕ). ltb n (k + m)) long ∙ shifted k m (length t))
    (sym (drop-drop m k (u ++ t)) ∙ ap (drop m) (drop_at u t k len))

-- ---- the same body

pub same_body : (w : ℕ) (bad other : Option CertRefusal) (a b : Option (List ℕ)) (r s : Reads Draft) → a ≡ b → noted bad r ≡ noted other s
    → required (Truncated w) a >>= (λ rest. (noted bad r >>= with_draft w)) ≡ required (Truncated w) b >>= (λ rest. (noted other s >>= with_draft w))
same_body w bad other a b r s p q = ap₂ (λ (o : Option (List ℕ)) (x : Reads Draft). required (Truncated w) o >>= λ rest. (x >>= with_draft w)) p q

-- the length of the file is told by the place and what follows
pub at_length : (stage : Stage) (p : Partial) (bytes : List ℕ) (w : ℕ) → w ≡ p.place + length bytes → body_rest stage p bytes ≡ body_in w stage p bytes
at_length stage p bytes w is = ap (λ (n : ℕ). body_in n stage p bytes) (sym is)

-- ---- a number of items

module _ {A : Type 0} (size : ℕ) (one : ℕ → List ℕ → Reads A) (local : IsLocal size one) (items : Partial → List A) (put : Partial → List A → Partial) (rest : ℕ → Partial → List A × List ℕ → Reads Draft)
    (put_bad : (p : Partial) (xs : List A) → (put p xs).bad ≡ p.bad) (put_items : (p : Partial) (xs : List A) → items (put p xs) ≡ xs) (put_rest : (w : ℕ) (p : Partial) (xs : List A) (x : List A × List ℕ) → rest w (put p xs) x ≡ rest w p x) where
  abbrev pub items_from : ℕ → Partial → ℕ → List ℕ → Reads Draft
  items_from w p n bytes = with_front (items p) (items_at (one w) n bytes) >>= rest w p

  abbrev item_kept : Partial → List ℕ → Partial
  item_kept p u = noting p.bad p (one (p.place + size) u) (λ a. put p (items p ++ a ∷ []))

  rest_same : (w : ℕ) (p : Partial) (xs : List A) (r : Reads (List A)) → r >>= rest w p ≡ r >>= rest w (put p xs)
  rest_same w p xs (Ok x) = sym (put_rest w p xs x)
  rest_same w p xs (Err e) = refl

  module _ (p : Partial) (n : ℕ) (u t : List ℕ) (len : length u ≡ size) where
    abbrev w : ℕ
    w = p.place + size + length t

    abbrev Same : Partial → Type 0
    Same q = noted p.bad (items_from w p (suc n) (u ++ t)) ≡ noted q.bad (items_from w q n t)

    was_bad : (e : CertRefusal) → p.bad ≡ Some e → Same p
    was_bad e is = ap (λ (b : Option CertRefusal). noted b (items_from w p (suc n) (u ++ t))) is ∙ sym (ap (λ (b : Option CertRefusal). noted b (items_from w p n t)) is)

    is_kept : (x : A × List ℕ) → one (p.place + size) u ≡ Ok x → Same (put p (items p ++ x.0 ∷ []))
    is_kept x is =
        let q : Partial = put p (items p ++ x.0 ∷ []) in
        let step : with_front (items p) (items_at (one w) (suc n) (u ++ t)) ≡ with_front (items p ++ x.0 ∷ []) (items_at (one w) n t) = goes_on (one w) (items p) n (u ++ t) x.0 t (part_read size one local (p.place + size) u t len x is) in
        let here : items_from w p (suc n) (u ++ t) ≡ items_from w q n t =
        ap (λ (r : Reads (List A)). r >>= rest w p) step
        ∙ (rest_same w p (items p ++ x.0 ∷ []) (with_front (items p ++ x.0 ∷ []) (items_at (one w) n t))
        ∙ ap (λ (xs : List A). with_front xs (items_at (one w) n t) >>= rest w q) (sym (put_items p (items p ++ x.0 ∷ [])))) in
        ap₂ (λ (b : Option CertRefusal) (r : Reads Draft). noted b r) (sym (put_bad p (items p ++ x.0 ∷ []))) here

    is_bad : (e : CertRefusal) → p.bad ≡ None → one (p.place + size) u ≡ Err e → Same (record p { bad = Some e })
    is_bad e good is =
        ap (λ (b : Option CertRefusal). noted b (items_from w p (suc n) (u ++ t))) good
        ∙ ap (λ (r : Reads (List A)). r >>= rest w p) (stops (one w) (items p) n (u ++ t) e (part_refused size one local (p.place + size) u t len e is))

    by_case : (bad : Option CertRefusal) (r : Reads A) → p.bad ≡ bad → one (p.place + size) u ≡ r → Same (noting bad p r (λ a. put p (items p ++ a ∷ [])))
    by_case (Some e) r is at = was_bad e is
    by_case None (Ok x) is at = is_kept x at
    by_case None (Err e) is at = is_bad e is at

    pub item_same : Same (item_kept p u)
    item_same = by_case p.bad (one (p.place + size) u) refl refl

-- the place stays where something is kept
pub kept_place : {A : Type 0} (bad : Option CertRefusal) (p : Partial) (r : Reads A) (keep : A → Partial) → ((a : A) → (keep a).place ≡ p.place) → (noting bad p r keep).place ≡ p.place
kept_place (Some e) p r keep same = refl
kept_place None p (Ok x) keep same = same x.0
kept_place None p (Err e) keep same = refl

-- ---- cells

cells_same : (p : Partial) (n : ℕ) (u t : List ℕ) → length u ≡ 16 → noted p.bad (parts_from (p.place + 16 + length t) p (Cells (suc n)) (u ++ t)) ≡ noted (cell_kept p u).bad (parts_from (p.place + 16 + length t) (cell_kept p u) (Cells n) t)
cells_same p n u t len =
    item_same 16 cell_numbers_at cell_local (λ p. p.cells) (λ p xs. record p { cells = xs }) (λ w p. with_cells w (w - p.marks_end) p) (λ p xs. refl) (λ p xs. refl) (λ w p xs x. refl) p n u t len

-- the length of the file, told from both ends
from_place : (p : Partial) (size : ℕ) (u t : List ℕ) → length u ≡ size → p.place + size + length t ≡ p.place + length (u ++ t)
from_place p size u t len = omega (arith, len, length-append u t)

pub cell_pass : (p : Partial) (n : ℕ) (stage : Stage) (u t : List ℕ) → length u ≡ 16 → body_rest (Cells (suc n)) p (u ++ t) ≡ body_rest (Cells n) (going (cell_kept p u) 16 stage) t
cell_pass p n stage u t len =
    let w : ℕ = p.place + 16 + length t in
    let q : Partial = cell_kept p u in
    let place : q.place ≡ p.place = kept_place p.bad p (cell_numbers_at (p.place + 16) u) (λ cell. record p { cells = p.cells ++ cell ∷ [] }) (λ a. refl) in
    let six : 16 * suc n ≡ 16 + 16 * n = omega arith in
    let lengths : after_cells (suc n) (u ++ t) ≡ after_cells n t = ap (λ (k : ℕ). option_and_then (after_counted 24) (bytes_after k (u ++ t))) six ∙ ap (option_and_then (after_counted 24)) (after_part 16 (16 * n) u t len) in
    at_length (Cells (suc n)) p (u ++ t) w (from_place p 16 u t len)
    ∙ (same_body w p.bad q.bad (after_cells (suc n) (u ++ t)) (after_cells n t) (parts_from w p (Cells (suc n)) (u ++ t)) (parts_from w q (Cells n) t) lengths (cells_same p n u t len)
    ∙ sym (at_length (Cells n) (going q 16 stage) t w (omega (arith, place))))

no_cells : (q : Partial) (t : List ℕ) → body_rest (Cells 0) q t ≡ body_rest StateCount q t
unfolding items_at
no_cells q t =
    let w : ℕ = q.place + length t in
    same_body w q.bad q.bad (after_cells 0 t) (after_counted 24 t) (parts_from w q (Cells 0) t) (parts_from w q StateCount t)
    (ap (option_and_then (after_counted 24)) (after_none t))
    (ap (λ (xs : List FieldCell). noted q.bad (all_states_from w (w - q.marks_end) (record q { cells = xs }) t)) (append-nil q.cells))

pub to_cells : (n : ℕ) (q : Partial) (t : List ℕ) → q.stage ≡ cells_left n → rest_of q t ≡ body_rest (Cells n) q t
unfolding rest_of
to_cells zero q t is = ap (λ (s : Stage). rest_by s q t) is ∙ sym (no_cells q t)
to_cells (suc n) q t is = ap (λ (s : Stage). rest_by s q t) is

-- ---- states

states_same : (p : Partial) (n : ℕ) (u t : List ℕ) → length u ≡ 24 → noted p.bad (parts_from (p.place + 24 + length t) p (States (suc n)) (u ++ t)) ≡ noted (state_kept p u).bad (parts_from (p.place + 24 + length t) (state_kept p u) (States n) t)
states_same p n u t len =
    item_same 24 state_at state_local (λ p. p.states) (λ p xs. record p { states = xs }) (λ w p. with_states (w - p.marks_end) p) (λ p xs. refl) (λ p xs. refl) (λ w p xs x. refl) p n u t len

pub state_pass : (p : Partial) (n : ℕ) (stage : Stage) (u t : List ℕ) → length u ≡ 24 → body_rest (States (suc n)) p (u ++ t) ≡ body_rest (States n) (going (state_kept p u) 24 stage) t
state_pass p n stage u t len =
    let w : ℕ = p.place + 24 + length t in
    let q : Partial = state_kept p u in
    let place : q.place ≡ p.place = kept_place p.bad p (state_at (p.place + 24) u) (λ state. record p { states = p.states ++ state ∷ [] }) (λ a. refl) in
    let more : 24 * suc n ≡ 24 + 24 * n = omega arith in
    let lengths : bytes_after (24 * suc n) (u ++ t) ≡ bytes_after (24 * n) t = ap (λ (k : ℕ). bytes_after k (u ++ t)) more ∙ after_part 24 (24 * n) u t len in
    at_length (States (suc n)) p (u ++ t) w (from_place p 24 u t len)
    ∙ (same_body w p.bad q.bad (bytes_after (24 * suc n) (u ++ t)) (bytes_after (24 * n) t) (parts_from w p (States (suc n)) (u ++ t)) (parts_from w q (States n) t) lengths (states_same p n u t len)
    ∙ sym (at_length (States n) (going q 24 stage) t w (omega (arith, place))))

-- behind the last state
ended_same : (w place : ℕ) (d : Draft) (t : List ℕ) (bad : Option CertRefusal) → w ≡ place + length t → noted bad (Ok (d, t)) >>= with_draft w ≡ noted bad (Ok d) >>= λ d. (ordered (order_fault w d) d.cert >>= ended_by (w - place))
ended_same w place d t (Some e) is = refl
ended_same w place d t None is =
    let left : length t ≡ w - place = omega (arith, is) in
    ap (λ (n : ℕ). ordered (order_fault w d) d.cert >>= ended_by n) left

no_states : (q : Partial) (t : List ℕ) → body_rest (States 0) q t ≡ end_rest q.place (q.place + length t) q
unfolding items_at
no_states q t =
    let w : ℕ = q.place + length t in
    same_body w q.bad q.bad (bytes_after 0 t) (Some t) (parts_from w q (States 0) t) (Ok (draft_of (w - q.marks_end) q, t))
    (after_none t)
    (ap (λ (xs : List (Registers ℕ)). noted q.bad (Ok (draft_of (w - q.marks_end) (record q { states = xs }), t))) (append-nil q.states))
    ∙ ended_same w q.place (draft_of (w - q.marks_end) q) t q.bad refl

pub to_states : (n : ℕ) (q : Partial) (t : List ℕ) → q.stage ≡ states_left q.place n → rest_of q t ≡ body_rest (States n) q t
unfolding rest_of
to_states zero q t is = ap (λ (s : Stage). rest_by s q t) is ∙ sym (no_states q t)
to_states (suc n) q t is = ap (λ (s : Stage). rest_by s q t) is

-- ---- bases

bases_same : (p : Partial) (m n : ℕ) (u t : List ℕ) → length u ≡ 8 → noted p.bad (parts_from (p.place + 8 + length t) p (Bases (suc m) n) (u ++ t)) ≡ noted (base_kept p u).bad (parts_from (p.place + 8 + length t) (base_kept p u) (Bases m n) t)
bases_same p m n u t len =
    item_same 8 felt_at felt_local (λ p. p.bases) (λ p xs. record p { bases = xs }) (λ w p. with_bases w p n) (λ p xs. refl) (λ p xs. refl) (λ w p xs x. refl) p m u t len

pub base_pass : (p : Partial) (m n : ℕ) (u t : List ℕ) → length u ≡ 8 → body_rest (Bases (suc m) n) p (u ++ t) ≡ body_rest (Bases m n) (record (base_kept p u) { place = (base_kept p u).place + 8 }) t
base_pass p m n u t len =
    let w : ℕ = p.place + 8 + length t in
    let q : Partial = base_kept p u in
    let place : q.place ≡ p.place = kept_place p.bad p (felt_at (p.place + 8) u) (λ base. record p { bases = p.bases ++ base ∷ [] }) (λ a. refl) in
    let more : 8 * suc m ≡ 8 + 8 * m = omega arith in
    let lengths : after_rest (Bases (suc m) n) (u ++ t) ≡ after_rest (Bases m n) t = ap (λ (k : ℕ). option_and_then (after_tasks n) (bytes_after k (u ++ t))) more ∙ ap (option_and_then (after_tasks n)) (after_part 8 (8 * m) u t len) in
    at_length (Bases (suc m) n) p (u ++ t) w (from_place p 8 u t len)
    ∙ (same_body w p.bad q.bad (after_rest (Bases (suc m) n) (u ++ t)) (after_rest (Bases m n) t) (parts_from w p (Bases (suc m) n) (u ++ t)) (parts_from w q (Bases m n) t) lengths (bases_same p m n u t len)
    ∙ sym (at_length (Bases m n) (record q { place = q.place + 8 }) t w (omega (arith, place))))

-- ---- marks

no_marks : (q : Partial) (t : List ℕ) → body_rest (Marks 0) q t ≡ body_rest CellCount q t
unfolding items_at
no_marks q t =
    let w : ℕ = q.place + length t in
    same_body w q.bad q.bad (after_tasks 0 t) (after_both t) (parts_from w q (Marks 0) t) (parts_from w q CellCount t) refl
    (ap (λ (xs : List MarkRecord). noted q.bad (all_cells_from w (length t) (record q { tasks = xs }) t)) (append-nil q.tasks))

pub to_marks : (n : ℕ) (q : Partial) (t : List ℕ) → q.stage ≡ marks_left n → rest_of q t ≡ body_rest (Marks n) q t
unfolding rest_of
to_marks zero q t is = ap (λ (s : Stage). rest_by s q t) is ∙ sym (no_marks q t)
to_marks (suc n) q t is = ap (λ (s : Stage). rest_by s q t) is

no_bases : (q : Partial) (n : ℕ) (t : List ℕ) → body_rest (Marks n) (bases_left q 0 n) t ≡ body_rest (Bases 0 n) q t
unfolding items_at
no_bases q n t =
    let w : ℕ = q.place + length t in
    same_body w q.bad q.bad (after_tasks n t) (after_rest (Bases 0 n) t) (parts_from w (bases_left q 0 n) (Marks n) t) (parts_from w q (Bases 0 n) t)
    (sym (ap (option_and_then (after_tasks n)) (after_none t)))
    (ap (λ (xs : List ℕ). noted q.bad (marks_read w (with_mark q xs) n t)) (sym (append-nil q.bases)))

pub to_bases : (m n : ℕ) (q : Partial) (t : List ℕ) → rest_of (bases_left q m n) t ≡ body_rest (Bases m n) q t
unfolding rest_of
to_bases zero n q t = to_marks n (bases_left q 0 n) t refl ∙ no_bases q n t
to_bases (suc m) n q t = refl

-- the row of a task and the number of its bases
marked : {A B C : Type 0} (o : Option A) (f : A → Option B) (g : B → Option C) → option_and_then g (option_and_then f o) ≡ option_and_then (λ x. option_and_then g (f x)) o
marked (Some x) f g = refl
marked None f g = refl

mark_lengths : (n : ℕ) (u t : List ℕ) → length u ≡ 8 → after_tasks (suc n) (u ++ t) ≡ after_rest (Bases (count_in (drop 4 u)) n) t
mark_lengths n u t len =
    let row : count_at (u ++ t) ≡ Some (count_in u, drop 4 u ++ t) = count_there u t (omega (arith, len)) in
    let many : count_at (drop 4 u ++ t) ≡ Some (count_in (drop 4 u), t) = count_unit (drop 4 u) t (omega (arith, len, length-drop 4 u)) in
    let mark : after_mark (u ++ t) ≡ bytes_after (8 * count_in (drop 4 u)) t = ap (option_and_then (λ (r : ℕ × List ℕ). after_counted 8 r.1)) row ∙ ap (option_and_then (λ (r : ℕ × List ℕ). bytes_after (8 * r.0) r.1)) many in
    ap (λ (o : Option (List ℕ)). option_and_then after_both (option_and_then (after_marks n) o)) mark ∙ marked (bytes_after (8 * count_in (drop 4 u)) t) (after_marks n) after_both

abbrev mark_with : ℕ → List ℕ → MarkRecord
mark_with row bases = record { row = row; bases = bases }

mark_read : (w : ℕ) (u t : List ℕ) → length u ≡ 8 → mark_at w (u ++ t) ≡ items_at (felt_at w) (count_in (drop 4 u)) t >>= λ b. Ok (mark_with (count_in u) b.0, b.1)
unfolding mark_at list_at
mark_read w u t len =
    let row : count_at (u ++ t) ≡ Some (count_in u, drop 4 u ++ t) = count_there u t (omega (arith, len)) in
    let many : count_at (drop 4 u ++ t) ≡ Some (count_in (drop 4 u), t) = count_unit (drop 4 u) t (omega (arith, len, length-drop 4 u)) in
    ap (λ (o : Option (ℕ × List ℕ)). required (Truncated w) o >>= λ row. (count_read w row.1 >>= (λ n. items_at (felt_at w) n.0 n.1)) >>= λ b. Ok (mark_with row.0 b.0, b.1)) row
    ∙ ap (λ (o : Option (ℕ × List ℕ)). (required (Truncated w) o >>= (λ n. items_at (felt_at w) n.0 n.1)) >>= λ b. Ok (mark_with (count_in u) b.0, b.1)) many

marks_split : (w : ℕ) (p : Partial) (n : ℕ) (row : ℕ) (bytes : List ℕ) (b : Reads (List ℕ)) → mark_at w bytes ≡ b >>= (λ x. Ok (mark_with row x.0, x.1))
    → marks_read w p (suc n) bytes ≡ with_front [] b >>= with_bases w (record p { row = row }) n
unfolding items_at
marks_split w p n row bytes (Ok x) is =
    ap (λ (r : Reads MarkRecord). with_front p.tasks (r >>= λ first. (items_at (mark_at w) n first.1 >>= λ others. Ok (first.0 ∷ others.0, others.1))) >>= with_tasks w p) is
    ∙ ap (λ (r : Reads (List MarkRecord)). r >>= with_tasks w p) (regroup p.tasks (mark_with row x.0) (items_at (mark_at w) n x.1))
marks_split w p n row bytes (Err e) is =
    ap (λ (r : Reads MarkRecord). with_front p.tasks (r >>= λ first. (items_at (mark_at w) n first.1 >>= λ others. Ok (first.0 ∷ others.0, others.1))) >>= with_tasks w p) is

pub mark_pass : (p : Partial) (n : ℕ) (u t : List ℕ) → length u ≡ 8
    → body_rest (Marks (suc n)) p (u ++ t) ≡ body_rest (Bases (count_in (drop 4 u)) n) (record p { place = p.place + 8; row = count_in u; bases = [] }) t
mark_pass p n u t len =
    let w : ℕ = p.place + 8 + length t in
    let c : ℕ = count_in (drop 4 u) in
    let q : Partial = record p { place = p.place + 8; row = count_in u; bases = [] } in
    let parts : marks_read w p (suc n) (u ++ t) ≡ parts_from w q (Bases c n) t = marks_split w p n (count_in u) (u ++ t) (items_at (felt_at w) c t) (mark_read w u t len) in
    at_length (Marks (suc n)) p (u ++ t) w (from_place p 8 u t len)
    ∙ same_body w p.bad q.bad (after_tasks (suc n) (u ++ t)) (after_rest (Bases c n) t) (parts_from w p (Marks (suc n)) (u ++ t)) (parts_from w q (Bases c n) t) (mark_lengths n u t len) (ap (noted p.bad) parts)

-- ---- numbers of cells and of states

pub list_is : {A : Type 0} (w : ℕ) (one : List ℕ → Reads A) (u t : List ℕ) → length u ≡ 4 → list_at w one (u ++ t) ≡ items_at one (count_in u) t
unfolding list_at
list_is w one u t len = ap (λ (o : Option (ℕ × List ℕ)). required (Truncated w) o >>= λ n. items_at one n.0 n.1) (count_unit u t len)

counted_is : (size : ℕ) (u t : List ℕ) → length u ≡ 4 → after_counted size (u ++ t) ≡ bytes_after (size * count_in u) t
counted_is size u t len = ap (option_and_then (λ (n : ℕ × List ℕ). bytes_after (size * n.0) n.1)) (count_unit u t len)

pub cell_count_pass : (p : Partial) (u t : List ℕ) → length u ≡ 4 → body_rest CellCount p (u ++ t) ≡ body_rest (Cells (count_in u)) (cell_count_taken p u) t
cell_count_pass p u t len =
    let w : ℕ = p.place + 4 + length t in
    let q : Partial = cell_count_taken p u in
    let left : length (u ++ t) ≡ w - p.place = omega (arith, length-append u t, len) in
    let parts : all_cells_from w (length (u ++ t)) p (u ++ t) ≡ parts_from w q (Cells (count_in u)) t =
    ap (λ (r : Reads (List FieldCell)). with_front p.cells r >>= with_cells w (length (u ++ t)) p) (list_is w (cell_numbers_at w) u t len)
    ∙ ap (λ (n : ℕ). with_front p.cells (items_at (cell_numbers_at w) (count_in u) t) >>= with_cells w n p) left in
    at_length CellCount p (u ++ t) w (from_place p 4 u t len)
    ∙ same_body w p.bad q.bad (after_both (u ++ t)) (after_cells (count_in u) t) (parts_from w p CellCount (u ++ t)) (parts_from w q (Cells (count_in u)) t) (ap (option_and_then (after_counted 24)) (counted_is 16 u t len)) (ap (noted p.bad) parts)

pub state_count_pass : (p : Partial) (u t : List ℕ) → length u ≡ 4 → body_rest StateCount p (u ++ t) ≡ body_rest (States (count_in u)) (state_count_taken p u) t
state_count_pass p u t len =
    let w : ℕ = p.place + 4 + length t in
    let q : Partial = state_count_taken p u in
    let parts : all_states_from w (w - p.marks_end) p (u ++ t) ≡ parts_from w q (States (count_in u)) t =
    ap (λ (r : Reads (List (Registers ℕ))). with_front p.states r >>= with_states (w - p.marks_end) p) (list_is w (state_at w) u t len) in
    at_length StateCount p (u ++ t) w (from_place p 4 u t len)
    ∙ same_body w p.bad q.bad (after_counted 24 (u ++ t)) (bytes_after (24 * count_in u) t) (parts_from w p StateCount (u ++ t)) (parts_from w q (States (count_in u)) t) (counted_is 24 u t len) (ap (noted p.bad) parts)
