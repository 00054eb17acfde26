-- The table of places has each job's index.
use Rattle.std.proofs.Common.{◌≡◌, ◌≢◌, ◌⊎◌, inl, inr, ℕ, zero, suc, ◌+◌, ◌*◌, ◌≤◌, ◌<◌, ◌==◌, ◌&&◌, Bool, true, false, cond, not, List, [], ◌∷◌, ◌++◌, length, map, get_or, refl, sym, ap, ◌∙◌, subst, arith, length-append}
use Rattle.std.specs.Prelude.{All, Option, Some, None, nat_le, nat_lt, position, replicate, slice_get, slice_set}
use Rattle.std.specs.List.{position_or_len, range_with_len}
use Rattle.std.specs.Option.{option_map_or}
use Rattle.std.proofs.lemmas.Bool.{eq-eqb, eqb-true}
use Rattle.std.proofs.lemmas.Bool.Decides.{eqb_tells, nat_tests}
use Rattle.std.proofs.lemmas.List.{get_or-replicate, length-map, length-replicate, map-append}
use Rattle.std.proofs.lemmas.List.Elements.{All-head, All-tail}
use Rattle.std.proofs.lemmas.List.Folds.{position_or_len_push}
use Rattle.std.proofs.lemmas.List.FromFn.{get_or-range_with_len, length-range_with_len}
use Rattle.std.proofs.lemmas.List.Sums.{position_or_len_is, prefix_len-le-length}
use Rattle.std.proofs.lemmas.Option.{slice_get-get_or, slice_get_past}
use Rattle.cairo_model.specs.Pie.Shapes.{shape_of}
use Rattle.cairo_model.specs.declared.shape.Shape.{Shape}
use Rattle.desk_core.specs.DeskRecords.{DeskRecord, plain_job, plain_of}
use Rattle.desk_core.specs.Desks.{PlainDesk, PlainJob, jobs_of, shapes_of}
use Rattle.desk_core.specs.GoodDesks.{IsGoodDesk}
use Rattle.desk_core.specs.Journals.{no_pie}
use Rattle.desk_core.specs.Kept.{ArePlaces, job_index, table_place}
use Rattle.desk_core.specs.Limits.{most_client_pies}
use Rattle.desk_core.specs.Next.{offered_reply}
use Rattle.desk_core.specs.Quotas.{is_admitted, quota_reply}
use Rattle.desk_core.specs.SoundDesks.{IsSound}
use Rattle.desk_core.specs.Turns.{offer_note}
use Rattle.desk_core.specs.Working.Steps.{admitted_jobs}
use Rattle.desk_core.specs.Working.Telling.{HasPlace, index_in, places_after}
use Rattle.desk_core.specs.declared.event.OfferNote.{OfferNote}
use Rattle.desk_core.specs.declared.event.OfferNote.TheVariants as note
use Rattle.desk_core.specs.declared.job.Job.{Job}
use Rattle.desk_core.specs.declared.offer.Offer.{Offer}
use Rattle.desk_core.specs.declared.offer.Offer.TheVariants as offer
use Rattle.desk_core.specs.declared.reply.Reply.{Reply}
use Rattle.desk_core.specs.declared.reply.Reply.TheVariants as reply
use Rattle.desk_core.proofs.QuotaLemmas.{keeps_limits, number_is}

-- ---- the first place that passes, in a list that grows

chosen : {X : Type 0} (b t : Bool) (x y : X) → b ≡ t → cond b x y ≡ cond t x y
chosen b t x y is = ap (λ (c : Bool). cond c x y) is

-- by where it is in the list before, of this length
grown : (n l m : ℕ) (e : Bool) → (n == l) ≡ e → n ≤ l → m ≡ l + 1 → cond (nat_lt (cond e (l + 1) n) m) (Some (cond e (l + 1) n)) None ≡ cond (nat_lt n l) (Some n) None
grown n l m true is le long =
    let same : n ≡ l = eqb-true n l is in
    chosen (nat_lt (l + 1) m) false _ _ (grind (arith, nat_tests)) ∙ sym (chosen (nat_lt n l) false _ _ (grind (arith, nat_tests)))
grown n l m false is le long =
    let below : nat_lt n l ≡ true = grind (arith, nat_tests) in
    let inside : nat_lt n m ≡ true = grind (arith, nat_tests) in
    chosen (nat_lt n m) true _ _ inside ∙ sym (chosen (nat_lt n l) true _ _ below)

module _ {X : Type 0} (p : X → Bool) (xs : List X) (y : X) where
  longer : length (xs ++ y ∷ []) ≡ length xs + 1
  longer = omega (arith, length-append xs (y ∷ []))

  pub position_past : p y ≡ false → position p (xs ++ y ∷ []) ≡ position p xs
  position_past fails =
      let at : position_or_len p (xs ++ y ∷ []) ≡ cond (position_or_len p xs == length xs) (length xs + 1) (position_or_len p xs) =
      position_or_len_push p xs y ∙ ap (λ (b : Bool). cond (position_or_len p xs == length xs) (length xs + cond b 0 1) (position_or_len p xs)) fails in
      ap (λ (n : ℕ). cond (nat_lt n (length (xs ++ y ∷ []))) (Some n) None) at
      ∙ grown (position_or_len p xs) (length xs) (length (xs ++ y ∷ [])) (position_or_len p xs == length xs) refl (prefix_len-le-length (λ (x : X). not (p x)) xs) longer

  pub position_new : position_or_len p xs ≡ length xs → p y ≡ true → position p (xs ++ y ∷ []) ≡ Some (length xs)
  position_new none passes =
      let at : position_or_len p (xs ++ y ∷ []) ≡ length xs =
      position_or_len_push p xs y
      ∙ (chosen (position_or_len p xs == length xs) true _ _ (eq-eqb (position_or_len p xs) (length xs) none)
      ∙ (ap (λ (b : Bool). length xs + cond b 0 1) passes ∙ omega arith)) in
      let inside : nat_lt (length xs) (length (xs ++ y ∷ [])) ≡ true = let l = longer in grind (arith, nat_tests) in
      ap (λ (n : ℕ). cond (nat_lt n (length (xs ++ y ∷ []))) (Some n) None) at ∙ chosen (nat_lt (length xs) (length (xs ++ y ∷ []))) true _ _ inside

-- ---- numbers that no job has

abbrev is_job : ℕ → ℕ → PlainJob → Bool
is_job client number j = (j.client == client) && (j.number == number)

abbrev numbers_of : ℕ → List PlainJob → List ℕ
numbers_of client jobs = map (λ (j : PlainJob). j.number) (jobs_of client jobs)

none_has : (js : List PlainJob) (c n : ℕ) → All (λ (m : ℕ). m < n) (numbers_of c js) → (k : ℕ) (d : PlainJob) → k < length js → is_job c n (get_or js k d) ≡ false
none_has [] c n all k d lt = absurd (omega (arith, lt))
none_has (j ∷ js) c n all zero d lt = go (j.client == c) all where
  go : (t : Bool) → All (λ (m : ℕ). m < n) (map (λ (x : PlainJob). x.number) (cond t (j ∷ jobs_of c js) (jobs_of c js))) → (t && (j.number == n)) ≡ false
  go true below = let lt : j.number < n = All-head (λ (m : ℕ). m < n) j.number (numbers_of c js) below in grind (arith, nat_tests)
  go false below = refl
none_has (j ∷ js) c n all (suc k) d lt = none_has js c n (go (j.client == c) all) k d (omega (arith, lt)) where
  go : (t : Bool) → All (λ (m : ℕ). m < n) (map (λ (x : PlainJob). x.number) (cond t (j ∷ jobs_of c js) (jobs_of c js))) → All (λ (m : ℕ). m < n) (numbers_of c js)
  go true below = All-tail (λ (m : ℕ). m < n) j.number (numbers_of c js) below
  go false below = below

range_below : (l n : ℕ) → l ≤ n → All (λ (m : ℕ). m < n) (range_with_len 0 l)
range_below l n le k d lt =
    let long : length (range_with_len 0 l) ≡ l = length-range_with_len 0 l in
    omega (arith, get_or-range_with_len 0 l k d (omega arith))

no_job : PlainJob
no_job = record { client = 0; number = 0; pie = no_pie }

module _ (d : PlainDesk) (s : IsSound d) (c n : ℕ) (past : length (jobs_of c d.jobs) ≤ n) where
  never : (k : ℕ) (x : PlainJob) → k < length d.jobs → is_job c n (get_or d.jobs k x) ≡ false
  never = none_has d.jobs c n (subst (All (λ (m : ℕ). m < n)) (sym (s.numbered c)) (range_below (length (jobs_of c d.jobs)) n past))

  all_fail : position_or_len (is_job c n) d.jobs ≡ length d.jobs
  all_fail = position_or_len_is (is_job c n) d.jobs (length d.jobs) no_job (omega arith) (λ k lt. never k no_job lt) (λ lt. absurd (omega (arith, lt)))

  pub not_there : job_index c n d.jobs ≡ None
  not_there = ap (λ (k : ℕ). cond (nat_lt k (length d.jobs)) (Some k) None) all_fail ∙ chosen (nat_lt (length d.jobs) (length d.jobs)) false _ _ (grind (arith, nat_tests))

-- ---- clients that aren't there

others : (js : List PlainJob) (clients c n : ℕ) → clients ≤ c → All (λ (j : PlainJob). j.client < clients) js → (k : ℕ) (d : PlainJob) → k < length js → is_job c n (get_or js k d) ≡ false
others [] clients c n le all k d lt = absurd (omega (arith, lt))
others (j ∷ js) clients c n le all zero d lt =
    let own : j.client < clients = All-head (λ (x : PlainJob). x.client < clients) j js all in
    let differs : (j.client == c) ≡ false = grind (arith, nat_tests) in
    ap (λ (t : Bool). t && (j.number == n)) differs
others (j ∷ js) clients c n le all (suc k) d lt = others js clients c n le (All-tail (λ (x : PlainJob). x.client < clients) j js all) k d (omega (arith, lt))

pub no_client : (d : PlainDesk) → IsSound d → (c n : ℕ) → d.clients ≤ c → job_index c n d.jobs ≡ None
no_client d s c n le =
    let all : position_or_len (is_job c n) d.jobs ≡ length d.jobs =
    position_or_len_is (is_job c n) d.jobs (length d.jobs) no_job (omega arith) (λ k lt. others d.jobs d.clients c n le s.clients k no_job lt) (λ lt. absurd (omega (arith, lt))) in
    ap (λ (k : ℕ). cond (nat_lt k (length d.jobs)) (Some k) None) all ∙ chosen (nat_lt (length d.jobs) (length d.jobs)) false _ _ (grind (arith, nat_tests))

-- ---- the table of an empty desk

empty_places : (clients : ℕ) → ArePlaces clients [] (replicate (clients * most_client_pies) None)
empty_places clients = record {
  many = length-replicate (clients * most_client_pies) None;
  are = λ c n lt few.
      let long : length (replicate {A = Option ℕ} (clients * most_client_pies) None) ≡ clients * most_client_pies = length-replicate (clients * most_client_pies) None in
      let inside : table_place c n < clients * most_client_pies = omega (arith, lt, few) in
      slice_get-get_or (replicate (clients * most_client_pies) None) (table_place c n) None (omega arith) ∙ ap Some (get_or-replicate (clients * most_client_pies) (table_place c n) None None inside);
}

pub new_places : (clients : ℕ) (jobs : List Job) (places : List (Option ℕ)) → jobs ≡ [] → places ≡ replicate (clients * most_client_pies) None → ArePlaces clients jobs places
new_places clients jobs places none all =
    subst (ArePlaces clients jobs) (sym all) (subst (λ (js : List Job). ArePlaces clients js (replicate (clients * most_client_pies) None)) (sym none) (empty_places clients))

-- ---- the table after an offer

set_here : (ps : List (Option ℕ)) (k : ℕ) (p : Option ℕ) → k < length ps → slice_get (slice_set ps k p) k ≡ Some p
set_here [] k p lt = absurd (omega (arith, lt))
set_here (x ∷ ps) zero p lt = refl
set_here (x ∷ ps) (suc k) p lt = set_here ps k p (omega (arith, lt))

set_else : (ps : List (Option ℕ)) (k c : ℕ) (p : Option ℕ) → k ≢ c → slice_get (slice_set ps k p) c ≡ slice_get ps c
set_else [] k c p ne = refl
set_else (x ∷ ps) zero zero p ne = absurd (ne refl)
set_else (x ∷ ps) zero (suc c) p ne = refl
set_else (x ∷ ps) (suc k) zero p ne = refl
set_else (x ∷ ps) (suc k) (suc c) p ne = set_else ps k c p (λ e. ne (ap suc e))

set_long : (ps : List (Option ℕ)) (k : ℕ) (p : Option ℕ) → length (slice_set ps k p) ≡ length ps
set_long [] k p = refl
set_long (x ∷ ps) zero p = refl
set_long (x ∷ ps) (suc k) p = ap suc (set_long ps k p)

isnt : (a b : ℕ) → a ≢ b → (a == b) ≡ false
isnt a b ne = elim (eqb_tells a b) [
  | inl same ↦ absurd (ne same.1)
  | inr other ↦ other.0
]

pub neither : (a b : Bool) → b ≡ false → (a && b) ≡ false
neither true b is = is
neither false b is = refl

-- the number of an admitted job is that of its client's jobs, below their limit
unclosed : (closed : Bool) (q : Reply) (k : ℕ) → reply.Admitted k ≡ cond closed reply.Closed q → q ≡ reply.Admitted k
unclosed true q k is = absurd (cc)
unclosed false q k is = sym is

pub next_number : (jobs : List PlainJob) (closed : Bool) (client k : ℕ) (shape : Shape) → reply.Admitted k ≡ cond closed reply.Closed (quota_reply (shapes_of client jobs) shape) → k ≡ length (jobs_of client jobs)
next_number jobs closed client k shape by =
    sym (number_is (shapes_of client jobs) shape k (unclosed closed _ k by)) ∙ length-map (jobs_of client jobs) (λ (j : PlainJob). shape_of j.pie)

next_few : (jobs : List PlainJob) (closed : Bool) (client k : ℕ) (shape : Shape) → reply.Admitted k ≡ cond closed reply.Closed (quota_reply (shapes_of client jobs) shape) → k < most_client_pies
next_few jobs closed client k shape by =
    let fits = (keeps_limits (shapes_of client jobs) shape (ap is_admitted (unclosed closed _ k by))).few in
    omega (arith, fits, length-append (shapes_of client jobs) (shape ∷ []), number_is (shapes_of client jobs) shape k (unclosed closed _ k by))

module _ (d : DeskRecord) (g : IsGoodDesk d) (places : List (Option ℕ)) (are : ArePlaces d.clients d.jobs places) (client : ℕ) (named : client < d.clients) where
  -- the client's next job, where it may have one more
  module _ (j : Job) (own : j.client ≡ client) (next : j.number ≡ length (jobs_of client (map plain_job d.jobs))) (few : j.number < most_client_pies) where
    abbrev plain : List PlainJob
    plain = map plain_job d.jobs

    plainly : map plain_job (d.jobs ++ j ∷ []) ≡ plain ++ plain_job j ∷ []
    plainly = map-append plain_job d.jobs (j ∷ [])

    new_one : job_index client j.number (map plain_job (d.jobs ++ j ∷ [])) ≡ Some (length d.jobs)
    new_one =
        let passes : is_job client j.number (plain_job j) ≡ true = rw (eq-eqb j.client client own, eq-eqb j.number j.number refl) refl in
        ap (job_index client j.number) plainly
        ∙ (position_new (is_job client j.number) plain (plain_job j) (all_fail (plain_of d) g.sound client j.number (omega (arith, next))) passes ∙ ap Some (length-map d.jobs plain_job))

    other : (c n : ℕ) → is_job c n (plain_job j) ≡ false → job_index c n (map plain_job (d.jobs ++ j ∷ [])) ≡ job_index c n plain
    other c n fails = ap (job_index c n) plainly ∙ position_past (is_job c n) plain (plain_job j) fails

    abbrev places_with : List (Option ℕ)
    places_with = slice_set places (table_place client j.number) (Some (length d.jobs))

    inside : table_place client j.number < length places
    inside = omega (arith, are.many, named, few)

    at_place : (c n : ℕ) → c < d.clients → n < most_client_pies
        → (((c == client) ≡ true) × (c ≡ client)) ⊎ (((c == client) ≡ false) × (c ≢ client)) → (((n == j.number) ≡ true) × (n ≡ j.number)) ⊎ (((n == j.number) ≡ false) × (n ≢ j.number))
        → slice_get places_with (table_place c n) ≡ Some (job_index c n (map plain_job (d.jobs ++ j ∷ [])))
    at_place c n lt small (inl same) (inl number) =
        subst (λ (k : ℕ). slice_get places_with (table_place k n) ≡ Some (job_index k n (map plain_job (d.jobs ++ j ∷ [])))) (sym same.1)
        (subst (λ (k : ℕ). slice_get places_with (table_place client k) ≡ Some (job_index client k (map plain_job (d.jobs ++ j ∷ [])))) (sym number.1)
        (set_here places (table_place client j.number) (Some (length d.jobs)) inside ∙ ap Some (sym new_one)))
    at_place c n lt small (inl same) (inr number) =
        set_else places (table_place client j.number) (table_place c n) (Some (length d.jobs)) (λ e. number.1 (omega (arith, e, same.1)))
        ∙ (are.are c n lt small ∙ ap Some (sym (other c n (neither (j.client == c) (j.number == n) (isnt j.number n (λ e. number.1 (sym e)))))))
    at_place c n lt small (inr another) number =
        set_else places (table_place client j.number) (table_place c n) (Some (length d.jobs)) (λ e. another.1 (omega (arith, e, few, small)))
        ∙ (are.are c n lt small ∙ ap Some (sym (other c n (ap (λ (t : Bool). t && (j.number == n)) (isnt j.client c (λ e. another.1 (sym e ∙ own)))))))

    pub with_job_place : ArePlaces d.clients (d.jobs ++ j ∷ []) places_with
    with_job_place = record {
      many = set_long places (table_place client j.number) (Some (length d.jobs)) ∙ are.many;
      are = λ c n lt small. at_place c n lt small (eqb_tells c client) (eqb_tells n j.number);
    }

  kept_by : (o : Offer) (r : Reply) → r ≡ offered_reply (map plain_job d.jobs) d.closed client (offer_note o) → ArePlaces d.clients (admitted_jobs d.jobs client o r) (places_after places client (offer_note o) r (length d.jobs))
  kept_by (offer.Accepted c) (reply.Admitted k) by =
      with_job_place (record { client = client; number = k; checked = c }) refl (next_number (map plain_job d.jobs) d.closed client k (shape_of c.pie) by) (next_few (map plain_job d.jobs) d.closed client k (shape_of c.pie) by)
  kept_by (offer.Accepted c) r by = are
  kept_by (offer.Refused x) r by = are

  pub places_kept : (places' : List (Option ℕ)) (o : Offer) (r : Reply) → r ≡ offered_reply (map plain_job d.jobs) d.closed client (offer_note o)
      → places' ≡ places_after places client (offer_note o) r (length d.jobs) → ArePlaces d.clients (admitted_jobs d.jobs client o r) places'
  places_kept places' o r by set = subst (ArePlaces d.clients (admitted_jobs d.jobs client o r)) (sym set) (kept_by o r by)

  -- the table has a place for what is admitted
  pub has_place : (n : OfferNote) (r : Reply) → r ≡ offered_reply (map plain_job d.jobs) d.closed client n → HasPlace places client n r
  has_place (note.Accepted shape fact) (reply.Admitted k) by = omega (arith, are.many, named, next_few (map plain_job d.jobs) d.closed client k shape by)
  has_place (note.Accepted shape fact) r by = tt
  has_place (note.Refused x) r by = tt

-- ---- what the table tells

pub index_is : (d : DeskRecord) → IsGoodDesk d → (places : List (Option ℕ)) → ArePlaces d.clients d.jobs places → (c n : ℕ) → index_in places c n ≡ job_index c n (map plain_job d.jobs)
index_is d g places are c n = go (nat_le most_client_pies n) refl (nat_lt c d.clients) refl where
  there : Option (Option ℕ) → Option ℕ
  there o = option_map_or (λ (p : Option ℕ). p) o None

  go : (t : Bool) → nat_le most_client_pies n ≡ t → (u : Bool) → nat_lt c d.clients ≡ u → cond t None (there (slice_get places (table_place c n))) ≡ job_index c n (map plain_job d.jobs)
  go true past u is =
      let few : length (jobs_of c (map plain_job d.jobs)) ≤ n =
      let l = (g.sound.limited c).few in let long = length-map (jobs_of c (map plain_job d.jobs)) (λ (j : PlainJob). shape_of j.pie) in grind (arith, nat_tests) in
      sym (not_there (plain_of d) g.sound c n few)
  go false small true is = ap there (are.are c n (grind (arith, nat_tests)) (grind (arith, nat_tests)))
  go false small false is =
      let past : d.clients ≤ c = grind (arith, nat_tests) in
      ap there (slice_get_past places (table_place c n) (omega (arith, are.many, past))) ∙ sym (no_client (plain_of d) g.sound c n past)
