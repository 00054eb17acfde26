-- Telling where a job stands is a turn.
use Rattle.std.proofs.Common.{◌≡◌, ℕ, zero, suc, ◌+◌, ◌%◌, ◌^◌, ◌≤◌, ◌<◌, ◌&&◌, Bool, true, false, cond, List, [], ◌∷◌, ◌++◌, length, map, get_or, refl, sym, ap, ◌∙◌, subst, arith}
use Rattle.std.specs.Prelude.{None, Option, Some, find, nat_le, nat_lt}
use Rattle.std.specs.List.Sorted.{IsPartitionPoint}
use Rattle.std.specs.Option.{option_map_or}
use Rattle.std.proofs.lemmas.Bool.{leb-true, le-leb}
use Rattle.std.proofs.lemmas.Bool.Decides.{nat_tests}
use Rattle.desk_core.specs.DeskRecords.{DeskRecord, plain_batch, plain_job, plain_of}
use Rattle.desk_core.specs.Desks.{PlainBatch, has_job, job_phase, told_of}
use Rattle.desk_core.specs.Kept.{IsKept}
use Rattle.desk_core.specs.Next.{after_event, reply_to}
use Rattle.desk_core.specs.RegisteredFacts.{registry_of}
use Rattle.desk_core.specs.SoundDesks.{AreNeighbours}
use Rattle.desk_core.specs.Working.Telling.{begins_by, index_in, phase_by, told_in, told_inside}
use Rattle.desk_core.specs.declared.batch.Batch.{Batch}
use Rattle.desk_core.specs.declared.entry.Entry.{Entry}
use Rattle.desk_core.specs.declared.event.Event.{Event}
use Rattle.desk_core.specs.declared.event.Event.TheVariants as event
use Rattle.desk_core.specs.declared.phase.JobPhase.{JobPhase}
use Rattle.desk_core.specs.declared.phase.JobPhase.TheVariants as at
use Rattle.desk_core.specs.declared.reply.Reply.{Reply}
use Rattle.desk_core.specs.declared.reply.Reply.TheVariants as reply
use Rattle.desk_core.specs.declared.usage.Usage.{Usage}
use Rattle.desk_core.proofs.CertLemmas.{certs_same}
use Rattle.desk_core.proofs.Entries.{registered_same}
use Rattle.desk_core.proofs.Places.{index_is, neither}
use Rattle.desk_core.proofs.PlainTurns.{Left}
use Rattle.desk_core.proofs.QuietTurns.{Quiet, quiet, quiet_desk}

-- ---- the batch of a job

abbrev chosen_of : PlainBatch → List PlainBatch → ℕ → Bool → JobPhase
chosen_of b bs i t = option_map_or (λ (x : PlainBatch). told_of x.phase) (cond t (Some b) (find (has_job i) bs)) at.Waiting

both : (a b t : Bool) → a ≡ true → b ≡ t → (a && b) ≡ t
both true b t p q = q
both false b t p q = absurd (cc)

-- a batch that ends before the job
passed : (b : Batch) (bs : List Batch) (i : ℕ) → b.first + b.count ≤ i → told_in (b ∷ bs) i ≡ told_in bs i
passed b bs i le =
    let past : nat_lt i (b.first + b.count) ≡ false = grind (arith, nat_tests) in
    ap (chosen_of (plain_batch b) (map plain_batch bs) i) (neither (nat_le b.first i) (nat_lt i (b.first + b.count)) past)

-- batches that begin behind the job
none_later : (bs : List Batch) (i : ℕ) → ((k : ℕ) (d : Batch) → k < length bs → i < (get_or bs k d).first) → told_in bs i ≡ at.Waiting
none_later [] i later = refl
none_later (b ∷ bs) i later =
    let first : i < b.first = later 0 b (omega arith) in
    let before : nat_le b.first i ≡ false = grind (arith, nat_tests) in
    ap (chosen_of (plain_batch b) (map plain_batch bs) i) (ap (λ (t : Bool). t && nat_lt i (b.first + b.count)) before)
    ∙ none_later bs i (λ k d lt. later (suc k) d (omega (arith, lt)))

-- the batch of this index is the last one that begins at the job or before it
found_last : (bs : List Batch) (first i n : ℕ) (x : Batch) → AreNeighbours first (map plain_batch bs) → n < length bs → x ≡ get_or bs n x
    → ((k : ℕ) (d : Batch) → k ≤ n → (get_or bs k d).first ≤ i) → ((k : ℕ) (d : Batch) → n < k → k < length bs → i < (get_or bs k d).first) → told_in bs i ≡ told_inside x i
found_last [] first i n x near lt is low high = absurd (omega (arith, lt))
found_last (b ∷ bs) first i zero x near lt is low high =
    go (nat_lt i (b.first + b.count)) refl ∙ ap (λ (y : Batch). told_inside y i) (sym is) where
      begun : nat_le b.first i ≡ true
      begun = le-leb b.first i (low 0 b (omega arith))

      later : told_in bs i ≡ at.Waiting
      later = none_later bs i (λ k d l. high (suc k) d (omega arith) (omega (arith, l)))

      go : (t : Bool) → nat_lt i (b.first + b.count) ≡ t → told_in (b ∷ bs) i ≡ cond (nat_lt i (b.first + b.count)) (told_of b.phase) at.Waiting
      go true inside =
          ap (chosen_of (plain_batch b) (map plain_batch bs) i) (both (nat_le b.first i) (nat_lt i (b.first + b.count)) true begun inside)
          ∙ sym (ap (λ (t : Bool). cond t (told_of b.phase) at.Waiting) inside)
      go false past =
          ap (chosen_of (plain_batch b) (map plain_batch bs) i) (both (nat_le b.first i) (nat_lt i (b.first + b.count)) false begun past)
          ∙ (later ∙ sym (ap (λ (t : Bool). cond t (told_of b.phase) at.Waiting) past))
found_last (b ∷ []) first i (suc n) x near lt is low high = absurd (omega (arith, lt))
found_last (b ∷ c ∷ bs) first i (suc n) x near lt is low high =
    passed b (c ∷ bs) i (omega (arith, near.0, near.1.0, low 1 c (omega arith)))
    ∙ found_last (c ∷ bs) (first + b.count) i n x near.1 (omega (arith, lt)) is (λ k d le. low (suc k) d (omega (arith, le))) (λ k d l inside. high (suc k) d (omega (arith, l)) (omega (arith, inside)))

module _ (bs : List Batch) (i n : ℕ) (few : n ≤ length bs) (point : IsPartitionPoint (λ (b : Batch). begins_by i b ≡ true) (λ (b : Batch). begins_by i b ≡ false) bs n) where
  low : (k : ℕ) (d : Batch) → k < n → (get_or bs k d).first ≤ i
  low k d lt = leb-true (get_or bs k d).first i (point.0 k d (omega (arith, few, lt)) lt)

  high : (k : ℕ) (d : Batch) → n ≤ k → k < length bs → i < (get_or bs k d).first
  high k d le lt = let is = point.1 k d le lt in grind (arith, nat_tests)

  pub told_none : n ≡ 0 → at.Waiting ≡ told_in bs i
  told_none none = sym (none_later bs i (λ k d lt. high k d (omega (arith, none)) lt))

  pub told_last : AreNeighbours 0 (map plain_batch bs) → (m : ℕ) (x : Batch) → n ≡ suc m → x ≡ get_or bs m x → told_inside x i ≡ told_in bs i
  told_last near m x is at =
      sym (found_last bs 0 i m x near (omega (arith, is, few)) at (λ k d le. low k d (omega (arith, is, le))) (λ k d lt inside. high k d (omega (arith, is, lt)) inside))

-- ---- the firsts rise

pub firsts_rise : (bs : List Batch) (first : ℕ) → AreNeighbours first (map plain_batch bs) → (i j : ℕ) (d : Batch) → i ≤ j → j < length bs → (get_or bs i d).first ≤ (get_or bs j d).first
firsts_rise bs first near i j d le lt = go bs first near i j le lt where
  least : (xs : List Batch) (f : ℕ) → AreNeighbours f (map plain_batch xs) → (k : ℕ) → k < length xs → f ≤ (get_or xs k d).first
  least [] f n k l = absurd (omega (arith, l))
  least (x ∷ xs) f n zero l = omega (arith, n.0)
  least (x ∷ xs) f n (suc k) l = omega (arith, least xs (f + x.count) n.1 k (omega (arith, l)))

  go : (xs : List Batch) (f : ℕ) → AreNeighbours f (map plain_batch xs) → (i j : ℕ) → i ≤ j → j < length xs → (get_or xs i d).first ≤ (get_or xs j d).first
  go [] f n i j le lt = absurd (omega (arith, lt))
  go (x ∷ xs) f n zero j le lt = omega (arith, n.0, least (x ∷ xs) f n j lt)
  go (x ∷ xs) f n (suc i) zero le lt = absurd (omega (arith, le))
  go (x ∷ xs) f n (suc i) (suc j) le lt = go xs (f + x.count) n.1 i j (omega (arith, le)) (omega (arith, lt))

-- ---- the turn

-- what the table and the batches tell is where the job stands
pub phase_told : (d : DeskRecord) (usages : List Usage) (places : List (Option ℕ)) (batched next : ℕ) → IsKept d usages places batched next → (client number : ℕ)
    → phase_by d.batches (index_in places client number) ≡ job_phase (plain_of d) client number
phase_told d usages places batched next k client number = ap (phase_by d.batches) (index_is d k.good places k.are_places client number)

pub told_leaves : (d : DeskRecord) (pass client number : ℕ) (p : JobPhase) (entries : List Entry) (usages : List Usage) (places : List (Option ℕ)) (batched next : ℕ) → IsKept d usages places batched next → client < d.clients
    → p ≡ phase_by d.batches (index_in places client number) → entries ≡ d.entries ++ record { pass = pass; event = event.Status client number; reply = reply.IsAt p } ∷ []
    → Left d (record d { entries = entries; turns = (d.turns + 1) % 2 ^ 64 }) pass (event.Status client number) (reply.IsAt p) usages places batched next
unfolding reply_to after_event
told_leaves d pass client number p entries usages places batched next k named p_is are =
    let e : Event = event.Status client number in
    let r : Reply = reply.IsAt p in
    let x : Entry = record { pass = pass; event = e; reply = r } in
    let by : r ≡ reply.IsAt (job_phase (plain_of d) client number) = ap reply.IsAt (p_is ∙ phase_told d usages places batched next k client number) in
    let stays : plain_of (quiet_desk d pass e r d.batches d.registry d.closed) ≡ plain_of d =
    λ i. record { clients = d.clients; jobs = map plain_job d.jobs; batches = map plain_batch d.batches; registered = registered_same d.entries x refl i; closed = d.closed } in
    let q = quiet d k.good pass e r d.batches d.registry d.closed refl named by stays (certs_same d.batches None) k.good.certs (k.good.registry ∙ ap registry_of (sym stays)) in
    let same : quiet_desk d pass e r d.batches d.registry d.closed ≡ record d { entries = entries; turns = (d.turns + 1) % 2 ^ 64 } =
    λ i. record d { entries = sym are i; turns = (d.turns + 1) % 2 ^ 64 } in
    let left = subst (λ (n : DeskRecord). Quiet d n pass e r) same q in
    record { kept = record { good = left.good; are_usages = k.are_usages; are_places = k.are_places; is_batched = k.is_batched; is_next = k.is_next }; turn = left.turn }
