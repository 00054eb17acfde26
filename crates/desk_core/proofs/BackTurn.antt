-- The giving back of a batch is a turn.
use Rattle.std.proofs.Common.{◌≡◌, ◌≢◌, ℕ, zero, suc, ◌+◌, ◌%◌, ◌^◌, Bool, true, false, cond, not, List, [], ◌∷◌, ◌++◌, map, refl, sym, ap, ◌∙◌, subst, arith}
use Rattle.std.specs.Prelude.{Option, Some, None, nat_lt}
use Rattle.std.proofs.lemmas.Bool.Decides.{nat_tests}
use Rattle.fact_registry.specs.Registries.{with_facts}
use Rattle.desk_core.specs.DeskRecords.{DeskRecord, plain_batch, plain_job, plain_of}
use Rattle.desk_core.specs.Desks.{is_sealed, is_taken_by, phase_at}
use Rattle.desk_core.specs.GoodDesks.{IsGoodDesk}
use Rattle.desk_core.specs.Kept.{IsKept, before_sealed, jobs_batched}
use Rattle.desk_core.specs.Next.{after_event, after_give_back, reply_to}
use Rattle.desk_core.specs.RegisteredFacts.{registry_of}
use Rattle.desk_core.specs.Working.Steps.{batches_moved, earlier, given_back, held_number, phase_of_batch}
use Rattle.desk_core.specs.declared.batch.Batch.{Batch}
use Rattle.desk_core.specs.declared.entry.Entry.{Entry}
use Rattle.desk_core.specs.declared.event.Event.{Event}
use Rattle.desk_core.specs.declared.event.Event.TheVariants as event
use Rattle.desk_core.specs.declared.phase.Phase.{Phase}
use Rattle.desk_core.specs.declared.phase.Phase.TheVariants as phase
use Rattle.desk_core.specs.declared.reply.Reply.{Reply}
use Rattle.desk_core.specs.declared.reply.Reply.TheVariants as reply
use Rattle.desk_core.specs.declared.usage.Usage.{Usage}
use Rattle.desk_core.proofs.BatchLemmas.{phase_in}
use Rattle.desk_core.proofs.CertLemmas.{certs_same, certs_stay_moved}
use Rattle.desk_core.proofs.Entries.{registered_same}
use Rattle.desk_core.proofs.NextSealed.{moved_step}
use Rattle.desk_core.proofs.PlainTurns.{Left}
use Rattle.desk_core.proofs.QuietTurns.{Quiet, quiet, quiet_desk}
use Rattle.desk_core.proofs.RegistryLemmas.{facts_moved}
use Rattle.desk_core.proofs.TakeTurn.{batched_same, certs_moved, moved_plain}

-- ---- the first sealed one

-- one place further on, where the batch before isn't sealed
one_on : (t : Bool) (b n : ℕ) → cond t (1 + cond (nat_lt b n) b n) 0 ≡ cond (nat_lt (suc b) (cond t (1 + n) 0)) (suc b) (cond t (1 + n) 0)
one_on true b n = grind (arith, nat_tests)
one_on false b n = grind (arith, nat_tests)

none_before : (n : ℕ) → 0 ≡ cond (nat_lt 0 n) 0 n
none_before n = grind (arith, nat_tests)

pub sealed_then : (bs : List Batch) (b : ℕ) → before_sealed (batches_moved bs (Some b) phase.Sealed) ≡ earlier (before_sealed bs) (Some b)
sealed_then [] b = grind (arith, nat_tests)
sealed_then (x ∷ bs) zero = none_before (before_sealed (x ∷ bs))
sealed_then (x ∷ bs) (suc b) =
    ap before_sealed (moved_step x bs b phase.Sealed)
    ∙ (ap (λ (n : ℕ). cond (not (is_sealed x.phase)) (1 + n) 0) (sealed_then bs b) ∙ one_on (not (is_sealed x.phase)) b (before_sealed bs))

earlier_is : (bs : List Batch) (o : Option ℕ) → before_sealed (batches_moved bs o phase.Sealed) ≡ earlier (before_sealed bs) o
earlier_is bs None = refl
earlier_is bs (Some b) = sealed_then bs b

-- ---- phases

pub phase_same : (bs : List Batch) (b : ℕ) → phase_in (map plain_batch bs) b ≡ phase_of_batch bs b
phase_same [] b = refl
phase_same (x ∷ bs) zero = refl
phase_same (x ∷ bs) (suc b) = phase_same bs b

pub taken_isnt : (pass : ℕ) (p q : Phase) → is_taken_by pass p ≡ true → is_taken_by pass q ≡ false → p ≢ q
taken_isnt pass p q is isnt same = let t : true ≡ false = sym is ∙ (ap (is_taken_by pass) same ∙ isnt) in cc

-- ---- the turn

module _ (d : DeskRecord) (g : IsGoodDesk d) (pass b : ℕ) where
  -- where it is taken by the pass, or not
  abbrev held : Bool → Option ℕ
  held t = cond t (Some b) None

  abbrev said : Bool → Reply
  said t = given_back (held t) (phase_at (plain_of d) b)

  back_at : (t : Bool) → is_taken_by pass (phase_at (plain_of d) b) ≡ t
      → Quiet d (quiet_desk d pass (event.GiveBack b) (said t) (batches_moved d.batches (held t) phase.Sealed) d.registry d.closed) pass (event.GiveBack b) (said t)
  unfolding reply_to after_event
  back_at true is =
      let x : Entry = record { pass = pass; event = event.GiveBack b; reply = reply.Returned } in
      let goes : plain_of (quiet_desk d pass (event.GiveBack b) reply.Returned (batches_moved d.batches (Some b) phase.Sealed) d.registry d.closed) ≡ after_give_back (plain_of d) b =
      λ i. record { clients = d.clients; jobs = map plain_job d.jobs; batches = moved_plain d.batches b phase.Sealed i; registered = registered_same d.entries x refl i; closed = d.closed } in
      quiet d g pass (event.GiveBack b) reply.Returned (batches_moved d.batches (Some b) phase.Sealed) d.registry d.closed refl tt
      (ap (λ (u : Bool). cond u reply.Returned (reply.NotTaken (phase_at (plain_of d) b))) (sym is))
      (goes ∙ ap (λ (u : Bool). cond u (after_give_back (plain_of d) b) (plain_of d)) (sym is))
      (certs_stay_moved d.batches b phase.Sealed None) (certs_moved d.jobs d.batches b phase.Sealed (λ e. cc) (taken_isnt pass (phase_at (plain_of d) b) phase.Registered is refl) g.certs)
      (g.registry ∙ (ap (with_facts []) (sym (facts_moved (plain_of d) b phase.Sealed)) ∙ ap registry_of (sym goes)))
  back_at false is =
      let r : Reply = reply.NotTaken (phase_at (plain_of d) b) in
      let x : Entry = record { pass = pass; event = event.GiveBack b; reply = r } in
      let stays : plain_of (quiet_desk d pass (event.GiveBack b) r d.batches d.registry d.closed) ≡ plain_of d =
      λ i. record { clients = d.clients; jobs = map plain_job d.jobs; batches = map plain_batch d.batches; registered = registered_same d.entries x refl i; closed = d.closed } in
      quiet d g pass (event.GiveBack b) r d.batches d.registry d.closed refl tt
      (ap (λ (u : Bool). cond u reply.Returned r) (sym is))
      (stays ∙ ap (λ (u : Bool). cond u (after_give_back (plain_of d) b) (plain_of d)) (sym is))
      (certs_same d.batches None) g.certs (g.registry ∙ ap registry_of (sym stays))

pub back_leaves : (d : DeskRecord) (pass b : ℕ) (p : Phase) (o : Option ℕ) (r : Reply) (batches : List Batch) (entries : List Entry) (usages : List Usage) (places : List (Option ℕ)) (batched next next' : ℕ) → IsKept d usages places batched next
    → p ≡ phase_of_batch d.batches b → o ≡ held_number pass b (phase_of_batch d.batches b) → r ≡ given_back o p → batches ≡ batches_moved d.batches o phase.Sealed → next' ≡ earlier next o
    → entries ≡ d.entries ++ record { pass = pass; event = event.GiveBack b; reply = r } ∷ []
    → Left d (record d { batches = batches; entries = entries; turns = (d.turns + 1) % 2 ^ 64 }) pass (event.GiveBack b) r usages places batched next'
back_leaves d pass b p o r batches entries usages places batched next next' k p_is o_is r_is batches_are next_is entries_are =
    let e : Event = event.GiveBack b in
    let at : phase_of_batch d.batches b ≡ phase_at (plain_of d) b = sym (phase_same d.batches b) in
    let t : Bool = is_taken_by pass (phase_at (plain_of d) b) in
    let q = back_at d k.good pass b t refl in
    let o' : Option ℕ = cond t (Some b) None in
    let r' : Reply = given_back o' (phase_at (plain_of d) b) in
    let found : o ≡ o' = o_is ∙ ap (held_number pass b) at in
    let said_is : r ≡ r' = r_is ∙ (λ i. given_back (found i) ((p_is ∙ at) i)) in
    let moved : batches_moved d.batches o' phase.Sealed ≡ batches = sym (batches_are ∙ ap (λ (y : Option ℕ). batches_moved d.batches y phase.Sealed) found) in
    let es : d.entries ++ record { pass = pass; event = e; reply = r' } ∷ [] ≡ entries = sym (entries_are ∙ ap (λ (y : Reply). d.entries ++ record { pass = pass; event = e; reply = y } ∷ []) said_is) in
    let same : quiet_desk d pass e r' (batches_moved d.batches o' phase.Sealed) d.registry d.closed ≡ record d { batches = batches; entries = entries; turns = (d.turns + 1) % 2 ^ 64 } =
    λ i. record d { batches = moved i; entries = es i; turns = (d.turns + 1) % 2 ^ 64 } in
    let x : Quiet d (record d { batches = batches; entries = entries; turns = (d.turns + 1) % 2 ^ 64 }) pass e r =
    subst (λ (y : Reply). Quiet d (record d { batches = batches; entries = entries; turns = (d.turns + 1) % 2 ^ 64 }) pass e y) (sym said_is) (subst (λ (n : DeskRecord). Quiet d n pass e r') same q) in
    record {
      kept = record {
        good = x.good;
        are_usages = k.are_usages;
        are_places = k.are_places;
        is_batched = k.is_batched ∙ (batched_same d.batches o phase.Sealed ∙ ap jobs_batched (sym batches_are));
        is_next = next_is ∙ (ap (λ (n : ℕ). earlier n o) k.is_next ∙ (sym (earlier_is d.batches o) ∙ ap before_sealed (sym batches_are)));
      };
      turn = x.turn;
    }
