-- Closing and asking are turns.
use Rattle.std.proofs.Common.{◌≡◌, ◌↔◌, inl, inr, ℕ, ◌+◌, ◌%◌, ◌^◌, ◌<◌, Bool, true, false, cond, List, [], ◌∷◌, ◌++◌, map, refl, sym, ap, ◌∙◌, subst, arith}
use Rattle.std.specs.Prelude.{Contains, IsTrue, None, Option}
use Rattle.std.specs.List.{list_any}
use Rattle.cairo_model.specs.Pie.Acceptance.{FactRecord}
use Rattle.cairo_model.specs.Pie.FactOrder.{same_fact}
use Rattle.fact_registry.specs.Registries.{with_facts}
use Rattle.fact_registry.proofs.FactLists.{found_is_there, stays_or_comes, there_is_found, was_or_came}
use Rattle.desk_core.specs.DeskRecords.{DeskRecord, plain_batch, plain_job, plain_of, registered_in}
use Rattle.desk_core.specs.Desks.{shown_facts}
use Rattle.desk_core.specs.Journals.{no_pie}
use Rattle.desk_core.specs.Kept.{IsKept}
use Rattle.desk_core.specs.Next.{after_event, ask_reply, reply_to}
use Rattle.desk_core.specs.Quotas.{is_admitted}
use Rattle.desk_core.specs.RegisteredFacts.{registry_of}
use Rattle.desk_core.specs.Turns.{IsTurn}
use Rattle.desk_core.specs.Working.Steps.{yes_or_no}
use Rattle.desk_core.specs.declared.entry.Entry.{Entry}
use Rattle.desk_core.specs.declared.event.Event.{Event}
use Rattle.desk_core.specs.declared.event.Event.TheVariants as event
use Rattle.desk_core.specs.declared.reply.Reply.{Reply}
use Rattle.desk_core.specs.declared.reply.Reply.TheVariants as reply
use Rattle.desk_core.specs.declared.usage.Usage.{Usage}
use Rattle.desk_core.proofs.CertLemmas.{certs_same}
use Rattle.desk_core.proofs.Entries.{registered_same}
use Rattle.desk_core.proofs.QuietTurns.{Quiet, quiet, quiet_desk}

-- what such a turn leaves
pub record Left (d new : DeskRecord) (pass : ℕ) (e : Event) (r : Reply) (usages : List Usage) (places : List (Option ℕ)) (batched next : ℕ) : Type 0 where
  pub kept : IsKept new usages places batched next
  pub turn : IsTurn d new pass e no_pie r

module _ (d : DeskRecord) (pass : ℕ) (entries : List Entry) (usages : List Usage) (places : List (Option ℕ)) (batched next : ℕ) (k : IsKept d usages places batched next) where
  -- ---- closing

  x : Entry
  x = record { pass = pass; event = event.Close; reply = reply.Closed }

  closed_turn : Quiet d (quiet_desk d pass event.Close reply.Closed d.batches d.registry true) pass event.Close reply.Closed
  unfolding x reply_to after_event
  closed_turn =
      let same : registered_in (d.entries ++ x ∷ []) ≡ registered_in d.entries = registered_same d.entries x refl in
      quiet d k.good pass event.Close reply.Closed d.batches d.registry true refl tt refl
      (λ i. record { clients = d.clients; jobs = map plain_job d.jobs; batches = map plain_batch d.batches; registered = same i; closed = true })
      (certs_same d.batches None) k.good.certs
      (k.good.registry ∙ (λ i. registry_of (record { clients = d.clients; jobs = map plain_job d.jobs; batches = map plain_batch d.batches; registered = sym same i; closed = true })))

  pub closed_leaves : entries ≡ d.entries ++ record { pass = pass; event = event.Close; reply = reply.Closed } ∷ []
      → Left d (record d { entries = entries; closed = true; turns = (d.turns + 1) % 2 ^ 64 }) pass event.Close reply.Closed usages places batched next
  unfolding x
  closed_leaves are =
      let same : quiet_desk d pass event.Close reply.Closed d.batches d.registry true ≡ record d { entries = entries; closed = true; turns = (d.turns + 1) % 2 ^ 64 } =
      λ i. record d { entries = sym are i; closed = true; turns = (d.turns + 1) % 2 ^ 64 } in
      let q = subst (λ (n : DeskRecord). Quiet d n pass event.Close reply.Closed) same closed_turn in
      record { kept = record { good = q.good; are_usages = k.are_usages; are_places = k.are_places; is_batched = k.is_batched; is_next = k.is_next }; turn = q.turn }

-- ---- asking

same_test : (a b : Bool) → (a ≡ true → b ≡ true) → (b ≡ true → a ≡ true) → a ≡ b
same_test true b there back = sym (there refl)
same_test false true there back = back refl
same_test false false there back = refl

-- the registry tells the same of a fact as the facts that it was made from
registry_tells : (facts : List FactRecord) (fact : FactRecord) → list_any (same_fact fact) (with_facts [] facts) ≡ list_any (same_fact fact) facts
registry_tells facts fact =
    same_test (list_any (same_fact fact) (with_facts [] facts)) (list_any (same_fact fact) facts)
    (λ found. elim (was_or_came [] facts fact (found_is_there (with_facts [] facts) fact found)) [
      | inl none ↦ absurd (omega (arith, none.1))
      | inr came ↦ there_is_found facts fact came
    ])
    (λ found. there_is_found (with_facts [] facts) fact (stays_or_comes [] facts fact (inr (found_is_there facts fact found))))

not_admitted : (b : Bool) → is_admitted (cond b reply.Yes reply.No) ≡ false
not_admitted true = refl
not_admitted false = refl

pub is_told : (held : Bool) (facts : List FactRecord) (fact : FactRecord) → IsTrue held ↔ Contains facts fact → held ≡ list_any (same_fact fact) facts
is_told held facts fact tells =
    same_test held (list_any (same_fact fact) facts) (λ is. there_is_found facts fact (tells.0 is)) (λ found. tells.1 (found_is_there facts fact found))

pub asked_leaves : (d : DeskRecord) (pass client : ℕ) (fact copy : FactRecord) (r : Reply) (entries : List Entry) (usages : List Usage) (places : List (Option ℕ)) (batched next : ℕ) → IsKept d usages places batched next → client < d.clients
    → copy ≡ fact → r ≡ yes_or_no (list_any (same_fact fact) d.registry) → entries ≡ d.entries ++ record { pass = pass; event = event.Ask client copy; reply = r } ∷ []
    → Left d (record d { entries = entries; turns = (d.turns + 1) % 2 ^ 64 }) pass (event.Ask client fact) r usages places batched next
unfolding reply_to after_event
asked_leaves d pass client fact copy r entries usages places batched next k named copy_is r_is are =
    let e : Event = event.Ask client fact in
    let x : Entry = record { pass = pass; event = e; reply = r } in
    let by : r ≡ ask_reply (plain_of d) fact = r_is ∙ ap (λ (b : Bool). cond b reply.Yes reply.No) (ap (list_any (same_fact fact)) k.good.registry ∙ registry_tells (shown_facts (plain_of d)) fact) in
    let not_in : is_admitted r ≡ false = ap is_admitted r_is ∙ not_admitted (list_any (same_fact fact) d.registry) in
    let stays : plain_of (quiet_desk d pass e r d.batches d.registry d.closed) ≡ plain_of d =
    λ i. record { clients = d.clients; jobs = map plain_job d.jobs; batches = map plain_batch d.batches; registered = registered_same d.entries x refl i; closed = d.closed } in
    let q = quiet d k.good pass e r d.batches d.registry d.closed not_in named by stays (certs_same d.batches None) k.good.certs (k.good.registry ∙ ap registry_of (sym stays)) in
    let all : entries ≡ d.entries ++ x ∷ [] = are ∙ ap (λ (f : FactRecord). d.entries ++ record { pass = pass; event = event.Ask client f; reply = r } ∷ []) copy_is in
    let same : quiet_desk d pass e r d.batches d.registry d.closed ≡ record d { entries = entries; turns = (d.turns + 1) % 2 ^ 64 } =
    λ i. record d { entries = sym all i; turns = (d.turns + 1) % 2 ^ 64 } in
    let left = subst (λ (n : DeskRecord). Quiet d n pass e r) same q in
    record { kept = record { good = left.good; are_usages = k.are_usages; are_places = k.are_places; is_batched = k.is_batched; is_next = k.is_next }; turn = left.turn }
