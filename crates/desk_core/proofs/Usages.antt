-- Each client's usage stays that of its own jobs.
use Rattle.std.proofs.Common.{◌≡◌, ◌≢◌, ◌⊎◌, inl, inr, ℕ, zero, suc, ◌+◌, ◌<◌, ◌==◌, Bool, true, false, cond, List, [], ◌∷◌, ◌++◌, length, map, refl, sym, ap, ◌∙◌, subst, arith, length-append}
use Rattle.std.specs.Prelude.{Option, Some, replicate, slice_get, slice_set}
use Rattle.std.proofs.lemmas.Bool.{eq-eqb}
use Rattle.std.proofs.lemmas.Bool.Decides.{eqb_tells}
use Rattle.std.proofs.lemmas.List.{map-append}
use Rattle.cairo_model.specs.Pie.Shapes.{shape_of}
use Rattle.cairo_model.specs.declared.shape.Shape.{Shape}
use Rattle.batch_plan.specs.Cuts.{cells_together, steps_together}
use Rattle.desk_core.specs.DeskRecords.{DeskRecord, plain_job}
use Rattle.desk_core.specs.Desks.{PlainJob, shapes_of}
use Rattle.desk_core.specs.GoodDesks.{IsGoodDesk}
use Rattle.desk_core.specs.Kept.{AreUsages, IsKept, usage_of}
use Rattle.desk_core.specs.Next.{offered_reply}
use Rattle.desk_core.specs.Quotas.{quota_reply}
use Rattle.desk_core.specs.Turns.{offer_note}
use Rattle.desk_core.specs.Working.Steps.{IsSmallUsage, admitted_jobs, reply_by_usage, used_after}
use Rattle.desk_core.specs.declared.event.OfferNote.{OfferNote}
use Rattle.desk_core.specs.declared.event.OfferNote.TheVariants as note
use Rattle.desk_core.specs.declared.job.Job.{Job}
use Rattle.desk_core.specs.declared.offer.Offer.{Offer}
use Rattle.desk_core.specs.declared.offer.Offer.TheVariants as offer
use Rattle.desk_core.specs.declared.reply.Reply.{Reply}
use Rattle.desk_core.specs.declared.reply.Reply.TheVariants as reply
use Rattle.desk_core.specs.declared.usage.Usage.{Usage}
use Rattle.desk_core.proofs.IsolationLemmas.{shapes_more}
use Rattle.desk_core.proofs.ListFacts.{total_more}

pub some_same : {X : Type 0} {x y : X} → Some x ≡ Some y → x ≡ y
some_same e = cc

-- the reply by the usage is the one by the shapes
pub by_usage : (jobs : List PlainJob) (closed : Bool) (client : ℕ) (n : OfferNote) → reply_by_usage (usage_of (shapes_of client jobs)) closed n ≡ offered_reply jobs closed client n
unfolding quota_reply
by_usage jobs closed client (note.Refused r) = refl
by_usage jobs closed client (note.Accepted shape fact) = refl

pub usage_small : (d : DeskRecord) → IsGoodDesk d → (client : ℕ) → IsSmallUsage (usage_of (shapes_of client (map plain_job d.jobs)))
usage_small d g client = let l = g.sound.limited client in record { few = l.few; short = l.short; small = l.small }

-- where each client below their number has one
has_index : (us : List Usage) (c : ℕ) (u : Usage) → slice_get us c ≡ Some u → c < length us
has_index [] c u is = absurd (cc)
has_index (x ∷ us) zero u is = omega arith
has_index (x ∷ us) (suc c) u is = omega (arith, has_index us c u is)

pub usage_there : (d : DeskRecord) (usages : List Usage) (places : List (Option ℕ)) (batched next client : ℕ) → IsKept d usages places batched next → client < d.clients → client < length usages
usage_there d usages places batched next client k named = has_index usages client _ (k.are_usages client named)

usage_more : (ss : List Shape) (s : Shape) → usage_of (ss ++ s ∷ []) ≡ record { pies = length ss + 1; steps = steps_together ss + s.steps; cells = cells_together ss + s.size }
usage_more ss s =
    let pies : length (ss ++ s ∷ []) ≡ length ss + 1 = omega (arith, length-append ss (s ∷ [])) in
    λ i. record { pies = pies i; steps = total_more (λ (x : Shape). x.steps) ss s i; cells = total_more (λ (x : Shape). x.size) ss s i }

same_either : {X : Type 0} (b : Bool) (x : X) → x ≡ cond b x x
same_either true x = refl
same_either false x = refl

-- the shapes of a client after another one's offer are as before
module _ (jobs : List Job) (client c : ℕ) where
  abbrev now : List Job → List Shape
  now js = shapes_of c (map plain_job js)

  stays : (js : List Job) (o : Offer) (r : Reply) → js ≡ jobs → used_after (usage_of (now jobs)) (offer_note o) r ≡ usage_of (now jobs) → usage_of (now js) ≡ cond (client == c) (used_after (usage_of (now jobs)) (offer_note o) r) (usage_of (now jobs))
  stays js o r same unused = ap (λ (xs : List Job). usage_of (now xs)) same ∙ (same_either (client == c) (usage_of (now jobs)) ∙ ap (λ (u : Usage). cond (client == c) u (usage_of (now jobs))) (sym unused))

  grown : (j : Job) (b : Bool) → (client == c) ≡ b → usage_of (cond b (now jobs ++ shape_of j.checked.pie ∷ []) (now jobs))
      ≡ cond b (record { pies = length (now jobs) + 1; steps = steps_together (now jobs) + (shape_of j.checked.pie).steps; cells = cells_together (now jobs) + (shape_of j.checked.pie).size }) (usage_of (now jobs))
  grown j true is = usage_more (now jobs) (shape_of j.checked.pie)
  grown j false is = refl

  pub usage_after : (o : Offer) (r : Reply) → usage_of (now (admitted_jobs jobs client o r)) ≡ cond (client == c) (used_after (usage_of (now jobs)) (offer_note o) r) (usage_of (now jobs))
  usage_after (offer.Accepted checked) (reply.Admitted number) =
      let j : Job = record { client = client; number = number; checked = checked } in
      ap usage_of (ap (shapes_of c) (map-append plain_job jobs (j ∷ [])) ∙ shapes_more c (map plain_job jobs) (plain_job j)) ∙ grown j (client == c) refl
  usage_after (offer.Accepted checked) r = stays jobs (offer.Accepted checked) r refl refl
  usage_after (offer.Refused x) r = stays jobs (offer.Refused x) r refl refl

-- ---- the list of usages

set_here : (us : List Usage) (c : ℕ) (u old : Usage) → slice_get us c ≡ Some old → slice_get (slice_set us c u) c ≡ Some u
set_here [] c u old is = absurd (cc)
set_here (x ∷ us) zero u old is = refl
set_here (x ∷ us) (suc c) u old is = set_here us c u old is

set_else : (us : List Usage) (k c : ℕ) (u : Usage) → k ≢ c → slice_get (slice_set us k u) c ≡ slice_get us c
set_else [] k c u ne = refl
set_else (x ∷ us) zero zero u ne = absurd (ne refl)
set_else (x ∷ us) zero (suc c) u ne = refl
set_else (x ∷ us) (suc k) zero u ne = refl
set_else (x ∷ us) (suc k) (suc c) u ne = set_else us k c u (λ e. ne (ap suc e))

pub usages_kept : (d : DeskRecord) (usages usages' : List Usage) (client : ℕ) → client < d.clients → AreUsages d usages → (o : Offer) (r : Reply)
    → usages' ≡ slice_set usages client (used_after (usage_of (shapes_of client (map plain_job d.jobs))) (offer_note o) r)
    → AreUsages (record d { jobs = admitted_jobs d.jobs client o r }) usages'
usages_kept d usages usages' client named are o r set c there = subst (λ (us : List Usage). Holds us c) (sym set) (by_client (eqb_tells client c)) where
  used : Usage
  used = used_after (usage_of (shapes_of client (map plain_job d.jobs))) (offer_note o) r

  Holds : List Usage → ℕ → Type 0
  Holds us k = slice_get us k ≡ Some (usage_of (shapes_of k (map plain_job (admitted_jobs d.jobs client o r))))

  chosen : (k : ℕ) (b : Bool) → (client == k) ≡ b
      → usage_of (shapes_of k (map plain_job (admitted_jobs d.jobs client o r))) ≡ cond b (used_after (usage_of (shapes_of k (map plain_job d.jobs))) (offer_note o) r) (usage_of (shapes_of k (map plain_job d.jobs)))
  chosen k b is = usage_after d.jobs client k o r ∙ ap (λ (t : Bool). cond t (used_after (usage_of (shapes_of k (map plain_job d.jobs))) (offer_note o) r) (usage_of (shapes_of k (map plain_job d.jobs)))) is

  own : Holds (slice_set usages client used) client
  own = set_here usages client used _ (are client named) ∙ ap Some (sym (chosen client true (eq-eqb client client refl)))

  by_client : (((client == c) ≡ true) × (client ≡ c)) ⊎ (((client == c) ≡ false) × (client ≢ c)) → Holds (slice_set usages client used) c
  by_client (inl same) = subst (Holds (slice_set usages client used)) same.1 own
  by_client (inr other) = set_else usages client c used other.1 ∙ (are c there ∙ ap Some (sym (chosen c false other.0)))

-- ---- the usages of an empty desk

nothing_used : (n c : ℕ) → c < n → slice_get (replicate n (usage_of [])) c ≡ Some (usage_of [])
nothing_used zero c lt = absurd (omega (arith, lt))
nothing_used (suc n) zero lt = refl
nothing_used (suc n) (suc c) lt = nothing_used n c (omega (arith, lt))

pub new_usages : (d : DeskRecord) (usages : List Usage) → d.jobs ≡ [] → usages ≡ replicate d.clients (usage_of []) → AreUsages d usages
new_usages d usages none all c lt =
    ap (λ (us : List Usage). slice_get us c) all ∙ (nothing_used d.clients c lt ∙ ap (λ (js : List Job). Some (usage_of (shapes_of c (map plain_job js)))) (sym none))
