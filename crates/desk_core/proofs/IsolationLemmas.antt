-- Each client's replies are those that its own offers alone determine.
use Rattle.std.proofs.Common.{◌≡◌, ℕ, ◌==◌, Bool, true, false, cond, List, [], ◌∷◌, ◌++◌, map, refl, sym, ap, subst, ◌∙◌}
use Rattle.std.proofs.lemmas.List.{map-append}
use Rattle.std.specs.Prelude.{length}
use Rattle.cairo_model.specs.Pie.Records.{PieRecord}
use Rattle.cairo_model.specs.Pie.Shapes.{shape_of}
use Rattle.cairo_model.specs.declared.shape.Shape.{Shape}
use Rattle.desk_core.specs.Desks.{PlainDesk, PlainJob, jobs_of, shapes_of, waiting_jobs, first_sealed, empty_desk}
use Rattle.desk_core.specs.Isolation.{Answered, OfferTheirShapes, OffersShape, answered_of, answers, offers_of, replies_of, Isolation, JournalsAreIsolated}
use Rattle.desk_core.specs.Journals.{Move, move_of, after_move, IsOfferOf, AllFollow, HasItsPie, no_pie}
use Rattle.desk_core.specs.declared.entry.FullEntry.{FullEntry}
use Rattle.std.specs.Prelude.{unwrap_or}
use Rattle.desk_core.specs.Quotas.{quota_reply, is_admitted, replies_to, own_verdict}
use Rattle.desk_core.specs.Next.{reply_to, after_event, with_job, after_take, after_register}
use Rattle.desk_core.specs.declared.event.Event.{Event}
use Rattle.desk_core.specs.declared.event.Event.TheVariants as event
use Rattle.desk_core.specs.declared.event.OfferNote.TheVariants as note
use Rattle.desk_core.proofs.ListFacts.{filter_more}
use Rattle.desk_core.specs.declared.event.OfferNote.{OfferNote}
use Rattle.desk_core.specs.declared.reply.Reply.{Reply}
use Rattle.desk_core.specs.declared.reply.Reply.TheVariants as reply
use Rattle.cairo_model.specs.Pie.Acceptance.{FactRecord}
use Rattle.cairo_model.specs.declared.refusal.Refusal.{Refusal}
use Rattle.std.specs.List.{cons_option}
use Rattle.std.specs.Prelude.{Option, Some, None, option_map}
use Rattle.std.proofs.lemmas.Bool.{eqb-true}

pub shapes_more : (c : ℕ) (jobs : List PlainJob) (job : PlainJob) → shapes_of c (jobs ++ job ∷ []) ≡ cond (job.client == c) (shapes_of c jobs ++ shape_of job.pie ∷ []) (shapes_of c jobs)
shapes_more c jobs job = ap (map (λ (j : PlainJob). shape_of j.pie)) (filter_more (λ (j : PlainJob). j.client == c) jobs job) ∙ mapped (job.client == c) where
  mapped : (b : Bool) → map (λ (j : PlainJob). shape_of j.pie) (cond b (jobs_of c jobs ++ job ∷ []) (jobs_of c jobs)) ≡ cond b (shapes_of c jobs ++ shape_of job.pie ∷ []) (shapes_of c jobs)
  mapped true = map-append (λ (j : PlainJob). shape_of j.pie) (jobs_of c jobs) (job ∷ [])
  mapped false = refl

-- the rest goes as the client's own offers say, where it has these jobs
abbrev Fine : ℕ → List Answered → List PlainJob → Type 0
Fine c rest jobs = replies_of c rest ≡ replies_to (shapes_of c jobs) (offers_of c rest)

record Keeps (d d' : PlainDesk) : Type 0 where
  closed : d'.closed ≡ d.closed
  jobs : d'.jobs ≡ d.jobs

closed_either : (d : PlainDesk) (b : Bool) (x y : PlainDesk) → x.closed ≡ d.closed → y.closed ≡ d.closed → (cond b x y).closed ≡ d.closed
closed_either d true x y p q = p
closed_either d false x y p q = q

kept : (d : PlainDesk) → Keeps d d
kept d = record { closed = refl; jobs = refl }

keeps_either : (d : PlainDesk) (b : Bool) (x y : PlainDesk) → Keeps d x → Keeps d y → Keeps d (cond b x y)
keeps_either d true x y p q = p
keeps_either d false x y p q = q

keeps_taken : (d : PlainDesk) (pass : ℕ) (o : Option ℕ) → Keeps d (after_take d pass o)
keeps_taken d pass None = kept d
keeps_taken d pass (Some b) = record { closed = refl; jobs = refl }

keeps_registers : (d : PlainDesk) (b : ℕ) (o : Option ℕ) → Keeps d (after_register d b o)
keeps_registers d b None = record { closed = refl; jobs = refl }
keeps_registers d b (Some i) = kept d

still : (c : ℕ) (rest : List Answered) (d d' : PlainDesk) → Keeps d d' → d.closed ≡ false → (d'.closed ≡ false → Fine c rest d'.jobs) → Fine c rest d.jobs
still c rest d d' k opened go = subst (Fine c rest) k.jobs (go (k.closed ∙ opened))

abbrev entry_at : PlainDesk → ℕ → Event → Answered
entry_at d pass e = record { event = e; reply = reply_to d pass e }

-- the lists after one more offer, where b says whether it is the client's own
abbrev Grown : Bool → OfferNote → Reply → List Reply → List OfferNote → List Shape → Type 0
Grown b n r replies notes shapes = cons_option (option_map (λ _. r) (cond b (Some n) None)) replies ≡ replies_to shapes (cons_option (cond b (Some n) None) notes)

refused_one : (b : Bool) (r : Refusal) (replies : List Reply) (notes : List OfferNote) (shapes : List Shape) → replies ≡ replies_to shapes notes → Grown b (note.Refused r) (reply.Refused r) replies notes shapes
refused_one true r replies notes shapes h = ap (λ (rs : List Reply). reply.Refused r ∷ rs) h
refused_one false r replies notes shapes h = h

shapes_after : (c client : ℕ) (pie : PieRecord) (d : PlainDesk) (a : Bool)
    → shapes_of c (cond a (with_job d client pie) d).jobs ≡ cond a (cond (client == c) (shapes_of c d.jobs ++ shape_of pie ∷ []) (shapes_of c d.jobs)) (shapes_of c d.jobs)
shapes_after c client pie d true = shapes_more c d.jobs (record { client = client; number = length (jobs_of client d.jobs); pie = pie })
shapes_after c client pie d false = refl

-- the reply is by quota, so the shapes after it are those that the client's own offers give
same_choice : (shape made : Shape) (shapes : List Shape) (a : Bool) → (a ≡ true → shape ≡ made) → cond a (shapes ++ made ∷ []) shapes ≡ cond a (shapes ++ shape ∷ []) shapes
same_choice shape made shapes true same = ap (λ (s : Shape). shapes ++ s ∷ []) (sym (same refl))
same_choice shape made shapes false same = refl

same_either : {X : Type 0} (a : Bool) (x : X) → cond a x x ≡ x
same_either true x = refl
same_either false x = refl

module _ (c client : ℕ) (shape : Shape) (fact : FactRecord) (pie : PieRecord) (d : PlainDesk) (rest : List Answered) (r : Reply) (by : r ≡ quota_reply (shapes_of client d.jobs) shape)
    (fits : is_admitted r ≡ true → shape ≡ shape_of pie) (fine : Fine c rest (cond (is_admitted r) (with_job d client pie) d).jobs) where
  by_client : (b : Bool) → (client == c) ≡ b → Grown b (note.Accepted shape fact) r (replies_of c rest) (offers_of c rest) (shapes_of c d.jobs)
  by_client true is =
      let own : r ≡ quota_reply (shapes_of c d.jobs) shape = by ∙ ap (λ (k : ℕ). quota_reply (shapes_of k d.jobs) shape) (eqb-true client c is) in
      let after : shapes_of c (cond (is_admitted r) (with_job d client pie) d).jobs ≡ cond (is_admitted r) (shapes_of c d.jobs ++ shape ∷ []) (shapes_of c d.jobs) =
      shapes_after c client pie d (is_admitted r)
      ∙ (ap (λ (b : Bool). cond (is_admitted r) (cond b (shapes_of c d.jobs ++ shape_of pie ∷ []) (shapes_of c d.jobs)) (shapes_of c d.jobs)) is
      ∙ same_choice shape (shape_of pie) (shapes_of c d.jobs) (is_admitted r) fits) in
      subst (λ (q : Reply). r ∷ replies_of c rest ≡ q ∷ replies_to (cond (is_admitted q) (shapes_of c d.jobs ++ shape ∷ []) (shapes_of c d.jobs)) (offers_of c rest)) own
      (ap (λ (rs : List Reply). r ∷ rs) (fine ∙ ap (λ (ss : List Shape). replies_to ss (offers_of c rest)) after))
  by_client false is =
      let after : shapes_of c (cond (is_admitted r) (with_job d client pie) d).jobs ≡ shapes_of c d.jobs =
      shapes_after c client pie d (is_admitted r)
      ∙ (ap (λ (b : Bool). cond (is_admitted r) (cond b (shapes_of c d.jobs ++ shape_of pie ∷ []) (shapes_of c d.jobs)) (shapes_of c d.jobs)) is
      ∙ same_either (is_admitted r) (shapes_of c d.jobs)) in
      fine ∙ ap (λ (ss : List Shape). replies_to ss (offers_of c rest)) after

step : (c : ℕ) (e : Event) (pass : ℕ) (pie : PieRecord) (d : PlainDesk) (rest : List Answered) → d.closed ≡ false
    → (is_admitted (reply_to d pass e) ≡ true → OffersShape pie e)
    → ((after_event d pass e pie).closed ≡ false → Fine c rest (after_event d pass e pie).jobs)
    → Fine c (entry_at d pass e ∷ rest) d.jobs
unfolding reply_to after_event
step c (event.Submit client (note.Refused r)) pass pie d rest opened fits go = refused_one (client == c) r (replies_of c rest) (offers_of c rest) (shapes_of c d.jobs) (go opened)
step c (event.Submit client (note.Accepted shape fact)) pass pie d rest opened fits go =
    let by : cond d.closed reply.Closed (quota_reply (shapes_of client d.jobs) shape) ≡ quota_reply (shapes_of client d.jobs) shape = rw opened in
    let keeps = closed_either d (is_admitted (cond d.closed reply.Closed (quota_reply (shapes_of client d.jobs) shape))) (with_job d client pie) d refl refl in
    by_client c client shape fact pie d rest _ by fits (go (keeps ∙ opened)) (client == c) refl
step c event.Seal pass pie d rest opened fits go = still c rest d _ (keeps_either d (length (waiting_jobs d) == 0) _ _ (kept d) (record { closed = refl; jobs = refl })) opened go
step c event.Take pass pie d rest opened fits go = still c rest d _ (keeps_taken d pass (first_sealed d)) opened go
step c (event.Register b differs) pass pie d rest opened fits go = still c rest d _ (keeps_either d _ _ _ (keeps_registers d b differs) (kept d)) opened go
step c (event.GiveBack b) pass pie d rest opened fits go = still c rest d _ (keeps_either d _ _ _ (record { closed = refl; jobs = refl }) (kept d)) opened go
step c (event.Ask client fact) pass pie d rest opened fits go = go opened
step c (event.Status client number) pass pie d rest opened fits go = go opened
step c event.Close pass pie d rest opened fits go = refl

isolated : (c : ℕ) (ms : List Move) (d : PlainDesk) → d.closed ≡ false → OfferTheirShapes d ms → Fine c (answers d ms) d.jobs
isolated c [] d opened fits = refl
isolated c (m ∷ ms) d opened fits = step c m.event m.pass m.pie d (answers (after_move d m) ms) opened fits.0 (λ opened'. isolated c ms (after_move d m) opened' fits.1)

pub isolation : Isolation
isolation clients ms fits client = isolated client ms (empty_desk clients) refl fits

-- ---- journals

-- the kept replies are those of Next, and the admitted offers are of their PIEs
same_answers : (d : PlainDesk) (es : List FullEntry) → AllFollow d es → answers d (map move_of es) ≡ map answered_of es
same_answers d [] all = refl
same_answers d (e ∷ es) all = λ i. record { event = e.entry.event; reply = sym all.0.replies i } ∷ same_answers (after_move d (move_of e)) es all.1 i

pub of_its_pie : (b : Bool) (o : Option PieRecord) (e : Event) → HasItsPie b o e → b ≡ true → IsOfferOf (unwrap_or o no_pie) e
of_its_pie true o e h is = subst (λ (p : Option PieRecord). IsOfferOf (unwrap_or p no_pie) e) (sym h.1) h.2
of_its_pie false o e h is = absurd (cc)

shape_offered : (pie : PieRecord) (e : Event) → IsOfferOf pie e → OffersShape pie e
shape_offered pie (event.Submit client (note.Accepted shape fact)) is = is.0
shape_offered pie (event.Submit client (note.Refused r)) is = tt
shape_offered pie event.Seal is = tt
shape_offered pie event.Take is = tt
shape_offered pie (event.Register b differs) is = tt
shape_offered pie (event.GiveBack b) is = tt
shape_offered pie (event.Ask client fact) is = tt
shape_offered pie (event.Status client number) is = tt
shape_offered pie event.Close is = tt

offer_theirs : (d : PlainDesk) (es : List FullEntry) → AllFollow d es → OfferTheirShapes d (map move_of es)
offer_theirs d [] all = tt
offer_theirs d (e ∷ es) all = (
  λ is. shape_offered (move_of e).pie e.entry.event (of_its_pie (is_admitted e.entry.reply) e.pie e.entry.event all.0.has_pie (ap is_admitted all.0.replies ∙ is)),
  offer_theirs (after_move d (move_of e)) es all.1,
)

pub journals_are_isolated : JournalsAreIsolated
journals_are_isolated journal d legal client =
    subst (λ (xs : List Answered). replies_of client xs ≡ own_verdict (offers_of client xs)) (same_answers (empty_desk d.clients) journal legal.follow)
    (isolation d.clients (map move_of journal) (offer_theirs (empty_desk d.clients) journal legal.follow) client)
