-- Each event of a worker is one entry of its kinds.
use Rattle.std.proofs.Common.{◌≡◌, ℕ, ◌==◌, Bool, true, false, cond, List, [], ◌∷◌, ◌++◌, length, refl, sym, ap, ◌∙◌, subst}
use Rattle.std.specs.Prelude.{Option, Some, None}
use Rattle.std.proofs.lemmas.List.Elements.{All-cons, All-nil}
use Rattle.desk_core.specs.DeskRecords.{DeskRecord, plain_of}
use Rattle.desk_core.specs.Desks.{PlainDesk, first_sealed, is_taken_by, phase_at, set_phase, waiting_jobs}
use Rattle.desk_core.specs.Journals.{no_pie}
use Rattle.desk_core.specs.Next.{after_event, after_give_back, after_register, after_take, next_batch}
use Rattle.desk_core.specs.Turns.{IsTurn, entry_of}
use Rattle.desk_core.specs.declared.event.Event.{Event}
use Rattle.desk_core.specs.declared.event.Event.TheVariants as event
use Rattle.desk_core.specs.declared.phase.Phase.{Phase}
use Rattle.desk_core.specs.declared.phase.Phase.TheVariants as phase
use Rattle.desk_core.specs.declared.reply.Reply.{Reply}
use Rattle.batch_workers.proofs.Phases.{alone_by, phase_more, phase_set}
use Rattle.batch_workers.specs.Works.{IsWorkOf, Works, WorksAlone, is_of_holder, is_work}
use Rattle.batch_workers.specs.Working.Rounds.{Are}

-- ---- what stays

-- of either of two desks that a test chooses
either : (P : PlainDesk → Type 0) → (t : Bool) (x y : PlainDesk) → P x → P y → P (cond t x y)
either P true x y px py = px
either P false x y px py = py

jobs_stay : (d : PlainDesk) (pass : ℕ) (e : Event) → is_work e ≡ true → (after_event d pass e no_pie).jobs ≡ d.jobs
unfolding after_event
jobs_stay d pass event.Seal is = either (λ (x : PlainDesk). x.jobs ≡ d.jobs) (length (waiting_jobs d) == 0) d (record d { batches = d.batches ++ next_batch d ∷ [] }) refl refl
jobs_stay d pass event.Take is = go (first_sealed d) where
  go : (o : Option ℕ) → (after_take d pass o).jobs ≡ d.jobs
  go None = refl
  go (Some b) = refl
jobs_stay d pass (event.Register b o) is = either (λ (x : PlainDesk). x.jobs ≡ d.jobs) (is_taken_by pass (phase_at d b)) (after_register d b o) d (go o) refl where
  go : (o : Option ℕ) → (after_register d b o).jobs ≡ d.jobs
  go None = refl
  go (Some i) = refl
jobs_stay d pass (event.GiveBack b) is = either (λ (x : PlainDesk). x.jobs ≡ d.jobs) (is_taken_by pass (phase_at d b)) (after_give_back d b) d refl refl
jobs_stay d pass (event.Submit client n) is = absurd (cc)
jobs_stay d pass (event.Ask client fact) is = absurd (cc)
jobs_stay d pass (event.Status client number) is = absurd (cc)
jobs_stay d pass event.Close is = absurd (cc)

flag_stays : (d : PlainDesk) (pass : ℕ) (e : Event) → is_work e ≡ true → (after_event d pass e no_pie).closed ≡ d.closed
unfolding after_event
flag_stays d pass event.Seal is = either (λ (x : PlainDesk). x.closed ≡ d.closed) (length (waiting_jobs d) == 0) d (record d { batches = d.batches ++ next_batch d ∷ [] }) refl refl
flag_stays d pass event.Take is = go (first_sealed d) where
  go : (o : Option ℕ) → (after_take d pass o).closed ≡ d.closed
  go None = refl
  go (Some b) = refl
flag_stays d pass (event.Register b o) is = either (λ (x : PlainDesk). x.closed ≡ d.closed) (is_taken_by pass (phase_at d b)) (after_register d b o) d (go o) refl where
  go : (o : Option ℕ) → (after_register d b o).closed ≡ d.closed
  go None = refl
  go (Some i) = refl
flag_stays d pass (event.GiveBack b) is = either (λ (x : PlainDesk). x.closed ≡ d.closed) (is_taken_by pass (phase_at d b)) (after_give_back d b) d refl refl
flag_stays d pass (event.Submit client n) is = absurd (cc)
flag_stays d pass (event.Ask client fact) is = absurd (cc)
flag_stays d pass (event.Status client number) is = absurd (cc)
flag_stays d pass event.Close is = absurd (cc)

-- ---- no other pass comes to hold a batch

set_alone : (pass : ℕ) (d : PlainDesk) (b : ℕ) (p : Phase) (registered : List ℕ) → ((by : ℕ) → phase.Taken by ≡ p → by ≡ pass) → WorksAlone pass d → WorksAlone pass (record d { batches = set_phase d.batches b p; registered = registered })
set_alone pass d b p registered own alone = alone_by pass p own d (record d { batches = set_phase d.batches b p; registered = registered }) (λ k q e. phase_set d.batches b k p q e) alone

stays_alone : (d : PlainDesk) (pass : ℕ) (e : Event) → is_work e ≡ true → WorksAlone pass d → WorksAlone pass (after_event d pass e no_pie)
unfolding after_event
stays_alone d pass event.Seal is alone = either (WorksAlone pass) (length (waiting_jobs d) == 0) d (record d { batches = d.batches ++ next_batch d ∷ [] }) alone
    (alone_by pass phase.Sealed (λ by e. absurd (cc)) d (record d { batches = d.batches ++ next_batch d ∷ [] }) (λ k q e. phase_more d.batches (next_batch d) k q e) alone)
stays_alone d pass event.Take is alone = go (first_sealed d) where
  go : (o : Option ℕ) → WorksAlone pass (after_take d pass o)
  go None = alone
  go (Some b) = set_alone pass d b (phase.Taken pass) d.registered (λ by e. cc) alone
stays_alone d pass (event.Register b o) is alone = either (WorksAlone pass) (is_taken_by pass (phase_at d b)) (after_register d b o) d (go o) alone where
  go : (o : Option ℕ) → WorksAlone pass (after_register d b o)
  go None = set_alone pass d b phase.Registered (d.registered ++ b ∷ []) (λ by e. absurd (cc)) alone
  go (Some i) = alone
stays_alone d pass (event.GiveBack b) is alone = either (WorksAlone pass) (is_taken_by pass (phase_at d b)) (after_give_back d b) d (set_alone pass d b phase.Sealed d.registered (λ by e. absurd (cc)) alone) alone
stays_alone d pass (event.Submit client n) is alone = absurd (cc)
stays_alone d pass (event.Ask client fact) is alone = absurd (cc)
stays_alone d pass (event.Status client number) is alone = absurd (cc)
stays_alone d pass event.Close is alone = absurd (cc)

-- ---- one event

pub one_event : (old new : DeskRecord) (pass : ℕ) (e : Event) (r : Reply) → is_work e ≡ true → is_of_holder r ≡ true → IsTurn old new pass e no_pie r → Works pass (Are (entry_of pass e no_pie r ∷ [])) old new
one_event old new pass e r is held turn = record {
  more = entry_of pass e no_pie r ∷ [];
  journal = turn.journal;
  works = All-cons (IsWorkOf pass) (entry_of pass e no_pie r) [] (record { own = refl; kind = is; held = held }) (All-nil (IsWorkOf pass));
  ends = refl;
  jobs = ap (λ (d : PlainDesk). d.jobs) turn.becomes ∙ jobs_stay (plain_of old) pass e is;
  clients = turn.clients;
  closed = ap (λ (d : PlainDesk). d.closed) turn.becomes ∙ flag_stays (plain_of old) pass e is;
  alone = λ h. subst (WorksAlone pass) (sym turn.becomes) (stays_alone (plain_of old) pass e is h);
}
