-- A turn keeps a desk good.
use Rattle.std.proofs.Common.{◌≡◌, ℕ, ◌≤◌, Bool, true, false, cond, List, [], ◌∷◌, ◌++◌, length, map, refl, sym, ap, ◌∙◌, subst, arith}
use Rattle.std.specs.Prelude.{All, Some, None, unwrap_or}
use Rattle.std.proofs.lemmas.List.{length-map}
use Rattle.cairo_model.specs.Pie.Records.{PieRecord}
use Rattle.desk_core.specs.DeskRecords.{DeskRecord, admitted_in, journal_of, plain_job, plain_of}
use Rattle.desk_core.specs.GoodDesks.{IsAcceptedJob, IsGoodDesk, KeepsCert}
use Rattle.desk_core.specs.Working.Steps.{most_jobs}
use Rattle.desk_core.specs.Turns.{IsTurn, JournalIsIsolated, entry_of}
use Rattle.desk_core.specs.Desks.{PlainDesk, PlainJob}
use Rattle.batch_plan.specs.Cuts.{IsPieShape}
use Rattle.cairo_model.specs.Pie.Shapes.{shape_of}
use Rattle.desk_core.specs.SoundDesks.{AreSmall, IsSound}
use Rattle.desk_core.specs.Journals.{IsLegal, Follows, NamesClient, HasItsPie, move_of, after_move, no_pie}
use Rattle.desk_core.specs.Quotas.{is_admitted}
use Rattle.desk_core.specs.RegisteredFacts.{registry_of}
use Rattle.desk_core.specs.Next.{reply_to, after_event, submit_reply}
use Rattle.desk_core.specs.declared.entry.FullEntry.{FullEntry}
use Rattle.desk_core.specs.declared.event.Event.{Event}
use Rattle.desk_core.specs.declared.event.Event.TheVariants as event
use Rattle.desk_core.specs.declared.job.Job.{Job}
use Rattle.desk_core.specs.declared.reply.Reply.{Reply}
use Rattle.desk_core.proofs.Counting.{few_jobs}
use Rattle.desk_core.proofs.FactLemmas.{small_is}
use Rattle.desk_core.proofs.IsolationLemmas.{journals_are_isolated}
use Rattle.desk_core.proofs.LegalLemmas.{legal_is_kept}
use Rattle.desk_core.proofs.SoundSteps.{sound_is_kept}
use Rattle.std.proofs.lemmas.List.Elements.{All-cons, All-head, All-tail, All-nil}

pub all_small : (jobs : List Job) → All IsAcceptedJob jobs → AreSmall (map plain_job jobs)
all_small [] all = All-nil (λ (j : PlainJob). IsPieShape (shape_of j.pie))
all_small (j ∷ jobs) all =
    let h = All-head IsAcceptedJob j jobs all in
    All-cons (λ (x : PlainJob). IsPieShape (shape_of x.pie)) (plain_job j) (map plain_job jobs) (small_is j.checked.pie j.checked.fact j.checked.states h) (all_small jobs (All-tail IsAcceptedJob j jobs all))

pub jobs_few : (d : DeskRecord) → IsGoodDesk d → length d.jobs ≤ most_jobs
jobs_few d g = omega (arith, few_jobs (plain_of d) g.sound g.legal.few_clients, length-map d.jobs plain_job)

-- where none is admitted, the PIE that goes with the event says nothing
unused : (b : Bool) (x y d : PlainDesk) → b ≡ false → cond b x d ≡ cond b y d
unused true x y d e = absurd (cc)
unused false x y d e = refl

same_after : (d : PlainDesk) (pass : ℕ) (e : Event) (p q : PieRecord) → is_admitted (reply_to d pass e) ≡ false → after_event d pass e p ≡ after_event d pass e q
unfolding reply_to after_event
same_after d pass (event.Submit client n) p q not_in = unused (is_admitted (submit_reply d client n)) _ _ d not_in
same_after d pass event.Seal p q not_in = refl
same_after d pass event.Take p q not_in = refl
same_after d pass (event.Register b differs) p q not_in = refl
same_after d pass (event.GiveBack b) p q not_in = refl
same_after d pass (event.Ask client fact) p q not_in = refl
same_after d pass (event.Status client number) p q not_in = refl
same_after d pass event.Close p q not_in = refl

after_full : (d : PlainDesk) (pass : ℕ) (e : Event) (pie : PieRecord) (r : Reply) (b : Bool) → r ≡ reply_to d pass e → is_admitted r ≡ b
    → after_event d pass e (unwrap_or (cond b (Some pie) None) no_pie) ≡ after_event d pass e pie
after_full d pass e pie r true by is = refl
after_full d pass e pie r false by is = same_after d pass e no_pie pie (ap is_admitted (sym by) ∙ is)

module _ (old new : DeskRecord) (good : IsGoodDesk old) (pass : ℕ) (e : Event) (pie : PieRecord) (r : Reply) (turn : IsTurn old new pass e pie r) (names : NamesClient old.clients e)
    (has : HasItsPie (is_admitted r) (cond (is_admitted r) (Some pie) None) e) where
  follows : Follows (plain_of old) (entry_of pass e pie r)
  follows = record { replies = turn.replies; names = names; has_pie = has }

  becomes : after_move (plain_of old) (move_of (entry_of pass e pie r)) ≡ plain_of new
  becomes = after_full (plain_of old) pass e pie r (is_admitted r) turn.replies refl ∙ sym turn.becomes

  pub good_after : All IsAcceptedJob new.jobs → All (KeepsCert new.jobs) new.batches → new.registry ≡ registry_of (plain_of new) → admitted_in new.entries ≡ length new.jobs → IsGoodDesk new
  good_after accepted certs registry counts = record {
    accepted = accepted;
    sound = subst IsSound becomes (sound_is_kept (plain_of old) (entry_of pass e pie r) good.sound (all_small old.jobs good.accepted) follows);
    certs = certs;
    registry = registry;
    legal = subst (λ (j : List FullEntry). IsLegal j (plain_of new)) (sym turn.journal)
        (subst (λ (d : PlainDesk). IsLegal (journal_of old ++ entry_of pass e pie r ∷ []) d) becomes (legal_is_kept (journal_of old) (plain_of old) (entry_of pass e pie r) good.legal follows));
    counts = counts;
  }

-- of the desk as it is seen
pub turn_of : (d v new : DeskRecord) (pass : ℕ) (e : Event) (pie : PieRecord) (r : Reply) → d ≡ v → IsTurn d new pass e pie r → IsTurn v new pass e pie r
turn_of d v new pass e pie r same turn = subst (λ (x : DeskRecord). IsTurn x new pass e pie r) same turn

pub journal_isolated : (d : DeskRecord) → IsGoodDesk d → JournalIsIsolated d
journal_isolated d good = journals_are_isolated (journal_of d) (plain_of d) good.legal
