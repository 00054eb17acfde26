-- Turns in which no PIE is admitted.
use Rattle.std.proofs.Common.{◌≡◌, ℕ, ◌+◌, ◌%◌, ◌^◌, Bool, true, false, cond, List, [], ◌∷◌, ◌++◌, length, refl, sym, ap, ◌∙◌, arith}
use Rattle.std.specs.Prelude.{All, Option, Some, None}
use Rattle.cairo_model.specs.Pie.Acceptance.{FactRecord}
use Rattle.cairo_model.specs.Pie.Records.{PieRecord}
use Rattle.desk_core.specs.DeskRecords.{DeskRecord, admitted_in, journal_of, pies_of, plain_of, registers_at}
use Rattle.desk_core.specs.GoodDesks.{IsGoodDesk, KeepsCert}
use Rattle.desk_core.specs.Turns.{CertsStay, IsTurn}
use Rattle.desk_core.specs.Journals.{NamesClient, HasItsPie, no_pie}
use Rattle.desk_core.specs.Quotas.{is_admitted}
use Rattle.desk_core.specs.RegisteredFacts.{registry_of}
use Rattle.desk_core.specs.Next.{reply_to, after_event}
use Rattle.desk_core.specs.declared.entry.Entry.{Entry}
use Rattle.desk_core.specs.declared.event.Event.{Event}
use Rattle.desk_core.specs.declared.batch.Batch.{Batch}
use Rattle.desk_core.specs.declared.reply.Reply.{Reply}
use Rattle.desk_core.proofs.Entries.{full_same, admitted_more}
use Rattle.desk_core.proofs.Turns.{good_after}

none_then : (b : Bool) (p : PieRecord) → b ≡ false → cond b (Some p) None ≡ None
none_then true p is = absurd (cc)
none_then false p is = refl

has_none : (b : Bool) (p : PieRecord) (e : Event) → b ≡ false → HasItsPie b (cond b (Some p) None) e
has_none true p e is = absurd (cc)
has_none false p e is = refl

-- the desk after the code's steps
abbrev pub quiet_desk : DeskRecord → ℕ → Event → Reply → List Batch → List FactRecord → Bool → DeskRecord
quiet_desk d pass e r batches registry closed = record d {
  batches = batches;
  registry = registry;
  closed = closed;
  entries = d.entries ++ record { pass = pass; event = e; reply = r } ∷ [];
  turns = (d.turns + 1) % 2 ^ 64;
}

pub record Quiet (d new : DeskRecord) (pass : ℕ) (e : Event) (r : Reply) : Type 0 where
  pub good : IsGoodDesk new
  pub turn : IsTurn d new pass e no_pie r

pub quiet : (d : DeskRecord) → IsGoodDesk d → (pass : ℕ) (e : Event) (r : Reply) (batches : List Batch) (registry : List FactRecord) (closed : Bool)
    → is_admitted r ≡ false → NamesClient d.clients e → r ≡ reply_to (plain_of d) pass e
    → plain_of (quiet_desk d pass e r batches registry closed) ≡ after_event (plain_of d) pass e no_pie
    → CertsStay d.batches batches (registers_at e r) → All (KeepsCert d.jobs) batches → registry ≡ registry_of (plain_of (quiet_desk d pass e r batches registry closed))
    → Quiet d (quiet_desk d pass e r batches registry closed) pass e r
quiet d g pass e r batches registry closed not_in names by becomes stay certs registry_is =
    let x : Entry = record { pass = pass; event = e; reply = r } in
    let turn : IsTurn d (quiet_desk d pass e r batches registry closed) pass e no_pie r = record {
      replies = by;
      becomes = becomes;
      journal = full_same d.entries x (pies_of d.jobs) not_in ∙ ap (λ (p : Option PieRecord). journal_of d ++ record { entry = x; pie = p } ∷ []) (sym (none_then (is_admitted r) no_pie not_in));
      turns = refl;
      clients = refl;
      certs = stay;
    } in
    let counts : admitted_in (d.entries ++ x ∷ []) ≡ length d.jobs = admitted_more d.entries x ∙ rw not_in (omega (arith, g.counts)) in
    record {
      good = good_after d (quiet_desk d pass e r batches registry closed) g pass e no_pie r turn names (has_none (is_admitted r) no_pie e not_in) g.accepted certs registry_is counts;
      turn = turn;
    }
