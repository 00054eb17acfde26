-- A fact that a pass has seen registered is shown at every later turn, and so a question for it is answered Yes.
use Rattle.std.proofs.Common.{◌≡◌, ℕ, Bool, true, cond, List, [], ◌∷◌, ◌++◌, map, refl, sym, ap, ◌∙◌, subst, inl, inr, arith}
use Rattle.std.specs.Prelude.{Result, Ok, Err, IfOk}
use Rattle.std.specs.declared.alloc.AllocError.{AllocError}
use Rattle.std.specs.List.{list_any}
use Rattle.cairo_model.specs.Pie.Acceptance.{FactRecord}
use Rattle.cairo_model.specs.Pie.FactOrder.{same_fact}
use Rattle.desk_core.specs.DeskRecords.{DeskRecord, plain_of}
use Rattle.desk_core.specs.Desks.{PlainDesk, empty_desk, shown_facts}
use Rattle.desk_core.specs.Journals.{AllFollow, IsLegal, Move, after_move, move_of, no_pie, played}
use Rattle.desk_core.specs.Next.{reply_to}
use Rattle.desk_core.specs.RegisteredFacts.{IsShown}
use Rattle.desk_core.specs.SoundDesks.{IsSound}
use Rattle.desk_core.specs.Stays.{ContinuesTo, desk_seen}
use Rattle.desk_core.specs.Turns.{IsTurn}
use Rattle.desk_core.specs.declared.entry.FullEntry.{FullEntry}
use Rattle.desk_core.specs.declared.event.Event.TheVariants as event
use Rattle.desk_core.specs.declared.reply.Reply.{Reply}
use Rattle.desk_core.specs.declared.reply.Reply.TheVariants as reply
use Rattle.desk_core.proofs.LegalLemmas.{same_clients}
use Rattle.desk_core.proofs.RegistryLemmas.{registry_law}
use Rattle.desk_core.proofs.StaysLemmas.{shown_stays_law}
use Rattle.fact_registry.proofs.FactLists.{there_is_found, was_or_came}
use Rattle.session_desk.specs.PassTurns.{EventTurn, PassTurn}
use Rattle.session_desk.specs.SeenDesks.{HasSeenFact, seen_desk}
use Rattle.session_desk.specs.Sessions.{notes_in}
use Rattle.session_desk.proofs.Knowing.{begins}
use Rattle.turn_lock.specs.Passes.{Token}

-- ---- the beginning of a legal journal is legal

kept_clients : (d : PlainDesk) (ms : List Move) → (played d ms).clients ≡ d.clients
kept_clients d [] = refl
kept_clients d (m ∷ ms) = kept_clients (after_move d m) ms ∙ same_clients d m.pass m.event m.pie

front_follows : (d : PlainDesk) (xs ys : List FullEntry) → AllFollow d (xs ++ ys) → AllFollow d xs
front_follows d [] ys all = tt
front_follows d (x ∷ xs) ys all = (all.0, front_follows (after_move d (move_of x)) xs ys all.1)

pub begins_legal : (clients : ℕ) (journal rest : List FullEntry) (d : PlainDesk) → d.clients ≡ clients → IsLegal (journal ++ rest) d → IsLegal journal (desk_seen clients journal)
begins_legal clients journal rest d size legal =
    let same : (desk_seen clients journal).clients ≡ clients = kept_clients (empty_desk clients) (map move_of journal) in
    record {
      some_clients = omega (arith, legal.some_clients, size, same);
      few_clients = omega (arith, legal.few_clients, size, same);
      follow = subst (λ (n : ℕ). AllFollow (empty_desk n) journal) (size ∙ sym same) (front_follows (empty_desk d.clients) journal rest legal.follow);
      ends = ap (λ (n : ℕ). played (empty_desk n) (map move_of journal)) same;
    }

-- ---- what is shown is found

shown_is_found : (d : PlainDesk) (fact : FactRecord) → IsSound d → IsShown d fact → list_any (same_fact fact) (shown_facts d) ≡ true
shown_is_found d fact sound shown = elim (was_or_came [] (shown_facts d) fact ((registry_law d sound fact).1 shown)) [
  | inl none ↦ absurd (omega (arith, none.1))
  | inr came ↦ there_is_found (shown_facts d) fact came
]

says_yes : (d : PlainDesk) (pass client : ℕ) (fact : FactRecord) → list_any (same_fact fact) (shown_facts d) ≡ true → reply_to d pass (event.Ask client fact) ≡ reply.Yes
unfolding reply_to
says_yes d pass client fact found = ap (λ (t : Bool). cond t reply.Yes reply.No) found

module _ (old new : Token FullEntry) (before after : DeskRecord) (t : PassTurn old new before after) where
  goes_on : ContinuesTo (notes_in old.seen) (notes_in t.has_seen.0) (seen_desk old) (plain_of before)
  goes_on =
      let legal = subst (λ (es : List FullEntry). IsLegal es (plain_of before)) (begins old new before after t) t.good_before.legal in
      record {
        before = begins_legal old.width (notes_in old.seen) (notes_in t.has_seen.0) (plain_of before) t.width_is legal;
        after = legal;
        clients = t.width_is ∙ sym (kept_clients (empty_desk old.width) (map move_of (notes_in old.seen)));
      }

  pub seen_is_yes : (client : ℕ) (fact : FactRecord) (r : Reply) → IsTurn before after old.number (event.Ask client fact) no_pie r → HasSeenFact fact old → r ≡ reply.Yes
  seen_is_yes client fact r turn seen =
      turn.replies
      ∙ says_yes (plain_of before) old.number client fact
      (shown_is_found (plain_of before) fact t.good_before.sound (shown_stays_law (notes_in old.seen) (notes_in t.has_seen.0) (seen_desk old) (plain_of before) goes_on fact seen))

pub asked_seen : (client : ℕ) (fact : FactRecord) (old new : Token FullEntry) (answer : Result Reply AllocError) → EventTurn (event.Ask client fact) no_pie old new answer → IfOk answer (λ r. HasSeenFact fact old → r ≡ reply.Yes)
asked_seen client fact old new (Ok r) t = λ seen. seen_is_yes old new t.before t.after t.turn client fact r t.done seen
asked_seen client fact old new (Err e) t = tt
