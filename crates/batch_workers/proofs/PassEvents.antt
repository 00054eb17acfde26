-- What each turn of a worker's pass leaves: its entries, the batch in hand, and what it has seen of that batch.
use Rattle.std.proofs.Common.{◌≡◌, ◌≢◌, ℕ, ◌==◌, Bool, true, false, cond, List, [], ◌∷◌, ◌++◌, map, refl, sym, ap, ◌∙◌, subst}
use Rattle.std.specs.Prelude.{All, Option}
use Rattle.std.proofs.lemmas.Bool.{eqb-true, eq-eqb}
use Rattle.std.proofs.lemmas.List.{append-nil, append_assoc, map-append}
use Rattle.std.proofs.lemmas.List.Elements.{All-append, All-cons, All-nil}
use Rattle.cairo_model.specs.Pie.Records.{PieRecord}
use Rattle.desk_core.specs.DeskRecords.{DeskRecord, journal_of}
use Rattle.desk_core.specs.Hands.{entries_of_pass, in_hand, in_hand_after}
use Rattle.desk_core.specs.Journals.{no_pie}
use Rattle.desk_core.specs.Stays.{Holds, desk_seen, pies_at}
use Rattle.desk_core.specs.Turns.{IsTurn, entry_of, turned}
use Rattle.desk_core.specs.declared.entry.FullEntry.{FullEntry}
use Rattle.desk_core.specs.declared.event.Event.{Event}
use Rattle.desk_core.specs.declared.event.Event.TheVariants as event
use Rattle.desk_core.specs.declared.reply.Reply.{Reply}
use Rattle.desk_core.specs.declared.reply.Reply.TheVariants as reply
use Rattle.desk_core.proofs.StaysLemmas.{holds_on_law}
use Rattle.session_desk.specs.PassTurns.{PassTurn}
use Rattle.session_desk.specs.SeenDesks.{IsIdlePass, seen_desk}
use Rattle.session_desk.specs.Sessions.{HasOneMore, notes_in, own_entry, with_pass}
use Rattle.session_desk.proofs.Knowing.{begins, own, saw}
use Rattle.turn_lock.specs.Passes.{Token}
use Rattle.batch_workers.specs.SharedWorks.{PassWorks}
use Rattle.batch_workers.specs.Working.Rounds.{Are}
use Rattle.batch_workers.specs.Working.SharedRounds.{HasBatch, SamePies}
use Rattle.batch_workers.specs.Works.{EndBusy, IsWorkOf, ends_idle, is_of_holder, is_work}

-- ---- entries, one turn after another

pub works_then : (a b c : Token FullEntry) (E F G : List FullEntry → Type 0) → ((xs ys : List FullEntry) → E xs → F ys → G (xs ++ ys)) → PassWorks E a b → PassWorks F b c → PassWorks G a c
works_then a b c E F G both x y = record {
  lock = y.lock ∙ x.lock;
  number = y.number ∙ x.number;
  width = y.width ∙ x.width;
  more = x.more ++ y.more;
  mine = y.mine
      ∙ (ap (λ (m : List (ℕ × FullEntry)). m ++ map with_pass y.more) x.mine
      ∙ (append_assoc a.mine (map with_pass x.more) (map with_pass y.more) ∙ ap (λ (m : List (ℕ × FullEntry)). a.mine ++ m) (sym (map-append with_pass x.more y.more))));
  works = All-append (IsWorkOf a.number) x.more y.more x.works (subst (λ (n : ℕ). All (IsWorkOf n) y.more) x.number y.works);
  ends = both x.more y.more x.ends y.ends;
}

-- the same by what is known of the entries' end
pub works_by : (a b : Token FullEntry) (E F : List FullEntry → Type 0) → ((es : List FullEntry) → E es → F es) → PassWorks E a b → PassWorks F a b
works_by a b E F to x = record {
  lock = x.lock;
  number = x.number;
  width = x.width;
  more = x.more;
  mine = x.mine;
  works = x.works;
  ends = to x.more x.ends;
}

-- the pass is the same, and has no entry more
pub no_more : (p : Token FullEntry) → PassWorks EndBusy p p
no_more p = record {
  lock = refl;
  number = refl;
  width = refl;
  more = [];
  mine = sym (append-nil p.mine);
  works = All-nil (IsWorkOf p.number);
  ends = refl;
}

-- ---- which batches are in hand

in_hand_on : (b : ℕ) (had : Bool) (xs ys : List FullEntry) → in_hand b had (xs ++ ys) ≡ in_hand b (in_hand b had xs) ys
in_hand_on b had [] ys = refl
in_hand_on b had (x ∷ xs) ys = in_hand_on b (in_hand_after b had x.entry.event x.entry.reply) xs ys

-- by the number and the entries of a pass
module _ (old new : Token FullEntry) (e : Event) (pie : PieRecord) (r : Reply) (one : HasOneMore e pie old new r) where
  pub hand_step : (k : ℕ) → in_hand k false (notes_in new.mine) ≡ in_hand_after k (in_hand k false (notes_in old.mine)) e r
  hand_step k =
      ap (λ (m : List (ℕ × FullEntry)). in_hand k false (notes_in m)) one
      ∙ (ap (in_hand k false) (map-append (λ (x : ℕ × FullEntry). x.1) old.mine (own_entry old.number e pie r ∷ [])) ∙ in_hand_on k false (notes_in old.mine) (entry_of old.number e pie r ∷ []))

pub idle_none : (old new : Token FullEntry) → HasOneMore event.Take no_pie old new reply.NothingSealed → IsIdlePass old → IsIdlePass new
idle_none old new one idle k = hand_step old new event.Take no_pie reply.NothingSealed one k ∙ idle k

pub idle_sealed : (old new : Token FullEntry) (r : Reply) → HasOneMore event.Seal no_pie old new r → IsIdlePass old → IsIdlePass new
idle_sealed old new r one idle k = hand_step old new event.Seal no_pie r one k ∙ idle k

-- after a taking this batch alone is in hand
pub alone_taken : (old new : Token FullEntry) (b : ℕ) → HasOneMore event.Take no_pie old new (reply.TakenBatch b) → IsIdlePass old → (k : ℕ) → k ≢ b → in_hand k false (notes_in new.mine) ≡ false
alone_taken old new b one idle k ne = hand_step old new event.Take no_pie (reply.TakenBatch b) one k ∙ go (b == k) refl where
  go : (c : Bool) → (b == k) ≡ c → cond c true (in_hand k false (notes_in old.mine)) ≡ false
  go true same = absurd (ne (sym (eqb-true b k same)))
  go false same = idle k

-- the batch alone was in hand, and isn't any more
ended : (old : Token FullEntry) (b k : ℕ) → HasBatch old b → (c : Bool) → (b == k) ≡ c → cond c false (in_hand k false (notes_in old.mine)) ≡ false
ended old b k h true same = refl
ended old b k h false same = h.alone k (λ e. absurd (let t : true ≡ false = sym (eq-eqb b k (sym e)) ∙ same in cc))

pub idle_registered : (old new : Token FullEntry) (b : ℕ) (o : Option ℕ) → HasOneMore (event.Register b o) no_pie old new reply.Registered → HasBatch old b → IsIdlePass new
idle_registered old new b o one h k = hand_step old new (event.Register b o) no_pie reply.Registered one k ∙ ended old b k h (b == k) refl

pub idle_returned : (old new : Token FullEntry) (b : ℕ) → HasOneMore (event.GiveBack b) no_pie old new reply.Returned → HasBatch old b → IsIdlePass new
idle_returned old new b one h k = hand_step old new (event.GiveBack b) no_pie reply.Returned one k ∙ ended old b k h (b == k) refl

-- ---- a turn

module _ (old new : Token FullEntry) (before after : DeskRecord) (t : PassTurn old new before after) where
  -- one entry more, of a worker's kinds
  pub one_done : (e : Event) (r : Reply) → is_work e ≡ true → is_of_holder r ≡ true → HasOneMore e no_pie old new r → PassWorks (Are (entry_of old.number e no_pie r ∷ [])) old new
  one_done e r is holds one = record {
    lock = t.same.0;
    number = t.same.1;
    width = t.same.2;
    more = entry_of old.number e no_pie r ∷ [];
    mine = one;
    works = All-cons (IsWorkOf old.number) (entry_of old.number e no_pie r) [] (record { own = refl; kind = is; held = holds }) (All-nil (IsWorkOf old.number));
    ends = refl;
  }

  -- one that isn't that no job waits
  pub one_busy : (e : Event) (r : Reply) → is_work e ≡ true → is_of_holder r ≡ true → ends_idle (entry_of old.number e no_pie r ∷ []) ≡ false → HasOneMore e no_pie old new r → PassWorks EndBusy old new
  one_busy e r is holds busy one = works_by old new (Are (entry_of old.number e no_pie r ∷ [])) EndBusy (λ es p. subst EndBusy (sym p) busy) (one_done e r is holds one)

  -- memory was wanted
  pub none_done : new.mine ≡ old.mine → PassWorks EndBusy old new
  none_done is = record {
    lock = t.same.0;
    number = t.same.1;
    width = t.same.2;
    more = [];
    mine = is ∙ sym (append-nil old.mine);
    works = All-nil (IsWorkOf old.number);
    ends = refl;
  }

  -- ---- the batch in hand

  -- what the pass holds, it holds at this turn
  pub held : (b : ℕ) → HasBatch old b → Holds before.clients (journal_of before) (entries_of_pass old.number (journal_of before)) b (pies_at (seen_desk old) b)
  held b h =
      subst (λ (mine : List FullEntry). Holds before.clients (journal_of before) mine b (pies_at (seen_desk old) b)) (sym (own old new before after t))
      (subst (λ (j : List FullEntry). Holds before.clients j (notes_in old.mine) b (pies_at (seen_desk old) b)) (sym (begins old new before after t))
      (subst (λ (n : ℕ). Holds n (notes_in old.seen ++ notes_in t.has_seen.0) (notes_in old.mine) b (pies_at (seen_desk old) b)) (sym t.width_is)
      (holds_on_law old.width (notes_in old.seen) (notes_in old.mine) (notes_in t.has_seen.0) b (pies_at (seen_desk old) b) (record { has = h.has; there = h.there; are = refl }))))

  pub has_own : (b : ℕ) → HasBatch old b → in_hand b false (entries_of_pass old.number (journal_of before)) ≡ true
  has_own b h = ap (in_hand b false) (own old new before after t) ∙ h.has

  -- and its PIEs are those that it had
  pub stays : (rest : List FullEntry) → journal_of after ≡ journal_of before ++ rest → (b : ℕ) → HasBatch old b → Holds new.width (notes_in new.seen) (notes_in old.mine) b (pies_at (seen_desk old) b)
  stays rest more b h =
      subst (λ (n : ℕ). Holds n (notes_in new.seen) (notes_in old.mine) b (pies_at (seen_desk old) b)) (sym t.same.2)
      (subst (λ (j : List FullEntry). Holds old.width j (notes_in old.mine) b (pies_at (seen_desk old) b))
      (sym (saw old new before after t ∙ (more ∙ (ap (λ (j : List FullEntry). j ++ rest) (begins old new before after t) ∙ append_assoc (notes_in old.seen) (notes_in t.has_seen.0) rest))))
      (holds_on_law old.width (notes_in old.seen) (notes_in old.mine) (notes_in t.has_seen.0 ++ rest) b (pies_at (seen_desk old) b) (record { has = h.has; there = h.there; are = refl })))

  -- also where memory was wanted
  pub still_has : after ≡ turned before → (b : ℕ) → new.mine ≡ old.mine → HasBatch old b → HasBatch new b × SamePies b old new
  still_has is b mine h =
      let x = stays [] (ap journal_of is ∙ sym (append-nil (journal_of before))) b h in (
        record {
          has = ap (λ (m : List (ℕ × FullEntry)). in_hand b false (notes_in m)) mine ∙ h.has;
          alone = λ k ne. ap (λ (m : List (ℕ × FullEntry)). in_hand k false (notes_in m)) mine ∙ h.alone k ne;
          there = x.there;
        },
        x.are,
      )

  -- what was seen is the journal with the entry of the turn
  pub seen_is : (e : Event) (r : Reply) → IsTurn before after old.number e no_pie r → seen_desk new ≡ desk_seen before.clients (journal_of before ++ entry_of old.number e no_pie r ∷ [])
  seen_is e r turn = ap (λ (n : ℕ). desk_seen n (notes_in new.seen)) (t.same.2 ∙ sym t.width_is) ∙ ap (desk_seen before.clients) (saw old new before after t ∙ turn.journal)
