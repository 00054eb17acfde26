-- A journal in which the clients' lines were done before another pass closed the desk.
use Rattle.std.proofs.Common.{◌≡◌, ℕ, ◌<◌, ◌≤◌, ◌==◌, Bool, true, false, cond, List, [], ◌∷◌, ◌++◌, slice_index_or, refl, sym, ap, ◌∙◌, subst, arith, append_assoc}
use Rattle.std.specs.List.{AllZip, cons_option}
use Rattle.std.specs.Prelude.{All, Option, Some, None, filter}
use Rattle.std.proofs.lemmas.Bool.{ne_eqb}
use Rattle.std.proofs.lemmas.List.{append-nil}
use Rattle.std.proofs.lemmas.List.Elements.{All-append, All-cons, All-head, All-same, All-tail, All-weaker, filter-append}
use Rattle.batch_workers.specs.Works.{IsWorkOf}
use Rattle.desk_core.proofs.Turns.{journal_isolated}
use Rattle.desk_core.specs.DeskRecords.{DeskRecord, journal_of}
use Rattle.desk_core.specs.GoodDesks.{IsGoodDesk}
use Rattle.desk_core.specs.Isolation.{offered_by}
use Rattle.desk_core.specs.Journals.{no_pie}
use Rattle.desk_core.specs.Turns.{entry_of}
use Rattle.desk_core.specs.declared.entry.FullEntry.{FullEntry}
use Rattle.desk_core.specs.declared.event.Event.{Event}
use Rattle.desk_core.specs.declared.event.Event.TheVariants as event
use Rattle.desk_core.specs.declared.event.OfferNote.{OfferNote}
use Rattle.desk_core.specs.declared.reply.Reply.TheVariants as reply
use Rattle.desk_script.specs.Lines.{ScriptLine, asks, asks_status, settles, submits}
use Rattle.desk_script.specs.OwnLines.{AreOwnLines, IsNoteOfFile, handed_file, handed_files, submit_lines}
use Rattle.script_runner.specs.Lines.{DoesLines, IsEntryOf, client_lines, entries_under, is_request_line, line_client, requests_in}
use Rattle.script_runner.specs.Serving.{RepliesByItself, ServesLines}
use Rattle.script_runner.proofs.LineEntries.{IsNoRequest, IsUnder, exactly_requests, if_false, under_other, works_request_none}
use Rattle.script_runner.proofs.OwnReplies.{IsOwnEvent, OwnOf, replies_by_itself, works_own}
use Rattle.script_runner.proofs.OwnTexts.{OffersNone, files_noted, noted, texts_by_itself}
use Rattle.script_runner.proofs.ServedLines.{IsRequestBelow}
use Rattle.script_server.proofs.PassLists.{none_has}

-- ---- a client's part

offers_no_other : (c : ℕ) (what : Event) → IsOwnEvent c false what → offered_by c what ≡ None
offers_no_other c (event.Submit client n) own = if_false (client == c) (Some n) None own
offers_no_other c event.Seal own = refl
offers_no_other c event.Take own = refl
offers_no_other c (event.Register k differs) own = refl
offers_no_other c (event.GiveBack k) own = refl
offers_no_other c (event.Ask client fact) own = refl
offers_no_other c (event.Status client number) own = refl
offers_no_other c event.Close own = refl

-- a client whose pass made none of the entries offers nothing in them
offers_none : (c : ℕ) (es : List FullEntry) → All (OwnOf c) es → entries_under c es ≡ [] → All (OffersNone c) es
offers_none c es own none =
    λ k d small. offers_no_other c (slice_index_or es k d).entry.event (subst (λ (b : Bool). IsOwnEvent c b (slice_index_or es k d).entry.event) (none_has c es none k d small) (own k d small))

noted_one : (c : ℕ) (b : Bool) (e : FullEntry) (es own_es : List FullEntry) → IsOwnEvent c b e.entry.event → noted c es ≡ noted c own_es → noted c (e ∷ es) ≡ noted c (cond b (e ∷ own_es) own_es)
noted_one c true e es own_es own same = ap (cons_option (offered_by c e.entry.event)) same
noted_one c false e es own_es own same = ap (λ (o : Option OfferNote). cons_option o (noted c es)) (offers_no_other c e.entry.event own) ∙ same

-- what it offers it does by its own entries
noted_under : (c : ℕ) (es : List FullEntry) → All (OwnOf c) es → noted c es ≡ noted c (entries_under c es)
noted_under c [] own = refl
noted_under c (e ∷ es) own = noted_one c (e.entry.pass == c) e es (entries_under c es) (All-head (OwnOf c) e es own) (noted_under c es (All-tail (OwnOf c) e es own))

no_file : (c : ℕ) (l : ScriptLine) → (line_client l == c) ≡ false → handed_file c l ≡ None
no_file c (submits client bytes) other = if_false (client == c) (Some bytes) None other
no_file c (asks client fact) other = refl
no_file c (asks_status client number) other = refl
no_file c (settles client) other = refl

handed_one : (c : ℕ) (b : Bool) (l : ScriptLine) (ls own_ls : List ScriptLine) → (line_client l == c) ≡ b → handed_files c ls ≡ handed_files c own_ls → handed_files c (l ∷ ls) ≡ handed_files c (cond b (l ∷ own_ls) own_ls)
handed_one c true l ls own_ls is same = ap (cons_option (handed_file c l)) same
handed_one c false l ls own_ls is same = ap (λ (o : Option (List ℕ)). cons_option o (handed_files c ls)) (no_file c l is) ∙ same

-- and hands in by its own lines
handed_by_own : (c : ℕ) (ls : List ScriptLine) → handed_files c ls ≡ handed_files c (client_lines c ls)
handed_by_own c [] = refl
handed_by_own c (l ∷ ls) = handed_one c (line_client l == c) l ls (client_lines c ls) refl (handed_by_own c ls)

-- ---- the journal

abbrev pub close_entry : ℕ → FullEntry
close_entry closer = entry_of closer event.Close no_pie reply.Closed

-- All clients' entries stand before the close, and each client's are those of its lines. Nobody else asks for anything.
pub record ClosedJournal (clients closer : ℕ) (lines : List ScriptLine) (journal : List FullEntry) : Type 0 where
  pub front : List FullEntry
  pub back : List FullEntry
  pub are : journal ≡ front ++ close_entry closer ∷ back
  pub does : (c : ℕ) → c < clients → DoesLines (client_lines c lines) (entries_under c front)
  pub none : (c : ℕ) → c < clients → entries_under c back ≡ []
  pub own_front : (c : ℕ) → All (OwnOf c) front
  pub own_back : (c : ℕ) → All (OwnOf c) back
  pub below_front : All (IsRequestBelow clients) front
  pub below_back : All (IsRequestBelow clients) back

pub asks_none : (clients : ℕ) (e : FullEntry) → IsNoRequest e → IsRequestBelow clients e
asks_none clients e quiet requested = absurd (let t : true ≡ false = sym requested ∙ quiet in cc)

module _ (clients closer : ℕ) (lines : List ScriptLine) (apart : clients ≤ closer) where
  -- the pass that closed the desk may work on
  pub works_on : (journal more : List FullEntry) → ClosedJournal clients closer lines journal → All (IsWorkOf closer) more → ClosedJournal clients closer lines (journal ++ more)
  works_on journal more j works = record {
    front = j.front;
    back = j.back ++ more;
    are = ap (λ (es : List FullEntry). es ++ more) j.are ∙ append_assoc j.front (close_entry closer ∷ j.back) more;
    does = j.does;
    none = λ c small. filter-append (λ (e : FullEntry). e.entry.pass == c) j.back more
        ∙ (ap (λ (es : List FullEntry). es ++ entries_under c more) (j.none c small)
        ∙ under_other c closer more (λ same. omega (arith, small, same, apart)) (All-weaker (IsWorkOf closer) (IsUnder closer) (λ e w. w.own) more works));
    own_front = j.own_front;
    own_back = λ c. All-append (OwnOf c) j.back more (j.own_back c) (works_own c closer more works);
    below_front = j.below_front;
    below_back = All-append (IsRequestBelow clients) j.back more j.below_back (All-weaker IsNoRequest (IsRequestBelow clients) (asks_none clients) more (works_request_none closer more works));
  }

  module _ (journal : List FullEntry) (j : ClosedJournal clients closer lines journal) where
    client_part : (c : ℕ) → c < clients → entries_under c journal ≡ entries_under c j.front
    client_part c small =
        let closing : entries_under c (close_entry closer ∷ j.back) ≡ [] =
        if_false (closer == c) (close_entry closer ∷ entries_under c j.back) (entries_under c j.back) (ne_eqb closer c (λ same. omega (arith, small, same, apart))) ∙ j.none c small in
        ap (entries_under c) j.are
        ∙ (filter-append (λ (e : FullEntry). e.entry.pass == c) j.front (close_entry closer ∷ j.back) ∙ (ap (λ (es : List FullEntry). entries_under c j.front ++ es) closing ∙ append-nil (entries_under c j.front)))

    pub closed_serves : ServesLines clients lines journal
    closed_serves = record {
      each = λ c small. subst (DoesLines (client_lines c lines)) (sym (client_part c small)) (j.does c small);
      exactly = λ c small. subst (λ (es : List FullEntry). AllZip IsEntryOf (filter is_request_line (client_lines c lines)) (requests_in es)) (sym (client_part c small))
          (exactly_requests (client_lines c lines) (entries_under c j.front) (j.does c small));
      others = All-same (IsRequestBelow clients) journal (j.front ++ close_entry closer ∷ j.back) j.are
          (All-append (IsRequestBelow clients) j.front (close_entry closer ∷ j.back) j.below_front
          (All-cons (IsRequestBelow clients) (close_entry closer) j.back (asks_none clients (close_entry closer) refl) j.below_back));
    }

  pub closed_replies : (d : DeskRecord) → IsGoodDesk d → ClosedJournal clients closer lines (journal_of d) → (c : ℕ) → c < clients → RepliesByItself (client_lines c lines) (entries_under c (journal_of d))
  closed_replies d good j c small =
      replies_by_itself c (client_lines c lines) j.front j.back (journal_of d) (close_entry closer) j.are refl (journal_isolated d good) (j.own_front c) (j.does c small) (client_part (journal_of d) j c small)

  pub closed_texts : (d : DeskRecord) → IsGoodDesk d → ClosedJournal clients closer lines (journal_of d) → (c : ℕ) → c < clients → AreOwnLines c lines (submit_lines c d.entries)
  closed_texts d good j c small =
      let files : AllZip IsNoteOfFile (handed_files c lines) (noted c j.front) =
      subst (λ (fs : List (List ℕ)). AllZip IsNoteOfFile fs (noted c j.front)) (sym (handed_by_own c lines))
      (subst (AllZip IsNoteOfFile (handed_files c (client_lines c lines))) (sym (noted_under c j.front (j.own_front c))) (files_noted c (client_lines c lines) (entries_under c j.front) (j.does c small))) in
      texts_by_itself c lines j.front j.back d (close_entry closer) j.are refl good (j.own_front c) (offers_none c j.back (j.own_back c) (j.none c small)) files
