-- The journal of the desk that is taken out: its clients' lines were done before the caller's pass closed it.
use Rattle.std.proofs.Common.{◌≡◌, ℕ, ◌+◌, ◌<◌, ◌==◌, false, List, [], ◌∷◌, ◌++◌, map, refl, sym, ap, ◌∙◌, subst, arith, append_assoc}
use Rattle.std.specs.Prelude.{All}
use Rattle.std.proofs.lemmas.Bool.{eq-eqb, ne_eqb}
use Rattle.std.proofs.lemmas.List.{append-nil, append_cancel_left, map-append}
use Rattle.std.proofs.lemmas.List.Elements.{All-contains, All-tail, All-weaker, filter-append}
use Rattle.atomic_table.specs.Seated.{TableId}
use Rattle.batch_workers.specs.Works.{IsWorkOf}
use Rattle.desk_core.specs.DeskRecords.{DeskRecord, journal_of}
use Rattle.desk_core.specs.Journals.{no_pie}
use Rattle.desk_core.specs.declared.entry.FullEntry.{FullEntry}
use Rattle.desk_core.specs.declared.event.Event.TheVariants as event
use Rattle.desk_script.specs.Lines.{ScriptLine}
use Rattle.script_runner.specs.Lines.{DoesLines, client_lines, entries_under}
use Rattle.script_runner.proofs.LineEntries.{IsNoRequest, IsUnder, if_false, if_true, works_request_none}
use Rattle.script_runner.proofs.OwnReplies.{OwnOf, lines_own, works_own}
use Rattle.script_runner.proofs.ServedLines.{IsRequestBelow}
use Rattle.session_desk.proofs.Knowing.{own_notes}
use Rattle.session_desk.proofs.Mine.{leaves_entry}
use Rattle.session_desk.proofs.Seen.{notes_back}
use Rattle.session_desk.specs.PassTurns.{PassTurn}
use Rattle.session_desk.specs.Sessions.{notes_in, passed_journal, with_pass}
use Rattle.turn_lock.proofs.Logs.{entries_between}
use Rattle.turn_lock.specs.Journals.{IsPrefix, entries_by}
use Rattle.turn_lock.specs.Passes.{Token}
use Rattle.script_server.proofs.ClosedJournals.{ClosedJournal, asks_none, close_entry}
use Rattle.script_server.proofs.Closes.{prefix_then}
use Rattle.script_server.proofs.EndedPasses.{by_others, has_own, in_done, its_entries}
use Rattle.script_server.proofs.PassLists.{StandsAt, all_back, all_front, none_has, stands_at}
use Rattle.script_server.specs.Working.Served.{AllEnded, ClientDone, TakenOut}

-- nothing is left where the front is all
none_left : {X : Type 0} (front all back : List X) → front ++ back ≡ all → front ≡ all → back ≡ []
none_left front all back is same = append_cancel_left front back [] (is ∙ (sym same ∙ sym (append-nil front)))

module _ (lock : TableId) (clients workers : ℕ) (lines : List ScriptLine) (passes : List (Token FullEntry)) (ended : AllEnded lock clients workers lines passes) (d : DeskRecord) (out : TakenOut passes d) where
  abbrev closer : ℕ
  closer = clients + workers

  abbrev found : DeskRecord
  found = ended.closed.closing.before

  abbrev front : List FullEntry
  front = journal_of found

  turn : PassTurn ended.closed.before ended.own found ended.closed.closing.after
  turn = ended.closed.closing.turn

  -- ---- the close and what stands behind it

  sees_out : IsPrefix ended.own.seen (passed_journal d)
  sees_out = All-contains (λ (p : Token FullEntry). IsPrefix p.seen (passed_journal d)) passes ended.own out.seen (has_own lock clients workers lines passes ended)

  abbrev back : List FullEntry
  back = notes_in sees_out.0

  closing_journal : journal_of ended.closed.closing.after ≡ front ++ close_entry closer ∷ []
  closing_journal = ended.closed.closing.done.journal ∙ ap (λ (n : ℕ). front ++ close_entry n ∷ []) ended.closed.number_before

  parts : journal_of d ≡ front ++ close_entry closer ∷ back
  parts =
      sym (notes_back (journal_of d))
      ∙ (ap notes_in sees_out.1
      ∙ (map-append (λ (e : ℕ × FullEntry). e.1) ended.own.seen sees_out.0
      ∙ (ap (λ (es : List FullEntry). es ++ back) (ap notes_in turn.sees ∙ (notes_back (journal_of ended.closed.closing.after) ∙ closing_journal))
      ∙ append_assoc front (close_entry closer ∷ []) back)))

  under_parts : (n : ℕ) → entries_under n (journal_of d) ≡ entries_under n front ++ entries_under n (close_entry closer ∷ back)
  under_parts n = ap (entries_under n) parts ∙ filter-append (λ (e : FullEntry). e.entry.pass == n) front (close_entry closer ∷ back)

  -- ---- a client's entries

  abbrev DoneHas : ℕ → Type 0
  DoneHas c = StandsAt (ClientDone lock clients lines) ended.done c

  client_of : (c : ℕ) → c < clients → DoneHas c
  client_of c small = stands_at (ClientDone lock clients lines) 0 clients ended.done ended.clients_done c (omega arith) (omega (arith, small))

  -- the close found all of them
  before_close : (c : ℕ) (has : DoneHas c) → entries_under c front ≡ has.2.entries
  before_close c has =
      let one = has.2 in
      let met : IsPrefix has.0.seen ended.closed.before.seen = All-contains (λ (q : Token FullEntry). IsPrefix q.seen ended.closed.before.seen) ended.done has.0 ended.closed.met has.1 in
      let early : IsPrefix has.0.seen (passed_journal found) = prefix_then has.0.seen ended.closed.before.seen (passed_journal found) met turn.has_seen in
      let late : IsPrefix (passed_journal found) (passed_journal d) = prefix_then (passed_journal found) ended.own.seen (passed_journal d) (turn.added, turn.sees ∙ turn.grows) sees_out in
      let mine : entries_by c (passed_journal d) ≡ has.0.mine =
      subst (λ (n : ℕ). entries_by n (passed_journal d) ≡ has.0.mine) one.number_is
      (All-contains (λ (p : Token FullEntry). entries_by p.number (passed_journal d) ≡ p.mine) passes has.0 out.mine (in_done lock clients workers lines passes ended has.0 has.1)) in
      sym (own_notes c front)
      ∙ (ap notes_in (entries_between c has.0.seen (passed_journal found) (passed_journal d) has.0.mine early late one.own mine ∙ one.mine) ∙ notes_back one.entries)

  in_all : (c : ℕ) (has : DoneHas c) → entries_under c (journal_of d) ≡ has.2.entries
  in_all c has =
      subst (λ (n : ℕ). entries_under n (journal_of d) ≡ has.2.entries) has.2.number_is
      (its_entries lock clients workers lines passes ended d out has.0 has.2.entries (in_done lock clients workers lines passes ended has.0 has.1) has.2.mine)

  none_behind : (c : ℕ) → c < clients → DoneHas c → entries_under c back ≡ []
  none_behind c small has =
      let skips : entries_under c (close_entry closer ∷ back) ≡ entries_under c back =
      if_false (closer == c) (close_entry closer ∷ entries_under c back) (entries_under c back) (ne_eqb closer c (λ same. omega (arith, small, same))) in
      sym skips ∙ none_left (entries_under c front) has.2.entries (entries_under c (close_entry closer ∷ back)) (sym (under_parts c) ∙ in_all c has) (before_close c has)

  -- ---- the closing pass's entries

  none_before : entries_under closer front ≡ []
  none_before =
      subst (λ (n : ℕ). entries_under n front ≡ []) ended.closed.number_before
      (sym (own_notes ended.closed.before.number front) ∙ ap notes_in (turn.has_mine ∙ ended.closed.has_none))

  only_close : entries_under closer (journal_of d) ≡ close_entry closer ∷ []
  only_close =
      let mine : ended.own.mine ≡ map with_pass (close_entry closer ∷ []) =
      leaves_entry event.Close no_pie ended.closed.before ended.own _ ended.closed.closing
      ∙ (ap (λ (es : List (ℕ × FullEntry)). es ++ with_pass (close_entry ended.closed.before.number) ∷ []) ended.closed.has_none ∙ ap (λ (n : ℕ). with_pass (close_entry n) ∷ []) ended.closed.number_before) in
      subst (λ (n : ℕ). entries_under n (journal_of d) ≡ close_entry closer ∷ []) ended.closed.number_is
      (its_entries lock clients workers lines passes ended d out ended.own (close_entry closer ∷ []) (has_own lock clients workers lines passes ended) mine)

  none_after : entries_under closer back ≡ []
  none_after =
      let keeps : entries_under closer (close_entry closer ∷ back) ≡ close_entry closer ∷ entries_under closer back =
      if_true (closer == closer) (close_entry closer ∷ entries_under closer back) (entries_under closer back) (eq-eqb closer closer refl) in
      none_left (close_entry closer ∷ []) (close_entry closer ∷ []) (entries_under closer back)
      (sym keeps ∙ (ap (λ (es : List FullEntry). es ++ entries_under closer (close_entry closer ∷ back)) (sym none_before) ∙ (sym (under_parts closer) ∙ only_close))) refl

  -- ---- all entries

  module _ (P : FullEntry → Type 0) (of_client : (c : ℕ) (es : List FullEntry) → c < clients → All (IsUnder c) es → DoesLines (client_lines c lines) es → All P es)
      (of_worker : (n : ℕ) (es : List FullEntry) → All (IsWorkOf n) es → All P es) where
    abbrev Others : FullEntry → Type 0
    Others e = (e.entry.pass == closer) ≡ false → P e

    split : All Others (front ++ close_entry closer ∷ back)
    split = subst (All Others) parts (by_others lock clients workers lines passes ended d out P of_client of_worker)

    all_before : All P front
    all_before = λ k y small. all_front Others front (close_entry closer ∷ back) split k y small (none_has closer front none_before k y small)

    all_behind : All P back
    all_behind = λ k y small.
        All-tail Others (close_entry closer) back (all_back Others front (close_entry closer ∷ back) split) k y small (none_has closer back none_after k y small)

  client_below : (c : ℕ) (es : List FullEntry) → c < clients → All (IsUnder c) es → DoesLines (client_lines c lines) es → All (IsRequestBelow clients) es
  client_below c es small under does = All-weaker (IsUnder c) (IsRequestBelow clients) (λ e its requested. subst (λ (n : ℕ). n < clients) (sym its) small) es under

  worker_below : (n : ℕ) (es : List FullEntry) → All (IsWorkOf n) es → All (IsRequestBelow clients) es
  worker_below n es works = All-weaker IsNoRequest (IsRequestBelow clients) (asks_none clients) es (works_request_none n es works)

  client_own : (k c : ℕ) (es : List FullEntry) → c < clients → All (IsUnder c) es → DoesLines (client_lines c lines) es → All (OwnOf k) es
  client_own k c es small under does = lines_own k (client_lines c lines) es does

  pub ended_journal : ClosedJournal clients closer lines (journal_of d)
  ended_journal = record {
    front = front;
    back = back;
    are = parts;
    does = λ c small. let has = client_of c small in subst (DoesLines (client_lines c lines)) (sym (before_close c has)) has.2.does;
    none = λ c small. none_behind c small (client_of c small);
    own_front = λ c. all_before (OwnOf c) (client_own c) (works_own c);
    own_back = λ c. all_behind (OwnOf c) (client_own c) (works_own c);
    below_front = all_before (IsRequestBelow clients) client_below worker_below;
    below_back = all_behind (IsRequestBelow clients) client_below worker_below;
  }
