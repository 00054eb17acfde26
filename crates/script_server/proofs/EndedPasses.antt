-- What the passes have when all threads have ended, and whose the entries of the desk are that is taken out.
use Rattle.std.proofs.Common.{◌≡◌, ℕ, ◌+◌, ◌<◌, ◌==◌, true, false, List, [], ◌∷◌, ◌++◌, map, slice_index_or, refl, sym, ap, ◌∙◌, subst, arith}
use Rattle.std.specs.Prelude.{All, Contains}
use Rattle.std.proofs.lemmas.Bool.{eq-eqb}
use Rattle.std.proofs.lemmas.List.Elements.{All-append, All-cons, All-contains, All-contains_itself, All-map, All-nil, All-same, All-weaker, Contains-append_left, Contains-append_right, Contains-push, filter_passes}
use Rattle.atomic_table.specs.Seated.{TableId}
use Rattle.batch_workers.specs.Works.{IsWorkOf}
use Rattle.desk_core.specs.DeskRecords.{DeskRecord, journal_of}
use Rattle.desk_core.specs.declared.entry.FullEntry.{FullEntry}
use Rattle.desk_script.specs.Lines.{ScriptLine}
use Rattle.script_runner.specs.Lines.{DoesLines, client_lines, entries_under}
use Rattle.script_runner.proofs.LineEntries.{IsUnder}
use Rattle.session_desk.proofs.Knowing.{own_notes}
use Rattle.session_desk.proofs.Seen.{notes_back}
use Rattle.session_desk.specs.Sessions.{notes_in, passed_journal, with_pass}
use Rattle.turn_lock.specs.Journals.{entries_by}
use Rattle.turn_lock.specs.Passes.{IsNumberOf, Token}
use Rattle.script_server.proofs.PassLists.{HasPlace, all_mapped, all_under, each_has_place, of_number}
use Rattle.script_server.specs.Working.Served.{AllEnded, ClientDone, TakenOut, WorkerCame}

module _ (lock : TableId) (clients workers : ℕ) (lines : List ScriptLine) (passes : List (Token FullEntry)) (ended : AllEnded lock clients workers lines passes) where
  -- ---- the passes

  pub in_done : (p : Token FullEntry) → Contains ended.done p → Contains passes p
  in_done p has = subst (λ (ps : List (Token FullEntry)). Contains ps p) (sym ended.are) (Contains-append_left (ended.done ++ ended.came) (ended.own ∷ []) p (Contains-append_left ended.done ended.came p has))

  pub in_came : (p : Token FullEntry) → Contains ended.came p → Contains passes p
  in_came p has = subst (λ (ps : List (Token FullEntry)). Contains ps p) (sym ended.are) (Contains-append_left (ended.done ++ ended.came) (ended.own ∷ []) p (Contains-append_right ended.done ended.came p has))

  pub has_own : Contains passes ended.own
  has_own = subst (λ (ps : List (Token FullEntry)). Contains ps ended.own) (sym ended.are) (Contains-push (ended.done ++ ended.came) ended.own)

  -- what holds of each of them
  pub all_passes : (R : Token FullEntry → Type 0) → ((c : ℕ) (p : Token FullEntry) → c < clients → Contains ended.done p → ClientDone lock clients lines c p → R p)
      → ((n : ℕ) (p : Token FullEntry) → Contains ended.came p → WorkerCame lock clients n p → R p) → R ended.own → All R passes
  all_passes R client worker own =
      let each_client : (p : Token FullEntry) → HasPlace (ClientDone lock clients lines) 0 clients p → Contains ended.done p → R p = λ p place has. client place.0 p (omega (arith, place.2)) has place.3 in
      let each_worker : (p : Token FullEntry) → HasPlace (WorkerCame lock clients) clients workers p → Contains ended.came p → R p = λ p place has. worker place.0 p has place.3 in
      let clients' : All R ended.done =
      λ k d small. each_client (slice_index_or ended.done k d) (each_has_place (ClientDone lock clients lines) 0 clients ended.done ended.clients_done k d small) (All-contains_itself ended.done k d small) in
      let workers' : All R ended.came =
      λ k d small. each_worker (slice_index_or ended.came k d) (each_has_place (WorkerCame lock clients) clients workers ended.came ended.workers_came k d small) (All-contains_itself ended.came k d small) in
      All-same R passes (ended.done ++ ended.came ++ ended.own ∷ []) ended.are
      (All-append R (ended.done ++ ended.came) (ended.own ∷ []) (All-append R ended.done ended.came clients' workers') (All-cons R ended.own [] own (All-nil R)))

  module _ (d : DeskRecord) (out : TakenOut passes d) where
    abbrev closer : ℕ
    closer = clients + workers

    -- ---- whose the entries are

    pub its_entries : (p : Token FullEntry) (es : List FullEntry) → Contains passes p → p.mine ≡ map with_pass es → entries_under p.number (journal_of d) ≡ es
    its_entries p es has is =
        sym (own_notes p.number (journal_of d))
        ∙ (ap notes_in (All-contains (λ (q : Token FullEntry). entries_by q.number (passed_journal d) ≡ q.mine) passes p out.mine has ∙ is) ∙ notes_back es)

    abbrev pub ByOthers : (FullEntry → Type 0) → FullEntry → Type 0
    ByOthers P e = (e.entry.pass == closer) ≡ false → P e

    module _ (P : FullEntry → Type 0) (of_client : (c : ℕ) (es : List FullEntry) → c < clients → All (IsUnder c) es → DoesLines (client_lines c lines) es → All P es)
        (of_worker : (n : ℕ) (es : List FullEntry) → All (IsWorkOf n) es → All P es) where
      abbrev Have : Token FullEntry → Type 0
      Have p = All (ByOthers P) (entries_under p.number (journal_of d))

      client_has : (c : ℕ) (p : Token FullEntry) → c < clients → Contains ended.done p → ClientDone lock clients lines c p → Have p
      client_has c p small has one =
          let are : entries_under p.number (journal_of d) ≡ one.entries = its_entries p one.entries (in_done p has) one.mine in
          let under : All (IsUnder c) one.entries = subst (All (IsUnder c)) are (subst (λ (n : ℕ). All (IsUnder n) (entries_under p.number (journal_of d))) one.number_is (all_under p.number (journal_of d))) in
          All-same (ByOthers P) (entries_under p.number (journal_of d)) one.entries are
          (All-weaker P (ByOthers P) (λ e is _. is) one.entries (of_client c one.entries small under one.does))

      worker_has : (n : ℕ) (p : Token FullEntry) → Contains ended.came p → WorkerCame lock clients n p → Have p
      worker_has n p has one =
          All-same (ByOthers P) (entries_under p.number (journal_of d)) one.entries (its_entries p one.entries (in_came p has) one.mine)
          (All-weaker P (ByOthers P) (λ e is _. is) one.entries (of_worker n one.entries one.works))

      own_has : Have ended.own
      own_has = All-weaker (λ (e : FullEntry). (e.entry.pass == ended.own.number) ≡ true) (ByOthers P)
          (λ e its other. absurd (let t : true ≡ false = sym (subst (λ (n : ℕ). (e.entry.pass == n) ≡ true) ended.closed.number_is its) ∙ other in cc))
          (entries_under ended.own.number (journal_of d)) (filter_passes (λ (e : FullEntry). e.entry.pass == ended.own.number) (journal_of d))

      -- what holds of clients' entries and of workers' holds of each entry that isn't the closing pass's
      pub by_others : All (ByOthers P) (journal_of d)
      by_others =
          let numbers : All (λ (n : ℕ). All (ByOthers P) (entries_under n (journal_of d))) (map (λ (p : Token FullEntry). p.number) passes) =
          All-map (λ (n : ℕ). All (ByOthers P) (entries_under n (journal_of d))) (λ (p : Token FullEntry). p.number) passes (all_passes Have client_has worker_has own_has) in
          let numbered : All (λ (e : FullEntry). IsNumberOf passes e.entry.pass) (journal_of d) = all_mapped (λ (e : ℕ × FullEntry). IsNumberOf passes e.0) with_pass (journal_of d) out.others in
          λ k y small.
          let e = slice_index_or (journal_of d) k y in
          of_number (ByOthers P) e.entry.pass (journal_of d)
          (All-contains (λ (n : ℕ). All (ByOthers P) (entries_under n (journal_of d))) (map (λ (p : Token FullEntry). p.number) passes) e.entry.pass numbers (numbered k y small)) k y small
          (eq-eqb e.entry.pass e.entry.pass refl)
