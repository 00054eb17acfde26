-- What stands when all threads have ended is what taking the desk out asks for, and the desk then served the script.
use Rattle.std.proofs.Common.{◌≡◌, ◌⊎◌, inl, inr, ℕ, ◌+◌, ◌<◌, ◌≤◌, List, refl, sym, ◌∙◌, subst, arith}
use Rattle.std.specs.Prelude.{All, Contains}
use Rattle.std.proofs.lemmas.Bool.{cases_lt}
use Rattle.std.proofs.lemmas.List.Elements.{All-contains}
use Rattle.atomic_table.specs.Seated.{TableId}
use Rattle.batch_workers.specs.Works.{AllRegistered, EndIdle, Works}
use Rattle.desk_core.specs.DeskRecords.{DeskRecord, journal_of, plain_of}
use Rattle.desk_core.specs.GoodDesks.{IsGoodDesk}
use Rattle.desk_core.specs.declared.entry.FullEntry.{FullEntry}
use Rattle.desk_script.specs.Lines.{ScriptLine}
use Rattle.script_runner.specs.Serving.{ServesScript}
use Rattle.turn_lock.specs.Passes.{IsNumberOf, Token}
use Rattle.script_server.proofs.ClosedDesks.{desk_closed}
use Rattle.script_server.proofs.ClosedJournals.{ClosedJournal, close_entry, closed_replies, closed_serves, closed_texts, works_on}
use Rattle.script_server.proofs.EndedJournals.{ended_journal}
use Rattle.script_server.proofs.EndedPasses.{all_passes, has_own, in_came, in_done}
use Rattle.script_server.proofs.PassLists.{StandsAt, has_number, stands_at}
use Rattle.script_server.specs.Working.Served.{AllEnded, ClientDone, TakenOut, WorkerCame}

module _ (lock : TableId) (clients workers : ℕ) (lines : List ScriptLine) (passes : List (Token FullEntry)) (ended : AllEnded lock clients workers lines passes) where
  named : (p : Token FullEntry) (number : ℕ) → Contains passes p → p.number ≡ number → IsNumberOf passes number
  named p number has is = subst (IsNumberOf passes) is (has_number passes p has)

  client_named : (number : ℕ) → number < clients → IsNumberOf passes number
  client_named number small =
      let at : StandsAt (ClientDone lock clients lines) ended.done number =
      stands_at (ClientDone lock clients lines) 0 clients ended.done ended.clients_done number (omega arith) (omega (arith, small)) in
      named at.0 number (in_done lock clients workers lines passes ended at.0 at.1) at.2.number_is

  worker_named : (number : ℕ) → clients ≤ number → number < clients + workers → IsNumberOf passes number
  worker_named number low high =
      let at : StandsAt (WorkerCame lock clients) ended.came number = stands_at (WorkerCame lock clients) clients workers ended.came ended.workers_came number low high in
      named at.0 number (in_came lock clients workers lines passes ended at.0 at.1) at.2.number_is

  own_named : (number : ℕ) → clients + workers ≤ number → number < clients + workers + 1 → IsNumberOf passes number
  own_named number low high = named ended.own number (has_own lock clients workers lines passes ended) (ended.closed.number_is ∙ omega (arith, low, high))

  -- all passes are of one lock, and have all its numbers
  pub numbered : All (λ p. p.lock ≡ lock) passes × ((number : ℕ) → number < clients + workers + 1 → IsNumberOf passes number)
  numbered = (all_passes lock clients workers lines passes ended (λ (p : Token FullEntry). p.lock ≡ lock) (λ c p small has one. one.lock_is) (λ n p has one. one.lock_is) ended.closed.lock_is, each)
    where
      beyond : (number : ℕ) → number < clients + workers + 1 → clients ≤ number → (number < clients + workers) ⊎ (clients + workers ≤ number) → IsNumberOf passes number
      beyond number high low (inl less) = worker_named number low less
      beyond number high low (inr more) = own_named number more high

      by_part : (number : ℕ) → number < clients + workers + 1 → (number < clients) ⊎ (clients ≤ number) → IsNumberOf passes number
      by_part number high (inl small) = client_named number small
      by_part number high (inr low) = beyond number high low (cases_lt number (clients + workers))

      each : (number : ℕ) → number < clients + workers + 1 → IsNumberOf passes number
      each number high = by_part number high (cases_lt number clients)

  -- the desk from which the caller's pass then drained what was left
  pub served : (d e : DeskRecord) → TakenOut passes d → IsGoodDesk e → Works (clients + workers) (EndIdle (clients + workers)) d e → AllRegistered (plain_of e) → ServesScript clients lines e
  served d e out good works registered =
      let apart : clients ≤ clients + workers = omega arith in
      let j : ClosedJournal clients (clients + workers) lines (journal_of e) =
      subst (ClosedJournal clients (clients + workers) lines) (sym works.journal)
      (works_on clients (clients + workers) lines apart (journal_of d) works.more (ended_journal lock clients workers lines passes ended d out) works.works) in
      record {
        count = works.clients ∙ (All-contains (λ (p : Token FullEntry). d.clients ≡ p.width) passes ended.own out.width (has_own lock clients workers lines passes ended) ∙ ended.closed.width_is);
        closed = desk_closed e good j.front j.back (close_entry (clients + workers)) j.are refl;
        served = closed_serves clients (clients + workers) lines apart (journal_of e) j;
        registered = registered;
        isolated = closed_replies clients (clients + workers) lines apart e good j;
        texts = closed_texts clients (clients + workers) lines apart e good j;
      }
