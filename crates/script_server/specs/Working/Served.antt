-- What the passes have when all threads have ended, and what the desk that is taken out of the lock has then.
use Rattle.std.specs.Prelude.{ℕ, ◌≡◌, ◌+◌, List, [], ◌∷◌, ◌++◌, All, Ok, map}
use Rattle.std.specs.List.{AllZip, range_with_len}
use Rattle.atomic_table.specs.Seated.{TableId}
use Rattle.batch_workers.specs.Works.{IsWorkOf}
use Rattle.desk_core.specs.DeskRecords.{DeskRecord}
use Rattle.desk_core.specs.GoodDesks.{IsGoodDesk}
use Rattle.desk_core.specs.Journals.{no_pie}
use Rattle.desk_core.specs.declared.entry.FullEntry.{FullEntry}
use Rattle.desk_core.specs.declared.event.Event.TheVariants as event
use Rattle.desk_core.specs.declared.reply.Reply.TheVariants as reply
use Rattle.desk_script.specs.Lines.{ScriptLine}
use Rattle.script_runner.specs.Lines.{DoesLines, client_lines}
use Rattle.session_desk.specs.PassTurns.{EventTurn}
use Rattle.session_desk.specs.Sessions.{passed_journal, with_pass}
use Rattle.turn_lock.specs.Journals.{IsPrefix, entries_by}
use Rattle.turn_lock.specs.Passes.{IsNumberOf, Token}

-- a client's pass that has done its lines
pub record ClientDone (lock : TableId) (clients : ℕ) (lines : List ScriptLine) (c : ℕ) (p : Token FullEntry) : Type 0 where
  pub lock_is : p.lock ≡ lock
  pub number_is : p.number ≡ c
  pub width_is : p.width ≡ clients
  pub entries : List FullEntry
  pub mine : p.mine ≡ map with_pass entries
  pub does : DoesLines (client_lines c lines) entries
  pub own : entries_by c p.seen ≡ p.mine

-- a worker's pass that comes back: it made a worker's entries alone
pub record WorkerCame (lock : TableId) (clients : ℕ) (number : ℕ) (p : Token FullEntry) : Type 0 where
  pub lock_is : p.lock ≡ lock
  pub number_is : p.number ≡ number
  pub width_is : p.width ≡ clients
  pub entries : List FullEntry
  pub mine : p.mine ≡ map with_pass entries
  pub works : All (IsWorkOf number) entries

-- the caller's pass, which met each client's pass and then closed the desk
pub record PassClosed (lock : TableId) (clients : ℕ) (number : ℕ) (done : List (Token FullEntry)) (p : Token FullEntry) : Type 0 where
  pub lock_is : p.lock ≡ lock
  pub number_is : p.number ≡ number
  pub width_is : p.width ≡ clients
  pub before : Token FullEntry
  pub has_none : before.mine ≡ []
  pub number_before : before.number ≡ number
  pub met : All (λ q. IsPrefix q.seen before.seen) done
  pub closing : EventTurn event.Close no_pie before p (Ok reply.Closed)

-- the passes as they stand when all threads have ended: clients', workers', the caller's own
pub record AllEnded (lock : TableId) (clients workers : ℕ) (lines : List ScriptLine) (passes : List (Token FullEntry)) : Type 0 where
  pub done : List (Token FullEntry)
  pub came : List (Token FullEntry)
  pub own : Token FullEntry
  pub are : passes ≡ done ++ came ++ own ∷ []
  pub clients_done : AllZip (ClientDone lock clients lines) (range_with_len 0 clients) done
  pub workers_came : AllZip (WorkerCame lock clients) (range_with_len clients workers) came
  pub closed : PassClosed lock clients (clients + workers) done own

-- the desk that is taken out of the lock, where these are all its passes
pub record TakenOut (passes : List (Token FullEntry)) (d : DeskRecord) : Type 0 where
  pub good : IsGoodDesk d
  pub width : All (λ p. d.clients ≡ p.width) passes
  pub seen : All (λ p. IsPrefix p.seen (passed_journal d)) passes
  pub mine : All (λ p. entries_by p.number (passed_journal d) ≡ p.mine) passes
  pub others : All (λ e. IsNumberOf passes e.0) (passed_journal d)
