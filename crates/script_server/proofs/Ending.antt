-- The passes as all threads have ended: of the clients, of the workers, and the caller's own.
use Rattle.std.proofs.Common.{◌≡◌, ℕ, ◌+◌, true, List, [], ◌∷◌, ◌++◌, refl, ap, ◌∙◌, subst}
use Rattle.std.specs.List.{AllZip, range_with_len}
use Rattle.std.specs.Prelude.{All}
use Rattle.std.proofs.lemmas.List.Elements.{All-weaker}
use Rattle.atomic_table.specs.Seated.{TableId}
use Rattle.desk_core.specs.declared.entry.FullEntry.{FullEntry}
use Rattle.desk_script.specs.Lines.{ScriptLine}
use Rattle.script_server.specs.Working.Closing.{PassCloses, SeesOn}
use Rattle.script_server.specs.Working.Dealing.{AreDealt}
use Rattle.script_server.specs.Working.PassLines.{GivesLines, MadeWork}
use Rattle.script_server.specs.Working.Served.{AllEnded, ClientDone, PassClosed, WorkerCame}
use Rattle.script_server.specs.Working.Threads.{HasCome, HasGivenDone, HaveCome, IsClient, IsWorker}
use Rattle.script_server.specs.declared.clients.Client.{Client}
use Rattle.script_server.specs.declared.passes.Dealt.{Dealt}
use Rattle.script_server.specs.declared.workers.Worker.{Worker}
use Rattle.turn_lock.specs.Journals.{IsPrefix, entries_by}
use Rattle.turn_lock.specs.Passes.{Token, fresh}
use Rattle.script_server.proofs.Closes.{prefix_then}
use Rattle.script_server.proofs.Lists.{zip_from_map, zip_joins}
use Rattle.script_server.proofs.Threads.{client_joined, worker_joined}

-- ---- one pass

client_done : (lock : TableId) (clients : ℕ) (lines : List ScriptLine) (c : ℕ) (p : Token FullEntry) → GivesLines lines (fresh lock clients c) p true → ClientDone lock clients lines c p
client_done lock clients lines c p g =
    let d = g.did refl in
    record {
      lock_is = g.same.lock;
      number_is = g.same.number;
      width_is = g.same.width;
      entries = d.more;
      mine = d.mine;
      does = d.does;
      own = subst (λ (n : ℕ). entries_by n p.seen ≡ p.mine) g.same.number g.own;
    }

worker_came : (lock : TableId) (clients n : ℕ) (p : Token FullEntry) → MadeWork (fresh lock clients n) p → WorkerCame lock clients n p
worker_came lock clients n p x = record { lock_is = x.lock; number_is = x.number; width_is = x.width; entries = x.more; mine = x.mine; works = x.works }

pass_closed : (lock : TableId) (clients n : ℕ) (done : List (Token FullEntry)) (first met last : Token FullEntry) → first ≡ fresh lock clients n → SeesOn first met → All (λ q. IsPrefix q.seen met.seen) done
    → PassCloses met last → PassClosed lock clients n done last
pass_closed lock clients n done first met last is s all x =
    let on = x.closing.turn.same in
    record {
      lock_is = on.0 ∙ (x.waited.same.lock ∙ (s.same.lock ∙ ap (λ (p : Token FullEntry). p.lock) is));
      number_is = on.1 ∙ (x.waited.same.number ∙ (s.same.number ∙ ap (λ (p : Token FullEntry). p.number) is));
      width_is = on.2 ∙ (x.waited.same.width ∙ (s.same.width ∙ ap (λ (p : Token FullEntry). p.width) is));
      before = x.before;
      has_none = x.waited.mine ∙ (s.mine ∙ ap (λ (p : Token FullEntry). p.mine) is);
      number_before = x.waited.same.number ∙ (s.same.number ∙ ap (λ (p : Token FullEntry). p.number) is);
      met = All-weaker (λ (q : Token FullEntry). IsPrefix q.seen met.seen) (λ (q : Token FullEntry). IsPrefix q.seen x.before.seen) (λ q m. prefix_then q.seen met.seen x.before.seen m x.waited.seen) done all;
      closing = x.closing;
    }

-- ---- all of them

abbrev GivesDone : List ScriptLine → Token FullEntry → Token FullEntry → Type 0
GivesDone lines old new = GivesLines lines old new true

pub all_ended : (lock : TableId) (clients workers : ℕ) (lines : List ScriptLine) (d : Dealt) (started : List Client) (working : List Worker) (done after whole : List (Token FullEntry)) (met last : Token FullEntry)
    → AreDealt lock clients workers d
    → AllZip (IsClient lines) d.clients.items started → AllZip HasGivenDone started done
    → AllZip IsWorker d.workers.items working → HaveCome working done after
    → SeesOn d.own met → All (λ q. IsPrefix q.seen met.seen) done → PassCloses met last
    → whole ≡ after ++ last ∷ [] → AllEnded lock clients workers lines whole
all_ended lock clients workers lines d started working done after whole met last are begun given set came sees all closes is =
    let gave : AllZip (GivesDone lines) d.clients.items done = zip_joins (IsClient lines) HasGivenDone (GivesDone lines) (client_joined lines) d.clients.items started done begun given in
    let made : AllZip MadeWork d.workers.items came.came = zip_joins IsWorker HasCome MadeWork worker_joined d.workers.items working came.came set came.each in
    record {
      done = done;
      came = came.came;
      own = last;
      are = is ∙ ap (λ (l : List (Token FullEntry)). l ++ last ∷ []) came.are;
      clients_done = zip_from_map (fresh lock clients) (GivesDone lines) (ClientDone lock clients lines) (client_done lock clients lines) (range_with_len 0 clients) done
          (subst (λ (ps : List (Token FullEntry)). AllZip (GivesDone lines) ps done) are.to_clients gave);
      workers_came = zip_from_map (fresh lock clients) MadeWork (WorkerCame lock clients) (worker_came lock clients) (range_with_len clients workers) came.came
          (subst (λ (ps : List (Token FullEntry)). AllZip MadeWork ps came.came) are.to_workers made);
      closed = pass_closed lock clients (clients + workers) done d.own met last are.to_caller sees all closes;
    }
