-- What a started client or worker gives back, by the pass that it was started with.
use Rattle.std.proofs.Common.{◌≡◌, ℕ, Bool, true, List, map, sym, ap, ◌∙◌, subst}
use Rattle.atomic_table.specs.Seated.{TableId}
use Rattle.desk_core.specs.declared.entry.FullEntry.{FullEntry}
use Rattle.desk_script.specs.Lines.{ScriptLine}
use Rattle.desk_script.specs.Views.{line_view}
use Rattle.script_server.specs.Working.Closing.{SeesOn}
use Rattle.script_server.specs.Working.PassLines.{GivesLines, MadeWork}
use Rattle.script_server.specs.Working.Threads.{HasCome, HasGivenDone, IsClient, IsClientAt, IsWorker}
use Rattle.script_server.specs.declared.clients.Client.{Client}
use Rattle.script_server.specs.declared.clients.Client.TheVariants as client
use Rattle.script_server.specs.declared.workers.Worker.{Worker}
use Rattle.script_server.specs.declared.workers.Worker.TheVariants as worker
use Rattle.turn_lock.specs.Journals.{IsPrefix}
use Rattle.turn_lock.specs.Passes.{Token}

-- ---- clients

pub client_joined : (lines : List ScriptLine) (pass : Token FullEntry) (c : Client) (p : Token FullEntry) → IsClient lines pass c → HasGivenDone c p → GivesLines lines pass p true
client_joined lines pass (client.Thread handle) p is kept =
    subst (λ (ls : List ScriptLine). GivesLines ls pass p true) is.1 (subst (λ (q : Token FullEntry). GivesLines (map line_view handle.promise.1.value.lines.items) q p true) is.0 kept)
client_joined lines pass (client.Here given said) p gives is =
    subst (λ (b : Bool). GivesLines lines pass p b) (sym is.1) (subst (λ (q : Token FullEntry). GivesLines lines pass q said) (sym is.0) gives)

pub client_at : (lock : TableId) (lines : List ScriptLine) (pass : Token FullEntry) (c : Client) → IsClient lines pass c → pass.lock ≡ lock → IsClientAt lock c
client_at lock lines pass (client.Thread handle) is own = ap (λ (p : Token FullEntry). p.lock) is.0 ∙ own
client_at lock lines pass (client.Here given said) gives own = gives.same.lock ∙ own

-- ---- workers

pub worker_joined : (pass : Token FullEntry) (w : Worker) (p : Token FullEntry) → IsWorker pass w → HasCome w p → MadeWork pass p
worker_joined pass (worker.Thread handle) p is kept = subst (λ (q : Token FullEntry). MadeWork q p) is kept
worker_joined pass (worker.Aside given) p made is = subst (MadeWork pass) (sym is) made

-- ---- meetings

pub sees_by_meeting : (old new : Token FullEntry) (seen : List (ℕ × FullEntry)) → new ≡ record old { seen = seen } → IsPrefix old.seen new.seen → SeesOn old new
sees_by_meeting old new seen is begins = record {
  same = record { lock = ap (λ (p : Token FullEntry). p.lock) is; number = ap (λ (p : Token FullEntry). p.number) is; width = ap (λ (p : Token FullEntry). p.width) is };
  mine = ap (λ (p : Token FullEntry). p.mine) is;
  seen = begins;
}
