-- What the threads of clients and of workers give back, and which handle stands for which pass.
use Rattle.std.specs.Prelude.{◌≡◌, Bool, true, List, ◌++◌, map}
use Rattle.std.specs.List.{AllZip}
use Rattle.atomic_table.specs.Seated.{TableId}
use Rattle.desk_core.specs.declared.entry.FullEntry.{FullEntry}
use Rattle.desk_script.specs.Lines.{ScriptLine}
use Rattle.desk_script.specs.Views.{line_view}
use Rattle.script_server.specs.Working.PassLines.{GivesLines, MadeWork}
use Rattle.script_server.specs.declared.clients.Client.{Client}
use Rattle.script_server.specs.declared.clients.Client.TheVariants as client
use Rattle.script_server.specs.declared.workers.Worker.{Worker}
use Rattle.script_server.specs.declared.workers.Worker.TheVariants as worker
use Rattle.turn_lock.specs.Passes.{Token}

-- ---- clients

-- the client was started with this pass, to do its lines of these
abbrev pub IsClient : List ScriptLine → Token FullEntry → Client → Type 0
IsClient lines pass (client.Thread handle) = (handle.promise.0.value ≡ pass) × (map line_view handle.promise.1.value.lines.items ≡ lines)
IsClient lines pass (client.Here given done) = GivesLines lines pass given done

-- the pass that a client gives back, and whether it did its lines
abbrev pub HasGiven : Client → Token FullEntry → Bool → Type 0
HasGiven (client.Thread handle) p done = GivesLines (map line_view handle.promise.1.value.lines.items) handle.promise.0.value p done
HasGiven (client.Here given said) p done = (p ≡ given) × (done ≡ said)

abbrev pub HasGivenDone : Client → Token FullEntry → Type 0
HasGivenDone c p = HasGiven c p true

-- it is a client of this lock
abbrev pub IsClientAt : TableId → Client → Type 0
IsClientAt lock (client.Thread handle) = handle.promise.0.value.lock ≡ lock
IsClientAt lock (client.Here given done) = given.lock ≡ lock

-- ---- workers

-- the worker was started with this pass
abbrev pub IsWorker : Token FullEntry → Worker → Type 0
IsWorker pass (worker.Thread handle) = handle.promise.0.value ≡ pass
IsWorker pass (worker.Aside given) = MadeWork pass given

-- the pass that a worker gives back
abbrev pub HasCome : Worker → Token FullEntry → Type 0
HasCome (worker.Thread handle) p = MadeWork handle.promise.0.value p
HasCome (worker.Aside given) p = p ≡ given

-- behind those that were there came the passes of these workers
pub record HaveCome (workers : List Worker) (before after : List (Token FullEntry)) : Type 0 where
  pub came : List (Token FullEntry)
  pub are : after ≡ before ++ came
  pub each : AllZip HasCome workers came
