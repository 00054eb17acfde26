-- The passes of a new desk: the clients' first, then the workers', then the caller's own.
use Rattle.std.specs.Prelude.{◌≡◌, ◌≤◌, ◌<◌, ◌+◌, ℕ, [], All, map, vec_capacity}
use Rattle.std.specs.List.{range_with_len}
use Rattle.atomic_table.specs.Seated.{TableId}
use Rattle.desk_core.specs.declared.entry.FullEntry.{FullEntry}
use Rattle.script_server.specs.declared.passes.Dealt.{Dealt}
use Rattle.script_server.specs.declared.passes.Reserved.{Reserved}
use Rattle.session_desk.specs.SeenDesks.{IsIdlePass}
use Rattle.turn_lock.specs.Passes.{Token, fresh}

-- each is a fresh one, with its own number
pub record AreDealt (lock : TableId) (clients workers : ℕ) (d : Dealt) : Type 0 where
  pub to_clients : d.clients.items ≡ map (fresh lock clients) (range_with_len 0 clients)
  pub to_workers : d.workers.items ≡ map (fresh lock clients) (range_with_len clients workers)
  pub to_caller : d.own ≡ fresh lock clients (clients + workers)

-- a pass of this lock, with no batch in hand
pub record CanStart (lock : TableId) (p : Token FullEntry) : Type 0 where
  pub own : p.lock ≡ lock
  pub idle : IsIdlePass p

-- a client's pass has a client's number
pub record IsClientPass (lock : TableId) (p : Token FullEntry) : Type 0 where
  pub starts : CanStart lock p
  pub number : p.number < p.width

pub record CanAllStart (lock : TableId) (d : Dealt) : Type 0 where
  pub clients : All (IsClientPass lock) d.clients.items
  pub workers : All (CanStart lock) d.workers.items
  pub own : d.own.lock ≡ lock

-- there is room for what so many clients and workers leave, and for the caller's own pass
pub record HasRoomFor (clients workers : ℕ) (r : Reserved) : Type 0 where
  pub no_clients : r.clients.items ≡ []
  pub no_workers : r.workers.items ≡ []
  pub none_ended : r.ended.items ≡ []
  pub for_clients : clients ≤ vec_capacity r.clients
  pub for_workers : workers ≤ vec_capacity r.workers
  pub for_all : clients + workers + 1 ≤ vec_capacity r.ended
