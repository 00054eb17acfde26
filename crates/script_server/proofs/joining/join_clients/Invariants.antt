use Rattle.std.proofs.Common.{◌≡◌, ◌≤◌, ◌+◌, ◌++◌, true, vec_len, vec_capacity}
use Rattle.std.specs.List.{AllZip}
use Rattle.std.specs.Prelude.{All}
use Rattle.std.specs.Vec.Iter.{into_iter_items, into_iter_len}
use Rattle.script_server.specs.Working.Closing.{SeesOn}
use Rattle.script_server.specs.Working.Threads.{HasGivenDone, IsClientAt}
use Rattle.turn_lock.specs.Journals.{IsPrefix}
use Rattle.script_server.proofs.joining.join_clients.Given as goal

abbrev pub invariant-loop-client : goal.invariant-loop-client
invariant-loop-client g l = record {
  own : SeesOn l.fn.own l.own;
  given : l.done ≡ true → AllZip HasGivenDone l.yielded l.passes.items;
  met : All (λ p. IsPrefix p.seen l.own.seen) l.passes.items;
  whole : l.yielded ++ into_iter_items l.client-iterator ≡ into_iter_items l.initial.client-iterator;
  rest : vec_len l.passes + into_iter_len l.client-iterator ≡ into_iter_len l.initial.client-iterator;
  locks : All (IsClientAt l.fn.desk.lock) (into_iter_items l.client-iterator);
  room : into_iter_len l.initial.client-iterator ≤ vec_capacity l.passes;
  kept : vec_capacity l.fn.passes ≤ vec_capacity l.passes;
}
