use Rattle.std.proofs.Common.{◌≡◌, ◌≤◌, ◌+◌, ◌++◌, vec_len, vec_capacity}
use Rattle.std.specs.Vec.Iter.{into_iter_items, into_iter_len}
use Rattle.script_server.specs.Working.Threads.{HaveCome}
use Rattle.script_server.proofs.joining.join_workers.Given as goal

abbrev pub invariant-loop-worker : goal.invariant-loop-worker
invariant-loop-worker g l = record {
  came : HaveCome l.yielded l.fn.passes.items l.passes.items;
  whole : l.yielded ++ into_iter_items l.worker-iterator ≡ into_iter_items l.initial.worker-iterator;
  rest : vec_len l.passes + into_iter_len l.worker-iterator ≡ vec_len l.fn.passes + into_iter_len l.initial.worker-iterator;
  room : vec_len l.fn.passes + into_iter_len l.initial.worker-iterator ≤ vec_capacity l.passes;
  kept : vec_capacity l.fn.passes ≤ vec_capacity l.passes;
}
