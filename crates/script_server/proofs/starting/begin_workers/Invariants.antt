use Rattle.std.proofs.Common.{◌≡◌, ◌≤◌, ◌+◌, ◌++◌, vec_len, vec_capacity}
use Rattle.std.specs.List.{AllZip}
use Rattle.std.specs.Prelude.{All}
use Rattle.std.specs.Vec.Iter.{into_iter_items, into_iter_len}
use Rattle.script_server.specs.Working.Dealing.{CanStart}
use Rattle.script_server.specs.Working.Threads.{IsWorker}
use Rattle.script_server.proofs.starting.begin_workers.Given as goal

abbrev pub invariant-loop-pass : goal.invariant-loop-pass
invariant-loop-pass g l = record {
  done : AllZip IsWorker l.yielded l.started.items;
  whole : l.yielded ++ into_iter_items l.pass-iterator ≡ into_iter_items l.initial.pass-iterator;
  rest : vec_len l.started + into_iter_len l.pass-iterator ≡ into_iter_len l.initial.pass-iterator;
  ready : All (CanStart l.fn.desk.lock) (into_iter_items l.pass-iterator);
  room : into_iter_len l.initial.pass-iterator ≤ vec_capacity l.started;
}
