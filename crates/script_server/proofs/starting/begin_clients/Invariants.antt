use Rattle.std.proofs.Common.{◌≡◌, ◌≤◌, ◌+◌, ◌++◌, map, vec_len, vec_capacity}
use Rattle.std.specs.List.{AllZip}
use Rattle.std.specs.Prelude.{All}
use Rattle.std.specs.Vec.Iter.{into_iter_items, into_iter_len}
use Rattle.desk_script.specs.Views.{line_view}
use Rattle.script_server.specs.Working.Dealing.{IsClientPass}
use Rattle.script_server.specs.Working.Threads.{IsClient}
use Rattle.script_server.proofs.starting.begin_clients.Given as goal

abbrev pub invariant-loop-pass : goal.invariant-loop-pass
invariant-loop-pass g l = record {
  done : AllZip (IsClient (map line_view l.fn.script.lines.items)) l.yielded l.started.items;
  whole : l.yielded ++ into_iter_items l.pass-iterator ≡ into_iter_items l.initial.pass-iterator;
  rest : vec_len l.started + into_iter_len l.pass-iterator ≡ into_iter_len l.initial.pass-iterator;
  ready : All (IsClientPass l.fn.desk.lock) (into_iter_items l.pass-iterator);
  room : into_iter_len l.initial.pass-iterator ≤ vec_capacity l.started;
}
