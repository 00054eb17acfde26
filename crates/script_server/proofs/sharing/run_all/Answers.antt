use Rattle.std.proofs.Common.{map}
use Rattle.desk_script.specs.Views.{line_view}
use Rattle.script_server.specs.Working.Dealing.{IsClientPass}
use Rattle.script_server.specs.Working.Threads.{IsClient, IsClientAt}
use Rattle.script_server.proofs.Ending.{all_ended}
use Rattle.script_server.proofs.Lists.{zip_all}
use Rattle.script_server.proofs.Threads.{client_at}
use Rattle.script_server.proofs.sharing.run_all.Goals as goal

pub join_clients-ended-requires-clause-locks : goal.join_clients-ended-requires-clause-locks
join_clients-ended-requires-clause-locks g c =
    let lock = c.args.desk.now.lock in
    let lines = map line_view c.args.script.now.lines.items in
    zip_all (IsClient lines) (IsClientPass lock) (IsClientAt lock) (λ pass one is starts. client_at lock lines pass one is starts.starts.own)
    c.args.dealt.clients.items c.begin_clients-clients.result.items c.begin_clients-clients.ensures.started c.requires.start.clients

pub returns-then-done : goal.returns-then-done
returns-then-done g c = λ clients workers are.
    all_ended c.args.desk.now.lock clients workers (map line_view c.args.script.now.lines.items) c.args.dealt
    c.begin_clients-clients.result.items c.begin_workers-workers.result.items c.join_clients-ended.result.0.items c.join_workers-ended.result.items c.push.new.self.items
    c.join_clients-ended.new.own c.close_desk.new.pass are
    c.begin_clients-clients.ensures.started (c.join_clients-ended.ensures.given c.if-done.true)
    c.begin_workers-workers.ensures.started c.join_workers-ended.ensures.came
    c.join_clients-ended.ensures.own c.join_clients-ended.ensures.met c.close_desk.ensures.closes c.in-Ok.ensures.items
