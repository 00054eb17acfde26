use Rattle.std.proofs.Common.{rules, ◌≡◌, ℕ, ◌+◌, ◌<◌, length, map, vec_len, refl, ap, ◌∙◌, subst, arith}
use Rattle.std.proofs.lemmas.List.FromFn.{length-map-range_with_len}
use Rattle.desk_core.specs.DeskRecords.{plain_of}
use Rattle.desk_core.specs.declared.entry.FullEntry.{FullEntry}
use Rattle.desk_script.specs.Views.{line_view}
use Rattle.turn_lock.specs.Passes.{Token, fresh}
use Rattle.script_server.proofs.Dealing.{are_dealt, can_all_start, worker_count}
use Rattle.script_server.proofs.FreeDesks.{alone_where_free}
use Rattle.script_server.proofs.ServedDesks.{numbered, served}
use Rattle.script_server.proofs.serving.serve_script.Goals as goal

pub deal-requires : goal.deal-requires
deal-requires g c =
    let f : ℕ → Token FullEntry = fresh c.in_ok-desk.desk.lock c.args.clients in
    let whole : vec_len c.in_ok-desk.passes ≡ c.args.clients + c.args.workers + 1 =
    c.in_ok-desk.passes.ok.0 ∙ (ap length c.in_ok-desk.ensures.passes ∙ length-map-range_with_len f 0 (c.args.clients + c.args.workers + 1)) in
    record { some = omega (arith, whole) }

pub in_threads-requires-clause-start : goal.in_threads-requires-clause-start
in_threads-requires-clause-start g c = λ κs lives.
    let are = are_dealt c.in_ok-desk.desk.lock c.args.clients c.args.workers (c.args.clients + c.args.workers + 1) c.in_ok-desk.passes.items c.in_ok-dealt.dealt refl c.in_ok-desk.ensures.passes c.in_ok-dealt.ensures.all c.in_ok-dealt.ensures.clients in
    can_all_start c.in_ok-desk.desk.lock c.args.clients c.args.workers c.in_ok-dealt.dealt are

pub in_threads-requires-clause-few : goal.in_threads-requires-clause-few
in_threads-requires-clause-few g c = λ κs lives.
    let are = are_dealt c.in_ok-desk.desk.lock c.args.clients c.args.workers (c.args.clients + c.args.workers + 1) c.in_ok-desk.passes.items c.in_ok-dealt.dealt refl c.in_ok-desk.ensures.passes c.in_ok-dealt.ensures.all c.in_ok-dealt.ensures.clients in
    omega (arith, c.in_ok-dealt.ensures.clients, worker_count c.in_ok-desk.desk.lock c.args.clients c.args.workers c.in_ok-dealt.dealt are, c.requires.few, c.requires.few_workers)

pub finish-desk-requires-clause-own : goal.finish-desk-requires-clause-own
finish-desk-requires-clause-own g c = λ κs lives.
    let lock = c.in_ok-desk.desk.lock in
    let are = are_dealt lock c.args.clients c.args.workers (c.args.clients + c.args.workers + 1) c.in_ok-desk.passes.items c.in_ok-dealt.dealt refl c.in_ok-desk.ensures.passes c.in_ok-dealt.ensures.all c.in_ok-dealt.ensures.clients in
    let all = numbered lock c.args.clients c.args.workers (map line_view c.args.script.now.lines.items) c.in_ok-passes.passes.items (c.in_ok-passes.ensures c.args.clients c.args.workers are) in
    all.0

pub finish-desk-requires-clause-each : goal.finish-desk-requires-clause-each
finish-desk-requires-clause-each g c = λ κs lives number small.
    let lock = c.in_ok-desk.desk.lock in
    let are = are_dealt lock c.args.clients c.args.workers (c.args.clients + c.args.workers + 1) c.in_ok-desk.passes.items c.in_ok-dealt.dealt refl c.in_ok-desk.ensures.passes c.in_ok-dealt.ensures.all c.in_ok-dealt.ensures.clients in
    let all = numbered lock c.args.clients c.args.workers (map line_view c.args.script.now.lines.items) c.in_ok-passes.passes.items (c.in_ok-passes.ensures c.args.clients c.args.workers are) in
    all.1 number (subst (λ (n : ℕ). number < n) c.in_ok-desk.ensures.count small)

pub returns-in-Drained-clause-serves : goal.returns-in-Drained-clause-serves
returns-in-Drained-clause-serves g c =
    let lock = c.in_ok-desk.desk.lock in
    let are = are_dealt lock c.args.clients c.args.workers (c.args.clients + c.args.workers + 1) c.in_ok-desk.passes.items c.in_ok-dealt.dealt refl c.in_ok-desk.ensures.passes c.in_ok-dealt.ensures.all c.in_ok-dealt.ensures.clients in
    let d = c.finish-desk.result in
    let out = c.finish-desk.ensures in
    let done = c.in-Drained.ensures.done in
    served lock c.args.clients c.args.workers (map line_view c.args.script.now.lines.items) c.in_ok-passes.passes.items (c.in_ok-passes.ensures c.args.clients c.args.workers are)
    d c.work_plain.new.desk (record { good = out.good; width = out.width; seen = out.seen; mine = out.mine; others = out.others })
    c.in-Drained.ensures.good.1 done.0 (done.1.1 (alone_where_free (c.args.clients + c.args.workers) (plain_of d) (c.none_is_taken.ensures (search rules))))
