use Rattle.std.proofs.Common.{◌≡◌, ◌<◌, ◌≤◌, length, slice_index_or, [], refl, sym, ap, ◌∙◌, rules}
use Rattle.std.specs.Option.{option_map_or}
use Rattle.std.specs.Prelude.{Option}
use Rattle.std.proofs.lemmas.Option.{slice_get_past, slice_get_read}
use Rattle.desk_core.specs.Working.Registering.{jobs_within}
use Rattle.desk_core.specs.declared.batch.Batch.{Batch}
use Rattle.desk_core.proofs.register.jobs_at.Goals as goal

pub stretch-requires : goal.stretch-requires
stretch-requires c =
    let lt : c.args.batch < length c.args.batches.now = search rules in
    let is : c.in-Some.found.now ≡ slice_index_or c.args.batches.now c.args.batch c.in-Some.found.now = search rules in
    c.requires c.args.batch c.in-Some.found.now (slice_get_read c.args.batches.now (length c.args.batches.now) c.args.batch c.in-Some.found.now refl lt is)

pub returns-in-Some-clause-jobs : goal.returns-in-Some-clause-jobs
returns-in-Some-clause-jobs c =
    let lt : c.args.batch < length c.args.batches.now = search rules in
    let is : c.in-Some.found.now ≡ slice_index_or c.args.batches.now c.args.batch c.in-Some.found.now = search rules in
    c.stretch.ensures.jobs ∙ ap (λ (o : Option Batch). option_map_or (jobs_within c.args.jobs.now) o []) (sym (slice_get_read c.args.batches.now (length c.args.batches.now) c.args.batch c.in-Some.found.now refl lt is))

pub returns-in-None-clause-jobs : goal.returns-in-None-clause-jobs
returns-in-None-clause-jobs c =
    let past : length c.args.batches.now ≤ c.args.batch = search rules in
    c.split_at.ensures.front ∙ ap (λ (o : Option Batch). option_map_or (jobs_within c.args.jobs.now) o []) (sym (slice_get_past c.args.batches.now c.args.batch past))
