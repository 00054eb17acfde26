use Rattle.std.proofs.Common.{false, rules}
use Rattle.desk_core.proofs.Places.{new_places}
use Rattle.desk_core.proofs.Usages.{new_usages}
use Rattle.desk_core.proofs.desk.Desk.new.Goals as goal

pub invariant_of-result : goal.invariant_of-result
invariant_of-result c = record {
  good = search rules;
  are_usages = new_usages (record { clients = c.args.clients; jobs = c.new.result.items; batches = c.new-2.result.items; registry = c.new-3.result; entries = c.in_ok-with_capacity.field-0.items; closed = false; turns = 0 }) c.in_ok-no_usages.field-0.items c.new.ensures.items c.in_ok-no_usages.ensures;
  are_places = new_places c.args.clients c.new.result.items c.in_ok-no_places.field-0.items c.new.ensures.items c.in_ok-no_places.ensures;
  is_batched = search rules;
  is_next = search rules;
}
