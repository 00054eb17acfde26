use Rattle.std.proofs.Common.{◌≡◌, ◌-◌, [], map}
use Rattle.std.specs.List.{range_with_len}
use Rattle.turn_lock.specs.Views.{newcomer}
use Rattle.turn_lock.specs.Passes.{fresh}
use Rattle.turn_lock.proofs.lock.TurnLock.deal.Given as goal

abbrev pub invariant-loop-number : goal.invariant-loop-number
invariant-loop-number g l =
    (l.first.me ≡ (newcomer 0 l.fn.first.me.0.width l.number, [])) × (l.first.table_id ≡ l.fn.first.table_id) × (l.list.items ≡ map (fresh l.fn.self.lock l.fn.first.me.0.width) (range_with_len 1 (l.number - 1)))
