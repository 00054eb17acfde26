-- What a pass leaves with the one that it has joined.
use Rattle.turn_lock.specs.Passes.{Token}
use Rattle.turn_lock.specs.declared.view.Part.{Part}

-- all of it but the lock that it belongs to
abbrev pub part_of : {N : Type 0} → Token N → Part N
part_of p = record { number = p.number; width = p.width; seen = p.seen; mine = p.mine }
