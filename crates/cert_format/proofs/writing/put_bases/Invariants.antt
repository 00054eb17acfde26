use Rattle.std.proofs.Common.{◌≡◌, ◌++◌, length, map, take}
use Rattle.std.specs.List.{flat_map}
use Rattle.std.specs.Int.{w32, w64, to_be_bytes}
use Rattle.cert_format.proofs.writing.put_bases.Given as goal

abbrev pub invariant-loop-base : goal.invariant-loop-base
invariant-loop-base l = l.out.items ≡ l.fn.out.items ++ (to_be_bytes w32 (length l.bases) ++ flat_map (to_be_bytes w64) (map (λ f. f.number) (take l.base-index l.bases)))
