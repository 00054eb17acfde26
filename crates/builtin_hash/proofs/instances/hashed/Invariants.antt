use Rattle.std.proofs.Common.{◌≡◌, ◌++◌, take}
use Rattle.std.specs.Int.{w32, w64, to_be_bytes}
use Rattle.std.specs.List.{flat_map}
use Rattle.sha2.specs.Hashers.{Holds256}
use Rattle.builtin_hash.proofs.instances.hashed.Given as goal

abbrev pub invariant-loop-word : goal.invariant-loop-word
invariant-loop-word l = Holds256 l.hasher (flat_map (to_be_bytes w32) (take l.word-index l.word-items)) × (l.word-items ≡ l.fn.h)

abbrev pub invariant-loop-number : goal.invariant-loop-number
invariant-loop-number l = Holds256 l.hasher (flat_map (to_be_bytes w32) l.fn.h ++ flat_map (to_be_bytes w64) (take l.number-index l.number-items)) × (l.number-items ≡ l.fn.d)
