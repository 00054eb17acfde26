use Rattle.std.proofs.Common.{◌≡◌, map, take}
use Rattle.serde_json.specs.View.{view}
use Rattle.pie_format.specs.Working.MetadataData.{whole}
use Rattle.pie_format.proofs.metadata_writing.sizes_value.Given as goal

abbrev pub invariant-loop-size : goal.invariant-loop-size
invariant-loop-size l = map view l.items.items ≡ map whole (take l.size-index l.sizes)
