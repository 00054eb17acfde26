-- The metadata of a PIE as the JSON value from which its text is made.
use Rattle.std.specs.Prelude.{ℕ, List, map, codes}
use Rattle.serde_json.specs.Data.{Data, number, unsigned, array, object, member, no_members}
use Rattle.serde_json.specs.View.{items_of}
use Rattle.cairo_model.specs.Pie.Records.{PieRecord}

abbrev pub whole : ℕ → Data
whole n = number (unsigned n)

abbrev pub sizes_data : List ℕ → Data
sizes_data sizes = array (items_of (map whole sizes))

abbrev pub metadata_data : PieRecord → Data
metadata_data pie = object (member (codes "main") (whole pie.main) (member (codes "sizes") (sizes_data pie.sizes) (member (codes "steps") (whole pie.steps) (member (codes "version") (whole 1) no_members))))
