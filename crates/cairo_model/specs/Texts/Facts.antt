-- How a fact is written.
use Rattle.std.specs.Prelude.{ℕ, List, ◌++◌, codes}
use Rattle.builtin_hash.specs.Programs.{hash_text}
use Rattle.cairo_model.specs.Pie.Acceptance.{FactRecord}
use Rattle.cairo_model.specs.Texts.Numbers.{numbers_text}

-- the hash of the program, and its outputs
abbrev pub fact_text : FactRecord → List ℕ
fact_text fact = hash_text fact.program ++ codes " outputs" ++ numbers_text fact.outputs
