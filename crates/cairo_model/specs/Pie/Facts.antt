-- The fact of a PIE as a function of it, beside the relation `IsFactOf`, and what a hasher is fed of a fact.
use Rattle.std.specs.Prelude.{ℕ, ◌≡◌, ◌↔◌, ◌++◌, List, map, Option, Some, None}
use Rattle.std.specs.List.{range_with_len}
use Rattle.std.specs.Hash as fed
use Rattle.builtin_hash.specs.Programs.{program_hash_of}
use Rattle.cairo_model.specs.Machine.Values.{Datum, number, place}
use Rattle.cairo_model.specs.Pie.Records.{PieRecord, segment_size, value_at}
use Rattle.cairo_model.specs.Pie.Acceptance.{FactRecord, HoldsNumbers, IsFactOf}
use Rattle.cairo_model.specs.Segments.{builtin_mask, program_segment, output_segment}

-- a cell's number, 0 where it has none
abbrev pub number_or_zero : Option Datum → ℕ
number_or_zero (Some (number n)) = n
number_or_zero (Some (place segment offset)) = 0
number_or_zero None = 0

-- the numbers of a segment, in order
abbrev pub numbers_in : PieRecord → ℕ → List ℕ
numbers_in pie segment = map (λ offset. number_or_zero (value_at pie.cells segment offset)) (range_with_len 0 (segment_size pie segment))

-- the hash of its program, with its outputs
abbrev pub fact_of : PieRecord → FactRecord
fact_of pie = record { program = program_hash_of pie.main builtin_mask (numbers_in pie program_segment); outputs = numbers_in pie output_segment }

-- each cell of a segment is there, and is a number
abbrev pub IsFullOfNumbers : PieRecord → ℕ → Type 0
IsFullOfNumbers pie segment = HoldsNumbers pie.cells segment (segment_size pie segment) (numbers_in pie segment)

-- a PIE has the fact that is computed, where its program and its outputs are full of numbers, and no other
abbrev pub FactFormsAgree : PieRecord → FactRecord → Type 0
FactFormsAgree pie fact = IsFactOf pie fact ↔ (IsFullOfNumbers pie program_segment × (IsFullOfNumbers pie output_segment × (fact ≡ fact_of pie)))

-- a hasher is fed the outputs, and for a fact the words of its hash before them
abbrev pub outputs_fed : List ℕ → List (List ℕ)
outputs_fed outputs = fed.slice fed.u64 outputs

abbrev pub fact_fed : FactRecord → List (List ℕ)
fact_fed fact = fed.slice fed.u32 fact.program ++ outputs_fed fact.outputs
