-- How a run ends: at home each hash instance whose inputs stand and are valid gets its absent outputs (docs/RUNNER.md).
use Rattle.std.specs.Prelude.{ℕ, ◌+◌, ◌-◌, ◌*◌, ◌/◌, zero, suc, Bool, List, slice_index, Option, Some, None, Result, Ok}
use Rattle.builtin_hash.specs.Instances.{cells_per_instance}
use Rattle.cairo_model.specs.Machine.Steps.{Registers, ◌>>=◌}
use Rattle.cairo_model.specs.Machine.Values.{Datum, place, same_datum}
use Rattle.cairo_model.specs.Segments.{hash_segment, return_pc_segment}
use Rattle.seg_runner.specs.Hashes.{inputs_per_instance, outputs_of, output_word}
use Rattle.seg_runner.specs.Memories.{GrowingMemory, put_where_absent}
use Rattle.seg_runner.specs.Refusals.{RunCause}

-- whether the program counter is at the return address
abbrev pub is_returned : Registers Datum → Bool
is_returned s = same_datum s.pc (place return_pc_segment 0)

-- the cells behind an instance's inputs
abbrev pub outputs_per_instance : ℕ
outputs_per_instance = cells_per_instance - inputs_per_instance

-- the words from the k-th on, as many as are left, at an offset of the hash segment and behind it
unfoldable pub with_words : ℕ → GrowingMemory → ℕ → List ℕ → ℕ → ℕ → Result GrowingMemory RunCause
with_words n m start words k zero = Ok m
with_words n m start words k (suc left) = do
  after ← put_where_absent n m (place hash_segment (start + k)) (Some (output_word words k))
  with_words n after start words (k + 1) left

abbrev pub with_outputs : ℕ → GrowingMemory → ℕ → Option (List ℕ) → Result GrowingMemory RunCause
with_outputs n m i None = Ok m
with_outputs n m i (Some words) = with_words n m (cells_per_instance * i + inputs_per_instance) words 0 outputs_per_instance

-- the instances from the i-th on, as many as are left
unfoldable pub with_instances : ℕ → GrowingMemory → ℕ → ℕ → Result GrowingMemory RunCause
with_instances n m i zero = Ok m
with_instances n m i (suc left) = do
  after ← with_outputs n m i (outputs_of m.cells i)
  with_instances n after (i + 1) left

-- so many instances have room for their inputs
abbrev pub begun_instances : ℕ → ℕ
begun_instances size = (size + outputs_per_instance) / cells_per_instance

abbrev pub completed : ℕ → GrowingMemory → Result GrowingMemory RunCause
completed n m = with_instances n m 0 (begun_instances (slice_index m.sizes hash_segment))
