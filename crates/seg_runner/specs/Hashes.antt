-- What the hash builtin gives for cells that stand in its segment (docs/RUNNER.md).
use Rattle.std.specs.Prelude.{ℕ, ◌+◌, ◌-◌, ◌*◌, ◌/◌, ◌%◌, ◌^◌, ◌==◌, ◌&&◌, nat_lt, nat_le, List, [], ◌∷◌, ◌++◌, zero, suc, slice_index, Option, Some, None, option_map, option_and_then, if◌then◌else◌}
use Rattle.std.specs.List.{list_all}
use Rattle.builtin_hash.specs.Instances.{cells_per_instance, input_numbers, input_words, instance_of}
use Rattle.cairo_model.specs.Machine.Values.{Datum, number, place, number_in}
use Rattle.cairo_model.specs.Segments.{hash_segment}

-- the first cells of an instance are hashed, eight words and four numbers; behind them stand the words of the digest
abbrev pub inputs_per_instance : ℕ
inputs_per_instance = 12

-- the number that stands at an offset of the hash segment
abbrev pub hashed_number : (Datum → Option Datum) → ℕ → Option ℕ
hashed_number cells offset = option_and_then number_in (cells (place hash_segment offset))

-- so many numbers in a row, if each is there
unfoldable pub numbers_from_start : (ℕ → Option ℕ) → ℕ → Option (List ℕ)
numbers_from_start there zero = Some []
numbers_from_start there (suc k) = option_and_then (λ numbers. option_map (λ n. numbers ++ n ∷ []) (there k)) (numbers_from_start there k)

-- what is hashed by the instance of this index, if all of it stands
abbrev pub inputs_of : (Datum → Option Datum) → ℕ → Option (List ℕ)
inputs_of cells i = numbers_from_start (λ k. hashed_number cells (cells_per_instance * i + k)) inputs_per_instance

-- the words of the digest, where the first eight numbers are words
abbrev pub digest_of : List ℕ → Option (List ℕ)
digest_of inputs = if list_all (λ n. nat_lt n (2 ^ 32)) (input_words inputs) then Some (instance_of (input_words inputs) (input_numbers inputs)) else None

-- what the instance of this index gives, where its inputs stand and are valid
unfoldable pub outputs_of : (Datum → Option Datum) → ℕ → Option (List ℕ)
outputs_of cells i = option_and_then digest_of (inputs_of cells i)

-- one word of what an instance gives
abbrev pub output_word : List ℕ → ℕ → Datum
output_word words k = number (slice_index words k)

-- the value of a cell of the hash segment that is an output of its instance
unfoldable pub hash_output : (Datum → Option Datum) → ℕ → ℕ → Option Datum
hash_output cells segment offset =
    if segment == hash_segment && nat_le inputs_per_instance (offset % cells_per_instance)
    then option_map (λ words. output_word words (offset % cells_per_instance - inputs_per_instance)) (outputs_of cells (offset / cells_per_instance))
    else None
