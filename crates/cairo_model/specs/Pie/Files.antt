-- The bytes of a PIE file (docs/PIE.md). Numbers are big-endian.
use Rattle.std.specs.Prelude.{ℕ, ◌≡◌, ◌^◌, ◌<◌, ◌≤◌, ◌==◌, List, [], ◌∷◌, ◌++◌, length, Bool, false, Option, Some, None, option_map, option_and_then, if◌then◌else◌, codes, IsUtf8}
use Rattle.std.specs.Option.{option_map_or}
use Rattle.std.specs.List.{flat_map}
use Rattle.std.specs.Int.{w16, w32, w64, to_be_bytes}
use Rattle.serde_json.specs.Data.{Data, Items, no_items, item}
use Rattle.serde_json.specs.Events.{members_len}
use Rattle.serde_json.specs.Find.{get, as_number, as_u64, as_array, as_object}
use Rattle.serde_json.specs.Read.{read}
use Rattle.cairo_model.specs.Limits.{most_file_bytes}
use Rattle.cairo_model.specs.Machine.Values.{Datum, number, place}
use Rattle.cairo_model.specs.Pie.Records.{MemoryCell, PieRecord, KeepsRules, place_number}

-- the eight bytes that every PIE file begins with: CPIE64, 0, 1
abbrev pub magic : List ℕ
magic = 0x43 ∷ 0x50 ∷ 0x49 ∷ 0x45 ∷ 0x36 ∷ 0x34 ∷ 0x00 ∷ 0x01 ∷ []

-- the bytes of the magic
abbrev pub magic_size : ℕ
magic_size = 8

-- the bytes before the text of the metadata: the magic, and the length of the text
abbrev pub text_start : ℕ
text_start = 12

-- the bytes beside text and cells: those before the text, and the count of the cells
abbrev pub fixed_size : ℕ
fixed_size = 16

-- the bytes of a cell
abbrev pub cell_size : ℕ
cell_size = 16

-- ---- the metadata, a JSON object

-- what the metadata says
pub record Metadata : Type 0 where
  pub version : ℕ
  pub main : ℕ
  pub steps : ℕ
  pub sizes : List ℕ

-- a whole number of 64 bits, as the reading of JSON gives one: neither 1.0 nor -0 is
abbrev pub whole_in : Data → Option ℕ
whole_in d = option_and_then as_u64 (as_number d)

abbrev pub wholes_in : Items → Option (List ℕ)
wholes_in no_items = Some []
wholes_in (item d ds) = option_and_then (λ n. option_map (λ ns. n ∷ ns) (wholes_in ds)) (whole_in d)

abbrev pub whole_at : List ℕ → Data → Option ℕ
whole_at key d = option_and_then whole_in (get key d)

abbrev pub wholes_at : List ℕ → Data → Option (List ℕ)
wholes_at key d = option_and_then wholes_in (option_and_then as_array (get key d))

-- an object of four keys: a reading has each key once, a repeated one with its last value
abbrev pub has_four_keys : Data → Bool
has_four_keys d = option_map_or (λ ms. members_len ms == 4) (as_object d) false

abbrev pub parts_of : Data → Option Metadata
parts_of d =
    option_and_then (λ version.
    option_and_then (λ main.
    option_and_then (λ steps.
    option_map (λ sizes. record { version = version; main = main; steps = steps; sizes = sizes })
    (wholes_at (codes "sizes") d))
    (whole_at (codes "steps") d))
    (whole_at (codes "main") d))
    (whole_at (codes "version") d)

-- what an object says that has exactly the keys version, main, steps and sizes
abbrev pub metadata_of : Data → Option Metadata
metadata_of d = if has_four_keys d then parts_of d else None

-- the text is UTF-8, and read as JSON it says this
pub record IsMetadata (text : List ℕ) (metadata : Metadata) : Type 0 where
  pub is_text : IsUtf8 text
  pub says : option_and_then metadata_of (read text) ≡ Some metadata

-- ---- the cells, sixteen bytes each

-- a number has the tag 0, a place the tag 1
abbrev pub tag_of : Datum → ℕ
tag_of (number n) = 0
tag_of (place s o) = 1

abbrev pub payload_of : Datum → ℕ
payload_of (number n) = n
payload_of (place s o) = place_number s o

-- segment, offset, tag and value
abbrev pub cell_bytes : MemoryCell → List ℕ
cell_bytes c = to_be_bytes w16 c.segment ++ (to_be_bytes w32 c.offset ++ (to_be_bytes w16 (tag_of c.value) ++ to_be_bytes w64 (payload_of c.value)))

-- ---- the file

-- four bytes of length, and that many bytes
abbrev pub text_bytes : List ℕ → List ℕ
text_bytes text = to_be_bytes w32 (length text) ++ text

-- four bytes of count, and the cells
abbrev pub cells_bytes : List MemoryCell → List ℕ
cells_bytes cells = to_be_bytes w32 (length cells) ++ flat_map cell_bytes cells

-- the metadata of a PIE in version 1
abbrev pub first_version : PieRecord → Metadata
first_version pie = record { version = 1; main = pie.main; steps = pie.steps; sizes = pie.sizes }

-- These bytes are a file of this PIE. One PIE may have several files, since JSON has several spellings.
pub record PieBytes (bytes : List ℕ) (pie : PieRecord) : Type 0 where
  pub text : List ℕ
  pub is_metadata : IsMetadata text (first_version pie)
  pub text_fits : length text < 2 ^ 32
  pub spelled : bytes ≡ magic ++ (text_bytes text ++ cells_bytes pie.cells)
  pub in_limit : length bytes ≤ most_file_bytes
  pub keeps_rules : KeepsRules pie
