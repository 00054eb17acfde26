-- Reading a PIE file, with the first refusal that applies (docs/PIE.md).
use Rattle.std.specs.Prelude.{ℕ, zero, suc, ◌+◌, ◌*◌, ◌/◌, ◌%◌, ◌^◌, ◌==◌, ◌&&◌, nat_lt, nat_le, Bool, true, not, List, [], ◌∷◌, length, sum, take, drop, slice_index, Option, Some, None, option_map, option_and_then, Result, Ok, Err, if◌then◌else◌}
use Rattle.std.specs.Str.{is_utf8}
use Rattle.std.specs.Int.{Width, w16, w32, w64, byte_len, from_be_bytes}
use Rattle.std.specs.List.{starts_with}
use Rattle.serde_json.specs.Read.{read}
use Rattle.goldi_field.specs.Numbers.{prime}
use Rattle.cairo_model.specs.Limits.{least_segments, most_cells, most_file_bytes, most_segments, most_steps, offset_limit}
use Rattle.cairo_model.specs.Segments.{return_fp_segment, return_pc_segment}
use Rattle.cairo_model.specs.Working.Keys.{is_after}
use Rattle.cairo_model.specs.declared.read_refusal.ReadRefusal.{ReadRefusal}
use Rattle.cairo_model.specs.declared.read_refusal.ReadRefusal.TheVariants.{TooLong, BadMagic, Truncated, BadMetadata, BadVersion, BadSizes, TooManySegments, TooLarge, TooManySteps, BadCell, TrailingBytes}
use Rattle.cairo_model.specs.Machine.Steps.{◌>>=◌, required}
use Rattle.cairo_model.specs.Machine.Values.{Datum, number, place}
use Rattle.cairo_model.specs.Pie.Records.{MemoryCell, PieRecord, place_number}
use Rattle.cairo_model.specs.Pie.Files.{magic, magic_size, text_start, cell_size, Metadata, metadata_of}

-- the number that the first bytes are
abbrev pub front : Width → List ℕ → ℕ
front w bytes = from_be_bytes w (take (byte_len w) bytes)

-- ---- the parts of the file: magic, length, text, count, cells

-- the first eight bytes, of those that are there, begin the magic
abbrev pub has_magic : List ℕ → Bool
has_magic bytes = starts_with ◌==◌ magic (take magic_size bytes)

-- the text of the metadata, the number of cells, and the bytes after that number
pub record Parts : Type 0 where
  pub text : List ℕ
  pub count : ℕ
  pub rest : List ℕ

-- sixteen bytes for each cell
abbrev pub counted : List ℕ → ℕ → List ℕ → Option Parts
counted text count rest = if nat_lt (length rest) (cell_size * count) then None else Some (record { text = text; count = count; rest = rest })

-- so many bytes of text, and four of the count
abbrev pub after_length : ℕ → List ℕ → Option Parts
after_length len bytes = if nat_lt (length bytes) (len + 4) then None else counted (take len bytes) (front w32 (drop len bytes)) (drop 4 (drop len bytes))

-- eight bytes of magic, and four of the length
abbrev pub whole_parts : List ℕ → Option Parts
whole_parts bytes = if nat_lt (length bytes) text_start then None else after_length (front w32 (drop magic_size bytes)) (drop 4 (drop magic_size bytes))

abbrev pub parts_at : List ℕ → Result Parts ReadRefusal
parts_at bytes =
    if nat_lt most_file_bytes (length bytes) then Err (TooLong (length bytes))
    else (if has_magic bytes then required (Truncated (length bytes)) (whole_parts bytes)
    else Err BadMagic)

-- ---- the metadata

-- what a text says that is UTF-8 and JSON
abbrev pub metadata_in : List ℕ → Option Metadata
metadata_in text = if is_utf8 text then option_and_then metadata_of (read text) else None

abbrev pub all_below : ℕ → List ℕ → Bool
all_below limit [] = true
all_below limit (n ∷ ns) = nat_lt n limit && all_below limit ns

-- not too few sizes, each below the limit of offsets, with the two return segments empty
abbrev pub has_sizes : List ℕ → Bool
has_sizes sizes = nat_le least_segments (length sizes) && all_below offset_limit sizes && slice_index sizes return_fp_segment == 0 && slice_index sizes return_pc_segment == 0

-- the first rule that the metadata breaks
abbrev pub metadata_fault : Metadata → Option ReadRefusal
metadata_fault m =
    if not (m.version == 1) then Some (BadVersion m.version)
    else (if not (has_sizes m.sizes) then Some BadSizes
    else (if nat_lt most_segments (length m.sizes) then Some (TooManySegments (length m.sizes))
    else (if nat_lt most_cells (sum m.sizes) then Some (TooLarge (sum m.sizes))
    else (if nat_lt most_steps m.steps then Some (TooManySteps m.steps)
    else None))))

-- goes on with a value where there is no fault
abbrev pub unless : {A : Type 0} → Option ReadRefusal → A → Result A ReadRefusal
unless None x = Ok x
unless (Some r) x = Err r

abbrev pub metadata_at : List ℕ → Result Metadata ReadRefusal
metadata_at text = required BadMetadata (metadata_in text) >>= λ m. unless (metadata_fault m) m

-- ---- the cells

-- a field number
abbrev pub number_value : ℕ → Option Datum
number_value n = if nat_lt n prime then Some (number n) else None

-- a place of one of so many segments, near enough
abbrev pub place_value : ℕ → ℕ → ℕ → Option Datum
place_value segments segment offset = if nat_lt segment segments && nat_lt offset offset_limit then Some (place segment offset) else None

-- what a tag and the number after it say
abbrev pub value_in : ℕ → ℕ → ℕ → Option Datum
value_in segments tag payload =
    if tag == 0 then number_value payload
    else (if tag == 1 then place_value segments (payload / 2 ^ 32) (payload % 2 ^ 32)
    else None)

-- the segment is there, and the offset is below its size
abbrev pub is_inside : List ℕ → ℕ → ℕ → Bool
is_inside sizes segment offset = nat_lt segment (length sizes) && nat_lt offset (slice_index sizes segment)

abbrev pub cell_in : List ℕ → Option ℕ → ℕ → ℕ → Option Datum → Option MemoryCell
cell_in sizes before segment offset value =
    if is_inside sizes segment offset && is_after before (place_number segment offset)
    then option_map (λ v. record { segment = segment; offset = offset; value = v }) value
    else None

-- the cell that the first sixteen bytes are, after one at the place before
abbrev pub cell_at : List ℕ → Option ℕ → List ℕ → Option MemoryCell
cell_at sizes before bytes =
    cell_in sizes before (front w16 bytes) (front w32 (drop 2 bytes)) (value_in (length sizes) (front w16 (drop 6 bytes)) (front w64 (drop magic_size bytes)))

-- so many cells one after the other, of which the first has this index, and the bytes after them
unfoldable pub cells_at : List ℕ → ℕ → Option ℕ → ℕ → List ℕ → Result (List MemoryCell × List ℕ) ReadRefusal
cells_at sizes index before zero bytes = Ok ([], bytes)
cells_at sizes index before (suc n) bytes = do
  cell ← required (BadCell index) (cell_at sizes before bytes)
  others ← cells_at sizes (index + 1) (Some (place_number cell.segment cell.offset)) n (drop cell_size bytes)
  Ok (cell ∷ others.0, others.1)

-- ---- the file

unfoldable pub reading : List ℕ → Result PieRecord ReadRefusal
reading bytes = do
  parts ← parts_at bytes
  m ← metadata_at parts.text
  cells ← cells_at m.sizes 0 None parts.count parts.rest
  if length cells.1 == 0 then Ok (record { main = m.main; steps = m.steps; sizes = m.sizes; cells = cells.0 }) else Err (TrailingBytes (length cells.1))
