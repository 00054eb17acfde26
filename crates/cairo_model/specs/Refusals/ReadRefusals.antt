-- Why bytes are no PIE file: the causes by their numbers, and the first that applies (docs/PIE.md).
use Rattle.std.specs.Prelude.{ℕ, ◌≡◌, ◌≢◌, ◌+◌, ◌-◌, ◌*◌, ◌<◌, ◌≤◌, ◌⊎◌, List, length, sum, take, drop, slice_index}
use Rattle.std.specs.Int.{Width, w16, w32, byte_len, from_be_bytes}
use Rattle.cairo_model.specs.Limits.{least_segments, most_cells, most_file_bytes, most_segments, most_steps, offset_limit}
use Rattle.cairo_model.specs.Segments.{return_fp_segment, return_pc_segment}
use Rattle.cairo_model.specs.Refusals.FirstFailing.{IsFirstCause, IsFirstFailing}
use Rattle.cairo_model.specs.Pie.Files.{magic, magic_size, text_start, fixed_size, cell_size, Metadata, IsMetadata, cell_bytes}
use Rattle.cairo_model.specs.Pie.Records.{MemoryCell, IsCellOf, place_number}
use Rattle.cairo_model.specs.declared.read_refusal.ReadRefusal.{ReadRefusal}
use Rattle.cairo_model.specs.declared.read_refusal.ReadRefusal.TheVariants.{TooLong, BadMagic, Truncated, BadMetadata, BadVersion, BadSizes, TooManySegments, TooLarge, TooManySteps, BadCell, TrailingBytes}

abbrev pub read_number : ReadRefusal → ℕ
read_number (TooLong n) = 1
read_number BadMagic = 2
read_number (Truncated n) = 3
read_number BadMetadata = 4
read_number (BadVersion v) = 5
read_number BadSizes = 6
read_number (TooManySegments k) = 7
read_number (TooLarge n) = 8
read_number (TooManySteps k) = 9
read_number (BadCell i) = 10
read_number (TrailingBytes k) = 11

-- ---- where the parts of a file stand

-- the number of this width that begins at a byte
abbrev pub number_at : Width → ℕ → List ℕ → ℕ
number_at w start bytes = from_be_bytes w (take (byte_len w) (drop start bytes))

-- after the magic, the length of the text of the metadata
abbrev pub text_length : List ℕ → ℕ
text_length bytes = number_at w32 magic_size bytes

abbrev pub text_of : List ℕ → List ℕ
text_of bytes = take (text_length bytes) (drop text_start bytes)

-- after the text, the number of cells
abbrev pub cell_count : List ℕ → ℕ
cell_count bytes = number_at w32 (text_start + text_length bytes) bytes

-- and then the cells
abbrev pub cell_start : List ℕ → ℕ → ℕ
cell_start bytes i = fixed_size + text_length bytes + cell_size * i

-- the place, as one number, that the cell of this index names
abbrev pub place_in : List ℕ → ℕ → ℕ
place_in bytes i = place_number (number_at w16 (cell_start bytes i) bytes) (number_at w32 (cell_start bytes i + 2) bytes)

-- ---- rules of the parts

-- fewer bytes than the parts before announce
abbrev pub IsCut : List ℕ → Type 0
IsCut bytes = (length bytes < text_start) ⊎ ((length bytes < fixed_size + text_length bytes) ⊎ (length bytes < cell_start bytes (cell_count bytes)))

-- not too few sizes, each below the limit of offsets, with the two return segments empty
pub record HasSizes (sizes : List ℕ) : Type 0 where
  pub at_least : least_segments ≤ length sizes
  pub small : (segment : ℕ) → slice_index sizes segment < offset_limit
  pub no_return_fp : slice_index sizes return_fp_segment ≡ 0
  pub no_return_pc : slice_index sizes return_pc_segment ≡ 0

-- The bytes of this index spell a cell of these sizes, and its place is above that of the cell before.
pub record IsGoodCell (sizes bytes : List ℕ) (i : ℕ) : Type 0 where
  pub cell : MemoryCell
  pub spelled : take cell_size (drop (cell_start bytes i) bytes) ≡ cell_bytes cell
  pub is_cell : IsCellOf sizes cell
  pub rises : (k : ℕ) → i ≡ k + 1 → place_in bytes k < place_number cell.segment cell.offset

-- the metadata of a file, of which something holds
abbrev pub MetadataHas : List ℕ → (Metadata → Type 0) → Type 0
MetadataHas bytes P = (m : Metadata) × (IsMetadata (text_of bytes) m × P m)

-- ---- the causes

abbrev pub IsReadCause : List ℕ → ReadRefusal → Type 0
IsReadCause bytes (TooLong n) = (n ≡ length bytes) × (most_file_bytes < length bytes)
IsReadCause bytes BadMagic = (i : ℕ) × ((i < magic_size) × ((i < length bytes) × (slice_index bytes i ≢ slice_index magic i)))
IsReadCause bytes (Truncated n) = (n ≡ length bytes) × IsCut bytes
IsReadCause bytes BadMetadata = (m : Metadata) → ¬ IsMetadata (text_of bytes) m
IsReadCause bytes (BadVersion v) = MetadataHas bytes (λ m. (v ≡ m.version) × (v ≢ 1))
IsReadCause bytes BadSizes = MetadataHas bytes (λ m. ¬ HasSizes m.sizes)
IsReadCause bytes (TooManySegments k) = MetadataHas bytes (λ m. (k ≡ length m.sizes) × (most_segments < k))
IsReadCause bytes (TooLarge n) = MetadataHas bytes (λ m. (n ≡ sum m.sizes) × (most_cells < n))
IsReadCause bytes (TooManySteps k) = MetadataHas bytes (λ m. (k ≡ m.steps) × (most_steps < k))
IsReadCause bytes (BadCell i) = MetadataHas bytes (λ m. IsFirstFailing (λ k. k < cell_count bytes) (IsGoodCell m.sizes bytes) i)
IsReadCause bytes (TrailingBytes k) = (k ≡ length bytes - cell_start bytes (cell_count bytes)) × (0 < k)

-- the cause applies, and none of a lower number does
abbrev pub IsFirstReadCause : List ℕ → ReadRefusal → Type 0
IsFirstReadCause bytes refusal = IsFirstCause read_number (IsReadCause bytes) refusal
