-- Why bytes are no certificate's: the causes by their numbers, and the first that applies (docs/CERTIFICATE.md).
use Rattle.std.specs.Prelude.{ℕ, ◌≡◌, ◌≢◌, ◌+◌, ◌*◌, ◌^◌, ◌<◌, ◌≤◌, ◌⊎◌, List, [], ◌∷◌, ◌++◌, length, drop, slice_index, All}
use Rattle.std.specs.Int.{w32, w64, to_be_bytes}
use Rattle.std.specs.List.{flat_map}
use Rattle.goldi_field.specs.Numbers.{IsFelt}
use Rattle.cairo_model.specs.Machine.Steps.{Registers}
use Rattle.cairo_model.specs.Machine.FieldMemories.{FieldCell, addresses}
use Rattle.cairo_model.specs.Refusals.FirstFailing.{IsFirstCause}
use Rattle.cairo_model.specs.Certificate.Records.{SpanRecord, MarkRecord}
use Rattle.cert_format.specs.Spelling.{certificate_magic}
use Rattle.cert_format.specs.declared.refusal.CertRefusal.{CertRefusal}
use Rattle.cert_format.specs.declared.refusal.CertRefusal.TheVariants.{BadMagic, Truncated, BadNumber, Order, Trailing}

abbrev pub refusal_number : CertRefusal → ℕ
refusal_number BadMagic = 1
refusal_number (Truncated n) = 2
refusal_number (BadNumber place) = 3
refusal_number (Order place) = 4
refusal_number (Trailing k) = 5

-- ---- a file, behind its magic, as a row of entries

pub data Entry : Type 0 where
  kind : ℕ → Entry
  -- the kind, and the number of tasks
  task_count : ℕ → ℕ → Entry
  count : ℕ → Entry
  number : ℕ → Entry

abbrev pub entry_bytes : Entry → List ℕ
entry_bytes (kind k) = k ∷ []
entry_bytes (task_count k n) = to_be_bytes w32 n
entry_bytes (count n) = to_be_bytes w32 n
entry_bytes (number n) = to_be_bytes w64 n

-- its bytes can hold it
abbrev pub FitsBytes : Entry → Type 0
FitsBytes (kind k) = k < 256
FitsBytes (task_count k n) = n < 2 ^ 32
FitsBytes (count n) = n < 2 ^ 32
FitsBytes (number n) = n < 2 ^ 64

-- what a certificate asks of it: the kind is 0 or 1, a PIE alone has no task, a count is any, a number is below p
abbrev pub IsGoodEntry : Entry → Type 0
IsGoodEntry (kind k) = k ≤ 1
IsGoodEntry (task_count k n) = k ≡ 0 → n ≡ 0
IsGoodEntry (count n) = Unit {0}
IsGoodEntry (number n) = IsFelt n

abbrev pub entries_bytes : List Entry → List ℕ
entries_bytes entries = flat_map entry_bytes entries

-- ---- the parts of a file, whatever their numbers are

pub record Parts : Type 0 where
  pub kind_number : ℕ
  pub output : SpanRecord
  pub range : SpanRecord
  pub hash : SpanRecord
  pub tasks : List MarkRecord
  pub cells : List FieldCell
  pub states : List (Registers ℕ)

-- how many there are, and each of them
abbrev pub counted_entries : {A : Type 0} → (A → List Entry) → List A → List Entry
counted_entries entries items = count (length items) ∷ flat_map entries items

abbrev pub span_entries : SpanRecord → List Entry
span_entries s = number s.start ∷ number s.stop ∷ []

abbrev pub base_entries : ℕ → List Entry
base_entries base = number base ∷ []

abbrev pub mark_entries : MarkRecord → List Entry
mark_entries m = count m.row ∷ counted_entries base_entries m.bases

abbrev pub cell_entries : FieldCell → List Entry
cell_entries c = number c.0 ∷ number c.1 ∷ []

abbrev pub state_entries : Registers ℕ → List Entry
state_entries s = number s.pc ∷ number s.ap ∷ number s.fp ∷ []

-- the kind, the spans and the tasks
abbrev pub front_entries : Parts → List Entry
front_entries p = kind p.kind_number ∷ (span_entries p.output ++ (span_entries p.range ++ (span_entries p.hash ++ (task_count p.kind_number (length p.tasks) ∷ flat_map mark_entries p.tasks))))

-- all of them, in the order of the file
abbrev pub entries_of : Parts → List Entry
entries_of p = front_entries p ++ (counted_entries cell_entries p.cells ++ counted_entries state_entries p.states)

-- behind the first eight bytes stand these parts, and then the rest
pub record HasParts (bytes : List ℕ) (parts : Parts) (rest : List ℕ) : Type 0 where
  pub has_front : 8 ≤ length bytes
  pub fit : All FitsBytes (entries_of parts)
  pub spelled : drop 8 bytes ≡ entries_bytes (entries_of parts) ++ rest

-- bytes of which the parts and the rest have a property
pub record PartsHave (bytes : List ℕ) (P : Parts → List ℕ → Type 0) : Type 0 where
  pub parts : Parts
  pub rest : List ℕ
  pub has_parts : HasParts bytes parts rest
  pub holds : P parts rest

-- ---- places

-- the least number of which something holds
pub record IsLeast (P : ℕ → Type 0) (n : ℕ) : Type 0 where
  pub holds : P n
  pub none_below : (k : ℕ) → k < n → ¬ P k

-- an entry that begins at this place of the file isn't good
pub record IsBadAt (parts : Parts) (place : ℕ) : Type 0 where
  pub before : List Entry
  pub entry : Entry
  pub behind : List Entry
  pub split : entries_of parts ≡ before ++ (entry ∷ behind)
  pub place_is : place ≡ 8 + length (entries_bytes before)
  pub not_good : ¬ IsGoodEntry entry

-- the place of the address of the cell with this index: before the cells stand the entries above and their number
abbrev pub cell_place : Parts → ℕ → ℕ
cell_place parts i = 8 + length (entries_bytes (front_entries parts)) + 4 + 16 * i

-- at this place stands the address of a cell, and it isn't above the address of the cell before
pub record IsFallenAt (parts : Parts) (place : ℕ) : Type 0 where
  pub index : ℕ
  pub inside : index + 1 < length parts.cells
  pub place_is : place ≡ cell_place parts (index + 1)
  pub falls : slice_index (addresses parts.cells) (index + 1) ≤ slice_index (addresses parts.cells) index

-- at this place stands a stop that is below its start
abbrev pub IsStopBelow : ℕ → SpanRecord → ℕ → Type 0
IsStopBelow stop_place s place = (place ≡ stop_place) × (s.stop < s.start)

abbrev pub IsUnorderedAt : Parts → ℕ → Type 0
IsUnorderedAt parts place = IsStopBelow 17 parts.output place ⊎ (IsStopBelow 33 parts.range place ⊎ (IsStopBelow 49 parts.hash place ⊎ IsFallenAt parts place))

-- ---- the causes

abbrev pub IsCertCause : List ℕ → CertRefusal → Type 0
IsCertCause bytes BadMagic = (i : ℕ) × ((i < 8) × ((i < length bytes) × (slice_index bytes i ≢ slice_index certificate_magic i)))
IsCertCause bytes (Truncated n) = (n ≡ length bytes) × ((parts : Parts) (rest : List ℕ) → ¬ HasParts bytes parts rest)
IsCertCause bytes (BadNumber place) = PartsHave bytes (λ parts rest. IsLeast (IsBadAt parts) place)
IsCertCause bytes (Order place) = PartsHave bytes (λ parts rest. IsLeast (IsUnorderedAt parts) place)
IsCertCause bytes (Trailing k) = PartsHave bytes (λ parts rest. (k ≡ length rest) × (0 < k))

-- the cause applies, and none of a lower number does
abbrev pub IsFirstCertCause : List ℕ → CertRefusal → Type 0
IsFirstCertCause bytes refusal = IsFirstCause refusal_number (IsCertCause bytes) refusal
