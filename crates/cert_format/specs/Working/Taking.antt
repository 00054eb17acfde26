-- One part of a certificate after the other: how many bytes it has, and what is kept of it.
use Rattle.std.specs.Prelude.{ℕ, zero, suc, ◌+◌, ◌-◌, ◌<◌, List, [], ◌∷◌, ◌++◌, take, drop, if◌then◌else◌, Option, Some, None, Ok, Err}
use Rattle.std.specs.Int.{w32, from_be_bytes}
use Rattle.cairo_model.specs.Machine.Steps.{◌>>=◌}
use Rattle.cairo_model.specs.Certificate.Records.{alone}
use Rattle.cert_format.specs.declared.refusal.CertRefusal.{CertRefusal}
use Rattle.cert_format.specs.declared.refusal.CertRefusal.TheVariants.{BadMagic, Truncated}
use Rattle.cert_format.specs.declared.stage.Stage.{Stage}
use Rattle.cert_format.specs.declared.stage.Stage.TheVariants.{Front, Foreign, Marks, Bases, CellCount, Cells, StateCount, States, End}
use Rattle.cert_format.specs.Reading.{Reads, has_magic, kind_at, span_at, task_count_at, felt_at, cell_numbers_at, state_at}
use Rattle.cert_format.specs.Feeding.{FrontRecord, Partial}

-- how many bytes the next part has, 0 where none is awaited
abbrev pub size_of : Stage → ℕ
size_of Front = 61
size_of Foreign = 0
size_of (Marks n) = 8
size_of (Bases m n) = 8
size_of CellCount = 4
size_of (Cells n) = 16
size_of StateCount = 4
size_of (States n) = 24
size_of (End start) = 0

-- one more is awaited
abbrev pub IsAwaiting : Stage → Type 0
IsAwaiting Front = Unit {0}
IsAwaiting Foreign = Unit {0}
IsAwaiting (Marks n) = 0 < n
IsAwaiting (Bases m n) = 0 < m
IsAwaiting CellCount = Unit {0}
IsAwaiting (Cells n) = 0 < n
IsAwaiting StateCount = Unit {0}
IsAwaiting (States n) = 0 < n
IsAwaiting (End start) = Unit {0}

-- what is next where so many are left
abbrev pub marks_left : ℕ → Stage
marks_left zero = CellCount
marks_left (suc n) = Marks (suc n)

abbrev pub cells_left : ℕ → Stage
cells_left zero = StateCount
cells_left (suc n) = Cells (suc n)

abbrev pub states_left : ℕ → ℕ → Stage
states_left place zero = End place
states_left place (suc n) = States (suc n)

-- ---- the kind, the spans and the number of tasks

unfoldable pub head_at : ℕ → List ℕ → Reads FrontRecord
head_at whole bytes = do
  kind ← kind_at whole bytes
  output ← span_at whole kind.1
  range ← span_at whole output.1
  hash ← span_at whole range.1
  Ok (record { kind = kind.0; output = output.0; range = range.0; hash = hash.0 }, hash.1)

unfoldable pub front_at : ℕ → List ℕ → Reads FrontRecord
front_at whole bytes = do
  head ← head_at whole bytes
  count ← task_count_at whole head.0.kind head.1
  Ok (head.0, count.1)

-- ---- what is kept

-- what was read is kept, or the refusal, if none was found before
abbrev pub kept : {A : Type 0} → Partial → Reads A → (A → Partial) → Partial
kept p (Ok x) keep = keep x.0
kept p (Err refusal) keep = record p { bad = Some refusal }

abbrev pub noting : {A : Type 0} → Option CertRefusal → Partial → Reads A → (A → Partial) → Partial
noting None p read keep = kept p read keep
noting (Some refusal) p read keep = p

-- goes on with so many bytes more, to this part
abbrev pub going : Partial → ℕ → Stage → Partial
going p size stage = record p { place = p.place + size; stage = stage }

abbrev pub count_in : List ℕ → ℕ
count_in bytes = from_be_bytes w32 (take 4 bytes)

abbrev pub front_kept : Partial → List ℕ → Partial
front_kept p bytes = kept p (front_at 61 bytes) (λ f. record p { front = f })

abbrev pub front_taken : Partial → List ℕ → Partial
front_taken p unit = if has_magic unit then going (front_kept p (drop 8 unit)) 61 (marks_left (count_in (drop 57 unit))) else going p 61 Foreign

-- the task is whole where no base is left
abbrev pub bases_left : Partial → ℕ → ℕ → Partial
bases_left p zero n = record p { tasks = p.tasks ++ record { row = p.row; bases = p.bases } ∷ []; bases = []; stage = marks_left n }
bases_left p (suc m) n = record p { stage = Bases (suc m) n }

abbrev pub mark_taken : Partial → ℕ → List ℕ → Partial
mark_taken p n unit = bases_left (record p { place = p.place + 8; row = count_in unit; bases = [] }) (count_in (drop 4 unit)) n

abbrev pub base_kept : Partial → List ℕ → Partial
base_kept p unit = noting p.bad p (felt_at (p.place + 8) unit) (λ base. record p { bases = p.bases ++ base ∷ [] })

abbrev pub base_taken : Partial → ℕ → ℕ → List ℕ → Partial
base_taken p m n unit = let q : Partial = base_kept p unit in bases_left (record q { place = q.place + 8 }) m n

abbrev pub cell_count_taken : Partial → List ℕ → Partial
cell_count_taken p unit = record p { place = p.place + 4; marks_end = p.place; stage = cells_left (count_in unit) }

abbrev pub cell_kept : Partial → List ℕ → Partial
cell_kept p unit = noting p.bad p (cell_numbers_at (p.place + 16) unit) (λ cell. record p { cells = p.cells ++ cell ∷ [] })

abbrev pub cell_taken : Partial → ℕ → List ℕ → Partial
cell_taken p n unit = going (cell_kept p unit) 16 (cells_left n)

abbrev pub state_count_taken : Partial → List ℕ → Partial
state_count_taken p unit = going p 4 (states_left (p.place + 4) (count_in unit))

abbrev pub state_kept : Partial → List ℕ → Partial
state_kept p unit = noting p.bad p (state_at (p.place + 24) unit) (λ state. record p { states = p.states ++ state ∷ [] })

abbrev pub state_taken : Partial → ℕ → List ℕ → Partial
state_taken p n unit = going (state_kept p unit) 24 (states_left (p.place + 24) n)

-- ---- all parts

-- before a byte is fed
abbrev pub nothing : Partial
nothing = record {
  place = 0;
  stage = Front;
  bad = None;
  front = record { kind = alone; output = record { start = 0; stop = 0 }; range = record { start = 0; stop = 0 }; hash = record { start = 0; stop = 0 } };
  tasks = [];
  row = 0;
  bases = [];
  marks_end = 0;
  cells = [];
  states = [];
}

abbrev pub taken_at : Stage → Partial → List ℕ → Partial
taken_at Front p unit = front_taken p unit
taken_at Foreign p unit = p
taken_at (Marks n) p unit = mark_taken p (n - 1) unit
taken_at (Bases m n) p unit = base_taken p (m - 1) n unit
taken_at CellCount p unit = cell_count_taken p unit
taken_at (Cells n) p unit = cell_taken p (n - 1) unit
taken_at StateCount p unit = state_count_taken p unit
taken_at (States n) p unit = state_taken p (n - 1) unit
taken_at (End start) p unit = p

unfoldable pub taken : Partial → List ℕ → Partial
taken p unit = taken_at p.stage p unit

abbrev pub passed_over : Partial → ℕ → Partial
passed_over p count = record p { place = p.place + count }

-- why bytes are no certificate's that are fewer than its front has, in a file of so many
abbrev pub refusal_in_front : ℕ → List ℕ → CertRefusal
refusal_in_front whole bytes = if has_magic bytes then Truncated whole else BadMagic
