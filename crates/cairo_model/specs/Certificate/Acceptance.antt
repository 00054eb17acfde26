-- When the machine accepts a certificate: its states are one run over its own cells, which begins and ends as the calling
-- convention asks, and whose spans hold what the builtins ask (docs/CERTIFICATE.md).
use Rattle.std.specs.Prelude.{ℕ, ◌≡◌, ◌+◌, ◌-◌, ◌<◌, List, length, slice_index, All, Option, Some}
use Rattle.builtin_range.specs.Ranges.{IsRangeCell}
use Rattle.cairo_model.specs.Pie.BuiltinCells.{AreInstances}
use Rattle.cairo_model.specs.Machine.Steps.{Registers, field_arithmetic, RunsTo}
use Rattle.cairo_model.specs.Machine.Addresses.{found_below}
use Rattle.cairo_model.specs.Machine.FieldMemories.{FieldCell, cell_at}
use Rattle.cairo_model.specs.Certificate.Records.{CertRecord, SpanRecord}

-- the cell so many below an address
abbrev pub cell_below : List FieldCell → ℕ → ℕ → Option ℕ
cell_below cells address distance = found_below (cell_at cells) address distance

-- each address of the span has a cell, and in order they hold these numbers
pub record SpanHolds (cells : List FieldCell) (span : SpanRecord) (numbers : List ℕ) : Type 0 where
  pub count : length numbers ≡ span.stop - span.start
  pub each : (i : ℕ) → i < span.stop - span.start → cell_at cells (span.start + i) ≡ Some (slice_index numbers i)

pub record MachineAccepts (cert : CertRecord) : Type 0 where
  pub first : Registers ℕ
  pub last : Registers ℕ
  pub runs : RunsTo field_arithmetic (cell_at cert.cells) first cert.states last
  -- the run starts just above its frame, which holds the starts of the spans, the caller's frame pointer and the return address
  pub starts : first.ap ≡ first.fp
  pub output_start : cell_below cert.cells first.fp 5 ≡ Some cert.output.start
  pub range_start : cell_below cert.cells first.fp 4 ≡ Some cert.range.start
  pub hash_start : cell_below cert.cells first.fp 3 ≡ Some cert.hash.start
  -- it ends at the return address with the caller's frame pointer, above the stops of the spans
  pub restored : cell_below cert.cells first.fp 2 ≡ Some last.fp
  pub returned : cell_below cert.cells first.fp 1 ≡ Some last.pc
  pub output_stop : cell_below cert.cells last.ap 3 ≡ Some cert.output.stop
  pub range_stop : cell_below cert.cells last.ap 2 ≡ Some cert.range.stop
  pub hash_stop : cell_below cert.cells last.ap 1 ≡ Some cert.hash.stop
  -- the spans
  pub outputs : List ℕ
  pub has_outputs : SpanHolds cert.cells cert.output outputs
  pub range_cells : List ℕ
  pub has_range_cells : SpanHolds cert.cells cert.range range_cells
  pub are_range_cells : All IsRangeCell range_cells
  pub instances : List ℕ
  pub has_instances : SpanHolds cert.cells cert.hash instances
  pub are_instances : AreInstances instances
