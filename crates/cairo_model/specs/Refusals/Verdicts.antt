-- The verdict on the bytes of a file (docs/PIE.md).
use Rattle.std.specs.Prelude.{ℕ, List}
use Rattle.cairo_model.specs.Pie.Acceptance.{AcceptedWith, CheckedRecord}
use Rattle.cairo_model.specs.Pie.Files.{PieBytes}
use Rattle.cairo_model.specs.Pie.Records.{PieRecord}
use Rattle.cairo_model.specs.Refusals.ReadRefusals.{IsFirstReadCause}
use Rattle.cairo_model.specs.Refusals.ReplayRefusals.{IsFirstReplayCause, ReplayCause}
use Rattle.cairo_model.specs.declared.read_refusal.ReadRefusal.{ReadRefusal}

pub data Verdict : Type 0 where
  -- no PIE has these bytes
  no_file : ReadRefusal → Verdict
  -- the PIE that has them isn't accepted alone
  not_alone : ReplayCause → Verdict
  -- it is, with this fact and these states
  admitted : CheckedRecord → Verdict

-- the first refusal of the file, or else the first of its PIE's replay, or else what was found
abbrev pub IsVerdict : List ℕ → Verdict → Type 0
IsVerdict bytes (no_file refusal) = IsFirstReadCause bytes refusal
IsVerdict bytes (not_alone cause) = (pie : PieRecord) × (PieBytes bytes pie × IsFirstReplayCause pie cause)
IsVerdict bytes (admitted found) = PieBytes bytes found.pie × AcceptedWith found.pie found.fact found.states
