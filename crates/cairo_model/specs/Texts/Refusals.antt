-- How the refusals of files and replays are written: the number, and the fields in order (docs/PIE.md).
use Rattle.std.specs.Prelude.{ℕ, List, [], ◌∷◌, ◌++◌}
use Rattle.cairo_model.specs.Refusals.ReadRefusals.{read_number}
use Rattle.cairo_model.specs.Refusals.ReplayRefusals.{ReplayCause, replay_number, program_cell, bad_main, bad_frame, output_cell, range_cell, hash_instance, step, not_home, wrong_frame, stop_pointer}
use Rattle.cairo_model.specs.Machine.StepFaults.{step_fault_number}
use Rattle.cairo_model.specs.Texts.Numbers.{numbers_text, value_text}
use Rattle.cairo_model.specs.Views.ReplayRefusals.{replay_cause}
use Rattle.cairo_model.specs.declared.read_refusal.ReadRefusal.{ReadRefusal}
use Rattle.cairo_model.specs.declared.read_refusal.ReadRefusal.TheVariants.{TooLong, BadMagic, Truncated, BadMetadata, BadVersion, BadSizes, TooManySegments, TooLarge, TooManySteps, BadCell, TrailingBytes}
use Rattle.cairo_model.specs.declared.refusal.Refusal.{Refusal}
use Rattle.cairo_model.specs.declared.refusal.Refusal.TheVariants as refusals

abbrev pub read_fields : ReadRefusal → List ℕ
read_fields (TooLong n) = n ∷ []
read_fields BadMagic = []
read_fields (Truncated n) = n ∷ []
read_fields BadMetadata = []
read_fields (BadVersion v) = v ∷ []
read_fields BadSizes = []
read_fields (TooManySegments k) = k ∷ []
read_fields (TooLarge n) = n ∷ []
read_fields (TooManySteps k) = k ∷ []
read_fields (BadCell i) = i ∷ []
read_fields (TrailingBytes k) = k ∷ []

abbrev pub read_text : ReadRefusal → List ℕ
read_text refusal = numbers_text (read_number refusal ∷ read_fields refusal)

abbrev pub fields_text : ReplayCause → List ℕ
fields_text (program_cell i) = numbers_text (i ∷ [])
fields_text (bad_main main) = numbers_text (main ∷ [])
fields_text (bad_frame i) = numbers_text (i ∷ [])
fields_text (output_cell i) = numbers_text (i ∷ [])
fields_text (range_cell i) = numbers_text (i ∷ [])
fields_text (hash_instance i) = numbers_text (i ∷ [])
fields_text (step n fault) = numbers_text (n ∷ step_fault_number fault ∷ [])
fields_text (not_home pc) = value_text pc
fields_text (wrong_frame fp) = value_text fp
fields_text (stop_pointer i) = numbers_text (i ∷ [])

abbrev pub replay_text : ReplayCause → List ℕ
replay_text cause = numbers_text (replay_number cause ∷ []) ++ fields_text cause

abbrev pub refusal_text : Refusal → List ℕ
refusal_text (refusals.Read refusal) = read_text refusal
refusal_text (refusals.Replay refusal) = replay_text (replay_cause refusal)
