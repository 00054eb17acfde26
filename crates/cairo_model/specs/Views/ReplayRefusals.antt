-- Refusals of the code as plain data.
use Rattle.cairo_model.specs.Refusals.ReplayRefusals.{ReplayCause, program_cell, bad_main, bad_frame, output_cell, range_cell, hash_instance, step, not_home, wrong_frame, stop_pointer}
use Rattle.cairo_model.specs.Views.Machine.{datum}
use Rattle.cairo_model.specs.declared.replay_refusal.ReplayRefusal.{ReplayRefusal}
use Rattle.cairo_model.specs.declared.replay_refusal.ReplayRefusal.TheVariants as refusals

abbrev pub replay_cause : ReplayRefusal → ReplayCause
replay_cause (refusals.ProgramCell i) = program_cell i
replay_cause (refusals.BadMain main) = bad_main main
replay_cause (refusals.BadFrame i) = bad_frame i
replay_cause (refusals.OutputCell i) = output_cell i
replay_cause (refusals.RangeCell i) = range_cell i
replay_cause (refusals.HashInstance i) = hash_instance i
replay_cause (refusals.Step n fault) = step n fault
replay_cause (refusals.NotHome pc) = not_home (datum pc)
replay_cause (refusals.WrongFrame fp) = wrong_frame (datum fp)
replay_cause (refusals.StopPointer i) = stop_pointer i
