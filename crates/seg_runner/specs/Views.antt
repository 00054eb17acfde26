-- The refusals of the code as plain data.
use Rattle.cairo_model.specs.Views.Machine.{datum}
use Rattle.cairo_model.specs.Views.ReplayRefusals.{replay_cause}
use Rattle.seg_runner.specs.Refusals.{RunCause, unknown_cell, conflicting, faulty, over_limit, over_size, not_accepted}
use Rattle.seg_runner.specs.declared.refusal.RunRefusal.{RunRefusal}
use Rattle.seg_runner.specs.declared.refusal.RunRefusal.TheVariants as refusals

abbrev pub run_cause : RunRefusal → RunCause
run_cause (refusals.Unknown n) = unknown_cell n
run_cause (refusals.Conflict n dst res) = conflicting n (datum dst) (datum res)
run_cause (refusals.Fault n fault) = faulty n fault
run_cause (refusals.StepLimit n) = over_limit n
run_cause (refusals.TooLarge n) = over_size n
run_cause (refusals.Refused cause) = not_accepted (replay_cause cause)
