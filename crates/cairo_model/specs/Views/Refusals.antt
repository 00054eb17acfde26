-- The refusals of a file's bytes as verdicts.
use Rattle.cairo_model.specs.Views.ReplayRefusals.{replay_cause}
use Rattle.cairo_model.specs.Refusals.Verdicts.{Verdict, no_file, not_alone}
use Rattle.cairo_model.specs.declared.refusal.Refusal.{Refusal}
use Rattle.cairo_model.specs.declared.refusal.Refusal.TheVariants as refusals

abbrev pub refused : Refusal → Verdict
refused (refusals.Read refusal) = no_file refusal
refused (refusals.Replay refusal) = not_alone (replay_cause refusal)
