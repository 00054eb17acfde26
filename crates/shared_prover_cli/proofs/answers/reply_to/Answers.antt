use Rattle.std.proofs.Common.{subst}
use Rattle.shared_prover_cli.specs.Commands.{IsPlainCommand}
use Rattle.shared_prover_cli.specs.Working.Replying.{CanBeAsked}
use Rattle.command_words.specs.declared.command.Command.TheVariants as commands
use Rattle.shared_prover_cli.proofs.answers.reply_to.Goals as goal

-- the numbers were in their ranges when they were read
pub make_answer-requires : goal.make_answer-requires
make_answer-requires g c = let asked : CanBeAsked (commands.Make c.in-Make.jobs) = subst CanBeAsked c.in-Make.is c.requires.asked in asked.1.read.numbered.0.is_number.below

pub batch_reply-requires-clause-some : goal.batch_reply-requires-clause-some
batch_reply-requires-clause-some g c = λ κs lives. let asked : CanBeAsked (commands.Batch c.in-Batch.clients) = subst CanBeAsked c.in-Batch.is c.requires.asked in asked.1.read.numbered.0.is_number.above

pub batch_reply-requires-clause-few : goal.batch_reply-requires-clause-few
batch_reply-requires-clause-few g c = λ κs lives. let asked : CanBeAsked (commands.Batch c.in-Batch.clients) = subst CanBeAsked c.in-Batch.is c.requires.asked in asked.1.read.numbered.0.is_number.below

pub export_reply-requires-clause-some : goal.export_reply-requires-clause-some
export_reply-requires-clause-some g c = λ κs lives. let asked : CanBeAsked (commands.Export c.in-Export.clients c.in-Export.batch) = subst CanBeAsked c.in-Export.is c.requires.asked in asked.1.read.numbered.0.is_number.above

pub export_reply-requires-clause-few : goal.export_reply-requires-clause-few
export_reply-requires-clause-few g c = λ κs lives. let asked : CanBeAsked (commands.Export c.in-Export.clients c.in-Export.batch) = subst CanBeAsked c.in-Export.is c.requires.asked in asked.1.read.numbered.0.is_number.below

pub trial_answer-requires-after_bounds : goal.trial_answer-requires-after_bounds
trial_answer-requires-after_bounds g c = λ κs lives. let asked : CanBeAsked (commands.Trial c.in-Trial.jobs) = subst CanBeAsked c.in-Trial.is c.requires.asked in asked.1.read.numbered.0.is_number.below

-- what the other call serves is no command of this one
pub unreachable-requires : goal.unreachable-requires
unreachable-requires g c = let own : IsPlainCommand (commands.Serve c.in-Serve.field-0 c.in-Serve.field-1) = subst IsPlainCommand c.in-Serve.is c.requires.own in own tt
