use Rattle.std.proofs.Common.{All, subst, sym}
use Rattle.goldi_field.specs.Numbers.{IsFelt}
use Rattle.batch_runner.proofs.BootFelts.{boot_felts}
use Rattle.batch_runner.proofs.memory.push_boot.Goals as goal

pub push_code-requires : goal.push_code-requires
push_code-requires c = subst (All IsFelt) (sym c.boot_words.ensures) boot_felts
