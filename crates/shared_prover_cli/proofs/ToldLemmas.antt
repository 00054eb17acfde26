-- A reply with no desk, as what is told.
use Rattle.std.proofs.Common.{◌≡◌, Bool, false, [], Result, Ok, Err, ap, refl, subst, sym}
use Rattle.shared_prover_cli.specs.Commands.{AnswerOf, reads_input}
use Rattle.shared_prover_cli.specs.Runs.{HasInput, ReadsWithin, Stream}
use Rattle.shared_prover_cli.specs.Working.Replies.{reply_view}
use Rattle.shared_prover_cli.specs.Working.Replying.{ComesTo, ComesWith, told_alone}
use Rattle.command_words.specs.declared.command.Command.{Command}
use Rattle.shared_prover_cli.specs.declared.reply.Reply.{Reply}
use Rattle.shared_prover_cli.specs.declared.told.Told.{Told}
use Rattle.shared_prover_cli.specs.declared.whole.InputFault.{InputFault}
use Rattle.shared_prover_cli.specs.declared.whole.InputFault.TheVariants.{ReadFault, TooLong}

same_fault : (a b : InputFault) → ◌≡◌ {A = Result Told InputFault} (Err a) (Err b) → ◌≡◌ {A = Result Reply InputFault} (Err a) (Err b)
same_fault a b e = let is : a ≡ b = cc in ap (λ (x : InputFault). Err x) is

fault_same : (a b : InputFault) → ◌≡◌ {A = Result Reply InputFault} (Err a) (Err b) → ◌≡◌ {A = Result Told InputFault} (Err a) (Err b)
fault_same a b e = let is : a ≡ b = cc in ap (λ (x : InputFault). Err x) is

comes_alone : (command : Command) (source : Stream) (r : Result Reply InputFault) → ComesTo command source r → ComesWith command source (told_alone r)
comes_alone command source (Ok reply) c = record { answered = c.answered; long = λ e. absurd (cc); within = λ other. c.within (λ e. absurd (cc)); failed = λ e. absurd (cc) }
comes_alone command source (Err fault) c = record {
  answered = c.answered;
  long = λ e. c.long (same_fault fault TooLong e);
  within = λ other. c.within (λ e. other (fault_same fault TooLong e));
  failed = λ e. c.failed (same_fault fault ReadFault e);
}

-- what the words ask for is this command, whose reply has no desk
pub comes_with : (asked command : Command) (source : Stream) (r : Result Reply InputFault) (told : Result Told InputFault) → asked ≡ command → told ≡ told_alone r → ComesTo command source r → ComesWith asked source told
comes_with asked command source r told is same c = subst (λ (k : Command). ComesWith k source told) (sym is) (subst (ComesWith command source) (sym same) (comes_alone command source r c))

-- the same of a command that runs a script
pub comes_as : (asked command : Command) (source : Stream) (told : Result Told InputFault) → asked ≡ command → ComesWith command source told → ComesWith asked source told
comes_as asked command source told is c = subst (λ (k : Command). ComesWith k source told) (sym is) c

-- a command that has no input leaves the source
pub comes_untouched : (asked command : Command) (source : Stream) (told : Told) → asked ≡ command → reads_input command ≡ false → source.IsUntouched
    → AnswerOf command [] (reply_view told.reply) told.desk → ComesWith asked source (Ok told)
comes_untouched asked command source told is none untouched answer =
    let has : HasInput (reads_input command) source [] = subst (λ (b : Bool). HasInput b source []) (sym none) (refl, untouched) in
    let reads : ReadsWithin (reads_input command) source = subst (λ (b : Bool). ReadsWithin b source) (sym none) untouched in
    let comes : ComesWith command source (Ok told) = record {
      answered = record { input = []; has_input = has; answer = answer };
      long = λ e. absurd (cc);
      within = λ other. reads;
      failed = λ e. absurd (cc);
    } in
    comes_as asked command source (Ok told) is comes

pub ruleset told_replies = (comes_with, comes_as, comes_untouched)
