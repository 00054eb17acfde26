-- Words ask for one command at most.
use Rattle.std.proofs.Common.{◌≡◌, ◌∷◌, List, [], ap, drop, get_or, refl, subst, sym, ◌∙◌}
use Rattle.std.specs.Prelude.{String}
use Rattle.std.specs.declared.alloc.Global.{Global}
use Rattle.clap.specs.Simple.{matches_of}
use Rattle.clap.specs.Walk.{Row, Text}
use Rattle.command_words.specs.Readings.{GiveNumbers, program_name}
use Rattle.command_words.specs.Words.{Asks, wording_of}
use Rattle.command_words.specs.Working.FirstWords.{app_after, first_word_of}
use Rattle.command_words.specs.declared.command.Command.{Command}
use Rattle.command_words.specs.declared.command.Command.TheVariants as commands
use Rattle.command_words.proofs.Numbers.{one_number}
use Rattle.command_words.proofs.FirstWords.{read_by_row, one_first_word, spelled_by_row}

-- commands with one first word, and the numbers of the same matches
pub same_command : (matches : List Row) (one other : Command) → first_word_of one ≡ first_word_of other
    → GiveNumbers matches (wording_of one).numbers → GiveNumbers matches (wording_of other).numbers → one ≡ other
same_command matches commands.Replay commands.Replay e p q = refl
same_command matches commands.Place commands.Place e p q = refl
same_command matches commands.List commands.List e p q = refl
same_command matches commands.Check commands.Check e p q = refl
same_command matches commands.Run commands.Run e p q = refl
same_command matches commands.Boot commands.Boot e p q = refl
same_command matches (commands.Make jobs) (commands.Make jobs_too) e p q = ap commands.Make (one_number matches _ _ refl p.0 q.0)
same_command matches (commands.Batch clients) (commands.Batch clients_too) e p q = ap commands.Batch (one_number matches _ _ refl p.0 q.0)
same_command matches (commands.Export clients batch) (commands.Export clients_too batch_too) e p q = λ i. commands.Export (one_number matches _ _ refl p.0 q.0 i) (one_number matches _ _ refl p.1.0 q.1.0 i)
same_command matches (commands.Trial jobs) (commands.Trial jobs_too) e p q = ap commands.Trial (one_number matches _ _ refl p.0 q.0)
same_command matches (commands.Serve clients workers) (commands.Serve clients_too workers_too) e p q = λ i. commands.Serve (one_number matches _ _ refl p.0 q.0 i) (one_number matches _ _ refl p.1.0 q.1.0 i)
same_command matches one other e p q = cc

pub one_command : (words : List (String Global)) (one other : Command) → Asks words one → Asks words other → one ≡ other
one_command words one other p q =
    let word : (wording_of one).word ≡ (wording_of other).word = ap (λ (ws : List Text). get_or ws 0 []) (sym p.are ∙ q.are) in
    let others : q.others ≡ p.others = ap (λ (ws : List Text). drop 1 ws) (sym q.are ∙ p.are) in
    let first : first_word_of one ≡ first_word_of other = one_first_word (first_word_of one) (first_word_of other) (sym (spelled_by_row one) ∙ word ∙ spelled_by_row other) in
    let app : (wording_of other).app ≡ (wording_of one).app = read_by_row other ∙ ap app_after (sym first) ∙ sym (read_by_row one) in
    same_command _ one other first p.read.numbered
    (subst (λ (m : List Row). GiveNumbers m (wording_of other).numbers) (λ i. matches_of (app i) (program_name ∷ others i)) q.read.numbered)
