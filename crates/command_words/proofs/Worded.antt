-- What the first word and those after it ask for, asked by all words.
use Rattle.std.proofs.Common.{◌≡◌, ◌≢◌, ◌∷◌, List, [], Option, Some, None, ap, drop, get_or, map, subst, sym, ◌∙◌}
use Rattle.std.specs.Prelude.{IfNone, IfSome, String, string_bytes}
use Rattle.std.specs.declared.alloc.Global.{Global}
use Rattle.clap.specs.Simple.{App}
use Rattle.clap.specs.Walk.{Text}
use Rattle.command_words.specs.Words.{Asks, AsksForNothing, IsReadBy, wording_of}
use Rattle.command_words.specs.Working.Asking.{IsAnyAsked}
use Rattle.command_words.specs.Working.FirstWords.{app_after, first_word_of, spelling_of}
use Rattle.command_words.specs.declared.command.Command.{Command}
use Rattle.command_words.specs.declared.first_word.FirstWord.{FirstWord}
use Rattle.command_words.proofs.FirstWords.{read_by_row, one_first_word, spelled_by_row}

module _ (words : List (String Global)) (word : Text) (others : List Text) (are : map string_bytes words ≡ word ∷ others) where
  -- the first word is the command's
  is_worded : (command : Command) → Asks words command → word ≡ spelling_of (first_word_of command)
  is_worded command p = ap (λ (ws : List Text). get_or ws 0 []) (sym are ∙ p.are) ∙ spelled_by_row command

  -- a word with which no command begins
  pub no_command : ((first : FirstWord) → word ≢ spelling_of first) → AsksForNothing words
  no_command none command p = none (first_word_of command) (is_worded command p)

  module _ (first : FirstWord) (is : word ≡ spelling_of first) where
    pub words_ask : (found : Option Command) → IsAnyAsked first others found → IfSome found (Asks words)
    words_ask (Some command) p =
        let same : first ≡ first_word_of command = sym p.some.begins in
        record {
          others = others;
          are = are ∙ ap (λ (w : Text). w ∷ others) (is ∙ ap spelling_of same ∙ sym (spelled_by_row command));
          read = subst (λ (app : App). IsReadBy app (wording_of command).numbers others) (ap app_after same ∙ sym (read_by_row command)) p.some.read;
        }
    words_ask None p = tt

    pub words_ask_for_none : (found : Option Command) → IsAnyAsked first others found → IfNone found (AsksForNothing words)
    words_ask_for_none (Some command) p = tt
    words_ask_for_none None p = λ command q.
        let same : first_word_of command ≡ first = one_first_word (first_word_of command) first (sym (is_worded command q) ∙ is) in
        let after : q.others ≡ others = ap (λ (ws : List Text). drop 1 ws) (sym q.are ∙ are) in
        p.none command (record {
          begins = same;
          read = subst (λ (app : App). IsReadBy app (wording_of command).numbers others) (read_by_row command ∙ ap app_after same)
              (subst (λ (o : List Text). IsReadBy (wording_of command).app (wording_of command).numbers o) after q.read);
        })
