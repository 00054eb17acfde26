use Rattle.std.proofs.Common.{◌≡◌, ◌∷◌, ap, map, string_bytes, sym, ◌∙◌}
use Rattle.std.proofs.lemmas.Result.{IfOk-weaker}
use Rattle.clap.specs.Walk.{Text}
use Rattle.command_words.proofs.Worded.{no_command, words_ask, words_ask_for_none}
use Rattle.command_words.proofs.words.command_in.Goals as goal

-- no command begins with the word
pub returns-in_default-first_word_named-clause-none : goal.returns-in_default-first_word_named-clause-none
returns-in_default-first_word_named-clause-none c =
    let are : map string_bytes c.args.words.now ≡ c.as_str.result.now ∷ map string_bytes c.in-Some.others.now =
    ap (map string_bytes) c.in-Some.ensures.cases.0 ∙ ap (λ (w : Text). w ∷ map string_bytes c.in-Some.others.now) (sym c.as_str.ensures.value) in
    no_command c.args.words.now c.as_str.result.now (map string_bytes c.in-Some.others.now) are c.in_default-first_word_named.ensures.none

-- the words after it are read
pub returns-clause-found : goal.returns-clause-found
returns-clause-found c =
    let are : map string_bytes c.args.words.now ≡ c.as_str.result.now ∷ map string_bytes c.in-Some.others.now =
    ap (map string_bytes) c.in-Some.ensures.cases.0 ∙ ap (λ (w : Text). w ∷ map string_bytes c.in-Some.others.now) (sym c.as_str.ensures.value) in
    IfOk-weaker c.command_after.result _ _
    (words_ask c.args.words.now c.as_str.result.now (map string_bytes c.in-Some.others.now) are c.in-Some-first_word_named.first c.in-Some-first_word_named.ensures.found)
    c.command_after.ensures

pub returns-clause-none : goal.returns-clause-none
returns-clause-none c =
    let are : map string_bytes c.args.words.now ≡ c.as_str.result.now ∷ map string_bytes c.in-Some.others.now =
    ap (map string_bytes) c.in-Some.ensures.cases.0 ∙ ap (λ (w : Text). w ∷ map string_bytes c.in-Some.others.now) (sym c.as_str.ensures.value) in
    IfOk-weaker c.command_after.result _ _
    (words_ask_for_none c.args.words.now c.as_str.result.now (map string_bytes c.in-Some.others.now) are c.in-Some-first_word_named.first c.in-Some-first_word_named.ensures.found)
    c.command_after.ensures
