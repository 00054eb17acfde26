use Rattle.std.proofs.Common.{◌≡◌, ◌∷◌, ap, ap₂, inl, inr, map, string_bytes, subst, sym, ◌∙◌}
use Rattle.clap.specs.Faults.{fault_of, is_simple_and_free}
use Rattle.clap.specs.Kinds.{HasKind, Kinds}
use Rattle.clap.specs.Matches.{found_of}
use Rattle.clap.specs.Simple.{app_of, is_simple, matches_of}
use Rattle.clap.specs.Walk.{rows_of}
use Rattle.command_words.specs.Readings.{program_name}
use Rattle.command_words.specs.Working.FirstWords.{app_after}
use Rattle.command_words.proofs.Asked.{asked_by_matches, asked_for_none}
use Rattle.command_words.proofs.FirstWords.{free_reading, simple_reading}
use Rattle.command_words.proofs.words.command_after.Goals as goal

-- the words are taken
pub returns-in-Ok : goal.returns-in-Ok
returns-in-Ok c =
    let is : app_of c.in_ok-reader.reader ≡ app_after c.args.first = c.in_ok-reader.ensures in
    let words : map (λ word. word.now) c.as_slice.result.now ≡ program_name ∷ map string_bytes c.args.others.now =
    ap (map (λ word. word.now)) c.as_slice.ensures.value ∙ c.in_ok-named.ensures in
    let told = c.in-Ok.ensures in
    asked_by_matches c.args.first (map string_bytes c.args.others.now) (rows_of (found_of c.in-Ok.matches)) c.command_of.result
    (sym (ap₂ fault_of is words) ∙ told.kinds (ap is_simple_and_free is ∙ free_reading c.args.first))
    ((told.matches (ap is_simple is ∙ simple_reading c.args.first)).0 ∙ ap₂ matches_of is words)
    c.command_of.ensures

-- they are refused
pub returns : goal.returns
returns c =
    let is : app_of c.in_ok-reader.reader ≡ app_after c.args.first = c.in_ok-reader.ensures in
    let words : map (λ word. word.now) c.as_slice.result.now ≡ program_name ∷ map string_bytes c.args.others.now =
    ap (map (λ word. word.now)) c.as_slice.ensures.value ∙ c.in_ok-named.ensures in
    asked_for_none c.args.first (map string_bytes c.args.others.now) (λ taken.
    elim (subst (λ (kinds : Kinds). HasKind kinds c.in-Err.error) (ap₂ fault_of is words ∙ taken) (c.in-Err.ensures.kinds (ap is_simple_and_free is ∙ free_reading c.args.first))) [
      | inl memory ↦ c.in_default.not-OutOfMemory (c.kind.ensures ∙ memory)
      | inr other ↦ other
    ])
