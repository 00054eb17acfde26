use Rattle.std.proofs.Common.{◌≡◌, ℕ, ◌==◌, false, List, [], ◌∷◌, length, refl, sym, ◌∙◌, rules, tests}
use Rattle.std.proofs.lemmas.Iterator.{YieldsList-from_slice}
use Rattle.std.proofs.lemmas.Iterator.Search.{all_from_yields_List}
use Rattle.std.proofs.lemmas.Bool.{false≢true}
use Rattle.std.specs.List.{list_all}
use Rattle.casm_text.specs.Tokens.{is_digit as digit_test}
use Rattle.casm_text.specs.Tokens.{is_digits as digits_test}
use Rattle.casm_text.proofs.parsing.is_digits.Goals as goal

some_digits : (ds : List ℕ) → length ds == 0 ≡ false → list_all digit_test ds ≡ digits_test ds
some_digits [] some = absurd (false≢true (sym some))
some_digits (d ∷ ds) some = refl

pub returns-then-not-is_empty : goal.returns-then-not-is_empty
returns-then-not-is_empty c =
    all_from_yields_List digit_test _ _ _ c.all.ensures.ran (YieldsList-from_slice c.args.token.now cc) (λ x b q k. search (rules, tests))
    ∙ some_digits c.args.token.now (sym c.is_empty.ensures ∙ c.if-not-is_empty.true)
