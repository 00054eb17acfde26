use Rattle.std.proofs.Common.{◌≡◌, ◌++◌, map, take}
use Rattle.cairo_model.specs.Texts.Numbers.{numbers_text}
use Rattle.cairo_model.proofs.texts.numbers.put_numbers.Given as goal

abbrev pub invariant-loop-number : goal.invariant-loop-number
invariant-loop-number l = l.text.items ≡ l.fn.text.items ++ numbers_text (map (λ f. f.number) (take l.number-index l.numbers))
