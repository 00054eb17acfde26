use Rattle.casm_text.proofs.lines.first_line.Goals as goal
use Rattle.casm_text.specs.Tokens.{lines_of}
use Rattle.std.proofs.Common.{ℕ, ◌==◌, ◌≡◌, List, ◌∷◌, [], Some, None, false, get_or, ap, ap₂, sym, ◌∙◌, arith}
use Rattle.std.proofs.lemmas.Bool.{ne_eqb}
use Rattle.std.proofs.lemmas.List.Elements.{All-from_get_or}
use Rattle.std.proofs.lemmas.List.Splits.{slice_split_first, slice_split_none}
use Rattle.std.proofs.lemmas.Str.Pattern.{split_once_first, split_parts}

pub returns-in-Some : goal.returns-in-Some
returns-in-Some c =
    let cut = split_once_first 10 c.args.text.now (Some (c.in-Some.line, c.in-Some.after)) c.in-Some.ensures.cases (omega arith) in
    slice_split_first (λ b. b == 10) c.args.text.now 0 cut.0
    ∙ ap₂ (λ (line after : List ℕ). line ∷ lines_of after) (sym (c.as_bytes.ensures.value ∙ cut.1)) (sym cut.2)

pub returns-in-None : goal.returns-in-None
returns-in-None c =
    let none = split_parts 10 c.args.text.now None c.in-None.ensures.cases (omega arith) in
    slice_split_none (λ b. b == 10) c.args.text.now (All-from_get_or (λ (b : ℕ). (b == 10) ≡ false) c.args.text.now 0 (λ i inside. ne_eqb (get_or c.args.text.now i 0) 10 (none i inside)))
    ∙ ap (λ (line : List ℕ). line ∷ []) (sym c.as_bytes-in-None.ensures.value)
