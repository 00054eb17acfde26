use denote.Ref.{Bor}
use Rattle.std.proofs.Common.{◌≡◌, ◌++◌, ℕ, List, map, subst, sym, rules}
use Rattle.rayon.proofs.ListFacts.{IfOk-then}
use Rattle.desk_script.specs.Scripts.{pieces_of}
use Rattle.desk_script.proofs.ReadAhead.{read_ahead_of}
use Rattle.desk_script.proofs.ahead.read_ahead.Goals as goal

pub returns : goal.returns
returns g c =
    let same : c.as_slice.result.now ≡ c.in_ok-texts.texts.items = search rules in
    let first = subst (λ (texts : List (Bor (List ℕ))). (more : List (List ℕ)) × (pieces_of c.args.bytes.now ≡ map (λ t. t.now) texts ++ more)) (sym same) c.in_ok-texts.ensures in
    IfOk-then c.answers.result _ _ c.answers.ensures (λ v are. read_ahead_of c.args.clients c.args.bytes.now c.as_slice.result.now v.items first are)
