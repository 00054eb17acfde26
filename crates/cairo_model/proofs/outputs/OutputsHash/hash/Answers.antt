use Rattle.std.proofs.Common.{◌≡◌, ℕ, List, [], ◌∷◌, ◌++◌, map, refl, sym, ap, ◌∙◌}
use Rattle.std.specs.List.{flat_map}
use Rattle.std.specs.Hash as fed
use Rattle.std.proofs.lemmas.List.{length-map}
use Rattle.goldi_field.specs.declared.Felt.{Felt}
use Rattle.cairo_model.specs.Pie.Facts.{outputs_fed}
use Rattle.cairo_model.proofs.outputs.OutputsHash.hash.Goals as goal

each_fed : (xs : List Felt) → flat_map (λ (f : Felt). fed.u64 f.number) xs ≡ flat_map fed.u64 (map (λ (f : Felt). f.number) xs)
each_fed [] = refl
each_fed (x ∷ xs) = ap (λ (ws : List (List ℕ)). fed.u64 x.number ++ ws) (each_fed xs)

-- a field number is fed as its number
numbers_fed : (xs : List Felt) → fed.slice (λ (f : Felt). fed.u64 f.number) xs ≡ outputs_fed (map (λ (f : Felt). f.number) xs)
numbers_fed xs = λ i. fed.usize (sym (length-map xs (λ (f : Felt). f.number)) i) ++ each_fed xs i

pub returns : goal.returns
returns g c =
    fed.fed_along g.H.Hasher.write c.args.state.now c.hash.new.state
    (ap (fed.slice (λ (f : Felt). fed.u64 f.number)) c.as_slice.ensures.value ∙ numbers_fed c.self.inside.list.items ∙ ap outputs_fed c.self.view_is) c.hash.ensures
