use Rattle.std.proofs.Common.{◌≡◌, List, [], ◌∷◌, ◌++◌, map, refl, ◌∙◌, ap}
use Rattle.std.specs.Int.{w32, to_be_bytes}
use Rattle.std.specs.List.{flat_map}
use Rattle.builtin_hash.proofs.programs.ProgramHash.bytes.Goals as goal

joined_pieces : {A B : Type 0} (f : A → List B) (xs : List A) → flat_map (λ piece. piece) (map f xs) ≡ flat_map f xs
joined_pieces f [] = refl
joined_pieces f (x ∷ xs) = ap (λ rest. f x ++ rest) (joined_pieces f xs)

pub returns : goal.returns
returns c =
    c.copy_from_slice.ensures.after ∙ c.as_flattened.ensures.value
    ∙ ap (λ pieces. flat_map (λ piece. piece) pieces) c.word_bytes.ensures ∙ joined_pieces (to_be_bytes w32) c.args.self.now.words
