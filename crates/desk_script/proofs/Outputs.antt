-- The outputs that fields are.
use Rattle.std.proofs.Common.{◌≡◌, ℕ, List, [], ◌∷◌, map, Option, Some, None, Result, Ok, Err, refl, ap₂, arith}
use Rattle.std.specs.Prelude.{decimal}
use Rattle.std.specs.List.{AllByRecursion}
use Rattle.cairo_model.specs.Machine.Steps.{◌>>=◌, required}
use Rattle.cairo_model.proofs.Chains.{required_goes}
use Rattle.cairo_model.proofs.Outcomes.{bind_goes}
use Rattle.goldi_field.specs.Numbers.{IsFelt, prime}
use Rattle.desk_script.proofs.Decimals.{decimal_of_number, no_number, number_of_decimal}
use Rattle.desk_script.specs.Scripts.{IsNumberBelow}
use Rattle.desk_script.specs.Working.Numbers.{number_in}
use Rattle.desk_script.specs.Working.Reading.{numbers_in}
use Rattle.desk_script.specs.declared.kinds.ScriptKind.{ScriptKind}
use Rattle.desk_script.specs.declared.kinds.ScriptKind.TheVariants as kind

-- the numbers, or that one of the fields is none
abbrev pub NumbersTold : List (List ℕ) → Result (List ℕ) ScriptKind → Type 0
NumbersTold fields (Ok numbers) = AllByRecursion IsFelt numbers × (fields ≡ map decimal numbers) × AllByRecursion (IsNumberBelow prime) fields
NumbersTold fields (Err k) = (k ≡ kind.Number) × ¬ AllByRecursion (IsNumberBelow prime) fields

one_more : (field : List ℕ) (fields : List (List ℕ)) (o : Option ℕ) (r : Result (List ℕ) ScriptKind) → number_in prime field ≡ o → NumbersTold fields r
    → NumbersTold (field ∷ fields) (required kind.Number o >>= λ number. r >>= λ numbers. Ok (number ∷ numbers))
one_more field fields None r read told = (refl, λ all. no_number prime field (omega arith) read all.0)
one_more field fields (Some n) (Ok ns) read told =
    let is = decimal_of_number prime field n (omega arith) read in
    ((is.0, told.0), ap₂ (λ (x : List ℕ) (xs : List (List ℕ)). x ∷ xs) is.1 told.1, ((n, is.0, is.1), told.2))
one_more field fields (Some n) (Err k) read told = (told.0, λ all. told.1 all.1)

pub numbers_told : (fields : List (List ℕ)) → NumbersTold fields (numbers_in fields)
numbers_told [] = (tt, refl, tt)
numbers_told (field ∷ fields) = one_more field fields (number_in prime field) (numbers_in fields) refl (numbers_told fields)

pub numbers_read : (numbers : List ℕ) → AllByRecursion IsFelt numbers → numbers_in (map decimal numbers) ≡ Ok numbers
numbers_read [] all = refl
numbers_read (n ∷ ns) all =
    required_goes kind.Number (number_in prime (decimal n)) _ (n ∷ ns) n (number_of_decimal prime n (omega arith) all.0)
    (bind_goes (numbers_in (map decimal ns)) (λ numbers. Ok (n ∷ numbers)) (n ∷ ns) ns (numbers_read ns all.1) refl)
