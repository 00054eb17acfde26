-- Going over a file by its lengths alone.
use Rattle.std.proofs.Common.{◌≡◌, ℕ, List, ◌++◌, length, Option, Some, refl, ap, ◌∙◌, arith, length-append}
use Rattle.std.specs.Prelude.{option_and_then}
use Rattle.std.proofs.lemmas.Bool.{le-ltb}
use Rattle.std.proofs.lemmas.List.{drop_at}
use Rattle.cert_format.specs.Reading.{bytes_after}

-- ---- what is spelled is there

pub option_goes : {A B : Type 0} (f : A → Option B) (o : Option A) (x : A) (y : B) → o ≡ Some x → f x ≡ Some y → option_and_then f o ≡ Some y
option_goes f o x y is rest = ap (option_and_then f) is ∙ rest

pub after_again : (n : ℕ) (x rest : List ℕ) → length x ≡ n → bytes_after n (x ++ rest) ≡ Some rest
after_again n x rest len = rw (le-ltb (length (x ++ rest)) n (omega (arith, length-append x rest)), drop_at x rest n len) refl
