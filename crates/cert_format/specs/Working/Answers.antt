-- What a call answers, against a definition that says what it ought to.
use Rattle.std.specs.Prelude.{◌≡◌, Result, Ok, Err}

-- the answer, seen by view, is the given one
abbrev pub Tells : {X Y E : Type 0} → (X → Y) → Result X E → Result Y E → Type 0
Tells view (Ok x) given = given ≡ Ok (view x)
Tells view (Err e) given = given ≡ Err e
