-- What a call that may want memory answers, against a definition that says what it ought to.
use Rattle.std.specs.Prelude.{◌≡◌, Result, Ok, Err}
use Rattle.cairo_model.specs.declared.end.End.{End}
use Rattle.cairo_model.specs.declared.end.End.TheVariants.{Refused, OutOfMemory}

abbrev pub Ends : {Y E : Type 0} → End E → Result Y E → Type 0
Ends OutOfMemory given = Unit {0}
Ends (Refused e) given = given ≡ Err e

-- the answer, seen by view, is the given one, or memory ran out
abbrev pub Gives : {X Y E : Type 0} → (X → Y) → Result X (End E) → Result Y E → Type 0
Gives view (Ok x) given = given ≡ Ok (view x)
Gives view (Err end) given = Ends end given
