-- What two parts that fit give together.
use Rattle.std.proofs.Common.{◌≡◌, Bool, true, false, ◌&&◌, Some, None, refl}
use Rattle.casm_text.specs.Working.Resolving.{where_fits}

pub two_fit : {A B C : Type 0} (f : A → B → C) (p q : Bool) (x a : A) (y b : B) → Some a ≡ where_fits p x → Some b ≡ where_fits q y → Some (f a b) ≡ where_fits (p && q) (f x y)
two_fit f true true x a y b h k = cc
two_fit f true false x a y b h k = absurd (cc)
two_fit f false q x a y b h k = absurd (cc)

pub one_fits : {A B C : Type 0} (f : A → B → C) (p q : Bool) (x a : A) (y : B) → Some a ≡ where_fits p x → None ≡ where_fits q y → None ≡ where_fits (p && q) (f x y)
one_fits f true true x a y h k = absurd (cc)
one_fits f true false x a y h k = refl
one_fits f false q x a y h k = absurd (cc)

pub fits_is : {A : Type 0} (p : Bool) (x a : A) → Some a ≡ where_fits p x → (p ≡ true) × (a ≡ x)
fits_is true x a h = (refl, cc)
fits_is false x a h = absurd (cc)
