-- What a chain of requirements that gave a result went through.
use Rattle.std.proofs.Common.{◌≡◌, ◌≢◌, ℕ, Bool, true, false, ◌&&◌, ◌==◌, if◌then◌else◌, Option, Some, None, Result, Ok, Err, refl, arith}
use Rattle.std.proofs.lemmas.Bool.Decides.{nat_tests}
use Rattle.cairo_model.specs.Machine.Steps.{◌>>=◌, required, demanded}

pub required_gives : {A B E R : Type 0} (e : E) (o : Option A) (f : A → Result B E) (y : B) → required e o >>= f ≡ Ok y → ((x : A) → o ≡ Some x → f x ≡ Ok y → R) → R
required_gives e (Some x) f y eq go = go x refl eq
required_gives e None f y eq go = absurd (cc)

pub demanded_gives : {B E R : Type 0} (e : E) (b : Bool) (f : Bool → Result B E) (y : B) → demanded e b >>= f ≡ Ok y → (b ≡ true → f true ≡ Ok y → R) → R
demanded_gives e true f y eq go = go refl eq
demanded_gives e false f y eq go = absurd (cc)

pub ok_same : {A E : Type 0} (x y : A) → ◌≡◌ {A = Result A E} (Ok x) (Ok y) → x ≡ y
ok_same x y e = cc

pub required_goes : {A B E : Type 0} (e : E) (o : Option A) (f : A → Result B E) (y : B) (x : A) → o ≡ Some x → f x ≡ Ok y → required e o >>= f ≡ Ok y
required_goes e o f y x is rest = rw is rest

pub demanded_goes : {B E : Type 0} (e : E) (b : Bool) (f : Bool → Result B E) (y : B) → b ≡ true → f true ≡ Ok y → demanded e b >>= f ≡ Ok y
demanded_goes e b f y is rest = rw is rest

-- a chain that ended in a fault had it here or later
pub required_fails : {A B E R : Type 0} (e : E) (o : Option A) (f : A → Result B E) (d : E) → required e o >>= f ≡ Err d → (o ≡ None → e ≡ d → R) → ((x : A) → o ≡ Some x → f x ≡ Err d → R) → R
required_fails e (Some x) f d eq here later = later x refl eq
required_fails e None f d eq here later = here refl (cc)

pub demanded_fails : {B E R : Type 0} (e : E) (b : Bool) (f : Bool → Result B E) (d : E) → demanded e b >>= f ≡ Err d → (b ≡ false → e ≡ d → R) → (b ≡ true → f true ≡ Err d → R) → R
demanded_fails e true f d eq here later = later refl eq
demanded_fails e false f d eq here later = here refl (cc)

-- a demand that is made at one opcode
pub demand_met : (n k : ℕ) (b : Bool) → (if n == k then b else true) ≡ true → n ≡ k → b ≡ true
demand_met n k b met is = grind (arith, nat_tests)

pub demand_holds : (n k : ℕ) (b : Bool) → (n ≡ k → b ≡ true) → (if n == k then b else true) ≡ true
demand_holds n k b holds = grind (arith, nat_tests, holds)

pub demand_missed : (n k : ℕ) (b : Bool) → (if n == k then b else true) ≡ false → (n ≡ k) × (b ≡ false)
demand_missed n k b missed = (grind (arith, nat_tests), grind (arith, nat_tests))

pub both_left : (a b : Bool) → a && b ≡ true → a ≡ true
both_left true b e = refl
both_left false b e = e

pub both_right : (a b : Bool) → a && b ≡ true → b ≡ true
both_right true b e = e
both_right false b e = absurd (cc)

pub both : (a b : Bool) → a ≡ true → b ≡ true → a && b ≡ true
both a b p q = rw (p, q)

pub either_is : {A : Type 0} (b : Bool) (o p : Option A) → o ≢ None → p ≢ None → (if b then o else p) ≢ None
either_is true o p l r e = l e
either_is false o p l r e = r e

pub some_is : {A : Type 0} (x : A) → Some x ≢ None
some_is x e = absurd (cc)

pub no_fault : {A E : Type 0} (x : A) (d : E) → ◌≢◌ {A = Result A E} (Ok x) (Err d)
no_fault x d e = absurd (cc)
