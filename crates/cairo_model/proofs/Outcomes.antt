-- What chains of answers and tests gave, by what follows from their outcome.
use Rattle.std.proofs.Common.{◌≡◌, Bool, true, false, cond, not, Option, Some, None, option_and_then, Result, Ok, Err, refl, ap}
use Rattle.cairo_model.specs.Machine.Steps.{◌>>=◌, required}

pub bind_gives : {A B E R : Type 0} (r : Result A E) (f : A → Result B E) (y : B) → r >>= f ≡ Ok y → ((x : A) → r ≡ Ok x → f x ≡ Ok y → R) → R
bind_gives (Ok x) f y e go = go x refl e
bind_gives (Err d) f y e go = absurd (cc)

pub bind_goes : {A B E : Type 0} (r : Result A E) (f : A → Result B E) (y : B) (x : A) → r ≡ Ok x → f x ≡ Ok y → r >>= f ≡ Ok y
bind_goes r f y x is rest = rw is rest

pub required_is : {A E R : Type 0} (e : E) (o : Option A) (y : A) → required e o ≡ Ok y → (o ≡ Some y → R) → R
required_is e (Some x) y h go = go (cc)
required_is e None y h go = absurd (cc)

-- none at true
pub else_gives : {A R : Type 0} (b : Bool) (o : Option A) (y : A) → cond b None o ≡ Some y → (b ≡ false → o ≡ Some y → R) → R
else_gives true o y e go = absurd (cc)
else_gives false o y e go = go refl e

-- none at false
pub then_gives : {A R : Type 0} (b : Bool) (o : Option A) (y : A) → cond b o None ≡ Some y → (b ≡ true → o ≡ Some y → R) → R
then_gives true o y e go = go refl e
then_gives false o y e go = absurd (cc)

-- a fault at true
pub else_ok : {A E R : Type 0} (b : Bool) (d : E) (r : Result A E) (y : A) → cond b (Err d) r ≡ Ok y → (b ≡ false → r ≡ Ok y → R) → R
else_ok true d r y e go = absurd (cc)
else_ok false d r y e go = go refl e

-- a fault at false
pub then_ok : {A E R : Type 0} (b : Bool) (d : E) (r : Result A E) (y : A) → cond b r (Err d) ≡ Ok y → (b ≡ true → r ≡ Ok y → R) → R
then_ok true d r y e go = go refl e
then_ok false d r y e go = absurd (cc)

pub ok_is : {A E : Type 0} (x y : A) → ◌≡◌ {A = Result A E} (Ok x) (Ok y) → x ≡ y
ok_is x y e = cc

pub some_is : {A : Type 0} (x y : A) → Some x ≡ Some y → x ≡ y
some_is x y e = cc

pub no_some : {A R : Type 0} (y : A) → None ≡ Some y → R
no_some y e = absurd (cc)

-- which way a test went
pub tested : {A R : Type 0} (b : Bool) (x y z : A) → cond b x y ≡ z → (b ≡ true → x ≡ z → R) → (b ≡ false → y ≡ z → R) → R
tested true x y z e left right = left refl e
tested false x y z e left right = right refl e

pub err_is : {A E : Type 0} (d e : E) → ◌≡◌ {A = Result A E} (Err d) (Err e) → d ≡ e
err_is d e h = cc

pub ok_no_err : {A E R : Type 0} (x : A) (e : E) → ◌≡◌ {A = Result A E} (Ok x) (Err e) → R
ok_no_err x e h = absurd (cc)

-- a chain is refused where it begins or where it goes on
pub bind_refused : {A B E R : Type 0} (r : Result A E) (f : A → Result B E) (e : E) → r >>= f ≡ Err e → (r ≡ Err e → R) → ((x : A) → r ≡ Ok x → f x ≡ Err e → R) → R
bind_refused (Ok x) f e h stop go = go x refl h
bind_refused (Err d) f e h stop go = stop (ap Err (err_is d e h))

pub required_refused : {A E R : Type 0} (d : E) (o : Option A) (e : E) → required d o ≡ Err e → (o ≡ None → d ≡ e → R) → R
required_refused d (Some x) e h go = absurd (cc)
required_refused d None e h go = go refl (err_is d e h)

-- ---- two look-ups in turn

pub and_then_gives : {X Y R : Type 0} (o : Option X) (f : X → Option Y) (y : Y) → option_and_then f o ≡ Some y → ((x : X) → o ≡ Some x → f x ≡ Some y → R) → R
and_then_gives (Some x) f y e go = go x refl e
and_then_gives None f y e go = absurd (cc)

pub and_then_goes : {X Y : Type 0} (o : Option X) (f : X → Option Y) (x : X) (y : Y) → o ≡ Some x → f x ≡ Some y → option_and_then f o ≡ Some y
and_then_goes o f x y is rest = rw is rest

-- ---- negations

pub not_true : (b : Bool) → not b ≡ true → b ≡ false
not_true true e = absurd (cc)
not_true false e = refl

pub not_false : (b : Bool) → not b ≡ false → b ≡ true
not_false true e = refl
not_false false e = absurd (cc)
