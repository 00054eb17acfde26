-- A verb is its text.
use Rattle.std.proofs.Common.{◌≡◌, ℕ, Bool, true, false, List, cond, Option, Some, None, refl}
use Rattle.std.specs.Prelude.{bytes_eq, codes, ⊤}
use Rattle.std.proofs.lemmas.Slice.Eq.{bytes_eq-Decides}
use Rattle.desk_script.specs.Lines.{verb_of}
use Rattle.desk_script.specs.declared.verb.Verb.{Verb}
use Rattle.desk_script.specs.declared.verb.Verb.TheVariants.{Submit, Ask, Status, Settle}

abbrev pub text_of : Verb → List ℕ
text_of Submit = codes "submit"
text_of Ask = codes "ask"
text_of Status = codes "status"
text_of Settle = codes "settle"

abbrev pub IsText : List ℕ → Option Verb → Type 0
IsText text None = ⊤
IsText text (Some verb) = text ≡ text_of verb

by_tests : (a b c d : Bool) (text : List ℕ) → (a ≡ true → text ≡ codes "submit") → (b ≡ true → text ≡ codes "ask") → (c ≡ true → text ≡ codes "status") → (d ≡ true → text ≡ codes "settle")
    → IsText text (cond a (Some Submit) (cond b (Some Ask) (cond c (Some Status) (cond d (Some Settle) None))))
by_tests true b c d text p q r s = p refl
by_tests false true c d text p q r s = q refl
by_tests false false true d text p q r s = r refl
by_tests false false false true text p q r s = s refl
by_tests false false false false text p q r s = tt

pub verb_text : (text : List ℕ) → IsText text (verb_of text)
verb_text text = by_tests (bytes_eq text (codes "submit")) (bytes_eq text (codes "ask")) (bytes_eq text (codes "status")) (bytes_eq text (codes "settle")) text
    (bytes_eq-Decides text (codes "submit")).0 (bytes_eq-Decides text (codes "ask")).0 (bytes_eq-Decides text (codes "status")).0 (bytes_eq-Decides text (codes "settle")).0
