-- Reading one more item of a list.
use Rattle.std.proofs.Common.{◌≡◌, ℕ, suc, List, [], ◌∷◌, ◌++◌, Ok, Err, refl, ap, append_assoc}
use Rattle.cairo_model.specs.Machine.Steps.{◌>>=◌}
use Rattle.cert_format.specs.declared.refusal.CertRefusal.{CertRefusal}
use Rattle.cert_format.specs.Reading.{Reads, items_at}
use Rattle.cert_format.specs.Feeding.{with_front}

pub regroup : {A : Type 0} (front : List A) (a : A) (read : Reads (List A)) → with_front front (read >>= λ x. Ok (a ∷ x.0, x.1)) ≡ with_front (front ++ a ∷ []) read
regroup {A} front a (Ok x) = ap (λ (items : List A). Ok (items, x.1)) (simp append_assoc)
regroup front a (Err r) = refl

module _ {A : Type 0} (one : List ℕ → Reads A) (front : List A) (n : ℕ) (bytes : List ℕ) where
  pub goes_on : (a : A) (behind : List ℕ) → one bytes ≡ Ok (a, behind) → with_front front (items_at one (suc n) bytes) ≡ with_front (front ++ a ∷ []) (items_at one n behind)
  unfolding items_at
  goes_on a behind is = rw is (regroup front a (items_at one n behind))

  pub stops : (e : CertRefusal) → one bytes ≡ Err e → with_front front (items_at one (suc n) bytes) ≡ Err e
  unfolding items_at
  stops e is = rw is refl
