-- A reader of a part with so many bytes reads the same whatever follows them.
use Rattle.std.proofs.Common.{◌≡◌, ℕ, zero, suc, ◌+◌, ◌≤◌, Bool, true, false, cond, ltb, eqb, ◌&&◌, not, List, [], ◌∷◌, ◌++◌, length, take, drop, Some, Ok, Err, refl, sym, ap, ◌∙◌, arith, length-append}
use Rattle.std.specs.Int.{w32, w64, from_be_bytes}
use Rattle.std.proofs.lemmas.List.{take-append-le, drop-append-le, drop-drop, length-drop, drop_all}
use Rattle.goldi_field.specs.Numbers.{prime}
use Rattle.cairo_model.specs.Machine.Steps.{◌>>=◌, required}
use Rattle.cairo_model.specs.Certificate.Records.{CertKind, alone, batch, SpanRecord}
use Rattle.cairo_model.proofs.Outcomes.{bind_gives, then_ok, ok_is}
use Rattle.cert_format.specs.declared.refusal.CertRefusal.{CertRefusal}
use Rattle.cert_format.specs.declared.refusal.CertRefusal.TheVariants.{Truncated, BadNumber}
use Rattle.cert_format.specs.Reading.{Reads, place_of, count_at, felt_at, kind_at, span_at, is_alone, task_count_at, cell_numbers_at, state_at}
use Rattle.cert_format.specs.Feeding.{FrontRecord}
use Rattle.cert_format.specs.Working.Taking.{head_at, count_in}
use Rattle.cert_format.proofs.FieldLaws.{count_parts, number_parts}

-- what was read, with more bytes behind
abbrev pub with_tail : {A : Type 0} → List ℕ → Reads A → Reads A
with_tail tail (Ok x) = Ok (x.0, x.1 ++ tail)
with_tail tail (Err e) = Err e

pub record IsLocal {A : Type 0} (size : ℕ) (one : ℕ → List ℕ → Reads A) : Type 0 where
  pub same : (w : ℕ) (u t : List ℕ) → size ≤ length u → one (w + length t) (u ++ t) ≡ with_tail t (one w u)
  pub rest : (w : ℕ) (u : List ℕ) (x : A × List ℕ) → size ≤ length u → one w u ≡ Ok x → x.1 ≡ drop size u

-- ---- readers in turn

module _ {A B : Type 0} (n m : ℕ) (one : ℕ → List ℕ → Reads A) (f : A → ℕ → List ℕ → Reads B) (first : IsLocal n one) (second : (a : A) → IsLocal m (f a)) where
  left_long : (u : List ℕ) (x : A × List ℕ) → n + m ≤ length u → x.1 ≡ drop n u → m ≤ length x.1
  left_long u x long is = omega (arith, long, ap length is, length-drop n u)

  goes : (w : ℕ) (u t : List ℕ) (r : Reads A) → n + m ≤ length u → one w u ≡ r → with_tail t r >>= (λ x. f x.0 (w + length t) x.1) ≡ with_tail t (r >>= λ x. f x.0 w x.1)
  goes w u t (Ok x) long is = (second x.0).same w x.1 t (left_long u x long (first.rest w u x (omega (arith, long)) is))
  goes w u t (Err e) long is = refl

  pub then_local : IsLocal (n + m) (λ w b. one w b >>= λ x. f x.0 w x.1)
  then_local = record {
    same = λ w u t long. ap (λ (r : Reads A). r >>= λ x. f x.0 (w + length t) x.1) (first.same w u t (omega (arith, long))) ∙ goes w u t (one w u) long refl;
    rest = λ w u y long e.
        bind_gives (one w u) (λ x. f x.0 w x.1) y e (λ x is later.
        let here : x.1 ≡ drop n u = first.rest w u x (omega (arith, long)) is in
        (second x.0).rest w x.1 y (left_long u x long here) later ∙ (ap (drop m) here ∙ drop-drop m n u));
  }

pub given_local : {A : Type 0} (a : A) → IsLocal 0 (λ w b. Ok (a, b))
given_local a = record { same = λ w u t long. refl; rest = λ w u x long e. sym (ap (λ y. y.1) (ok_is (a, u) x e)) }

-- ---- numbers

place_same : (w : ℕ) (u t : List ℕ) → place_of (w + length t) (u ++ t) ≡ place_of w u
place_same w u t = omega (arith, length-append u t)

longer : (n : ℕ) (u t : List ℕ) → n ≤ length u → n ≤ length (u ++ t)
longer n u t long = omega (arith, long, length-append u t)

abbrev felt_of : ℕ → ℕ → List ℕ → Reads ℕ
felt_of place n rest = cond (ltb n prime) (Ok (n, rest)) (Err (BadNumber place))

felt_is : (whole : ℕ) (bytes rest : List ℕ) (n : ℕ) → 8 ≤ length bytes → from_be_bytes w64 (take 8 bytes) ≡ n → drop 8 bytes ≡ rest → felt_at whole bytes ≡ felt_of (place_of whole bytes) n rest
unfolding felt_at
felt_is whole bytes rest n long is behind =
    ap (λ o. required (Truncated whole) o >>= λ x. cond (ltb x.0 prime) (Ok x) (Err (BadNumber (place_of whole bytes)))) (number_parts bytes rest n long is behind)

by_test : {A : Type 0} (b : Bool) (a : A) (rest t : List ℕ) (e : CertRefusal) → cond b (Ok (a, rest ++ t)) (Err e) ≡ with_tail t (cond b (Ok (a, rest)) (Err e))
by_test true a rest t e = refl
by_test false a rest t e = refl

pub felt_local : IsLocal 8 felt_at
felt_local = record {
  same = λ w u t long.
      let n : ℕ = from_be_bytes w64 (take 8 u) in
      felt_is (w + length t) (u ++ t) (drop 8 u ++ t) n (longer 8 u t long) (ap (from_be_bytes w64) (take-append-le 8 u t long)) (drop-append-le 8 u t long)
      ∙ (ap (λ (p : ℕ). felt_of p n (drop 8 u ++ t)) (place_same w u t)
      ∙ (by_test (ltb n prime) n (drop 8 u) t (BadNumber (place_of w u)) ∙ sym (ap (with_tail t) (felt_is w u (drop 8 u) n long refl refl))));
  rest = λ w u x long e.
      let n : ℕ = from_be_bytes w64 (take 8 u) in
      then_ok (ltb n prime) (BadNumber (place_of w u)) (Ok (n, drop 8 u)) x (sym (felt_is w u (drop 8 u) n long refl refl) ∙ e) (λ good same. sym (ap (λ y. y.1) (ok_is (n, drop 8 u) x same)));
}

-- four bytes, and what is behind them
pub count_there : (u t : List ℕ) → 4 ≤ length u → count_at (u ++ t) ≡ Some (count_in u, drop 4 u ++ t)
count_there u t long = count_parts (u ++ t) (drop 4 u ++ t) (count_in u) (longer 4 u t long) (ap (from_be_bytes w32) (take-append-le 4 u t long)) (drop-append-le 4 u t long)

pub count_unit : (u t : List ℕ) → length u ≡ 4 → count_at (u ++ t) ≡ Some (count_in u, t)
count_unit u t len = count_there u t (omega (arith, len)) ∙ ap (λ (r : List ℕ). Some (count_in u, r ++ t)) (drop_all 4 u (omega (arith, len)))

abbrev pub task_count_of : ℕ → CertKind → ℕ → List ℕ → Reads ℕ
task_count_of place kind n rest = cond (is_alone kind && not (eqb n 0)) (Err (BadNumber place)) (Ok (n, rest))

pub task_count_is : (whole : ℕ) (kind : CertKind) (bytes rest : List ℕ) (n : ℕ) → count_at bytes ≡ Some (n, rest) → task_count_at whole kind bytes ≡ task_count_of (place_of whole bytes) kind n rest
unfolding task_count_at
task_count_is whole kind bytes rest n is =
    ap (λ o. required (Truncated whole) o >>= λ x. cond (is_alone kind && not (eqb x.0 0)) (Err (BadNumber (place_of whole bytes))) (Ok x)) is

-- ---- the kind, the spans, cells and states

kind_same : (w : ℕ) (u t : List ℕ) → 1 ≤ length u → kind_at (w + length t) (u ++ t) ≡ with_tail t (kind_at w u)
unfolding kind_at
kind_same w [] t long = absurd (omega (arith, long))
kind_same w (zero ∷ u) t long = refl
kind_same w (suc zero ∷ u) t long = refl
kind_same w (suc (suc b) ∷ u) t long = ap (λ (p : ℕ). Err (BadNumber p)) (place_same w (suc (suc b) ∷ u) t)

kind_rest : (w : ℕ) (u : List ℕ) (x : CertKind × List ℕ) → 1 ≤ length u → kind_at w u ≡ Ok x → x.1 ≡ drop 1 u
unfolding kind_at
kind_rest w [] x long e = absurd (omega (arith, long))
kind_rest w (zero ∷ u) x long e = sym (ap (λ y. y.1) (ok_is (alone, u) x e))
kind_rest w (suc zero ∷ u) x long e = sym (ap (λ y. y.1) (ok_is (batch, u) x e))
kind_rest w (suc (suc b) ∷ u) x long e = absurd (cc)

kind_local : IsLocal 1 kind_at
kind_local = record { same = kind_same; rest = kind_rest }

span_local : IsLocal 16 span_at
unfolding span_at
span_local =
    then_local 8 8 felt_at (λ start w b. felt_at w b >>= λ stop. Ok (record { start = start; stop = stop.0 }, stop.1)) felt_local (λ start.
    then_local 8 0 felt_at (λ stop w b. Ok (record { start = start; stop = stop }, b)) felt_local (λ stop. given_local (record { start = start; stop = stop })))

pub cell_local : IsLocal 16 cell_numbers_at
unfolding cell_numbers_at
cell_local =
    then_local 8 8 felt_at (λ address w b. felt_at w b >>= λ value. Ok ((address, value.0), value.1)) felt_local (λ address.
    then_local 8 0 felt_at (λ value w b. Ok ((address, value), b)) felt_local (λ value. given_local (address, value)))

pub state_local : IsLocal 24 state_at
unfolding state_at
state_local =
    then_local 8 16 felt_at (λ pc w b. felt_at w b >>= λ ap. felt_at w ap.1 >>= λ fp. Ok (record { pc = pc; ap = ap.0; fp = fp.0 }, fp.1)) felt_local (λ pc.
    then_local 8 8 felt_at (λ ap w b. felt_at w b >>= λ fp. Ok (record { pc = pc; ap = ap; fp = fp.0 }, fp.1)) felt_local (λ ap.
    then_local 8 0 felt_at (λ fp w b. Ok (record { pc = pc; ap = ap; fp = fp }, b)) felt_local (λ fp. given_local (record { pc = pc; ap = ap; fp = fp }))))

abbrev pub front_with : CertKind → SpanRecord → SpanRecord → SpanRecord → FrontRecord
front_with k o r h = record { kind = k; output = o; range = r; hash = h }

pub head_local : IsLocal 49 head_at
unfolding head_at
head_local =
    then_local 1 48 kind_at (λ k w b. span_at w b >>= λ o. span_at w o.1 >>= λ r. span_at w r.1 >>= λ h. Ok (front_with k o.0 r.0 h.0, h.1)) kind_local (λ k.
    then_local 16 32 span_at (λ o w b. span_at w b >>= λ r. span_at w r.1 >>= λ h. Ok (front_with k o r.0 h.0, h.1)) span_local (λ o.
    then_local 16 16 span_at (λ r w b. span_at w b >>= λ h. Ok (front_with k o r h.0, h.1)) span_local (λ r.
    then_local 16 0 span_at (λ h w b. Ok (front_with k o r h, b)) span_local (λ h. given_local (front_with k o r h)))))

-- ---- a part that is whole

module _ {A : Type 0} (size : ℕ) (one : ℕ → List ℕ → Reads A) (local : IsLocal size one) (w : ℕ) (u t : List ℕ) (len : length u ≡ size) where
  pub part_read : (x : A × List ℕ) → one w u ≡ Ok x → one (w + length t) (u ++ t) ≡ Ok (x.0, t)
  part_read x is =
      let none : x.1 ≡ [] = local.rest w u x (omega (arith, len)) is ∙ drop_all size u (omega (arith, len)) in
      local.same w u t (omega (arith, len)) ∙ (ap (with_tail t) is ∙ ap (λ (r : List ℕ). Ok (x.0, r ++ t)) none)

  pub part_refused : (e : CertRefusal) → one w u ≡ Err e → one (w + length t) (u ++ t) ≡ Err e
  part_refused e is = local.same w u t (omega (arith, len)) ∙ ap (with_tail t) is
