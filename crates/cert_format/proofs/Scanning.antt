-- Going over entries to the first that isn't good.
use Rattle.std.proofs.Common.{◌≡◌, ℕ, zero, suc, Bool, true, false, cond, ltb, eqb, ◌&&◌, not, List, [], ◌∷◌, ◌++◌, Result, Ok, Err, refl, sym, ap, ◌∙◌, arith}
use Rattle.std.specs.List.{AllByRecursion}
use Rattle.std.proofs.lemmas.Bool.{ltb-true, ltb-false, eqb-true, eqb-false}
use Rattle.goldi_field.specs.Numbers.{prime}
use Rattle.cairo_model.specs.Machine.Steps.{◌>>=◌}
use Rattle.cairo_model.specs.Certificate.Records.{CertKind, alone, batch}
use Rattle.cairo_model.proofs.Outcomes.{then_ok, tested, err_is, not_true, not_false}
use Rattle.cert_format.specs.declared.refusal.CertRefusal.{CertRefusal}
use Rattle.cert_format.specs.declared.refusal.CertRefusal.TheVariants.{BadNumber}
use Rattle.cert_format.specs.Reading.{Reads, place_of, is_alone}
use Rattle.cert_format.specs.Refusals.{Entry, kind, task_count, count, number, entry_bytes, entries_bytes, IsGoodEntry}
use Rattle.cert_format.proofs.EntryLaws.{in_two}

-- ---- the tests

-- 0 is a PIE alone
abbrev pub kind_of_number : ℕ → CertKind
kind_of_number zero = alone
kind_of_number (suc k) = batch

unfoldable pub is_good : Entry → Bool
is_good (kind k) = not (ltb 1 k)
is_good (task_count k n) = not (is_alone (kind_of_number k) && not (eqb n 0))
is_good (count n) = true
is_good (number n) = ltb n prime

no_two : true ≡ false → ⊥
no_two e = absurd (cc)

none_passes : (k n : ℕ) → not (is_alone (kind_of_number k) && not (eqb n 0)) ≡ true → k ≡ 0 → n ≡ 0
none_passes zero n e none = eqb-true n 0 (not_false (eqb n 0) (not_true (not (eqb n 0)) e))
none_passes (suc k) n e none = absurd (omega arith)

some_fails : (k n : ℕ) → not (is_alone (kind_of_number k) && not (eqb n 0)) ≡ false → (k ≡ 0 → n ≡ 0) → ⊥
some_fails zero n e good = eqb-false n 0 (not_true (eqb n 0) (not_false (not (eqb n 0)) e)) (good refl)
some_fails (suc k) n e good = absurd (no_two e)

pub good_passes : (e : Entry) → is_good e ≡ true → IsGoodEntry e
unfolding is_good
good_passes (kind k) e = ltb-false 1 k (not_true (ltb 1 k) e)
good_passes (task_count k n) e = none_passes k n e
good_passes (count n) e = tt
good_passes (number n) e = ltb-true n prime e

pub bad_fails : (e : Entry) → is_good e ≡ false → ¬ IsGoodEntry e
unfolding is_good
bad_fails (kind k) e good = absurd (omega (arith, ltb-true 1 k (not_false (ltb 1 k) e)))
bad_fails (task_count k n) e good = some_fails k n e good
bad_fails (count n) e good = no_two e
bad_fails (number n) e good = absurd (omega (arith, ltb-false n prime e))

is_true : (b : Bool) → (b ≡ false → ⊥) → b ≡ true
is_true true h = refl
is_true false h = absurd (h refl)

pub passes : (e : Entry) → IsGoodEntry e → is_good e ≡ true
passes e good = is_true (is_good e) (λ bad. bad_fails e bad good)

-- ---- going over entries

-- the answer where all are good, or the first that isn't
unfoldable pub scan : {B : Type 0} → ℕ → List Entry → List ℕ → Result B CertRefusal → Result B CertRefusal
scan whole [] rest r = r
scan whole (e ∷ es) rest r = cond (is_good e) (scan whole es rest r) (Err (BadNumber (place_of whole (entry_bytes e ++ (entries_bytes es ++ rest)))))

pub scan_append : {B : Type 0} (whole : ℕ) (xs ys : List Entry) (rest : List ℕ) (r : Result B CertRefusal) → scan whole (xs ++ ys) rest r ≡ scan whole xs (entries_bytes ys ++ rest) (scan whole ys rest r)
unfolding scan
scan_append whole [] ys rest r = refl
scan_append whole (x ∷ xs) ys rest r = rw (scan_append whole xs ys rest r, in_two xs ys rest) refl

by_test : {A B : Type 0} (b : Bool) (r : Result A CertRefusal) (e : CertRefusal) (f : A → Result B CertRefusal) (s : Result B CertRefusal) → r >>= f ≡ s → cond b r (Err e) >>= f ≡ cond b s (Err e)
by_test true r e f s h = h
by_test false r e f s h = refl

pub scan_bind : {A B : Type 0} (whole : ℕ) (es : List Entry) (rest : List ℕ) (r : Result A CertRefusal) (f : A → Result B CertRefusal) → scan whole es rest r >>= f ≡ scan whole es rest (r >>= f)
unfolding scan
scan_bind whole [] rest r f = refl
scan_bind whole (e ∷ es) rest r f = by_test (is_good e) (scan whole es rest r) (BadNumber (place_of whole (entry_bytes e ++ (entries_bytes es ++ rest)))) f (scan whole es rest (r >>= f)) (scan_bind whole es rest r f)

-- a reader goes over entries, and what follows over those behind
pub scan_then : {A B : Type 0} (whole : ℕ) (es fs : List Entry) (rest : List ℕ) (read : Reads A) (f : A × List ℕ → Result B CertRefusal) (a : A) (r : Result B CertRefusal)
    → read ≡ scan whole es (entries_bytes fs ++ rest) (Ok (a, entries_bytes fs ++ rest)) → f (a, entries_bytes fs ++ rest) ≡ scan whole fs rest r → read >>= f ≡ scan whole (es ++ fs) rest r
scan_then {A} {B} whole es fs rest read f a r first later =
    ap (λ (x : Reads A). x >>= f) first ∙ scan_bind whole es (entries_bytes fs ++ rest) (Ok (a, entries_bytes fs ++ rest)) f
    ∙ ap (λ (x : Result B CertRefusal). scan whole es (entries_bytes fs ++ rest) x) later ∙ sym (scan_append whole es fs rest r)

pub scan_all : {B : Type 0} (whole : ℕ) (es : List Entry) (rest : List ℕ) (r : Result B CertRefusal) → AllByRecursion IsGoodEntry es → scan whole es rest r ≡ r
unfolding scan
scan_all whole [] rest r good = refl
scan_all {B} whole (e ∷ es) rest r good =
    let stop : Result B CertRefusal = Err (BadNumber (place_of whole (entry_bytes e ++ (entries_bytes es ++ rest)))) in
    ap (λ (b : Bool). cond b (scan whole es rest r) stop) (passes e good.0) ∙ scan_all whole es rest r good.1

-- an answer that goes over all entries: each is good
pub scan_passes : {B : Type 0} (whole : ℕ) (es : List Entry) (rest : List ℕ) (r : Result B CertRefusal) (y : B) → scan whole es rest r ≡ Ok y → AllByRecursion IsGoodEntry es
unfolding scan
scan_passes whole [] rest r y h = tt
scan_passes whole (e ∷ es) rest r y h =
    then_ok (is_good e) (BadNumber (place_of whole (entry_bytes e ++ (entries_bytes es ++ rest)))) (scan whole es rest r) y h (λ good later.
    (good_passes e good, scan_passes whole es rest r y later))

pub scan_goes : {B : Type 0} (whole : ℕ) (es : List Entry) (rest : List ℕ) (r : Result B CertRefusal) (y : B) → scan whole es rest r ≡ Ok y → r ≡ Ok y
unfolding scan
scan_goes whole [] rest r y h = h
scan_goes whole (e ∷ es) rest r y h =
    then_ok (is_good e) (BadNumber (place_of whole (entry_bytes e ++ (entries_bytes es ++ rest)))) (scan whole es rest r) y h (λ good later. scan_goes whole es rest r y later)

-- the first entry that isn't good, and the refusal that names it
pub record FirstBad (whole : ℕ) (es : List Entry) (rest : List ℕ) (refusal : CertRefusal) : Type 0 where
  pub before : List Entry
  pub entry : Entry
  pub behind : List Entry
  pub split : es ≡ before ++ (entry ∷ behind)
  pub good : AllByRecursion IsGoodEntry before
  pub not_good : ¬ IsGoodEntry entry
  pub is : BadNumber (place_of whole (entry_bytes entry ++ (entries_bytes behind ++ rest))) ≡ refusal

-- a refusal on the way to an answer
pub scan_stops : {B : Type 0} (whole : ℕ) (es : List Entry) (rest : List ℕ) (y : B) (refusal : CertRefusal) → scan whole es rest (Ok y) ≡ Err refusal → FirstBad whole es rest refusal
unfolding scan
scan_stops whole [] rest y refusal h = absurd (cc)
scan_stops whole (e ∷ es) rest y refusal h =
    let stop : CertRefusal = BadNumber (place_of whole (entry_bytes e ++ (entries_bytes es ++ rest))) in
    tested (is_good e) (scan whole es rest (Ok y)) (Err stop) (Err refusal) h
    (λ good later.
    let f : FirstBad whole es rest refusal = scan_stops whole es rest y refusal later in
    record { before = e ∷ f.before; entry = f.entry; behind = f.behind; split = ap (λ (t : List Entry). e ∷ t) f.split; good = (good_passes e good, f.good); not_good = f.not_good; is = f.is })
    (λ bad same. record { before = []; entry = e; behind = es; split = refl; good = tt; not_good = bad_fails e bad; is = err_is stop refusal same })
