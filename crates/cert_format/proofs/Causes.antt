-- Causes of refusals by their numbers: one after the other, that none applies, or that one does first.
use Rattle.std.proofs.Common.{◌≡◌, ℕ, ◌+◌, ◌<◌, ◌≤◌, true, List, ◌++◌, length, drop, Some, None, Ok, Err, refl, sym, ap, subst, ◌∙◌, arith, length-drop}
use Rattle.std.proofs.lemmas.List.Elements.{All-from_recursion, recursion_from_All}
use Rattle.cairo_model.proofs.Firsts as firsts
use Rattle.cairo_model.specs.Refusals.FirstFailing.{NoneBelow}
use Rattle.cairo_model.proofs.Bytes.{IsBytes, IsBytes-drop}
use Rattle.cairo_model.proofs.Magics.{same_bytes}
use Rattle.cert_format.specs.Spelling.{certificate_magic}
use Rattle.cert_format.specs.declared.refusal.CertRefusal.{CertRefusal}
use Rattle.cert_format.specs.declared.refusal.CertRefusal.TheVariants.{BadMagic, Truncated, BadNumber, Order, Trailing}
use Rattle.cert_format.specs.Reading.{has_magic, after_all, Draft, draft_at, order_fault}
use Rattle.cert_format.specs.Refusals.{FitsBytes, entries_bytes, Parts, entries_of, HasParts, PartsHave, IsLeast, IsBadAt, IsUnorderedAt, refusal_number, IsCertCause, IsFirstCertCause}
use Rattle.cert_format.proofs.EntryLaws.{Fit}
use Rattle.cert_format.proofs.PartsFound.{parts_skip}
use Rattle.cert_format.proofs.Skips.{Skipped, one_rest}
use Rattle.cert_format.proofs.Places.{one_least, bad_place, bad_is, bad_least, none_bad, order_least, none_unordered}
use Rattle.cert_format.proofs.Scanning.{FirstBad, scan_stops}
use Rattle.cert_format.proofs.ReadersScan.{IsDraftOf, draft_in, draft_made, draft_read}

-- ---- bytes have at most one row of parts

fit_of : (bytes : List ℕ) (p : Parts) (r : List ℕ) → HasParts bytes p r → Fit (entries_of p)
fit_of bytes p r has = recursion_from_All FitsBytes (entries_of p) has.fit

one_parts : (bytes : List ℕ) (p q : Parts) (r s : List ℕ) → HasParts bytes p r → HasParts bytes q s → ◌≡◌ {A = Parts × List ℕ} (p, r) (q, s)
one_parts bytes p q r s a b =
    let same : entries_bytes (entries_of p) ++ r ≡ entries_bytes (entries_of q) ++ s = sym a.spelled ∙ b.spelled in
    let first : p ≡ q = parts_skip.one p q r s (fit_of bytes p r a) (fit_of bytes q s b) same in
    let second : r ≡ s = one_rest after_all entries_of parts_skip p q r s (fit_of bytes p r a) (fit_of bytes q s b) same in
    let P : Type 0 = Parts × List ℕ in
    let moved : ◌≡◌ {A = P} (p, r) (q, r) = ap (λ (x : Parts). (x, r)) first in
    let then : ◌≡◌ {A = P} (q, r) (q, s) = ap (λ (x : List ℕ). (q, x)) second in
    moved ∙ then

-- what some parts have, the parts have
only : (bytes : List ℕ) (p : Parts) (r : List ℕ) (P : Parts → List ℕ → Type 0) → HasParts bytes p r → PartsHave bytes P → P p r
only bytes p r P here there = subst (λ (x : Parts × List ℕ). P x.0 x.1) (one_parts bytes there.parts p there.rest r there.has_parts here) there.holds

-- ---- one first cause

-- two causes of one number that apply are the same
one_cause : (bytes : List ℕ) (r s : CertRefusal) → refusal_number r ≡ refusal_number s → IsCertCause bytes r → IsCertCause bytes s → r ≡ s
one_cause bytes BadMagic BadMagic same a b = refl
one_cause bytes (Truncated m) (Truncated n) same a b = ap Truncated (a.0 ∙ sym b.0)
one_cause bytes (BadNumber m) (BadNumber n) same a b = ap BadNumber (one_least (IsBadAt a.parts) m n a.holds (only bytes a.parts a.rest (λ p _. IsLeast (IsBadAt p) n) a.has_parts b))
one_cause bytes (Order m) (Order n) same a b = ap Order (one_least (IsUnorderedAt a.parts) m n a.holds (only bytes a.parts a.rest (λ p _. IsLeast (IsUnorderedAt p) n) a.has_parts b))
one_cause bytes (Trailing m) (Trailing n) same a b =
    let other : (n ≡ length a.rest) × (0 < n) = only bytes a.parts a.rest (λ _ rest. (n ≡ length rest) × (0 < n)) a.has_parts b in
    ap Trailing (a.holds.0 ∙ sym other.0)
one_cause bytes r s same a b = absurd (omega (arith, same))

-- bytes have at most one first cause
pub one_first_cert_cause : (bytes : List ℕ) (r s : CertRefusal) → IsFirstCertCause bytes r → IsFirstCertCause bytes s → r ≡ s
one_first_cert_cause bytes = firsts.one_first_cause refusal_number (IsCertCause bytes) (one_cause bytes)

-- ---- that no cause applies

-- none of a lower number
abbrev Clear : List ℕ → ℕ → Type 0
Clear bytes n = NoneBelow refusal_number (IsCertCause bytes) n

in_order : (r : CertRefusal) → (0 < refusal_number r) × (refusal_number r < 6)
in_order BadMagic = (omega arith, omega arith)
in_order (Truncated n) = (omega arith, omega arith)
in_order (BadNumber place) = (omega arith, omega arith)
in_order (Order place) = (omega arith, omega arith)
in_order (Trailing k) = (omega arith, omega arith)

pub clear_1 : (bytes : List ℕ) → Clear bytes 1
clear_1 bytes other lt cause = absurd (omega (arith, lt, (in_order other).0))

no_magic : (bytes : List ℕ) → ¬ IsCertCause bytes BadMagic → (r : CertRefusal) → refusal_number r ≡ 1 → ¬ IsCertCause bytes r
no_magic bytes none BadMagic is cause = none cause
no_magic bytes none r is cause = absurd (omega (arith, is))

no_cut : (bytes : List ℕ) → ((n : ℕ) → ¬ IsCertCause bytes (Truncated n)) → (r : CertRefusal) → refusal_number r ≡ 2 → ¬ IsCertCause bytes r
no_cut bytes none (Truncated n) is cause = none n cause
no_cut bytes none r is cause = absurd (omega (arith, is))

no_bad : (bytes : List ℕ) → ((place : ℕ) → ¬ IsCertCause bytes (BadNumber place)) → (r : CertRefusal) → refusal_number r ≡ 3 → ¬ IsCertCause bytes r
no_bad bytes none (BadNumber place) is cause = none place cause
no_bad bytes none r is cause = absurd (omega (arith, is))

no_disorder : (bytes : List ℕ) → ((place : ℕ) → ¬ IsCertCause bytes (Order place)) → (r : CertRefusal) → refusal_number r ≡ 4 → ¬ IsCertCause bytes r
no_disorder bytes none (Order place) is cause = none place cause
no_disorder bytes none r is cause = absurd (omega (arith, is))

no_trailing : (bytes : List ℕ) → ((k : ℕ) → ¬ IsCertCause bytes (Trailing k)) → (r : CertRefusal) → refusal_number r ≡ 5 → ¬ IsCertCause bytes r
no_trailing bytes none (Trailing k) is cause = none k cause
no_trailing bytes none r is cause = absurd (omega (arith, is))

next : (bytes : List ℕ) (n : ℕ) → Clear bytes n → ((r : CertRefusal) → refusal_number r ≡ n → ¬ IsCertCause bytes r) → Clear bytes (n + 1)
next bytes n clear none = firsts.none_below_next refusal_number (IsCertCause bytes) n clear none

clear_2 : (bytes : List ℕ) → has_magic bytes ≡ true → Clear bytes 2
clear_2 bytes begins = next bytes 1 (clear_1 bytes) (no_magic bytes (λ cause. cause.1.1.1 (same_bytes certificate_magic refl bytes begins cause.0 cause.1.0 cause.1.1.0)))

pub same_first : (bytes : List ℕ) (r s : CertRefusal) → IsFirstCertCause bytes r → r ≡ s → IsFirstCertCause bytes s
same_first bytes r s h e = subst (λ (q : CertRefusal). IsFirstCertCause bytes q) e h

-- ---- where something is missing

pub too_short : (bytes : List ℕ) → has_magic bytes ≡ true → length bytes < 8 → IsFirstCertCause bytes (Truncated (length bytes))
too_short bytes begins short = record { applies = (refl, λ p r has. absurd (omega (arith, short, has.has_front))); none_before = clear_2 bytes begins }

no_some : {A : Type 0} (x : A) → None ≡ Some x → ⊥
no_some x e = absurd (cc)

pub cut_short : (bytes : List ℕ) → has_magic bytes ≡ true → after_all (drop 8 bytes) ≡ None → IsFirstCertCause bytes (Truncated (length bytes))
cut_short bytes begins none = record {
  applies = (refl, λ p r has. no_some r (sym none ∙ ap after_all has.spelled ∙ parts_skip.again p r (fit_of bytes p r has)));
  none_before = clear_2 bytes begins;
}

-- ---- where nothing is missing

module _ (bytes rest : List ℕ) (fits : IsBytes bytes) (begins : has_magic bytes ≡ true) (room : 8 ≤ length bytes) (is_whole : after_all (drop 8 bytes) ≡ Some rest) where
  found : Skipped entries_of (drop 8 bytes) rest
  found = parts_skip.there (drop 8 bytes) rest (IsBytes-drop 8 bytes fits) is_whole

  parts : Parts
  parts = found.value

  has : HasParts bytes parts rest
  unfolding parts
  has = record { has_front = room; fit = All-from_recursion FitsBytes (entries_of parts) found.fit; spelled = found.parts }

  clear_3 : Clear bytes 3
  clear_3 = next bytes 2 (clear_2 bytes begins) (no_cut bytes (λ n cause. cause.1 parts rest has))

  long : length bytes ≡ 8 + length (entries_bytes (entries_of parts) ++ rest)
  long = omega (arith, ap (λ (t : List ℕ). length t) has.spelled, length-drop 8 bytes, room)

  pub bad_first : (r : CertRefusal) → draft_at (length bytes) (drop 8 bytes) ≡ Err r → IsFirstCertCause bytes r
  bad_first r e =
      let f : FirstBad (length bytes) (entries_of parts) rest r = scan_stops (length bytes) (entries_of parts) rest (draft_in parts rest, rest) r (sym (draft_read (length bytes) parts rest (drop 8 bytes) (fit_of bytes parts rest has) has.spelled) ∙ e) in
      let place = bad_place (length bytes) parts rest long r f in
      let first : IsFirstCertCause bytes (BadNumber place) = record {
        applies = record { parts = parts; rest = rest; has_parts = has; holds = bad_least (length bytes) parts rest long r f };
        none_before = clear_3;
      } in
      same_first bytes (BadNumber place) r first (bad_is (length bytes) parts rest long r f)

  module _ (x : Draft × List ℕ) (is_read : draft_at (length bytes) (drop 8 bytes) ≡ Ok x) where
    made : IsDraftOf parts rest x
    made = draft_made (length bytes) parts rest (drop 8 bytes) x (fit_of bytes parts rest has) has.spelled is_read

    clear_4 : Clear bytes 4
    clear_4 = next bytes 3 clear_3 (no_bad bytes (λ place cause.
        let least : IsLeast (IsBadAt parts) place = only bytes parts rest (λ p _. IsLeast (IsBadAt p) place) has cause in
        none_bad parts place made.good least.holds))

    fault_is : order_fault (length bytes) (draft_in parts rest) ≡ order_fault (length bytes) x.0
    fault_is = ap (λ (y : Draft × List ℕ). order_fault (length bytes) y.0) made.is

    rest_is : length rest ≡ length x.1
    rest_is = ap (λ (y : Draft × List ℕ). length y.1) made.is

    pub order_first : (place : ℕ) → order_fault (length bytes) x.0 ≡ Some place → IsFirstCertCause bytes (Order place)
    order_first place e = record {
      applies = record { parts = parts; rest = rest; has_parts = has; holds = order_least (length bytes) parts rest long place (fault_is ∙ e) };
      none_before = clear_4;
    }

    clear_5 : order_fault (length bytes) x.0 ≡ None → Clear bytes 5
    clear_5 none = next bytes 4 clear_4 (no_disorder bytes (λ place cause.
        let least : IsLeast (IsUnorderedAt parts) place = only bytes parts rest (λ p _. IsLeast (IsUnorderedAt p) place) has cause in
        none_unordered (length bytes) parts rest place (fault_is ∙ none) least.holds))

    pub trailing_first : order_fault (length bytes) x.0 ≡ None → (length x.1 ≡ 0 → ⊥) → IsFirstCertCause bytes (Trailing (length x.1))
    trailing_first none some = record {
      applies = record { parts = parts; rest = rest; has_parts = has; holds = (sym rest_is, omega (arith, some)) };
      none_before = clear_5 none;
    }

    clear_6 : order_fault (length bytes) x.0 ≡ None → length x.1 ≡ 0 → Clear bytes 6
    clear_6 none end = next bytes 5 (clear_5 none) (no_trailing bytes (λ k cause.
        let other : (k ≡ length rest) × (0 < k) = only bytes parts rest (λ _ r. (k ≡ length r) × (0 < k)) has cause in
        absurd (omega (arith, other.0, other.1, rest_is, end))))

    pub none_at_all : order_fault (length bytes) x.0 ≡ None → length x.1 ≡ 0 → (r : CertRefusal) → ¬ IsCertCause bytes r
    none_at_all none end r = clear_6 none end r (in_order r).1
