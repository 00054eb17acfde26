-- The laws of the causes: what is refused has its first cause, and a certificate has none.
use Rattle.std.proofs.Common.{◌≡◌, ℕ, ◌<◌, ◌≤◌, ◌⊎◌, Bool, true, false, ltb, eqb, List, length, drop, Option, Some, None, Result, Ok, Err, refl, sym, ap, subst, ◌∙◌, inl, inr}
use Rattle.std.proofs.lemmas.Bool.{eqb-false, ltb-true}
use Rattle.cairo_model.specs.Working.Answers.{Gives}
use Rattle.cairo_model.specs.Certificate.Records.{CertRecord}
use Rattle.cairo_model.specs.Machine.Steps.{required, demanded}
use Rattle.cairo_model.specs.declared.end.End.{End}
use Rattle.cairo_model.specs.declared.end.End.TheVariants.{Refused}
use Rattle.cairo_model.proofs.Outcomes.{required_is, tested, err_is, ok_no_err, bind_refused, required_refused}
use Rattle.cairo_model.proofs.Bytes.{IsBytes}
use Rattle.cairo_model.proofs.Magics.{another_byte}
use Rattle.cert_format.specs.declared.refusal.CertRefusal.{CertRefusal}
use Rattle.cert_format.specs.declared.refusal.CertRefusal.TheVariants.{BadMagic, Truncated, Order, Trailing}
use Rattle.cert_format.specs.Reading.{has_magic, bytes_after, after_all, draft_at, order_fault, ordered, with_draft, reading}
use Rattle.cert_format.specs.Spelling.{certificate_magic, CertBytes}
use Rattle.cert_format.specs.Refusals.{IsCertCause, IsFirstCertCause}
use Rattle.cert_format.proofs.CertLaws.{Accepted, accepted, ended, with_all, with_body, with_magic, demand_kept, order_kept, room_for, cert_takes, cert_again}
use Rattle.cert_format.proofs.Causes.{clear_1, too_short, cut_short, bad_first, order_first, trailing_first, none_at_all, same_first}
use Rattle.cert_format.proofs.ByteLaws.{spelling_fits}

-- ---- a refusal, by where it comes from

demand_refused : {E R : Type 0} (d : E) (b : Bool) (e : E) → demanded d b ≡ Err e → (b ≡ false → d ≡ e → R) → R
demand_refused d true e h go = absurd (cc)
demand_refused d false e h go = go refl (err_is d e h)

order_refused : {A R : Type 0} (o : Option ℕ) (x : A) (e : CertRefusal) → ordered o x ≡ Err e → ((place : ℕ) → o ≡ Some place → Order place ≡ e → R) → R
order_refused None x e h go = absurd (cc)
order_refused (Some place) x e h go = go place refl (err_is (Order place) e h)

short_of : (n : ℕ) (bytes : List ℕ) → bytes_after n bytes ≡ None → length bytes < n
short_of n bytes e = tested (ltb (length bytes) n) None (Some (drop n bytes)) None e (λ short _. ltb-true (length bytes) n short) (λ _ some. absurd (cc))

-- behind the magic
refused_behind : (bytes body : List ℕ) (r : CertRefusal) → IsBytes bytes → has_magic bytes ≡ true → 8 ≤ length bytes → drop 8 bytes ≡ body → with_body (length bytes) body ≡ Err r → IsFirstCertCause bytes r
refused_behind bytes body r fits begins room is_body e =
    let whole = length bytes in
    bind_refused (required (Truncated whole) (after_all body)) (with_all whole body) r e
    (λ stop. required_refused (Truncated whole) (after_all body) r stop (λ none same. same_first bytes (Truncated whole) r (cut_short bytes begins (ap after_all is_body ∙ none)) same))
    (λ rest is2 e2. required_is (Truncated whole) (after_all body) rest is2 (λ all.
    let is_whole : after_all (drop 8 bytes) ≡ Some rest = ap after_all is_body ∙ all in
    let same_draft : draft_at whole (drop 8 bytes) ≡ draft_at whole body = ap (draft_at whole) is_body in
    bind_refused (draft_at whole body) (with_draft whole) r e2
    (λ stop. bad_first bytes rest fits begins room is_whole r (same_draft ∙ stop))
    (λ x is3 e3.
    let is_read : draft_at whole (drop 8 bytes) ≡ Ok x = same_draft ∙ is3 in
    bind_refused (ordered (order_fault whole x.0) x.0.cert) (ended x) r e3
    (λ stop. order_refused (order_fault whole x.0) x.0.cert r stop (λ place fault same. same_first bytes (Order place) r (order_first bytes rest fits begins room is_whole x is_read place fault) same))
    (λ d is4 e4. order_kept (order_fault whole x.0) x.0.cert d is4 (λ no_fault _.
    tested (eqb (length x.1) 0) (Ok d) (Err (Trailing (length x.1))) (Err r) e4
    (λ _ h. ok_no_err d r h)
    (λ some h. same_first bytes (Trailing (length x.1)) r (trailing_first bytes rest fits begins room is_whole x is_read no_fault (eqb-false (length x.1) 0 some)) (err_is (Trailing (length x.1)) r h)))))))

-- what is refused has its first cause
pub refused_first : (bytes : List ℕ) (r : CertRefusal) → IsBytes bytes → reading bytes ≡ Err r → IsFirstCertCause bytes r
unfolding reading
refused_first bytes r fits e =
    let whole = length bytes in
    bind_refused (demanded BadMagic (has_magic bytes)) (with_magic bytes) r e
    (λ stop. demand_refused BadMagic (has_magic bytes) r stop (λ other same.
    same_first bytes BadMagic r (record { applies = another_byte certificate_magic refl bytes other; none_before = clear_1 bytes }) same))
    (λ m is0 e0. demand_kept BadMagic (has_magic bytes) m is0 (λ begins.
    bind_refused (required (Truncated whole) (bytes_after 8 bytes)) (with_body whole) r e0
    (λ stop. required_refused (Truncated whole) (bytes_after 8 bytes) r stop (λ none same. same_first bytes (Truncated whole) r (too_short bytes begins (short_of 8 bytes none)) same))
    (λ body is1 e1. required_is (Truncated whole) (bytes_after 8 bytes) body is1 (λ found. room_for 8 bytes body found (λ room is_body.
    refused_behind bytes body r fits begins room is_body e1)))))

by_reading : (bytes : List ℕ) (given : Result CertRecord CertRefusal) → IsBytes bytes → reading bytes ≡ given → ((c : CertRecord) × CertBytes bytes c) ⊎ ((r : CertRefusal) × IsFirstCertCause bytes r)
by_reading bytes (Ok c) fits e = inl (c, cert_takes bytes c fits e)
by_reading bytes (Err r) fits e = inr (r, refused_first bytes r fits e)

-- bytes are a certificate's, or have a first cause
pub certificate_or_cause : (bytes : List ℕ) → IsBytes bytes → ((c : CertRecord) × CertBytes bytes c) ⊎ ((r : CertRefusal) × IsFirstCertCause bytes r)
certificate_or_cause bytes fits = by_reading bytes (reading bytes) fits refl

pub is_first : (bytes : List ℕ) (given : Result CertRecord (End CertRefusal)) → IsBytes bytes → Gives (λ c. c) given (reading bytes) → (r : CertRefusal) → given ≡ Err (Refused r) → IsFirstCertCause bytes r
is_first bytes given fits h r is = refused_first bytes r fits (subst (λ (x : Result CertRecord (End CertRefusal)). Gives (λ c. c) x (reading bytes)) is h)

-- ---- a certificate has no cause

read_has_none : (bytes : List ℕ) (c : CertRecord) (r : CertRefusal) → IsBytes bytes → reading bytes ≡ Ok c → ¬ IsCertCause bytes r
read_has_none bytes c r fits e =
    let a : Accepted bytes c = accepted bytes c e in
    none_at_all bytes a.rest fits a.begins a.room a.all a.draft a.read a.no_fault a.none r

-- the bytes of a certificate have no cause
pub certificate_has_no_cause : (bytes : List ℕ) (c : CertRecord) (r : CertRefusal) → CertBytes bytes c → ¬ IsCertCause bytes r
certificate_has_no_cause bytes c r file =
    let fits : IsBytes bytes = subst (λ (b : List ℕ). IsBytes b) (sym file.spelled) (spelling_fits c) in
    read_has_none bytes c r fits (ap reading file.spelled ∙ cert_again c file.is_certificate)
