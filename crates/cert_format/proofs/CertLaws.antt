-- The two laws: what is read is spelled so, and what is spelled so is read.
use Rattle.std.proofs.Common.{◌≡◌, ℕ, ◌≤◌, Bool, true, false, ltb, eqb, List, [], ◌∷◌, ◌++◌, length, take, drop, Option, Some, None, Result, Ok, Err, refl, sym, ap, subst, ◌∙◌, arith}
use Rattle.std.specs.Prelude.{IfOk}
use Rattle.std.proofs.lemmas.Bool.{eqb-true, ltb-false}
use Rattle.std.proofs.lemmas.Bool.Decides.{Decides-eqb}
use Rattle.std.proofs.lemmas.List.{append-nil, nil_from_length, take-append-drop, length-take}
use Rattle.std.proofs.lemmas.Slice.Eq.{starts_is}
use Rattle.cairo_model.specs.Working.Answers.{Gives}
use Rattle.cairo_model.specs.Certificate.Records.{CertKind, CertRecord, IsCertificate}
use Rattle.cairo_model.specs.Machine.Steps.{◌>>=◌, required, demanded}
use Rattle.cairo_model.specs.declared.end.End.{End}
use Rattle.cairo_model.specs.declared.end.End.TheVariants.{Refused}
use Rattle.cairo_model.proofs.Outcomes.{else_gives, bind_gives, bind_goes, required_is, then_ok, ok_is, some_is}
use Rattle.cairo_model.proofs.Bytes.{IsBytes, IsBytes-drop}
use Rattle.cert_format.specs.declared.refusal.CertRefusal.{CertRefusal}
use Rattle.cert_format.specs.declared.refusal.CertRefusal.TheVariants.{BadMagic, Truncated, Trailing}
use Rattle.cert_format.specs.Reading.{has_magic, bytes_after, after_all, Draft, draft_at, order_fault, ordered, ended_by, with_draft, reading}
use Rattle.cert_format.specs.Spelling.{certificate_magic, kind_byte, body_bytes, spelling, CertBytes}
use Rattle.cert_format.specs.Working.Ordering.{IsOrdered}
use Rattle.cert_format.proofs.Skipping.{after_again}
use Rattle.cert_format.proofs.OrderLaws.{is_ordered, no_order_fault}
use Rattle.cert_format.proofs.CertParts.{parts_of, same_kind, kind_same, spelled_so, parts_certificate, cert_fits, cert_good}
use Rattle.cert_format.proofs.PartsFound.{parts_skip}
use Rattle.cert_format.proofs.ReadersScan.{IsDraftOf, cert_in, cert_of, draft_in, draft_made, draft_read}
use Rattle.cert_format.proofs.Scanning.{scan_all}
use Rattle.cert_format.proofs.Skips.{Skipped}
use Rattle.cert_format.specs.Refusals.{entries_bytes, entries_of}

is_in_order : (c : CertRecord) → IsCertificate c → IsOrdered c
is_in_order c h = record { output = h.output.ordered; range = h.range.ordered; hash = h.hash.ordered; rise = h.rise }

-- ---- the chain of the reading from its end

abbrev pub ended : Draft × List ℕ → CertRecord → Result CertRecord CertRefusal
ended x = ended_by (length x.1)

abbrev pub with_all : ℕ → List ℕ → List ℕ → Result CertRecord CertRefusal
with_all whole body rest = draft_at whole body >>= with_draft whole

abbrev pub with_body : ℕ → List ℕ → Result CertRecord CertRefusal
with_body whole body = required (Truncated whole) (after_all body) >>= with_all whole body

abbrev pub with_magic : List ℕ → Bool → Result CertRecord CertRefusal
with_magic bytes b = required (Truncated (length bytes)) (bytes_after 8 bytes) >>= with_body (length bytes)

pub demand_kept : {E R : Type 0} (e : E) (b c : Bool) → demanded e b ≡ Ok c → (b ≡ true → R) → R
demand_kept e true c h go = go refl
demand_kept e false c h go = absurd (cc)

pub order_kept : {A R : Type 0} (o : Option ℕ) (x y : A) → ordered o x ≡ Ok y → (o ≡ None → x ≡ y → R) → R
order_kept None x y h go = go refl (ok_is x y h)
order_kept (Some p) x y h go = absurd (cc)

-- eight bytes that begin the magic are the magic
magic_stands : (bytes : List ℕ) → 8 ≤ length bytes → has_magic bytes ≡ true → bytes ≡ certificate_magic ++ drop 8 bytes
magic_stands bytes long begins =
    let len : length (take 8 bytes) ≡ 8 = omega (arith, length-take 8 bytes) in
    let whole : certificate_magic ≡ take 8 bytes ++ drop (length (take 8 bytes)) certificate_magic = (starts_is Decides-eqb certificate_magic (take 8 bytes) (has_magic bytes) refl).0 begins in
    let nothing : drop (length (take 8 bytes)) certificate_magic ≡ [] = ap (λ (n : ℕ). drop n certificate_magic) len in
    let is : certificate_magic ≡ take 8 bytes = whole ∙ ap (λ (r : List ℕ). take 8 bytes ++ r) nothing ∙ append-nil (take 8 bytes) in
    sym (take-append-drop 8 bytes) ∙ ap (λ (m : List ℕ). m ++ drop 8 bytes) (sym is)

pub room_for : {R : Type 0} (n : ℕ) (bytes body : List ℕ) → bytes_after n bytes ≡ Some body → (n ≤ length bytes → drop n bytes ≡ body → R) → R
room_for n bytes body e go = else_gives (ltb (length bytes) n) (Some (drop n bytes)) body e (λ long is. go (ltb-false (length bytes) n long) (some_is (drop n bytes) body is))

-- ---- what is read

-- behind the magic, where nothing follows
cert_behind : (whole : ℕ) (body rest : List ℕ) (x : Draft × List ℕ) → IsBytes body → after_all body ≡ Some rest → draft_at whole body ≡ Ok x → order_fault whole x.0 ≡ None → length x.1 ≡ 0 → CertBytes (certificate_magic ++ body) x.0.cert
cert_behind whole body rest x fits all read no_fault none =
    let found : Skipped entries_of body rest = parts_skip.there body rest fits all in
    let p = found.value in
    let made : IsDraftOf p rest x = draft_made whole p rest body x found.fit found.parts read in
    let in_order : IsOrdered (cert_in p) = is_ordered whole (draft_in p rest) (ap (λ (y : Draft × List ℕ). order_fault whole y.0) made.is ∙ no_fault) in
    let nothing : rest ≡ [] = nil_from_length rest (ap (λ (y : Draft × List ℕ). length y.1) made.is ∙ none) in
    let spelled : body ≡ kind_byte (cert_in p).kind ∷ body_bytes (cert_in p) =
    found.parts ∙ ap (λ (r : List ℕ). entries_bytes (entries_of p) ++ r) nothing ∙ append-nil (entries_bytes (entries_of p)) ∙ spelled_so p (kind_same p.kind_number made.good.0) in
    let is : CertBytes (certificate_magic ++ body) (cert_in p) = record { is_certificate = parts_certificate p found.fit made.good in_order; spelled = ap (λ (t : List ℕ). certificate_magic ++ t) spelled } in
    subst (λ (y : Draft × List ℕ). CertBytes (certificate_magic ++ body) y.0.cert) made.is is

-- the way of a reading that answers a certificate
pub record Accepted (bytes : List ℕ) (c : CertRecord) : Type 0 where
  pub rest : List ℕ
  pub draft : Draft × List ℕ
  pub begins : has_magic bytes ≡ true
  pub room : 8 ≤ length bytes
  pub all : after_all (drop 8 bytes) ≡ Some rest
  pub read : draft_at (length bytes) (drop 8 bytes) ≡ Ok draft
  pub no_fault : order_fault (length bytes) draft.0 ≡ None
  pub none : length draft.1 ≡ 0
  pub is : draft.0.cert ≡ c

pub accepted : (bytes : List ℕ) (c : CertRecord) → reading bytes ≡ Ok c → Accepted bytes c
unfolding reading
accepted bytes c e =
    let whole = length bytes in
    bind_gives (demanded BadMagic (has_magic bytes)) (with_magic bytes) c e (λ m is0 e0.
    demand_kept BadMagic (has_magic bytes) m is0 (λ begins.
    bind_gives (required (Truncated whole) (bytes_after 8 bytes)) (with_body whole) c e0 (λ body is1 e1.
    required_is (Truncated whole) (bytes_after 8 bytes) body is1 (λ found. room_for 8 bytes body found (λ room is_body.
    bind_gives (required (Truncated whole) (after_all body)) (with_all whole body) c e1 (λ rest is2 e2.
    required_is (Truncated whole) (after_all body) rest is2 (λ all.
    bind_gives (draft_at whole body) (with_draft whole) c e2 (λ x is3 e3.
    bind_gives (ordered (order_fault whole x.0) x.0.cert) (ended x) c e3 (λ d is4 e4.
    order_kept (order_fault whole x.0) x.0.cert d is4 (λ no_fault is_draft.
    then_ok (eqb (length x.1) 0) (Trailing (length x.1)) (Ok d) c e4 (λ none same.
    record {
      rest = rest;
      draft = x;
      begins = begins;
      room = room;
      all = ap after_all is_body ∙ all;
      read = ap (draft_at whole) is_body ∙ is3;
      no_fault = no_fault;
      none = eqb-true (length x.1) 0 none;
      is = is_draft ∙ ok_is d c same;
    })))))))))))

pub cert_takes : (bytes : List ℕ) (c : CertRecord) → IsBytes bytes → reading bytes ≡ Ok c → CertBytes bytes c
cert_takes bytes c fits e =
    let a : Accepted bytes c = accepted bytes c e in
    let is : CertBytes (certificate_magic ++ drop 8 bytes) a.draft.0.cert = cert_behind (length bytes) (drop 8 bytes) a.rest a.draft (IsBytes-drop 8 bytes fits) a.all a.read a.no_fault a.none in
    let here : CertBytes bytes a.draft.0.cert = subst (λ (t : List ℕ). CertBytes t a.draft.0.cert) (sym (magic_stands bytes a.room a.begins)) is in
    subst (λ (y : CertRecord). CertBytes bytes y) a.is here

-- ---- what is spelled

-- the parts of a certificate make it
same_cert : (c : CertRecord) → cert_in (parts_of c) ≡ c
same_cert c = ap (λ (k : CertKind). cert_of k c.output c.range c.hash c.tasks c.cells c.states) (same_kind c.kind)

cert_spelled : (c : CertRecord) → kind_byte c.kind ∷ body_bytes c ≡ entries_bytes (entries_of (parts_of c)) ++ []
cert_spelled c =
    let p = parts_of c in
    ap (λ (d : CertRecord). kind_byte d.kind ∷ body_bytes d) (sym (same_cert c)) ∙ sym (spelled_so p (ap kind_byte (same_kind c.kind))) ∙ sym (append-nil (entries_bytes (entries_of p)))

pub cert_again : (c : CertRecord) → IsCertificate c → reading (spelling c) ≡ Ok c
unfolding reading
cert_again c h =
    let bytes = spelling c in
    let whole = length bytes in
    let body = kind_byte c.kind ∷ body_bytes c in
    let p = parts_of c in
    let fit = cert_fits c h in
    let x : Draft × List ℕ = (draft_in p [], []) in
    let begins : has_magic bytes ≡ true = (starts_is Decides-eqb certificate_magic (take 8 bytes) (has_magic bytes) refl).1 [] refl in
    let is_body : bytes_after 8 bytes ≡ Some body = after_again 8 certificate_magic body refl in
    let is_whole : after_all body ≡ Some [] = ap after_all (cert_spelled c) ∙ parts_skip.again p [] fit in
    let read : draft_at whole body ≡ Ok x = draft_read whole p [] body fit (cert_spelled c) ∙ scan_all whole (entries_of p) [] (Ok x) (cert_good c h) in
    let in_order : IsOrdered (cert_in p) = subst (λ (d : CertRecord). IsOrdered d) (sym (same_cert c)) (is_in_order c h) in
    let kept : order_fault whole x.0 ≡ None = no_order_fault whole x.0 in_order in
    bind_goes (demanded BadMagic (has_magic bytes)) (with_magic bytes) c true (ap (demanded BadMagic) begins)
    (bind_goes (required (Truncated whole) (bytes_after 8 bytes)) (with_body whole) c body (ap (required (Truncated whole)) is_body)
    (bind_goes (required (Truncated whole) (after_all body)) (with_all whole body) c [] (ap (required (Truncated whole)) is_whole)
    (bind_goes (draft_at whole body) (with_draft whole) c x read
    (bind_goes (ordered (order_fault whole x.0) (cert_in p)) (ended x) c (cert_in p) (ap (λ (o : Option ℕ). ordered o (cert_in p)) kept) (ap Ok (same_cert c))))))

-- one byte string has at most one certificate
pub one_certificate : (bytes : List ℕ) (c d : CertRecord) → CertBytes bytes c → CertBytes bytes d → c ≡ d
one_certificate bytes c d a b = ok_is c d (sym (cert_again c a.is_certificate) ∙ ap reading (sym a.spelled ∙ b.spelled) ∙ cert_again d b.is_certificate)

pub is_found : (bytes : List ℕ) (r : Result CertRecord (End CertRefusal)) → IsBytes bytes → Gives (λ c. c) r (reading bytes) → IfOk r (λ c. CertBytes bytes c)
is_found bytes (Ok c) fits given = cert_takes bytes c fits given
is_found bytes (Err e) fits given = tt

no_ok : {A E : Type 0} (x : A) (e : E) → ◌≡◌ {A = Result A E} (Ok x) (Err e) → ⊥
no_ok x e h = absurd (cc)

pub none_is_refused : (bytes : List ℕ) (r : Result CertRecord (End CertRefusal)) → Gives (λ c. c) r (reading bytes) → (e : CertRefusal) → r ≡ Err (Refused e) → (c : CertRecord) → CertBytes bytes c → ⊥
none_is_refused bytes r given e is c file =
    let refused : reading bytes ≡ Err e = subst (λ (x : Result CertRecord (End CertRefusal)). Gives (λ c. c) x (reading bytes)) is given in
    let read : reading bytes ≡ Ok c = ap reading file.spelled ∙ cert_again c file.is_certificate in
    no_ok c e (sym read ∙ refused)
