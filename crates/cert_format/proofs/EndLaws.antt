-- What a file is that ends where a part is awaited.
use Rattle.std.proofs.Common.{inl, inr, ◌≡◌, ℕ, zero, suc, ◌+◌, ◌-◌, ◌*◌, ◌<◌, ◌≤◌, Bool, true, false, cond, List, [], length, take, drop, Option, Some, None, Result, Ok, Err, refl, sym, ap, subst, ◌∙◌, arith}
use Rattle.std.specs.Prelude.{option_and_then, IfOk}
use Rattle.std.specs.Int.{w32, from_be_bytes}
use Rattle.std.proofs.lemmas.Bool.{cases_lt, lt-ltb, le-ltb}
use Rattle.std.proofs.lemmas.List.{append-nil, length-drop}
use Rattle.cairo_model.specs.Machine.Steps.{◌>>=◌, required, demanded}
use Rattle.cairo_model.specs.Certificate.Records.{CertRecord, IsCertificate}
use Rattle.cert_format.specs.declared.refusal.CertRefusal.{CertRefusal}
use Rattle.cert_format.specs.declared.refusal.CertRefusal.TheVariants.{BadMagic, Truncated}
use Rattle.cert_format.specs.declared.stage.Stage.{Stage}
use Rattle.cert_format.specs.declared.stage.Stage.TheVariants.{Front, Foreign, Marks, Bases, CellCount, Cells, StateCount, States, End}
use Rattle.cert_format.specs.Reading.{has_magic, count_at, bytes_after, after_counted, after_mark, after_marks, after_lists, after_all, Draft, draft_at, order_fault, ordered, ended_by, with_draft, reading}
use Rattle.cert_format.specs.Feeding.{Partial, ReaderRecord, IsFed, draft_of, after_both, after_tasks, after_rest, parts_from, noted, body_rest, end_rest, rest_by, rest_of}
use Rattle.cert_format.specs.Working.Passing.{IsWaiting, WasFed}
use Rattle.cert_format.specs.Working.Taking.{size_of, IsAwaiting, refusal_in_front}
use Rattle.cairo_model.proofs.Bytes.{IsBytes}
use Rattle.cert_format.specs.Spelling.{CertBytes}
use Rattle.cert_format.proofs.CertLaws.{cert_takes}
use Rattle.cert_format.proofs.FieldLaws.{count_parts}

short_count : (b : List ℕ) → length b < 4 → count_at b ≡ None
short_count b lt = ap (λ (t : Bool). cond t None (Some (from_be_bytes w32 (take 4 b), drop 4 b))) (lt-ltb (length b) 4 lt)

short_after : (n : ℕ) (b : List ℕ) → length b < n → bytes_after n b ≡ None
short_after n b lt = ap (λ (t : Bool). cond t None (Some (drop n b))) (lt-ltb (length b) n lt)

short_counted : (size : ℕ) (b : List ℕ) → length b < 4 → after_counted size b ≡ None
short_counted size b lt = ap (option_and_then (λ (n : ℕ × List ℕ). bytes_after (size * n.0) n.1)) (short_count b lt)

short_mark : (b : List ℕ) → length b < 8 → after_mark b ≡ None
short_mark b lt = elim (cases_lt (length b) 4) [
  | inl less ↦ ap (option_and_then (λ (r : ℕ × List ℕ). after_counted 8 r.1)) (short_count b less)
  | inr four ↦
      ap (option_and_then (λ (r : ℕ × List ℕ). after_counted 8 r.1)) (count_parts b (drop 4 b) (from_be_bytes w32 (take 4 b)) four refl refl)
      ∙ short_counted 8 (drop 4 b) (omega (arith, lt, four, length-drop 4 b))
]

-- the part that is awaited isn't there
missing : (s : Stage) (b : List ℕ) → IsAwaiting s → 0 < size_of s → (s ≡ Front → ⊥) → length b < size_of s → after_rest s b ≡ None
missing Front b awaiting some apart short = absurd (apart refl)
missing Foreign b awaiting some apart short = absurd (omega (arith, some))
missing (Marks zero) b awaiting some apart short = absurd (omega (arith, awaiting))
missing (Marks (suc n)) b awaiting some apart short = ap (λ (o : Option (List ℕ)). option_and_then after_both (option_and_then (after_marks n) o)) (short_mark b short)
missing (Bases zero n) b awaiting some apart short = absurd (omega (arith, awaiting))
missing (Bases (suc m) n) b awaiting some apart short = ap (option_and_then (after_tasks n)) (short_after (8 * suc m) b (omega (arith, short)))
missing CellCount b awaiting some apart short = ap (option_and_then (after_counted 24)) (short_counted 16 b short)
missing (Cells zero) b awaiting some apart short = absurd (omega (arith, awaiting))
missing (Cells (suc n)) b awaiting some apart short = ap (option_and_then (after_counted 24)) (short_after (16 * suc n) b (omega (arith, short)))
missing StateCount b awaiting some apart short = short_counted 24 b short
missing (States zero) b awaiting some apart short = absurd (omega (arith, awaiting))
missing (States (suc n)) b awaiting some apart short = short_after (24 * suc n) b (omega (arith, short))
missing (End start) b awaiting some apart short = absurd (omega (arith, some))

truncated_body : (s : Stage) (p : Partial) (b : List ℕ) → after_rest s b ≡ None → body_rest s p b ≡ Err (Truncated (p.place + length b))
truncated_body s p b none = ap (λ (o : Option (List ℕ)). required (Truncated (p.place + length b)) o >>= λ rest. (noted p.bad (parts_from (p.place + length b) p s b) >>= with_draft (p.place + length b))) none

-- one of the parts that a body has
abbrev pub IsBody : Stage → Type 0
IsBody Front = ⊥
IsBody Foreign = ⊥
IsBody (Marks n) = Unit {0}
IsBody (Bases m n) = Unit {0}
IsBody CellCount = Unit {0}
IsBody (Cells n) = Unit {0}
IsBody StateCount = Unit {0}
IsBody (States n) = Unit {0}
IsBody (End start) = ⊥

body_at : (s : Stage) (p : Partial) (b : List ℕ) → IsBody s → rest_by s p b ≡ body_rest s p b
body_at Front p b body = absurd body
body_at Foreign p b body = absurd body
body_at (Marks n) p b body = refl
body_at (Bases m n) p b body = refl
body_at CellCount p b body = refl
body_at (Cells n) p b body = refl
body_at StateCount p b body = refl
body_at (States n) p b body = refl
body_at (End start) p b body = absurd body

some_bytes : (s : Stage) → IsBody s → 0 < size_of s
some_bytes Front body = absurd body
some_bytes Foreign body = absurd body
some_bytes (Marks n) body = omega arith
some_bytes (Bases m n) body = omega arith
some_bytes CellCount body = omega arith
some_bytes (Cells n) body = omega arith
some_bytes StateCount body = omega arith
some_bytes (States n) body = omega arith
some_bytes (End start) body = absurd body

pub truncated : (s : Stage) (p : Partial) (b : List ℕ) → IsBody s → p.stage ≡ s → IsWaiting p b → rest_of p b ≡ Err (Truncated (p.place + length b))
unfolding rest_of
truncated s p b body is waiting =
    let some : 0 < size_of s = some_bytes s body in
    let awaiting : IsAwaiting s = subst IsAwaiting is waiting.ready.awaiting in
    let short : length b < size_of s = omega (arith, some, waiting.short, ap size_of is) in
    let apart : s ≡ Front → ⊥ = λ e. subst IsBody e body in
    ap (λ (t : Stage). rest_by t p b) is ∙ (body_at s p b body ∙ truncated_body s p b (missing s b awaiting some apart short))

-- ---- before the body

short_front : (b : List ℕ) → length b < 61 → 8 ≤ length b → after_all (drop 8 b) ≡ None
unfolding after_lists
short_front b lt long =
    let d : List ℕ = drop 8 b in
    let count = length-drop 8 b in
    elim (cases_lt (length d) 49) [
      | inl less ↦ ap (option_and_then after_lists) (short_after 49 d less)
      | inr there ↦
          let behind : bytes_after 49 d ≡ Some (drop 49 d) = ap (λ (t : Bool). cond t None (Some (drop 49 d))) (le-ltb (length d) 49 there) in
          ap (option_and_then after_lists) behind ∙ ap (option_and_then _) (short_count (drop 49 d) (omega (arith, lt, long, count, length-drop 49 d)))
    ]

by_length : (b : List ℕ) → length b < 61 → required (Truncated (length b)) (bytes_after 8 b) >>= (λ body. required (Truncated (length b)) (after_all body) >>= λ rest. (draft_at (length b) body >>= λ draft. with_draft (length b) draft)) ≡ Err (Truncated (length b))
by_length b lt = elim (cases_lt (length b) 8) [
  | inl less ↦ ap (λ (o : Option (List ℕ)). required (Truncated (length b)) o >>= λ body. (required (Truncated (length b)) (after_all body) >>= λ rest. (draft_at (length b) body >>= λ draft. with_draft (length b) draft))) (short_after 8 b less)
  | inr there ↦
      let behind : bytes_after 8 b ≡ Some (drop 8 b) = ap (λ (t : Bool). cond t None (Some (drop 8 b))) (le-ltb (length b) 8 there) in
      ap (λ (o : Option (List ℕ)). required (Truncated (length b)) o >>= λ body. (required (Truncated (length b)) (after_all body) >>= λ rest. (draft_at (length b) body >>= λ draft. with_draft (length b) draft))) behind
      ∙ ap (λ (o : Option (List ℕ)). required (Truncated (length b)) o >>= λ rest. (draft_at (length b) (drop 8 b) >>= λ draft. with_draft (length b) draft)) (short_front b lt there)
]

by_magic : (m : Bool) (b : List ℕ) → length b < 61 → has_magic b ≡ m → reading b ≡ Err (cond m (Truncated (length b)) BadMagic)
unfolding reading
by_magic true b lt is =
    ap (λ (m : Bool). demanded BadMagic m >>= λ magic. (required (Truncated (length b)) (bytes_after 8 b) >>= λ body. (required (Truncated (length b)) (after_all body) >>= λ rest. (draft_at (length b) body >>= λ draft. with_draft (length b) draft)))) is
    ∙ by_length b lt
by_magic false b lt is =
    ap (λ (m : Bool). demanded BadMagic m >>= λ magic. (required (Truncated (length b)) (bytes_after 8 b) >>= λ body. (required (Truncated (length b)) (after_all body) >>= λ rest. (draft_at (length b) body >>= λ draft. with_draft (length b) draft)))) is

pub front_ends : (p : Partial) (b : List ℕ) → p.stage ≡ Front → IsWaiting p b → rest_of p b ≡ Err (refusal_in_front (p.place + length b) b)
unfolding rest_of
front_ends p b is waiting =
    let none : p.place ≡ 0 = ap (λ (q : Partial). q.place) (waiting.ready.fresh is) in
    let short : length b < 61 = omega (arith, waiting.short, ap size_of is) in
    ap (λ (t : Stage). rest_by t p b) is
    ∙ (by_magic (has_magic b) b short refl ∙ ap (λ (w : ℕ). Err (refusal_in_front w b)) (omega (arith, none)))

pub foreign_ends : (p : Partial) (b : List ℕ) → p.stage ≡ Foreign → rest_of p b ≡ Err BadMagic
unfolding rest_of
foreign_ends p b is = ap (λ (t : Stage). rest_by t p b) is

-- ---- behind it

pub end_at : (p : Partial) (b : List ℕ) (start : ℕ) → p.stage ≡ End start → IsWaiting p b → rest_of p b ≡ end_rest start p.place p
unfolding rest_of
end_at p b start is waiting =
    let none : length b ≡ 0 = omega (arith, waiting.short, ap size_of is) in
    ap (λ (t : Stage). rest_by t p b) is ∙ ap (λ (n : ℕ). end_rest start n p) (omega (arith, none))

-- a certificate that has no fault is the answer
pub ends_well : (start place : ℕ) (p : Partial) → p.bad ≡ None → order_fault place (draft_of (place - p.marks_end) p) ≡ None → place - start ≡ 0 → end_rest start place p ≡ Ok (draft_of 0 p).cert
ends_well start place p none kept nothing_behind =
    let d : Draft = draft_of (place - p.marks_end) p in
    ap (λ (b : Option CertRefusal). noted b (Ok d) >>= λ d. (ordered (order_fault place d) d.cert >>= ended_by (place - start))) none
    ∙ (ap (λ (o : Option ℕ). ordered o d.cert >>= ended_by (place - start)) kept ∙ ap (λ (n : ℕ). ended_by n d.cert) nothing_behind)

pub not_some : {A : Type 0} (o : Option A) → ((x : A) → o ≡ Some x → ⊥) → o ≡ None
not_some None never = refl
not_some (Some x) never = absurd (never x refl)

pub body_of : (s : Stage) → (s ≡ Front → ⊥) → (s ≡ Foreign → ⊥) → ((n : ℕ) → s ≡ End n → ⊥) → IsBody s
body_of Front front foreign end = absurd (front refl)
body_of Foreign front foreign end = absurd (foreign refl)
body_of (Marks n) front foreign end = tt
body_of (Bases m n) front foreign end = tt
body_of CellCount front foreign end = tt
body_of (Cells n) front foreign end = tt
body_of StateCount front foreign end = tt
body_of (States n) front foreign end = tt
body_of (End n) front foreign end = absurd (end n refl)

-- ---- the answer to what was fed

pub fed_reading : (r : ReaderRecord) (fed : List ℕ) → IsFed r fed → reading fed ≡ rest_of r.partial r.carry
fed_reading r fed h = ap reading (sym (append-nil fed)) ∙ (h.answers [] ∙ ap (rest_of r.partial) (append-nil r.carry))

pub keeps_certificate : (r : ReaderRecord) → WasFed r → (c : CertRecord) → rest_of r.partial r.carry ≡ Ok c → IsCertificate c
keeps_certificate r was c e = (cert_takes was.bytes c was.is_fed.are_bytes (fed_reading r was.bytes was.is_fed ∙ e)).is_certificate

-- what the format says of the bytes that were fed
pub record Answered (fed : List ℕ) (answer : Result CertRecord CertRefusal) : Type 0 where
  pub are_bytes : IsBytes fed
  pub is : reading fed ≡ answer

pub fed_answer : (r was : ReaderRecord) (slice fed : List ℕ) (answer : Result CertRecord CertRefusal) → r ≡ was → slice ≡ r.carry → rest_of r.partial slice ≡ answer → IsFed was fed → Answered fed answer
fed_answer r was slice fed answer seen carried e h =
    let here : IsFed r fed = subst (λ (x : ReaderRecord). IsFed x fed) (sym seen) h in
    record { are_bytes = here.are_bytes; is = fed_reading r fed here ∙ (ap (rest_of r.partial) (sym carried) ∙ e) }

-- what is answered of all that was fed is answered of these bytes
pub fed_ok : {E : Type 0} (r : Result CertRecord E) (was : ReaderRecord) (fed : List ℕ) → IfOk r (λ (c : CertRecord). (b : List ℕ) → IsFed was b → CertBytes b c) → IsFed was fed → IfOk r (λ (c : CertRecord). CertBytes fed c)
fed_ok (Ok c) was fed sound h = sound fed h
fed_ok (Err e) was fed sound h = tt
