-- What a reader was fed, as parts are taken and pieces follow each other.
use Rattle.std.proofs.Common.{◌≡◌, ℕ, ◌+◌, ◌<◌, ◌≤◌, Bool, List, [], ◌++◌, length, take, drop, false, refl, sym, ap, ap₂, subst, ◌∙◌, arith, length-append, append_assoc}
use Rattle.std.proofs.lemmas.List.{take-append-drop}
use Rattle.cairo_model.proofs.Bytes.{IsBytes, IsBytes-append, IsBytes-nil}
use Rattle.cert_format.specs.declared.stage.Stage.{Stage}
use Rattle.cert_format.specs.declared.stage.Stage.TheVariants.{Front, Foreign, Marks, Bases, CellCount, Cells, StateCount, States, End}
use Rattle.cert_format.specs.Reading.{reading}
use Rattle.cert_format.specs.Feeding.{Partial, ReaderRecord, IsFed, end_rest, rest_by, rest_of}
use Rattle.cert_format.specs.Working.Passing.{reader_with, IsReady, Goes, Passes, WasFed}
use Rattle.cert_format.specs.Working.Taking.{size_of, IsAwaiting, nothing, taken, passed_over}
use Rattle.cert_format.proofs.TakenLaws.{Took, took}

pub size_small : (s : Stage) → size_of s ≤ 61
size_small Front = omega arith
size_small Foreign = omega arith
size_small (Marks n) = omega arith
size_small (Bases m n) = omega arith
size_small CellCount = omega arith
size_small (Cells n) = omega arith
size_small StateCount = omega arith
size_small (States n) = omega arith
size_small (End start) = omega arith

pub goes_nowhere : (p : Partial) (bytes : List ℕ) → IsReady p → Goes p bytes p bytes
goes_nowhere p bytes ready = record { ready = ready; many = refl; answers = λ more. refl }

-- the next part is taken
pub takes_part : (p : Partial) (bytes : List ℕ) (q : Partial) (rest part behind : List ℕ) (new : Partial) → Goes p bytes q rest → rest ≡ part ++ behind → length part ≡ size_of q.stage → 0 < size_of q.stage → new ≡ taken q part → Goes p bytes new behind
takes_part p bytes q rest part behind new so_far split len some is =
    let t : Took q part = took q part so_far.ready.awaiting so_far.ready.fresh len some in
    let to : Goes p bytes (taken q part) behind = record {
      ready = record { awaiting = t.awaiting; fresh = λ e. absurd (t.apart e) };
      many = omega (arith, t.place, so_far.many, ap length split, length-append part behind);
      answers = λ more. so_far.answers more ∙ (ap (λ (b : List ℕ). rest_of q (b ++ more)) split ∙ (ap (rest_of q) (append_assoc part behind more) ∙ t.answers (behind ++ more)));
    } in
    subst (λ (n : Partial). Goes p bytes n behind) (sym is) to

-- where none is awaited, bytes are passed over
over_at : (s : Stage) (q : Partial) (rest more : List ℕ) → size_of s ≡ 0 → rest_by s q (rest ++ more) ≡ rest_by s (passed_over q (length rest)) more
over_at Front q rest more none = absurd (omega (arith, none))
over_at Foreign q rest more none = refl
over_at (Marks n) q rest more none = absurd (omega (arith, none))
over_at (Bases m n) q rest more none = absurd (omega (arith, none))
over_at CellCount q rest more none = absurd (omega (arith, none))
over_at (Cells n) q rest more none = absurd (omega (arith, none))
over_at StateCount q rest more none = absurd (omega (arith, none))
over_at (States n) q rest more none = absurd (omega (arith, none))
over_at (End start) q rest more none =
    let whole : q.place + length (rest ++ more) ≡ q.place + length rest + length more = omega (arith, length-append rest more) in
    ap (λ (w : ℕ). end_rest start w q) whole

-- a stage without a part isn't the first
not_front : (s : Stage) → size_of s ≡ 0 → s ≡ Front → ⊥
not_front s none same = absurd (omega (arith, none, ap size_of same))

pub passes_over : (p : Partial) (bytes : List ℕ) (q : Partial) (rest : List ℕ) (new : Partial) → Goes p bytes q rest → size_of q.stage ≡ 0 → new ≡ passed_over q (length rest) → Goes p bytes new []
unfolding rest_of
passes_over p bytes q rest new so_far none is =
    let to : Goes p bytes (passed_over q (length rest)) [] = record {
      ready = record { awaiting = so_far.ready.awaiting; fresh = λ e. absurd (not_front q.stage none e) };
      many = omega (arith, so_far.many);
      answers = λ more. so_far.answers more ∙ over_at q.stage q rest more none;
    } in
    subst (λ (n : Partial). Goes p bytes n []) (sym is) to

-- ---- what was fed

pub fed_on : (failed : Bool) (p : Partial) (carry piece : List ℕ) (q : Partial) (rest fed : List ℕ) (was : ReaderRecord) → reader_with failed p carry ≡ was → Passes p (carry ++ piece) q rest → IsBytes piece → IsFed was fed → IsFed (reader_with false q rest) (fed ++ piece)
fed_on failed p carry piece q rest fed was seen passed bytes is_fed =
    let h : IsFed (reader_with failed p carry) fed = subst (λ (r : ReaderRecord). IsFed r fed) (sym seen) is_fed in
    record {
      goes = refl;
      are_bytes = IsBytes-append fed piece h.are_bytes bytes;
      many = omega (arith, passed.goes.many, h.many, length-append carry piece, length-append fed piece);
      answers = λ more.
          ap reading (append_assoc fed piece more)
          ∙ (h.answers (piece ++ more)
          ∙ (ap (rest_of p) (sym (append_assoc carry piece more)) ∙ passed.goes.answers more));
    }

pub fed_nothing : (p : Partial) (carry : List ℕ) → p ≡ nothing → carry ≡ [] → IsFed (reader_with false p carry) []
unfolding rest_of
fed_nothing p carry is empty =
    let none : IsFed (reader_with false nothing []) [] = record { goes = refl; are_bytes = IsBytes-nil; many = refl; answers = λ more. refl } in
    subst (λ (q : Partial). IsFed (reader_with false q carry) []) (sym is) (subst (λ (c : List ℕ). IsFed (reader_with false nothing c) []) (sym empty) none)

pub new_inside : (p : Partial) (carry : List ℕ) → p ≡ nothing → carry ≡ [] → WasFed (reader_with false p carry)
new_inside p carry is empty =
    let count : length carry ≡ 0 = ap length empty in
    let place : p.place ≡ 0 = ap (λ (q : Partial). q.place) is in
    record {
      waiting = record { ready = record { awaiting = subst IsAwaiting (sym (ap (λ (q : Partial). q.stage) is)) tt; fresh = λ e. is }; short = omega (arith, count) };
      in_all = omega (arith, count, place);
      bytes = [];
      is_fed = fed_nothing p carry is empty;
    }

-- a part whose first bytes were carried
pub filled : (carry piece first rest whole : List ℕ) (n : ℕ) → first ≡ take n piece → rest ≡ drop n piece → whole ≡ carry ++ first → carry ++ piece ≡ whole ++ rest
filled carry piece first rest whole n front back is =
    let cut : piece ≡ first ++ rest = sym (take-append-drop n piece) ∙ ap₂ (λ (a b : List ℕ). a ++ b) (sym front) (sym back) in
    ap (λ (b : List ℕ). carry ++ b) cut ∙ (sym (append_assoc carry first rest) ∙ ap (λ (a : List ℕ). a ++ rest) (sym is))
