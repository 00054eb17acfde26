-- The least places at which a number isn't good, and at which the order is broken.
use Rattle.std.proofs.Common.{◌≡◌, ℕ, zero, suc, ◌+◌, ◌-◌, ◌*◌, ◌<◌, ◌≤◌, true, false, cond, ltb, List, [], ◌∷◌, ◌++◌, length, get_or, Some, None, refl, sym, ap, subst, ◌∙◌, append_assoc, arith, inl, inr, length-append}
use Rattle.std.specs.List.{flat_map, AllByRecursion}
use Rattle.std.proofs.lemmas.List.{length-map}
use Rattle.std.proofs.lemmas.Bool.{cases_lt, ltb-true, ltb-false}
use Rattle.cairo_model.specs.Machine.FieldMemories.{FieldCell, addresses}
use Rattle.cairo_model.specs.Certificate.Records.{SpanRecord}
use Rattle.cairo_model.proofs.Outcomes.{some_is, tested}
use Rattle.cert_format.specs.declared.refusal.CertRefusal.{CertRefusal}
use Rattle.cert_format.specs.declared.refusal.CertRefusal.TheVariants.{BadNumber}
use Rattle.cert_format.specs.Working.Ordering.{IsOrdered}
use Rattle.cert_format.specs.Reading.{fallen_at, falls, order_fault}
use Rattle.cert_format.specs.Refusals.{Entry, entry_bytes, entries_bytes, IsGoodEntry, Parts, counted_entries, mark_entries, cell_entries, state_entries, front_entries, entries_of, IsLeast, IsBadAt, cell_place, IsFallenAt, IsStopBelow, IsUnorderedAt}
use Rattle.cert_format.proofs.EntryLaws.{in_two, all_second}
use Rattle.cert_format.proofs.Scanning.{FirstBad}
use Rattle.cert_format.proofs.ReadersScan.{draft_in, cert_in, lists_bytes}
use Rattle.cert_format.proofs.OrderLaws.{is_ordered}

pub one_least : (P : ℕ → Type 0) (m n : ℕ) → IsLeast P m → IsLeast P n → m ≡ n
one_least P m n a b =
    elim (cases_lt m n) [
      | inl lower ↦ absurd (b.none_below m lower a.holds)
      | inr past ↦ elim (cases_lt n m) [
        | inl higher ↦ absurd (a.none_below n higher b.holds)
        | inr same ↦ omega (arith, past, same)
      ]
    ]

-- ---- numbers

head_is : (x y : Entry) (xs ys : List Entry) → x ∷ xs ≡ y ∷ ys → x ≡ y
head_is x y xs ys e = cc

tail_is : (x y : Entry) (xs ys : List Entry) → x ∷ xs ≡ y ∷ ys → xs ≡ ys
tail_is x y xs ys e = cc

-- of good entries each is good that begins before their end
good_before : (xs : List Entry) (x : Entry) (behind ys : List Entry) (y : Entry) (others : List Entry) → AllByRecursion IsGoodEntry xs → xs ++ (x ∷ behind) ≡ ys ++ (y ∷ others) → length (entries_bytes ys) < length (entries_bytes xs) → IsGoodEntry y
good_before [] x behind ys y others good split lower = absurd (omega arith)
good_before (a ∷ xs) x behind [] y others good split lower = subst (λ (e : Entry). IsGoodEntry e) (head_is a y (xs ++ (x ∷ behind)) others split) good.0
good_before (a ∷ xs) x behind (b ∷ ys) y others good split lower =
    let same : a ≡ b = head_is a b (xs ++ (x ∷ behind)) (ys ++ (y ∷ others)) split in
    let size : length (entry_bytes a) ≡ length (entry_bytes b) = ap (λ (e : Entry). length (entry_bytes e)) same in
    let later : length (entries_bytes ys) < length (entries_bytes xs) = omega (arith, lower, size, length-append (entry_bytes a) (entries_bytes xs), length-append (entry_bytes b) (entries_bytes ys)) in
    good_before xs x behind ys y others good.1 (tail_is a b (xs ++ (x ∷ behind)) (ys ++ (y ∷ others)) split) later

module _ (whole : ℕ) (p : Parts) (rest : List ℕ) (long : whole ≡ 8 + length (entries_bytes (entries_of p) ++ rest)) where
  pub bad_place : (refusal : CertRefusal) → FirstBad whole (entries_of p) rest refusal → ℕ
  bad_place refusal f = 8 + length (entries_bytes f.before)

  pub bad_is : (refusal : CertRefusal) (f : FirstBad whole (entries_of p) rest refusal) → BadNumber (bad_place refusal f) ≡ refusal
  unfolding bad_place
  bad_is refusal f =
      let tail = entry_bytes f.entry ++ (entries_bytes f.behind ++ rest) in
      let two : entries_bytes (entries_of p) ++ rest ≡ entries_bytes f.before ++ tail =
      ap (λ (es : List Entry). entries_bytes es ++ rest) f.split ∙ in_two f.before (f.entry ∷ f.behind) rest ∙ ap (λ (t : List ℕ). entries_bytes f.before ++ t) (append_assoc (entry_bytes f.entry) (entries_bytes f.behind) rest) in
      let sum : length (entries_bytes (entries_of p) ++ rest) ≡ length (entries_bytes f.before) + length tail = ap (λ (t : List ℕ). length t) two ∙ length-append (entries_bytes f.before) tail in
      let place : 8 + length (entries_bytes f.before) ≡ whole - length tail = omega (arith, sum, long) in
      ap BadNumber place ∙ f.is

  pub bad_least : (refusal : CertRefusal) (f : FirstBad whole (entries_of p) rest refusal) → IsLeast (IsBadAt p) (bad_place refusal f)
  unfolding bad_place
  bad_least refusal f = record {
    holds = record { before = f.before; entry = f.entry; behind = f.behind; split = f.split; place_is = refl; not_good = f.not_good };
    none_below = λ k lower other. other.not_good (good_before f.before f.entry f.behind other.before other.entry other.behind f.good (sym f.split ∙ other.split) (omega (arith, lower, other.place_is)));
  }

-- where all are good, none isn't
pub none_bad : (p : Parts) (place : ℕ) → AllByRecursion IsGoodEntry (entries_of p) → ¬ IsBadAt p place
none_bad p place good bad =
    let split : AllByRecursion IsGoodEntry (bad.before ++ (bad.entry ∷ bad.behind)) = subst (λ (es : List Entry). AllByRecursion IsGoodEntry es) bad.split good in
    let here : AllByRecursion IsGoodEntry (bad.entry ∷ bad.behind) = all_second IsGoodEntry bad.before (bad.entry ∷ bad.behind) split in
    bad.not_good here.0

-- ---- order

-- the first number that isn't above the one before, in numbers of which cells have all but the first
record Falls (numbers : List ℕ) (whole left count place : ℕ) : Type 0 where
  index : ℕ
  inside : index < count
  place_is : whole - (left - 16 * index) ≡ place
  falls : get_or numbers (suc index) 0 ≤ get_or numbers index 0
  rises : (k : ℕ) → k < index → get_or numbers k 0 < get_or numbers (suc k) 0

rises_on : (a b : ℕ) (ns : List ℕ) (index : ℕ) → a < b → ((k : ℕ) → k < index → get_or (b ∷ ns) k 0 < get_or (b ∷ ns) (suc k) 0) → (k : ℕ) → k < suc index → get_or (a ∷ b ∷ ns) k 0 < get_or (a ∷ b ∷ ns) (suc k) 0
rises_on a b ns index first later zero lt = first
rises_on a b ns index first later (suc k) lt = later k (omega arith)

falls_at : (whole left before place : ℕ) (cells : List FieldCell) → fallen_at whole left (Some before) cells ≡ Some place → Falls (before ∷ addresses cells) whole left (length cells) place
falls_at whole left before place [] e = absurd (cc)
falls_at whole left before place (c ∷ cs) e =
    tested (ltb before c.0) (fallen_at whole (left - 16) (Some c.0) cs) (Some (whole - left)) (Some place) e
    (λ above later.
    let f : Falls (c.0 ∷ addresses cs) whole (left - 16) (length cs) place = falls_at whole (left - 16) c.0 place cs later in
    let next : left - 16 * suc f.index ≡ left - 16 - 16 * f.index = omega arith in
    record {
      index = suc f.index;
      inside = omega (arith, f.inside);
      place_is = ap (λ (n : ℕ). whole - n) next ∙ f.place_is;
      falls = f.falls;
      rises = rises_on before c.0 (addresses cs) f.index (ltb-true before c.0 above) f.rises;
    })
    (λ not_above same.
    let none : left - 16 * 0 ≡ left = omega arith in
    record {
      index = 0;
      inside = omega arith;
      place_is = ap (λ (n : ℕ). whole - n) none ∙ some_is (whole - left) place same;
      falls = ltb-false before c.0 not_above;
      rises = λ k lt. absurd (omega arith);
    })

first_falls : (whole left place : ℕ) (cells : List FieldCell) → fallen_at whole left None cells ≡ Some place → Falls (addresses cells) whole (left - 16) (length cells - 1) place
first_falls whole left place [] e = absurd (cc)
first_falls whole left place (c ∷ cs) e =
    let f : Falls (c.0 ∷ addresses cs) whole (left - 16) (length cs) place = falls_at whole (left - 16) c.0 place cs e in
    record { index = f.index; inside = omega (arith, f.inside); place_is = f.place_is; falls = f.falls; rises = f.rises }

front_len : (p : Parts) → length (entries_bytes (front_entries p)) ≡ 53 + length (entries_bytes (flat_map mark_entries p.tasks))
front_len p = omega arith

cells_len : (cells : List FieldCell) → length (entries_bytes (flat_map cell_entries cells)) ≡ 16 * length cells
cells_len [] = omega arith
cells_len (c ∷ cs) = omega (arith, cells_len cs)

-- the cells and the states
lists_len : (p : Parts) (rest : List ℕ) → 4 + 16 * length p.cells ≤ length (lists_bytes p rest)
lists_len p rest =
    let cells = counted_entries cell_entries p.cells in
    let states = counted_entries state_entries p.states in
    let two : length (lists_bytes p rest) ≡ length (entries_bytes cells) + length (entries_bytes states ++ rest) = ap (λ (t : List ℕ). length t) (in_two cells states rest) ∙ length-append (entries_bytes cells) (entries_bytes states ++ rest) in
    let count_read : length (entries_bytes cells) ≡ 4 + length (entries_bytes (flat_map cell_entries p.cells)) = omega arith in
    omega (arith, two, count_read, cells_len p.cells)

no_stop_below : (stop_place place : ℕ) (s : SpanRecord) → falls s ≡ false → ¬ IsStopBelow stop_place s place
no_stop_below stop_place place s stands below = absurd (omega (arith, below.1, ltb-false s.stop s.start stands))

-- what of the four is at none of the places below
none_of : (p : Parts) (place : ℕ) → (IsStopBelow 17 p.output place → ⊥) → (IsStopBelow 33 p.range place → ⊥) → (IsStopBelow 49 p.hash place → ⊥) → (IsFallenAt p place → ⊥) → ¬ IsUnorderedAt p place
none_of p place a b c d (inl output) = a output
none_of p place a b c d (inr (inl range)) = b range
none_of p place a b c d (inr (inr (inl hash))) = c hash
none_of p place a b c d (inr (inr (inr cell))) = d cell

-- the addresses stand behind the spans
is_behind : (p : Parts) (place : ℕ) → IsFallenAt p place → 65 ≤ place
is_behind p place f = omega (arith, f.place_is, front_len p)

rises_inside : (cells : List FieldCell) (i : ℕ) → i + 1 < length cells → i + 1 < length (addresses cells)
rises_inside cells i lt = omega (arith, length-map cells (λ (c : FieldCell). c.0))

pub none_unordered : (whole : ℕ) (p : Parts) (rest : List ℕ) (place : ℕ) → order_fault whole (draft_in p rest) ≡ None → ¬ IsUnorderedAt p place
none_unordered whole p rest place e =
    let is : IsOrdered (cert_in p) = is_ordered whole (draft_in p rest) e in
    none_of p place (λ s. absurd (omega (arith, s.1, is.output))) (λ s. absurd (omega (arith, s.1, is.range))) (λ s. absurd (omega (arith, s.1, is.hash)))
    (λ f. absurd (omega (arith, f.falls, is.rise f.index (rises_inside p.cells f.index f.inside))))

module _ (whole : ℕ) (p : Parts) (rest : List ℕ) (long : whole ≡ 8 + length (entries_bytes (entries_of p) ++ rest)) where
  whole_is : whole ≡ 8 + length (entries_bytes (front_entries p)) + length (lists_bytes p rest)
  whole_is =
      let lists = counted_entries cell_entries p.cells ++ counted_entries state_entries p.states in
      let two : length (entries_bytes (front_entries p ++ lists) ++ rest) ≡ length (entries_bytes (front_entries p)) + length (lists_bytes p rest) = ap (λ (t : List ℕ). length t) (in_two (front_entries p) lists rest) ∙ length-append (entries_bytes (front_entries p)) (lists_bytes p rest) in
      omega (arith, long, two)

  cell_least : (place : ℕ) → falls p.output ≡ false → falls p.range ≡ false → falls p.hash ≡ false → Falls (addresses p.cells) whole (length (lists_bytes p rest) - 4 - 16) (length p.cells - 1) place → IsLeast (IsUnorderedAt p) place
  cell_least place output range hash f =
      let is : place ≡ cell_place p (f.index + 1) = omega (arith, f.place_is, whole_is, lists_len p rest, f.inside) in
      let next : suc f.index ≡ f.index + 1 = omega arith in
      let numbers = addresses p.cells in
      let falls_here : get_or numbers (f.index + 1) 0 ≤ get_or numbers f.index 0 = subst (λ (n : ℕ). get_or numbers n 0 ≤ get_or numbers f.index 0) next f.falls in
      let fallen : IsFallenAt p place = record { index = f.index; inside = omega (arith, f.inside); place_is = is; falls = falls_here } in
      record {
        holds = inr (inr (inr fallen));
        none_below = λ k lower. none_of p k (no_stop_below 17 k p.output output) (no_stop_below 33 k p.range range) (no_stop_below 49 k p.hash hash) (λ other.
            let before : other.index < f.index = omega (arith, lower, other.place_is, is) in
            let step : suc other.index ≡ other.index + 1 = omega arith in
            let rises_there : get_or numbers other.index 0 < get_or numbers (other.index + 1) 0 = subst (λ (n : ℕ). get_or numbers other.index 0 < get_or numbers n 0) step (f.rises other.index before) in
            absurd (omega (arith, other.falls, rises_there)));
      }

  at_output : falls p.output ≡ true → IsLeast (IsUnorderedAt p) 17
  at_output output = record {
    holds = inl (refl, ltb-true p.output.stop p.output.start output);
    none_below = λ k lower. none_of p k (λ s. absurd (omega (arith, s.0, lower))) (λ s. absurd (omega (arith, s.0, lower))) (λ s. absurd (omega (arith, s.0, lower))) (λ f. absurd (omega (arith, is_behind p k f, lower)));
  }

  at_range : falls p.output ≡ false → falls p.range ≡ true → IsLeast (IsUnorderedAt p) 33
  at_range output range = record {
    holds = inr (inl (refl, ltb-true p.range.stop p.range.start range));
    none_below = λ k lower. none_of p k (no_stop_below 17 k p.output output) (λ s. absurd (omega (arith, s.0, lower))) (λ s. absurd (omega (arith, s.0, lower))) (λ f. absurd (omega (arith, is_behind p k f, lower)));
  }

  at_hash : falls p.output ≡ false → falls p.range ≡ false → falls p.hash ≡ true → IsLeast (IsUnorderedAt p) 49
  at_hash output range hash = record {
    holds = inr (inr (inl (refl, ltb-true p.hash.stop p.hash.start hash)));
    none_below = λ k lower. none_of p k (no_stop_below 17 k p.output output) (no_stop_below 33 k p.range range) (λ s. absurd (omega (arith, s.0, lower))) (λ f. absurd (omega (arith, is_behind p k f, lower)));
  }

  pub order_least : (place : ℕ) → order_fault whole (draft_in p rest) ≡ Some place → IsLeast (IsUnorderedAt p) place
  order_least place e =
      let P : ℕ → Type 0 = IsLeast (IsUnorderedAt p) in
      let from = length (lists_bytes p rest) - 4 in
      let last = fallen_at whole from None p.cells in
      tested (falls p.output) (Some 17) (cond (falls p.range) (Some 33) (cond (falls p.hash) (Some 49) last)) (Some place) e
      (λ output same. subst P (some_is 17 place same) (at_output output))
      (λ output e1. tested (falls p.range) (Some 33) (cond (falls p.hash) (Some 49) last) (Some place) e1
      (λ range same. subst P (some_is 33 place same) (at_range output range))
      (λ range e2. tested (falls p.hash) (Some 49) last (Some place) e2
      (λ hash same. subst P (some_is 49 place same) (at_hash output range hash))
      (λ hash e3. cell_least place output range hash (first_falls whole from place p.cells e3))))
