-- Parts that are skipped by their lengths: what is skipped is such a part, and of one alone.
use Rattle.std.proofs.Common.{◌≡◌, ℕ, zero, suc, ◌+◌, ◌*◌, ◌^◌, ◌<◌, ◌≤◌, ltb, List, [], ◌∷◌, ◌++◌, length, take, drop, Option, Some, refl, sym, ap, subst, ◌∙◌, arith, length-append, length-drop}
use Rattle.std.specs.Prelude.{option_and_then}
use Rattle.std.specs.Int.{w32, to_be_bytes, from_be_bytes}
use Rattle.std.specs.List.{flat_map}
use Rattle.std.proofs.lemmas.Bool.{ltb-false}
use Rattle.std.proofs.lemmas.List.{drop_at, drop-drop}
use Rattle.cert_format.specs.Reading.{count_at, bytes_after, after_counted}
use Rattle.cert_format.specs.Refusals.{Entry, FitsBytes, entries_bytes, counted_entries}
use Rattle.cert_format.proofs.FieldLaws.{count_again}
use Rattle.cert_format.proofs.EntryLaws.{in_two, IsBytes-behind, Fit, all_first, all_second, all_both}
use Rattle.cert_format.proofs.Rows.{IsRow}
use Rattle.cert_format.proofs.Skipping.{option_goes, after_again}
use Rattle.cairo_model.proofs.Outcomes.{and_then_gives, else_gives, some_is}
use Rattle.cairo_model.proofs.Bytes.{IsBytes, IsBytes-drop, wide32, front_below, front_takes}

pub record Skipped {A : Type 0} (entries : A → List Entry) (bytes rest : List ℕ) : Type 0 where
  pub value : A
  pub parts : bytes ≡ entries_bytes (entries value) ++ rest
  pub fit : Fit (entries value)

pub record IsSkip {A : Type 0} (skip : List ℕ → Option (List ℕ)) (entries : A → List Entry) : Type 0 where
  pub there : (bytes rest : List ℕ) → IsBytes bytes → skip bytes ≡ Some rest → Skipped entries bytes rest
  pub again : (a : A) (rest : List ℕ) → Fit (entries a) → skip (entries_bytes (entries a) ++ rest) ≡ Some rest
  pub one : (a b : A) (r s : List ℕ) → Fit (entries a) → Fit (entries b) → entries_bytes (entries a) ++ r ≡ entries_bytes (entries b) ++ s → a ≡ b

pub one_rest : {A : Type 0} (skip : List ℕ → Option (List ℕ)) (entries : A → List Entry) (is : IsSkip skip entries) (a b : A) (r s : List ℕ) → Fit (entries a) → Fit (entries b) → entries_bytes (entries a) ++ r ≡ entries_bytes (entries b) ++ s → r ≡ s
one_rest skip entries is a b r s fit_a fit_b same = some_is r s (sym (is.again a r fit_a) ∙ ap skip same ∙ is.again b s fit_b)

pub row_skip : {A : Type 0} (entries : A → List Entry) (size : ℕ) (one : List ℕ → A) → IsRow entries size one → IsSkip (bytes_after size) entries
row_skip entries size one row = record {
  there = λ bytes rest fits e.
      else_gives (ltb (length bytes) size) (Some (drop size bytes)) rest e (λ long is.
      let parts : bytes ≡ entries_bytes (entries (one bytes)) ++ drop size bytes = row.there bytes fits (ltb-false (length bytes) size long) in
      record {
        value = one bytes;
        parts = parts ∙ ap (λ (t : List ℕ). entries_bytes (entries (one bytes)) ++ t) (some_is (drop size bytes) rest is);
        fit = row.fit bytes fits;
      });
  again = λ a rest fit. after_again size (entries_bytes (entries a)) rest (row.len a);
  one = λ a b r s fit_a fit_b same. sym (row.again a r fit_a) ∙ ap one same ∙ row.again b s fit_b;
}

abbrev pub in_turn : (List ℕ → Option (List ℕ)) → (List ℕ → Option (List ℕ)) → List ℕ → Option (List ℕ)
in_turn first second bytes = option_and_then second (first bytes)

pub pair_skip : {A B : Type 0} (k1 : List ℕ → Option (List ℕ)) (e1 : A → List Entry) (k2 : List ℕ → Option (List ℕ)) (e2 : B → List Entry) → IsSkip k1 e1 → IsSkip k2 e2 → IsSkip (in_turn k1 k2) (λ (x : A × B). e1 x.0 ++ e2 x.1)
pair_skip {A} {B} k1 e1 k2 e2 skip1 skip2 = record {
  there = λ bytes rest fits e.
      and_then_gives (k1 bytes) k2 rest e (λ mid is1 is2.
      let first = skip1.there bytes mid fits is1 in
      let second = skip2.there mid rest (IsBytes-behind bytes (entries_bytes (e1 first.value)) mid fits first.parts) is2 in
      record {
        value = (first.value, second.value);
        parts = first.parts ∙ ap (λ (t : List ℕ). entries_bytes (e1 first.value) ++ t) second.parts ∙ sym (in_two (e1 first.value) (e2 second.value) rest);
        fit = all_both FitsBytes (e1 first.value) (e2 second.value) first.fit second.fit;
      });
  again = λ x rest fit.
      let tail = entries_bytes (e2 x.1) ++ rest in
      let first : k1 (entries_bytes (e1 x.0) ++ tail) ≡ Some tail = skip1.again x.0 tail (all_first FitsBytes (e1 x.0) (e2 x.1) fit) in
      let second : k2 tail ≡ Some rest = skip2.again x.1 rest (all_second FitsBytes (e1 x.0) (e2 x.1) fit) in
      ap (in_turn k1 k2) (in_two (e1 x.0) (e2 x.1) rest) ∙ option_goes k2 (k1 (entries_bytes (e1 x.0) ++ tail)) tail rest first second;
  one = λ x y r s fit_x fit_y same.
      let tail_x = entries_bytes (e2 x.1) ++ r in
      let tail_y = entries_bytes (e2 y.1) ++ s in
      let moved : entries_bytes (e1 x.0) ++ tail_x ≡ entries_bytes (e1 y.0) ++ tail_y = sym (in_two (e1 x.0) (e2 x.1) r) ∙ same ∙ in_two (e1 y.0) (e2 y.1) s in
      let x0 = all_first FitsBytes (e1 x.0) (e2 x.1) fit_x in
      let y0 = all_first FitsBytes (e1 y.0) (e2 y.1) fit_y in
      let first : x.0 ≡ y.0 = skip1.one x.0 y.0 tail_x tail_y x0 y0 moved in
      let tails : tail_x ≡ tail_y = one_rest k1 e1 skip1 x.0 y.0 tail_x tail_y x0 y0 moved in
      let second : x.1 ≡ y.1 = skip2.one x.1 y.1 r s (all_second FitsBytes (e1 x.0) (e2 x.1) fit_x) (all_second FitsBytes (e1 y.0) (e2 y.1) fit_y) tails in
      ap (λ (a : A). (a, x.1)) first ∙ ap (λ (b : B). (y.0, b)) second;
}

-- skipped in the same way
pub same_skip : {A : Type 0} (k l : List ℕ → Option (List ℕ)) (entries : A → List Entry) → ((bytes : List ℕ) → k bytes ≡ l bytes) → IsSkip k entries → IsSkip l entries
same_skip k l entries same skip = record {
  there = λ bytes rest fits e. skip.there bytes rest fits (same bytes ∙ e);
  again = λ a rest fit. sym (same (entries_bytes (entries a) ++ rest)) ∙ skip.again a rest fit;
  one = skip.one;
}

-- seen otherwise
pub view_skip : {A B : Type 0} (skip : List ℕ → Option (List ℕ)) (entries : A → List Entry) (to : A → B) (from : B → A) → ((b : B) → to (from b) ≡ b) → ((a : A) → from (to a) ≡ a) → IsSkip skip entries → IsSkip skip (λ b. entries (from b))
view_skip {A} {B} skip entries to from there_back back_there is = record {
  there = λ bytes rest fits e.
      let x = is.there bytes rest fits e in
      let back : x.value ≡ from (to x.value) = sym (back_there x.value) in
      record {
        value = to x.value;
        parts = x.parts ∙ ap (λ (a : A). entries_bytes (entries a) ++ rest) back;
        fit = subst (λ (a : A). Fit (entries a)) back x.fit;
      };
  again = λ b rest fit. is.again (from b) rest fit;
  one = λ a b r s fit_a fit_b same. sym (there_back a) ∙ ap to (is.one (from a) (from b) r s fit_a fit_b same) ∙ there_back b;
}

-- ---- counts

pub counted_there : {R : Type 0} (bytes : List ℕ) (n : ℕ × List ℕ) → IsBytes bytes → count_at bytes ≡ Some n → (bytes ≡ to_be_bytes w32 n.0 ++ n.1 → n.0 < 2 ^ 32 → R) → R
counted_there bytes n fits e go =
    else_gives (ltb (length bytes) 4) (Some (from_be_bytes w32 (take 4 bytes), drop 4 bytes)) n e (λ long same.
    let made : ℕ × List ℕ = (from_be_bytes w32 (take 4 bytes), drop 4 bytes) in
    let is : made ≡ n = some_is made n same in
    let taken = front_takes w32 (2 ^ 32) wide32 bytes fits (ltb-false (length bytes) 4 long) in
    go (taken.parts ∙ ap (λ (x : ℕ × List ℕ). to_be_bytes w32 x.0 ++ x.1) is) (subst (λ (x : ℕ × List ℕ). x.0 < 2 ^ 32) is (front_below w32 (2 ^ 32) wide32 bytes fits)))

pub counts_agree : {R : Type 0} (m n : ℕ) (r s : List ℕ) → m < 2 ^ 32 → n < 2 ^ 32 → to_be_bytes w32 m ++ r ≡ to_be_bytes w32 n ++ s → (m ≡ n → r ≡ s → R) → R
counts_agree m n r s few_m few_n same go =
    let is : (m, r) ≡ (n, s) = some_is (m, r) (n, s) (sym (count_again m r few_m) ∙ ap count_at same ∙ count_again n s few_n) in
    go (ap (λ (x : ℕ × List ℕ). x.0) is) (ap (λ (x : ℕ × List ℕ). x.1) is)

-- ---- counted rows

module _ {A : Type 0} (entries : A → List Entry) (size : ℕ) (one : List ℕ → A) (row : IsRow entries size one) where
  rows : ℕ → List ℕ → List A
  rows zero bytes = []
  rows (suc n) bytes = one bytes ∷ rows n (drop size bytes)

  rows_count : (n : ℕ) (bytes : List ℕ) → length (rows n bytes) ≡ n
  unfolding rows
  rows_count zero bytes = refl
  rows_count (suc n) bytes = ap suc (rows_count n (drop size bytes))

  rows_there : (n : ℕ) (bytes : List ℕ) → IsBytes bytes → size * n ≤ length bytes → bytes ≡ entries_bytes (flat_map entries (rows n bytes)) ++ drop (size * n) bytes
  unfolding rows
  rows_there zero bytes fits long = let none : size * 0 ≡ 0 = omega arith in rw none refl
  rows_there (suc n) bytes fits long =
      let behind = drop size bytes in
      let first : bytes ≡ entries_bytes (entries (one bytes)) ++ behind = row.there bytes fits (omega arith) in
      let others : behind ≡ entries_bytes (flat_map entries (rows n behind)) ++ drop (size * n) behind = rows_there n behind (IsBytes-drop size bytes fits) (omega (arith, length-drop size bytes)) in
      let sum : size + size * n ≡ size * suc n = omega arith in
      let last : drop (size * n) behind ≡ drop (size * suc n) bytes = drop-drop (size * n) size bytes ∙ ap (λ (k : ℕ). drop k bytes) sum in
      first ∙ ap (λ (t : List ℕ). entries_bytes (entries (one bytes)) ++ t) (others ∙ ap (λ (t : List ℕ). entries_bytes (flat_map entries (rows n behind)) ++ t) last)
      ∙ sym (in_two (entries (one bytes)) (flat_map entries (rows n behind)) (drop (size * suc n) bytes))

  rows_fit : (n : ℕ) (bytes : List ℕ) → IsBytes bytes → Fit (flat_map entries (rows n bytes))
  unfolding rows
  rows_fit zero bytes fits = tt
  rows_fit (suc n) bytes fits = all_both FitsBytes (entries (one bytes)) (flat_map entries (rows n (drop size bytes))) (row.fit bytes fits) (rows_fit n (drop size bytes) (IsBytes-drop size bytes fits))

  rows_again : (xs : List A) (rest : List ℕ) → Fit (flat_map entries xs) → rows (length xs) (entries_bytes (flat_map entries xs) ++ rest) ≡ xs
  unfolding rows
  rows_again [] rest fit = refl
  rows_again (a ∷ xs) rest fit =
      let es = entries a in
      let fs = flat_map entries xs in
      let tail = entries_bytes fs ++ rest in
      let first : one (entries_bytes es ++ tail) ≡ a = row.again a tail (all_first FitsBytes es fs fit) in
      let behind : drop size (entries_bytes es ++ tail) ≡ tail = drop_at (entries_bytes es) tail size (row.len a) in
      rw (in_two es fs rest, first, behind, rows_again xs rest (all_second FitsBytes es fs fit)) refl

  rows_len : (xs : List A) → length (entries_bytes (flat_map entries xs)) ≡ size * length xs
  rows_len [] = omega arith
  rows_len (a ∷ xs) =
      let es = entries a in
      let fs = flat_map entries xs in
      let whole : length (entries_bytes (es ++ fs) ++ []) ≡ length (entries_bytes es) + length (entries_bytes fs ++ []) = ap length (in_two es fs []) ∙ length-append (entries_bytes es) (entries_bytes fs ++ []) in
      omega (arith, whole, length-append (entries_bytes (es ++ fs)) [], length-append (entries_bytes fs) [], row.len a, rows_len xs)

  -- so many of them
  rows_skipped : (n : ℕ) (bytes rest : List ℕ) → IsBytes bytes → bytes_after (size * n) bytes ≡ Some rest → bytes ≡ entries_bytes (flat_map entries (rows n bytes)) ++ rest
  rows_skipped n bytes rest fits e =
      else_gives (ltb (length bytes) (size * n)) (Some (drop (size * n) bytes)) rest e (λ long is.
      rows_there n bytes fits (ltb-false (length bytes) (size * n) long) ∙ ap (λ (t : List ℕ). entries_bytes (flat_map entries (rows n bytes)) ++ t) (some_is (drop (size * n) bytes) rest is))

  -- a count, and so many
  pub counted_skip : IsSkip (after_counted size) (counted_entries entries)
  counted_skip = record {
    there = λ bytes rest fits e.
        and_then_gives (count_at bytes) (λ n. bytes_after (size * n.0) n.1) rest e (λ n is read.
        counted_there bytes n fits is (λ parts few.
        let tail_fits : IsBytes n.1 = IsBytes-behind bytes (to_be_bytes w32 n.0) n.1 fits parts in
        let xs = rows n.0 n.1 in
        let many : length xs ≡ n.0 = rows_count n.0 n.1 in
        let behind : n.1 ≡ entries_bytes (flat_map entries xs) ++ rest = rows_skipped n.0 n.1 rest tail_fits read in
        let count_read : to_be_bytes w32 n.0 ++ n.1 ≡ to_be_bytes w32 (length xs) ++ (entries_bytes (flat_map entries xs) ++ rest) = ap (λ (k : ℕ). to_be_bytes w32 k ++ n.1) (sym many) ∙ ap (λ (t : List ℕ). to_be_bytes w32 (length xs) ++ t) behind in
        record { value = xs; parts = parts ∙ count_read; fit = (omega (arith, many, few), rows_fit n.0 n.1 tail_fits) }));
    again = λ xs rest fit.
        let tail = entries_bytes (flat_map entries xs) ++ rest in
        option_goes (λ n. bytes_after (size * n.0) n.1) (count_at (to_be_bytes w32 (length xs) ++ tail)) (length xs, tail) rest (count_again (length xs) tail fit.0) (after_again (size * length xs) (entries_bytes (flat_map entries xs)) rest (rows_len xs));
    one = λ xs ys r s fit_x fit_y same.
        let tail_x = entries_bytes (flat_map entries xs) ++ r in
        let tail_y = entries_bytes (flat_map entries ys) ++ s in
        counts_agree (length xs) (length ys) tail_x tail_y fit_x.0 fit_y.0 same (λ many tail.
        sym (rows_again xs r fit_x.1) ∙ ap (λ (k : ℕ). rows k tail_x) many ∙ ap (rows (length ys)) tail ∙ rows_again ys s fit_y.1);
  }
