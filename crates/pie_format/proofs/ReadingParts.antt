-- The parts of a file: what is read is spelled so, and what is spelled so is read.
use Rattle.std.proofs.Common.{◌≡◌, ℕ, ◌+◌, ◌-◌, ◌*◌, ◌^◌, ◌<◌, ◌≤◌, Bool, true, false, cond, ltb, List, [], ◌++◌, length, take, drop, Option, Some, Ok, Err, refl, sym, ap, subst, ◌∙◌, append_assoc, arith, length-append, length-drop}
use Rattle.std.specs.Int.{w32, to_be_bytes}
use Rattle.std.proofs.lemmas.Bool.{ltb-false, le-ltb}
use Rattle.std.proofs.lemmas.Bool.Decides.{Decides-eqb}
use Rattle.std.proofs.lemmas.List.{take_at, drop_at, take-append-drop, length-take, append-nil}
use Rattle.std.proofs.lemmas.Slice.Eq.{starts_is}
use Rattle.cairo_model.specs.declared.read_refusal.ReadRefusal.TheVariants.{TooLong, BadMagic, Truncated}
use Rattle.cairo_model.specs.Machine.Steps.{required}
use Rattle.cairo_model.specs.Pie.Files.{magic, text_bytes}
use Rattle.cairo_model.proofs.Outcomes.{required_is, else_gives, else_ok, then_ok, some_is}
use Rattle.cairo_model.proofs.Bytes.{IsBytes, IsBytes-drop, Takes, Takes-then, piece_takes, wide32, front_below, front_takes, front_again, rest_again}
use Rattle.pie_format.specs.Working.Reading.{front, has_magic, Parts, counted, after_length, whole_parts, parts_at}

-- the bytes after the length, whose text has that many
pub record Follow (len : ℕ) (bytes : List ℕ) (p : Parts) : Type 0 where
  pub taken : Takes bytes (p.text ++ to_be_bytes w32 p.count) p.rest
  pub text_len : length p.text ≡ len
  pub enough : 16 * p.count ≤ length p.rest

follow : (len : ℕ) (bytes : List ℕ) (p : Parts) → IsBytes bytes → after_length len bytes ≡ Some p → Follow len bytes p
follow len bytes p fits e =
    let text = take len bytes in
    let rest = drop len bytes in
    else_gives (ltb (length bytes) (len + 4)) (counted text (front w32 rest) (drop 4 rest)) p e (λ long found.
    else_gives (ltb (length (drop 4 rest)) (16 * front w32 rest)) (Some (record { text = text; count = front w32 rest; rest = drop 4 rest })) p found (λ enough is.
    let room : len + 4 ≤ length bytes = ltb-false _ _ long in
    let all : 16 * front w32 rest ≤ length (drop 4 rest) = ltb-false _ _ enough in
    let rest_len : length rest ≡ length bytes - len = length-drop len bytes in
    let first : Takes bytes text rest = piece_takes len bytes fits in
    let second : Takes rest (to_be_bytes w32 (front w32 rest)) (drop 4 rest) = front_takes w32 (2 ^ 32) wide32 rest first.rest_fits (omega arith) in
    let made : Parts = record { text = text; count = front w32 rest; rest = drop 4 rest } in
    let follows : Follow len bytes made = record {
      taken = Takes-then bytes text rest (to_be_bytes w32 (front w32 rest)) (drop 4 rest) first second;
      text_len = omega (arith, length-take len bytes);
      enough = all;
    } in
    subst (λ (q : Parts). Follow len bytes q) (some_is made p is) follows))

-- what a file's parts are
pub record ArePartsOf (bytes : List ℕ) (p : Parts) : Type 0 where
  pub taken : Takes bytes (magic ++ (text_bytes p.text ++ to_be_bytes w32 p.count)) p.rest
  pub text_fits : length p.text < 2 ^ 32
  pub enough : 16 * p.count ≤ length p.rest
  pub in_limit : length bytes ≤ 2097152

-- eight bytes that begin the magic are the magic
magic_taken : (bytes : List ℕ) → IsBytes bytes → 8 ≤ length bytes → has_magic bytes ≡ true → Takes bytes magic (drop 8 bytes)
magic_taken bytes fits long begins =
    let len : length (take 8 bytes) ≡ 8 = omega (arith, length-take 8 bytes) in
    let whole : magic ≡ take 8 bytes ++ drop (length (take 8 bytes)) magic = (starts_is Decides-eqb magic (take 8 bytes) (has_magic bytes) refl).0 begins in
    let nothing : drop (length (take 8 bytes)) magic ≡ [] = ap (λ (n : ℕ). drop n magic) len in
    let is : magic ≡ take 8 bytes = whole ∙ ap (λ (r : List ℕ). take 8 bytes ++ r) nothing ∙ append-nil (take 8 bytes) in
    record { parts = sym (take-append-drop 8 bytes) ∙ ap (λ (m : List ℕ). m ++ drop 8 bytes) (sym is); rest_fits = IsBytes-drop 8 bytes fits }

pub parts_take : (bytes : List ℕ) (p : Parts) → IsBytes bytes → parts_at bytes ≡ Ok p → ArePartsOf bytes p
parts_take bytes p fits e =
    else_ok (ltb 2097152 (length bytes)) (TooLong (length bytes)) (cond (has_magic bytes) (required (Truncated (length bytes)) (whole_parts bytes)) (Err BadMagic)) p e (λ short after.
    then_ok (has_magic bytes) BadMagic (required (Truncated (length bytes)) (whole_parts bytes)) p after (λ begins found.
    required_is (Truncated (length bytes)) (whole_parts bytes) p found (λ whole.
    else_gives (ltb (length bytes) 12) (after_length (front w32 (drop 8 bytes)) (drop 4 (drop 8 bytes))) p whole (λ long rest.
    let room : 12 ≤ length bytes = ltb-false _ _ long in
    let rest_len : length (drop 8 bytes) ≡ length bytes - 8 = length-drop 8 bytes in
    let first : Takes bytes magic (drop 8 bytes) = magic_taken bytes fits (omega arith) begins in
    let second : Takes (drop 8 bytes) (to_be_bytes w32 (front w32 (drop 8 bytes))) (drop 4 (drop 8 bytes)) = front_takes w32 (2 ^ 32) wide32 (drop 8 bytes) first.rest_fits (omega arith) in
    let third : Follow (front w32 (drop 8 bytes)) (drop 4 (drop 8 bytes)) p = follow (front w32 (drop 8 bytes)) (drop 4 (drop 8 bytes)) p second.rest_fits rest in
    let below : front w32 (drop 8 bytes) < 2 ^ 32 = front_below w32 (2 ^ 32) wide32 (drop 8 bytes) first.rest_fits in
    let after_magic = Takes-then (drop 8 bytes) (to_be_bytes w32 (front w32 (drop 8 bytes))) (drop 4 (drop 8 bytes)) (p.text ++ to_be_bytes w32 p.count) p.rest second third.taken in
    let with_len : Takes (drop 8 bytes) (to_be_bytes w32 (length p.text) ++ (p.text ++ to_be_bytes w32 p.count)) p.rest = subst (λ (n : ℕ). Takes (drop 8 bytes) (to_be_bytes w32 n ++ (p.text ++ to_be_bytes w32 p.count)) p.rest) (sym third.text_len) after_magic in
    let grouped : Takes (drop 8 bytes) (text_bytes p.text ++ to_be_bytes w32 p.count) p.rest = subst (λ (t : List ℕ). Takes (drop 8 bytes) t p.rest) (sym (append_assoc (to_be_bytes w32 (length p.text)) p.text (to_be_bytes w32 p.count))) with_len in
    record {
      taken = Takes-then bytes magic (drop 8 bytes) (text_bytes p.text ++ to_be_bytes w32 p.count) p.rest first grouped;
      text_fits = rw third.text_len below;
      enough = third.enough;
      in_limit = ltb-false _ _ short;
    }))))

-- ---- what is spelled so is read

after_again : (text y rest : List ℕ) (n : ℕ) → front w32 y ≡ n → drop 4 y ≡ rest → 4 ≤ length y → 16 * n ≤ length rest → after_length (length text) (text ++ y) ≡ Some (record { text = text; count = n; rest = rest })
after_again text y rest n is_count is_rest long enough =
    let room : ltb (length (text ++ y)) (length text + 4) ≡ false = le-ltb _ _ (omega (arith, length-append text y)) in
    let all : ltb (length rest) (16 * n) ≡ false = le-ltb _ _ enough in
    let made : (m : ℕ) (r : List ℕ) → m ≡ n → r ≡ rest → counted text m r ≡ Some (record { text = text; count = n; rest = rest }) = λ m r p q. rw (p, q, all) refl in
    rw (room, take_at text y (length text) refl, drop_at text y (length text) refl) (made (front w32 y) (drop 4 y) is_count is_rest)

whole_again : (m l y : List ℕ) (text rest : List ℕ) (n : ℕ) → length m ≡ 8 → front w32 (l ++ (text ++ y)) ≡ length text → drop 4 (l ++ (text ++ y)) ≡ text ++ y → length l ≡ 4 → front w32 y ≡ n → drop 4 y ≡ rest → 4 ≤ length y → 16 * n ≤ length rest
    → whole_parts (m ++ (l ++ (text ++ y))) ≡ Some (record { text = text; count = n; rest = rest })
whole_again m l y text rest n m_len is_len is_after l_len is_count is_rest long enough =
    let tail = l ++ (text ++ y) in
    let tail_len : length tail ≡ 4 + length (text ++ y) = length-append l (text ++ y) ∙ ap (λ (k : ℕ). k + length (text ++ y)) l_len in
    let room : ltb (length (m ++ tail)) 12 ≡ false = le-ltb _ _ (omega (arith, length-append m tail)) in
    let behind : drop 8 (m ++ tail) ≡ tail = drop_at m tail 8 m_len in
    let made : (b : List ℕ) → b ≡ tail → after_length (front w32 b) (drop 4 b) ≡ Some (record { text = text; count = n; rest = rest }) =
    λ b e. ap (λ (x : List ℕ). after_length (front w32 x) (drop 4 x)) e ∙ ap (λ (k : ℕ). after_length k (drop 4 tail)) is_len ∙ ap (after_length (length text)) is_after ∙ after_again text y rest n is_count is_rest long enough in
    rw room (made (drop 8 (m ++ tail)) behind)

parts_ok : (bytes : List ℕ) (p : Parts) → ltb 2097152 (length bytes) ≡ false → has_magic bytes ≡ true → whole_parts bytes ≡ Some p → parts_at bytes ≡ Ok p
parts_ok bytes p short begins found =
    let three : (a b : Bool) (o : Option Parts) → a ≡ false → b ≡ true → o ≡ Some p → cond a (Err (TooLong (length bytes))) (cond b (required (Truncated (length bytes)) o) (Err BadMagic)) ≡ Ok p = λ a b o x y z. rw (x, y, z) refl in
    three (ltb 2097152 (length bytes)) (has_magic bytes) (whole_parts bytes) short begins found

pub parts_again : (text rest : List ℕ) (n : ℕ) → length text < 2 ^ 32 → n < 2 ^ 32 → 16 * n ≤ length rest → length (magic ++ (text_bytes text ++ (to_be_bytes w32 n ++ rest))) ≤ 2097152
    → parts_at (magic ++ (text_bytes text ++ (to_be_bytes w32 n ++ rest))) ≡ Ok (record { text = text; count = n; rest = rest })
parts_again text rest n text_fits n_fits enough in_limit =
    let y = to_be_bytes w32 n ++ rest in
    let l = to_be_bytes w32 (length text) in
    let bytes = magic ++ (text_bytes text ++ y) in
    let short : ltb 2097152 (length bytes) ≡ false = le-ltb _ _ in_limit in
    let grouped : text_bytes text ++ y ≡ l ++ (text ++ y) = append_assoc l text y in
    let begins : has_magic bytes ≡ true = (starts_is Decides-eqb magic (take 8 bytes) (has_magic bytes) refl).1 [] (refl) in
    let y_len : 4 ≤ length y = omega (arith, length-append (to_be_bytes w32 n) rest) in
    let whole : whole_parts (magic ++ (l ++ (text ++ y))) ≡ Some (record { text = text; count = n; rest = rest }) =
    whole_again magic l y text rest n refl (front_again w32 (2 ^ 32) wide32 (length text) (text ++ y) text_fits) (rest_again w32 (2 ^ 32) wide32 (length text) (text ++ y)) refl
    (front_again w32 (2 ^ 32) wide32 n rest n_fits) (rest_again w32 (2 ^ 32) wide32 n rest) y_len enough in
    let found : whole_parts bytes ≡ Some (record { text = text; count = n; rest = rest }) = ap (λ (t : List ℕ). whole_parts (magic ++ t)) grouped ∙ whole in
    parts_ok bytes (record { text = text; count = n; rest = rest }) short begins found
