-- The causes in the parts of a file, and where the parts stand that are read.
use Rattle.std.proofs.Common.{◌≡◌, ℕ, ◌+◌, ◌-◌, ◌*◌, ◌≤◌, true, cond, ltb, List, length, take, drop, Some, None, Ok, Err, refl, sym, ap, subst, ◌∙◌, arith, inl, inr, length-drop}
use Rattle.std.specs.Int.{w32}
use Rattle.std.proofs.lemmas.Bool.{ltb-true, ltb-false}
use Rattle.std.proofs.lemmas.List.{drop-drop}
use Rattle.cairo_model.specs.Machine.Steps.{required}
use Rattle.cairo_model.specs.Pie.Files.{magic}
use Rattle.cairo_model.specs.Refusals.ReadRefusals.{text_length, text_of, cell_count, cell_start, IsCut, IsFirstReadCause}
use Rattle.cairo_model.specs.declared.read_refusal.ReadRefusal.{ReadRefusal}
use Rattle.cairo_model.specs.declared.read_refusal.ReadRefusal.TheVariants.{TooLong, BadMagic, Truncated}
use Rattle.cairo_model.proofs.Outcomes.{required_is, some_is, tested, err_is, ok_no_err, required_refused}
use Rattle.cairo_model.proofs.Magics.{another_byte, same_bytes}
use Rattle.pie_format.specs.Working.Reading.{Parts, front, has_magic, counted, after_length, whole_parts, parts_at}
use Rattle.pie_format.proofs.Causes.{Clear, clear_start, clear_next, same_first}

-- ---- the parts

-- the bytes after the length, after the text, and after the count
after_text : (bytes : List ℕ) (len : ℕ) → drop len (drop 4 (drop 8 bytes)) ≡ drop (12 + len) bytes
after_text bytes len = ap (drop len) (drop-drop 4 8 bytes) ∙ drop-drop len 12 bytes

after_count : (bytes : List ℕ) (len : ℕ) → drop 4 (drop len (drop 4 (drop 8 bytes))) ≡ drop (16 + len + 16 * 0) bytes
after_count bytes len =
    let e : 12 + len + 4 ≡ 16 + len + 16 * 0 = omega arith in
    ap (drop 4) (after_text bytes len) ∙ drop-drop 4 (12 + len) bytes ∙ ap (λ (n : ℕ). drop n bytes) e

count_is : (bytes : List ℕ) → front w32 (drop (text_length bytes) (drop 4 (drop 8 bytes))) ≡ cell_count bytes
count_is bytes = ap (front w32) (after_text bytes (text_length bytes))

rest_len : (bytes : List ℕ) → 16 + text_length bytes ≤ length bytes → length (drop 4 (drop (text_length bytes) (drop 4 (drop 8 bytes)))) + (16 + text_length bytes) ≡ length bytes
rest_len bytes long = omega (arith, ap (λ (x : List ℕ). length x) (after_count bytes (text_length bytes)), length-drop (16 + text_length bytes + 16 * 0) bytes)

text_room : (bytes : List ℕ) → length (drop 4 (drop 8 bytes)) ≡ length bytes - 12
text_room bytes = ap (λ (x : List ℕ). length x) (drop-drop 4 8 bytes) ∙ length-drop 12 bytes

is_cut : (bytes : List ℕ) → whole_parts bytes ≡ None → IsCut bytes
is_cut bytes e =
    let len = text_length bytes in
    let text = take len (drop 4 (drop 8 bytes)) in
    let n = front w32 (drop len (drop 4 (drop 8 bytes))) in
    let rest = drop 4 (drop len (drop 4 (drop 8 bytes))) in
    tested (ltb (length bytes) 12) None (after_length len (drop 4 (drop 8 bytes))) None e
    (λ short _. inl (ltb-true (length bytes) 12 short))
    (λ first e1. tested (ltb (length (drop 4 (drop 8 bytes))) (len + 4)) None (counted text n rest) None e1
    (λ short _. inr (inl (omega (arith, ltb-true (length (drop 4 (drop 8 bytes))) (len + 4) short, text_room bytes, ltb-false (length bytes) 12 first))))
    (λ second e2. tested (ltb (length rest) (16 * n)) None (Some (record { text = text; count = n; rest = rest })) None e2
    (λ short _.
    let long : 16 + len ≤ length bytes = omega (arith, ltb-false (length (drop 4 (drop 8 bytes))) (len + 4) second, text_room bytes, ltb-false (length bytes) 12 first) in
    inr (inr (omega (arith, ltb-true (length rest) (16 * n) short, count_is bytes, rest_len bytes long))))
    (λ _ none. absurd (cc))))

-- where the parts stand that were read, of which none is cut
pub record Stand (bytes : List ℕ) (p : Parts) : Type 0 where
  pub text_is : p.text ≡ text_of bytes
  pub count_is : p.count ≡ cell_count bytes
  pub rest_is : p.rest ≡ drop (cell_start bytes 0) bytes
  pub whole : cell_start bytes (cell_count bytes) ≤ length bytes

stand : (bytes : List ℕ) (p : Parts) → whole_parts bytes ≡ Some p → Stand bytes p
stand bytes p e =
    let len = text_length bytes in
    let text = take len (drop 4 (drop 8 bytes)) in
    let n = front w32 (drop len (drop 4 (drop 8 bytes))) in
    let rest = drop 4 (drop len (drop 4 (drop 8 bytes))) in
    tested (ltb (length bytes) 12) None (after_length len (drop 4 (drop 8 bytes))) (Some p) e
    (λ _ none. absurd (cc))
    (λ first e1. tested (ltb (length (drop 4 (drop 8 bytes))) (len + 4)) None (counted text n rest) (Some p) e1
    (λ _ none. absurd (cc))
    (λ second e2. tested (ltb (length rest) (16 * n)) None (Some (record { text = text; count = n; rest = rest })) (Some p) e2
    (λ _ none. absurd (cc))
    (λ third is.
    let long : 16 + len ≤ length bytes = omega (arith, ltb-false (length (drop 4 (drop 8 bytes))) (len + 4) second, text_room bytes, ltb-false (length bytes) 12 first) in
    let made : Parts = record { text = text; count = n; rest = rest } in
    let stands : Stand bytes made = record {
      text_is = ap (take len) (drop-drop 4 8 bytes);
      count_is = count_is bytes;
      rest_is = after_count bytes len;
      whole = omega (arith, ltb-false (length rest) (16 * n) third, count_is bytes, rest_len bytes long);
    } in
    subst (λ (q : Parts). Stand bytes q) (some_is made p is) stands)))

not_cut : (bytes : List ℕ) → cell_start bytes (cell_count bytes) ≤ length bytes → ¬ IsCut bytes
not_cut bytes whole (inl short) = absurd (omega arith)
not_cut bytes whole (inr (inl short)) = absurd (omega arith)
not_cut bytes whole (inr (inr short)) = absurd (omega arith)

-- ---- their causes

clear_2 : (bytes : List ℕ) → length bytes ≤ 2097152 → Clear bytes 2
clear_2 bytes le = clear_next bytes 1 (clear_start bytes) (λ v cause. absurd (omega (arith, cause.1)))

clear_3 : (bytes : List ℕ) → length bytes ≤ 2097152 → has_magic bytes ≡ true → Clear bytes 3
clear_3 bytes le begins = clear_next bytes 2 (clear_2 bytes le) (λ v cause. cause.1.1.1 (same_bytes magic refl bytes begins cause.0 cause.1.0 cause.1.1.0))

pub record Placed (bytes : List ℕ) (p : Parts) : Type 0 where
  pub stands : Stand bytes p
  pub clear : Clear bytes 4

pub parts_placed : (bytes : List ℕ) (p : Parts) → parts_at bytes ≡ Ok p → Placed bytes p
parts_placed bytes p e =
    tested (ltb 2097152 (length bytes)) (Err (TooLong (length bytes))) (cond (has_magic bytes) (required (Truncated (length bytes)) (whole_parts bytes)) (Err BadMagic)) (Ok p) e
    (λ _ h. ok_no_err p (TooLong (length bytes)) (sym h))
    (λ short e1. tested (has_magic bytes) (required (Truncated (length bytes)) (whole_parts bytes)) (Err BadMagic) (Ok p) e1
    (λ begins e2. required_is (Truncated (length bytes)) (whole_parts bytes) p e2 (λ found.
    let stands : Stand bytes p = stand bytes p found in
    let clear : Clear bytes 3 = clear_3 bytes (ltb-false 2097152 (length bytes) short) begins in
    record { stands = stands; clear = clear_next bytes 3 clear (λ v cause. not_cut bytes stands.whole cause.1) }))
    (λ _ h. ok_no_err p BadMagic (sym h)))

pub parts_refused : (bytes : List ℕ) (r : ReadRefusal) → parts_at bytes ≡ Err r → IsFirstReadCause bytes r
parts_refused bytes r e =
    tested (ltb 2097152 (length bytes)) (Err (TooLong (length bytes))) (cond (has_magic bytes) (required (Truncated (length bytes)) (whole_parts bytes)) (Err BadMagic)) (Err r) e
    (λ long h. same_first bytes (TooLong (length bytes)) r (record { applies = (refl, ltb-true 2097152 (length bytes) long); none_before = clear_start bytes }) (err_is (TooLong (length bytes)) r h))
    (λ short e1. tested (has_magic bytes) (required (Truncated (length bytes)) (whole_parts bytes)) (Err BadMagic) (Err r) e1
    (λ begins e2. required_refused (Truncated (length bytes)) (whole_parts bytes) r e2 (λ none same.
    same_first bytes (Truncated (length bytes)) r (record { applies = (refl, is_cut bytes none); none_before = clear_3 bytes (ltb-false 2097152 (length bytes) short) begins }) same))
    (λ other h. same_first bytes BadMagic r (record { applies = another_byte magic refl bytes other; none_before = clear_2 bytes (ltb-false 2097152 (length bytes) short) }) (err_is BadMagic r h)))
