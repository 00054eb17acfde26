-- The bytes that are written for a PIE are a file of it.
use Rattle.std.proofs.Common.{◌≡◌, ℕ, zero, suc, ◌/◌, ◌^◌, ◌<◌, ◌≤◌, true, List, [], ◌∷◌, ◌++◌, length, map, sum, lit<, Option, Some, option_map, codes, decimal, refl, sym, ap, ◌∙◌, arith}
use Rattle.std.specs.Prelude.{nat_lt, option_and_then}
use Rattle.std.specs.Int.{w16, w32, w64, to_be_bytes, byte_at, bytes_high_first}
use Rattle.std.specs.List.{flat_map, list_all}
use Rattle.std.specs.Str.{IsAscii}
use Rattle.std.proofs.Math.Nat.{mod-lt}
use Rattle.std.proofs.lemmas.Bool.Decides.{nat_tests}
use Rattle.std.proofs.lemmas.Fmt.{IsAscii-decimal}
use Rattle.std.proofs.lemmas.List.{append-nil}
use Rattle.std.proofs.lemmas.Str.{IsAscii-append, IsUtf8-from_ascii}
use Rattle.json.specs.Json as json
use Rattle.json.specs.Lex.{tokens}
use Rattle.json.specs.Token.{Token}
use Rattle.json.specs.Tree as tree
use Rattle.json.proofs.Printed.Decimals.{IsNumber-decimal}
use Rattle.json.proofs.Printed.Tokens.{tokens-print}
use Rattle.json.proofs.Printed.Trees.{ArePrintable-json_tokens, value-json_tokens}
use Rattle.serde_json.specs.Data.{Data, item}
use Rattle.serde_json.specs.Read.{read, max_depth, of_json, of_items}
use Rattle.serde_json.specs.View.{items_of}
use Rattle.serde_json.specs.Written.{outline, items_outline}
use Rattle.serde_json.proofs.Numbers.{number_of-decimal}
use Rattle.serde_json.proofs.OnLiterals.{serde_json_on_literals}
use Rattle.serde_json.proofs.Texts.{print-outline}
use Rattle.cairo_model.proofs.CellCount.{sum_more}
use Rattle.cairo_model.proofs.Chains.{both_left, both_right}
use Rattle.cairo_model.specs.Pie.Files.{PieBytes, cell_bytes, cells_bytes, magic, payload_of, tag_of, text_bytes}
use Rattle.cairo_model.specs.Pie.Records.{KeepsRules, MemoryCell, PieRecord}
use Rattle.hex.specs.Hex.{IsBytes}
use Rattle.pie_format.proofs.WritingLaws.{is_file, is_metadata, text_short, text_written}
use Rattle.pie_format.specs.Working.MetadataData.{metadata_data, whole}
use Rattle.pie_format.specs.Writing.{file_of, metadata_text, more_sizes, sizes_text}

-- ---- the metadata is read back

items_back : (ns : List ℕ) → sum ns ≤ 65536 → of_items (items_outline (items_of (map whole ns))) ≡ Some (items_of (map whole ns))
items_back [] few = refl
items_back (n ∷ ns) few =
    let here = number_of-decimal n (omega (arith, few, sum_more n ns)) in
    rw here (ap (option_map (item (whole n))) (items_back ns (omega (arith, few, sum_more n ns))))

items_numbers : (ns : List ℕ) → sum ns ≤ 65536 → tree.ItemsHaveNumbers (items_outline (items_of (map whole ns)))
items_numbers [] few = tt
items_numbers (n ∷ ns) few = (IsNumber-decimal n (omega (arith, few, sum_more n ns)), items_numbers ns (omega (arith, few, sum_more n ns)))

items_flat : (ns : List ℕ) → tree.items_depth (items_outline (items_of (map whole ns))) ≡ 0
items_flat [] = refl
items_flat (n ∷ ns) = omega (arith, items_flat ns)

module _ (pie : PieRecord) (rules : KeepsRules pie) (small : pie.main < 2 ^ 64) where
  steps_fit : pie.steps < 2 ^ 64
  steps_fit = omega (arith, rules.few_steps)

  data_back : of_json (outline (metadata_data pie)) ≡ Some (metadata_data pie)
  unfolding serde_json_on_literals
  data_back = rw (number_of-decimal pie.main small, items_back pie.sizes rules.are_sizes.in_all, number_of-decimal pie.steps steps_fit, number_of-decimal 1 (omega arith)) refl

  has_numbers : tree.HasNumbers (outline (metadata_data pie))
  has_numbers = (IsNumber-decimal pie.main small, (items_numbers pie.sizes rules.are_sizes.in_all, (IsNumber-decimal pie.steps steps_fit, (IsNumber-decimal 1 (omega arith), tt))))

  abbrev written : json.Json
  written = outline (metadata_data pie)

  text_tokens : tokens (metadata_text pie) ≡ tree.json_tokens written ++ []
  text_tokens =
      ap tokens (sym (text_written pie) ∙ sym (print-outline (metadata_data pie))) ∙ tokens-print (tree.json_tokens written) (ArePrintable-json_tokens written has_numbers) ∙ sym (append-nil (tree.json_tokens written))

  -- what is made of the value that was read, and the tokens after it
  abbrev taken : Option (json.Json × List Token) → Option Data
  taken found = option_and_then of_json (option_and_then (λ p. json.if_last p.0 p.1) found)

  reads_back : read (metadata_text pie) ≡ Some (metadata_data pie)
  reads_back = ap taken (ap (json.value max_depth) text_tokens ∙ value-json_tokens written max_depth [] (omega (arith, items_flat pie.sizes))) ∙ data_back

-- ---- its text is ASCII

ascii_of : (bs : List ℕ) → list_all (λ b. nat_lt b 128) bs ≡ true → IsAscii bs
ascii_of [] all i = omega arith
ascii_of (b ∷ bs) all zero = let here = both_left (nat_lt b 128) _ all in grind (arith, nat_tests)
ascii_of (b ∷ bs) all (suc i) = ascii_of bs (both_right (nat_lt b 128) _ all) i

more_ascii : (ns : List ℕ) → sum ns ≤ 65536 → IsAscii (more_sizes ns)
more_ascii [] few = ascii_of (codes "]") refl
more_ascii (n ∷ ns) few =
    IsAscii-append (codes ",") (decimal n ++ more_sizes ns) (ascii_of (codes ",") refl)
    (IsAscii-append (decimal n) (more_sizes ns) (IsAscii-decimal n (omega (arith, few, sum_more n ns))) (more_ascii ns (omega (arith, few, sum_more n ns))))

sizes_ascii : (ns : List ℕ) → sum ns ≤ 65536 → IsAscii (sizes_text ns)
sizes_ascii [] few = ascii_of (codes "[]") refl
sizes_ascii (n ∷ ns) few =
    IsAscii-append (codes "[") (decimal n ++ more_sizes ns) (ascii_of (codes "[") refl)
    (IsAscii-append (decimal n) (more_sizes ns) (IsAscii-decimal n (omega (arith, few, sum_more n ns))) (more_ascii ns (omega (arith, few, sum_more n ns))))

module _ (pie : PieRecord) (rules : KeepsRules pie) (small : pie.main < 2 ^ 64) where
  text_ascii : IsAscii (metadata_text pie)
  text_ascii =
      IsAscii-append (codes "{\"main\":") _ (ascii_of (codes "{\"main\":") refl)
      (IsAscii-append (decimal pie.main) _ (IsAscii-decimal pie.main small)
      (IsAscii-append (codes ",\"sizes\":") _ (ascii_of (codes ",\"sizes\":") refl)
      (IsAscii-append (sizes_text pie.sizes) _ (sizes_ascii pie.sizes rules.are_sizes.in_all)
      (IsAscii-append (codes ",\"steps\":") _ (ascii_of (codes ",\"steps\":") refl)
      (IsAscii-append (decimal pie.steps) (codes ",\"version\":1}") (IsAscii-decimal pie.steps (steps_fit pie rules small)) (ascii_of (codes ",\"version\":1}") refl))))))

  -- what is written is a file of the PIE
  pub file_is_of : PieBytes (file_of pie) pie
  file_is_of =
      let text = metadata_text pie in
      is_file (file_of pie) text pie rules refl (text_short pie rules small) (is_metadata text pie (metadata_data pie) (IsUtf8-from_ascii text text_ascii) refl (reads_back pie rules small)) refl

-- ---- and bytes

bytes_append : (xs ys : List ℕ) → IsBytes xs → IsBytes ys → IsBytes (xs ++ ys)
bytes_append [] ys h k i = k i
bytes_append (x ∷ xs) ys h k zero = h 0
bytes_append (x ∷ xs) ys h k (suc i) = bytes_append xs ys (λ j. h (suc j)) k i

byte_below : (i n : ℕ) → byte_at i n < 256
byte_below zero n = mod-lt n (lit< tt)
byte_below (suc i) n = mod-lt (n / 256 ^ suc i) (lit< tt)

number_bytes : (count n : ℕ) → IsBytes (bytes_high_first count n)
number_bytes zero n i = omega arith
number_bytes (suc count) n zero = byte_below count n
number_bytes (suc count) n (suc i) = number_bytes count n i

bytes_of_cell : (c : MemoryCell) → IsBytes (cell_bytes c)
bytes_of_cell c =
    let value = to_be_bytes w64 (payload_of c.value) in
    let tag = to_be_bytes w16 (tag_of c.value) in
    let offset = to_be_bytes w32 c.offset in
    bytes_append (to_be_bytes w16 c.segment) (offset ++ (tag ++ value)) (number_bytes 2 c.segment)
    (bytes_append offset (tag ++ value) (number_bytes 4 c.offset) (bytes_append tag value (number_bytes 2 (tag_of c.value)) (number_bytes 8 (payload_of c.value))))

bytes_of_cells : (cells : List MemoryCell) → IsBytes (flat_map cell_bytes cells)
bytes_of_cells [] i = omega arith
bytes_of_cells (c ∷ cells) i = bytes_append (cell_bytes c) (flat_map cell_bytes cells) (bytes_of_cell c) (bytes_of_cells cells) i

magic_bytes : IsBytes magic
magic_bytes i = omega (arith, ascii_of magic refl i)

pub file_bytes : (pie : PieRecord) → KeepsRules pie → pie.main < 2 ^ 64 → IsBytes (file_of pie)
file_bytes pie rules small =
    let text = metadata_text pie in
    let cells = pie.cells in
    let text_is : IsBytes (text_bytes text) = bytes_append (to_be_bytes w32 (length text)) text (number_bytes 4 (length text)) (λ i. omega (arith, text_ascii pie rules small i)) in
    let cells_are : IsBytes (cells_bytes cells) = bytes_append (to_be_bytes w32 (length cells)) (flat_map cell_bytes cells) (number_bytes 4 (length cells)) (bytes_of_cells cells) in
    bytes_append magic (text_bytes text ++ cells_bytes cells) magic_bytes (bytes_append (text_bytes text) (cells_bytes cells) text_is cells_are)
