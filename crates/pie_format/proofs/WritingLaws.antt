-- What is written: the text of the metadata and what it says, and how long a file is.
use Rattle.std.proofs.Common.{◌≡◌, ℕ, ◌+◌, ◌*◌, ◌^◌, ◌<◌, ◌≤◌, true, false, List, [], ◌∷◌, ◌++◌, length, map, sum, Some, option_map, codes, decimal, refl, sym, ap, subst, ◌∙◌, arith, length-append}
use Rattle.std.specs.Prelude.{IsUtf8, option_and_then}
use Rattle.std.specs.List.{flat_map}
use Rattle.std.proofs.lemmas.Bool.{or_from}
use Rattle.std.proofs.lemmas.Fmt.{decimal_digit, length-decimal-le}
use Rattle.serde_json.specs.Data.{Data, depth, items_depth}
use Rattle.serde_json.specs.Read.{read}
use Rattle.serde_json.specs.View.{items_of}
use Rattle.serde_json.specs.Written.{has_float, items_have_float, compact_text, items_text}
use Rattle.serde_json.proofs.OnLiterals.{serde_json_on_literals}
use Rattle.cairo_model.specs.Pie.Records.{MemoryCell, PieRecord, KeepsRules}
use Rattle.cairo_model.specs.Pie.Files.{magic, Metadata, IsMetadata, metadata_of, wholes_in, cell_bytes, text_bytes, cells_bytes, first_version, PieBytes}
use Rattle.pie_format.specs.Writing.{more_sizes, sizes_text, metadata_text, file_of}
use Rattle.pie_format.specs.Working.MetadataData.{whole, sizes_data, metadata_data}
use Rattle.pie_format.proofs.ReadingCells.{cells_len}
use Rattle.cairo_model.proofs.CellCount.{sum_more, few_cells}

-- ---- the metadata as JSON

sizes_no_float : (ns : List ℕ) → items_have_float (items_of (map whole ns)) ≡ false
sizes_no_float [] = refl
sizes_no_float (n ∷ ns) = sizes_no_float ns

pub no_float : (pie : PieRecord) → has_float (metadata_data pie) ≡ false
no_float pie = or_from (items_have_float (items_of (map whole pie.sizes))) false (sizes_no_float pie.sizes) refl

sizes_flat : (ns : List ℕ) → items_depth (items_of (map whole ns)) ≡ 0
sizes_flat [] = refl
sizes_flat (n ∷ ns) = omega (arith, sizes_flat ns)

pub is_shallow : (pie : PieRecord) → depth (metadata_data pie) ≤ 127
is_shallow pie = omega (arith, sizes_flat pie.sizes)

wholes_again : (ns : List ℕ) → wholes_in (items_of (map whole ns)) ≡ Some ns
wholes_again [] = refl
wholes_again (n ∷ ns) = ap (option_map (λ ms. n ∷ ms)) (wholes_again ns)

says : (pie : PieRecord) → metadata_of (metadata_data pie) ≡ Some (first_version pie)
says pie =
    let made : List ℕ → Metadata = λ sizes. record { version = 1; main = pie.main; steps = pie.steps; sizes = sizes } in
    ap (option_map made) (wholes_again pie.sizes)

pub is_metadata : (text : List ℕ) (pie : PieRecord) (d : Data) → IsUtf8 text → d ≡ metadata_data pie → read text ≡ Some d → IsMetadata text (first_version pie)
is_metadata text pie d is_text same is_read = record { is_text = is_text; says = ap (option_and_then metadata_of) (is_read ∙ ap (λ (x : Data). Some x) same) ∙ says pie }

-- ---- its text

more_written : (ns : List ℕ) → items_text true (items_of (map whole ns)) ≡ more_sizes ns
more_written [] = refl
more_written (n ∷ ns) = ap (λ (t : List ℕ). codes "," ++ (decimal n ++ t)) (more_written ns)

sizes_written : (ns : List ℕ) → compact_text (sizes_data ns) ≡ sizes_text ns
sizes_written [] = refl
sizes_written (n ∷ ns) = ap (λ (t : List ℕ). codes "[" ++ (decimal n ++ t)) (more_written ns)

-- the text, with that of the sizes and that of the version
abbrev text_with : PieRecord → List ℕ → List ℕ → List ℕ
text_with pie sizes version = codes "{\"main\":" ++ (decimal pie.main ++ (codes ",\"sizes\":" ++ (sizes ++ (codes ",\"steps\":" ++ (decimal pie.steps ++ (codes ",\"version\":" ++ (version ++ codes "}")))))))

pub text_written : (pie : PieRecord) → compact_text (metadata_data pie) ≡ metadata_text pie
unfolding serde_json_on_literals
text_written pie = ap (λ (t : List ℕ). text_with pie t (decimal 1)) (sizes_written pie.sizes) ∙ ap (text_with pie (sizes_text pie.sizes)) (decimal_digit 1 (omega arith))

-- ---- lengths

short_number : (n : ℕ) → n ≤ 65536 → length (decimal n) ≤ 5
short_number n le = length-decimal-le 5 n (omega arith) (omega arith) (omega arith)

more_len : (ns : List ℕ) → sum ns ≤ 65536 → length (more_sizes ns) ≤ 6 * length ns + 1
more_len [] le = omega arith
more_len (n ∷ ns) le = omega (arith, length-append (decimal n) (more_sizes ns), short_number n (omega (arith, sum_more n ns)), more_len ns (omega (arith, sum_more n ns)))

sizes_len : (ns : List ℕ) → sum ns ≤ 65536 → length (sizes_text ns) ≤ 6 * length ns + 2
sizes_len [] le = omega arith
sizes_len (n ∷ ns) le = omega (arith, length-append (decimal n) (more_sizes ns), short_number n (omega (arith, sum_more n ns)), more_len ns (omega (arith, sum_more n ns)))

pub text_short : (pie : PieRecord) → KeepsRules pie → pie.main < 2 ^ 64 → length (metadata_text pie) ≤ 600
text_short pie rules lt =
    let main : length (decimal pie.main) ≤ 20 = length-decimal-le 20 pie.main (omega arith) (omega arith) lt in
    let steps : length (decimal pie.steps) ≤ 5 = short_number pie.steps rules.few_steps in
    let sizes : length (sizes_text pie.sizes) ≤ 386 = omega (arith, sizes_len pie.sizes rules.are_sizes.in_all, rules.are_sizes.at_most) in
    let d = decimal pie.steps ++ codes ",\"version\":1}" in
    let c = codes ",\"steps\":" ++ d in
    let b = sizes_text pie.sizes ++ c in
    let a = codes ",\"sizes\":" ++ b in
    omega (arith, main, steps, sizes, length-append (decimal pie.main) a, length-append (sizes_text pie.sizes) c, length-append (decimal pie.steps) (codes ",\"version\":1}"))

-- ---- the file

file_len : (text : List ℕ) (cells : List MemoryCell) → length text ≤ 600 → length cells ≤ 65536 → length (magic ++ (text_bytes text ++ cells_bytes cells)) ≤ 2097152
file_len text cells short few =
    let f = flat_map cell_bytes cells in
    omega (arith, length-append text (cells_bytes cells), cells_len cells)

pub is_file : (bytes text : List ℕ) (pie : PieRecord) → KeepsRules pie → text ≡ metadata_text pie → length text ≤ 600 → IsMetadata text (first_version pie) → bytes ≡ file_of pie → PieBytes bytes pie
is_file bytes text pie rules same short metadata layout =
    let spelled : bytes ≡ magic ++ (text_bytes text ++ cells_bytes pie.cells) = layout ∙ ap (λ (t : List ℕ). magic ++ (text_bytes t ++ cells_bytes pie.cells)) (sym same) in
    record {
      text = text;
      is_metadata = metadata;
      text_fits = omega arith;
      spelled = spelled;
      in_limit = subst (λ (b : List ℕ). length b ≤ 2097152) (sym spelled) (file_len text pie.cells short (few_cells pie rules));
      keeps_rules = rules;
    }
