-- The code of a PIE stands in its first cells.
use Rattle.std.proofs.Common.{◌≡◌, ℕ, zero, suc, ◌<◌, ◌≤◌, List, [], ◌∷◌, length, get_or, slice_index, map, take, Some, inl, inr, sym, ap, ◌∙◌, arith}
use Rattle.std.specs.List.{AllByRecursion, Contains}
use Rattle.std.proofs.lemmas.Bool.{cases_lt}
use Rattle.std.proofs.lemmas.List.{ext_get_or, get_or_default, get_or-map, get_or-take, length-map, length-take-le, take-map}
use Rattle.goldi_field.specs.Numbers.{IsFelt}
use Rattle.cairo_model.specs.Machine.Values.{Datum, number, place}
use Rattle.cairo_model.specs.Pie.Facts.{number_or_zero}
use Rattle.cairo_model.specs.Pie.Files.{payload_of}
use Rattle.cairo_model.specs.Pie.Records.{KeepsRules, MemoryCell, PieRecord, place_number, place_numbers, segment_size}
use Rattle.cairo_model.specs.Segments.{program_segment}
use Rattle.cairo_model.specs.Views.Machine.{datum}
use Rattle.cairo_model.specs.Views.Pie.{memory_cell}
use Rattle.cairo_model.specs.declared.pie.PieCell.{PieCell}
use Rattle.cairo_model.specs.declared.value.Value.{Value}
use Rattle.cairo_model.specs.declared.value.Value.TheVariants as values
use Rattle.cairo_model.proofs.PieMemories.{key_of, memory_gives}
use Rattle.cairo_model.proofs.Searching.{key_is, keys_rise}
use Rattle.shared_prover_cli.specs.Answers.List.{IsCodeOf}

abbrev pub number_in : MemoryCell → ℕ
number_in cell = number_or_zero (Some cell.value)

number_fits : (value : Value) → IsFelt (number_or_zero (Some (datum value)))
number_fits (values.Number n) = n.below
number_fits (values.At p) = omega arith

pub numbers_fit : (cells : List PieCell) → AllByRecursion IsFelt (map number_in (map memory_cell cells))
numbers_fit [] = tt
numbers_fit (c ∷ cs) = (number_fits c.value, numbers_fit cs)

module _ (pie : PieRecord) (rules : KeepsRules pie) (words : List ℕ) (code : IsCodeOf pie words) where
  abbrev size : ℕ
  size = segment_size pie program_segment

  abbrev key_at : ℕ → ℕ
  key_at i = get_or (place_numbers pie.cells) i 0

  index_below : (i : ℕ) → i < length pie.cells → i ≤ key_at i
  index_below zero lt = omega arith
  index_below (suc i) lt = omega (arith, index_below i (omega (arith, lt)), keys_rise key_of pie.cells rules.rise i (suc i) (omega arith) lt)

  in_order : (i j : ℕ) → i < length pie.cells → j < length pie.cells → key_at i < key_at j → i < j
  in_order i j inside within up = elim (cases_lt i j) [
    | inl before ↦ before
    | inr past ↦ absurd (elim (cases_lt j i) [
      | inl after ↦ omega (arith, up, keys_rise key_of pie.cells rules.rise j i after inside)
      | inr not_after ↦ let same : i ≡ j = omega (arith, past, not_after) in omega (arith, up, ap key_at same)
    ])
  ]

  -- the cell of a word, wherever it stands
  record IsWordCell (k : ℕ) : Type 0 where
    cell : MemoryCell
    stands : Contains pie.cells cell
    has_key : key_at stands.0 ≡ k
    has_value : cell.value ≡ number (slice_index words k)

  word_cell : (k : ℕ) → k < size → IsWordCell k
  word_cell k lt =
      let found = memory_gives pie.cells (place program_segment k) (number (slice_index words k)) (code.each k lt) in
      let key : place_number found.cell.segment found.cell.offset ≡ place_number program_segment k = ap payload_of found.address in
      let is_key : key_of found.cell ≡ k = omega (arith, key) in
      record {
        cell = found.cell;
        stands = found.stands;
        has_key = key_is key_of pie.cells found.stands.0 found.cell found.stands.1 ∙ ap key_of found.stands.2 ∙ is_key;
        has_value = found.value;
      }

  at_least : (k : ℕ) (lt : k < size) → k ≤ (word_cell k lt).stands.0
  at_least zero lt = omega arith
  at_least (suc k) lt =
      let less : k < size = omega (arith, lt) in
      let before = word_cell k less in
      let here = word_cell (suc k) lt in
      let up : key_at before.stands.0 < key_at here.stands.0 = omega (arith, before.has_key, here.has_key) in
      omega (arith, at_least k less, in_order before.stands.0 here.stands.0 before.stands.1 here.stands.1 up)

  -- it stands at its own number
  in_place : (k : ℕ) (lt : k < size) → (word_cell k lt).stands.0 ≡ k
  in_place k lt =
      let here = word_cell k lt in
      omega (arith, at_least k lt, index_below here.stands.0 here.stands.1, here.has_key)

  fit : (n : ℕ) → n ≤ size → n ≤ length pie.cells
  fit zero le = omega arith
  fit (suc n) le =
      let lt : n < size = omega (arith, le) in
      omega (arith, in_place n lt, (word_cell n lt).stands.1)

  words_fit : size ≤ length pie.cells
  words_fit = fit size (omega arith)

  word_at : (k : ℕ) → k < size → get_or words k 0 ≡ get_or (map number_in (take size pie.cells)) k 0
  word_at k lt =
      let here = word_cell k lt in
      let inside : k < length (take size pie.cells) = omega (arith, lt, length-take-le size pie.cells words_fit) in
      sym (get_or-map number_in (take size pie.cells) k here.cell 0 inside
      ∙ ap number_in (get_or-take size pie.cells k here.cell lt)
      ∙ ap (λ (i : ℕ). number_in (get_or pie.cells i here.cell)) (sym (in_place k lt))
      ∙ ap number_in here.stands.2
      ∙ ap (λ (v : Datum). number_or_zero (Some v)) here.has_value)

  words_in_front : words ≡ map number_in (take size pie.cells)
  words_in_front =
      ext_get_or 0 words (map number_in (take size pie.cells)) (code.count ∙ sym (length-map (take size pie.cells) number_in ∙ length-take-le size pie.cells words_fit))
      (λ k lt. word_at k (omega (arith, lt, code.count)))

-- ---- what the code reads of a PIE

module _ (pie : PieRecord) (rules : KeepsRules pie) (sizes : List ℕ) (are_sizes : sizes ≡ pie.sizes) where
  -- the first of its sizes is that of the program segment
  pub first_size : (n : ℕ) → n ≡ get_or sizes 0 n → n ≡ segment_size pie program_segment
  first_size n is =
      let some : 0 < length sizes = omega (arith, ap length are_sizes, rules.are_sizes.at_least) in
      is ∙ get_or_default sizes 0 n 0 some ∙ ap (λ (ns : List ℕ). slice_index ns 0) are_sizes

module _ (pie : PieRecord) (rules : KeepsRules pie) (words : List ℕ) (code : IsCodeOf pie words) (cells : List PieCell) (are_cells : map memory_cell cells ≡ pie.cells) (n : ℕ) (is_size : n ≡ segment_size pie program_segment) where
  -- it has so many cells
  pub taken : length (take n cells) ≡ n
  taken = length-take-le n cells (omega (arith, is_size, words_fit pie rules words code, ap length are_cells, length-map cells memory_cell))

  -- and their numbers are the code
  pub numbers_are : map number_in (map memory_cell (take n cells)) ≡ words
  numbers_are =
      ap (map number_in) (sym (take-map memory_cell n cells))
      ∙ ap (λ (cs : List MemoryCell). map number_in (take n cs)) are_cells
      ∙ ap (λ (k : ℕ). map number_in (take k pie.cells)) is_size
      ∙ sym (words_in_front pie rules words code)
