-- The cells of a segment in pages: what a look-up, a write and more pages make of their list.
use Rattle.std.proofs.Common.{inl, inr, ◌≡◌, ℕ, zero, suc, ◌+◌, ◌-◌, ◌*◌, ◌/◌, ◌%◌, ◌<◌, ◌≤◌, List, [], ◌∷◌, ◌++◌, length, map, set, get_or, replicate, Option, Some, None, option_map, refl, sym, ap, ap₂, subst, ◌∙◌, arith}
use Rattle.std.proofs.lemmas.Bool.{cases_eq, cases_lt}
use Rattle.std.proofs.lemmas.List.{length_push, length-append, length-set, length-replicate, get_or_push, get_or_append_left, get_or-append_right, get_or_past, get_or-replicate, get_or-set_same, get_or-set_other, same_lists, length-map, map-append, get_or-map, map-set}
use Rattle.cairo_model.specs.Machine.Values.{Datum}
use Rattle.seg_memory.specs.Working.Pages.{page_cells, page_cell, listed, IsPaged}

abbrev pub Cell : Type 0
Cell = Option Datum

pub length_listed : (f : ℕ → Cell) (n : ℕ) → length (listed f n) ≡ n
length_listed f zero = refl
length_listed f (suc n) = omega (arith, length_push (listed f n) (f n), length_listed f n)

pub at_listed : (f : ℕ → Cell) (n o : ℕ) (d : Cell) → o < n → get_or (listed f n) o d ≡ f o
at_listed f zero o d lt = absurd (omega (arith, lt))
at_listed f (suc n) o d lt = elim (cases_eq o n) [
  | inl same ↦ get_or_push (listed f n) (f n) d o (length_listed f n ∙ sym same) ∙ ap f (sym same)
  | inr other ↦ get_or_append_left (listed f n) (f n ∷ []) d o (omega (arith, lt, other, length_listed f n)) ∙ at_listed f n o d (omega (arith, lt, other))
]

-- outside nothing stands in a list of cells
pub past_listed : (f : ℕ → Cell) (n o : ℕ) → n ≤ o → get_or (listed f n) o None ≡ None
past_listed f n o le = get_or_past (listed f n) o None (omega (arith, le, length_listed f n))

pub same_listed : (f g : ℕ → Cell) (n : ℕ) → ((o : ℕ) → o < n → f o ≡ g o) → listed f n ≡ listed g n
same_listed f g zero same = refl
same_listed f g (suc n) same = ap₂ (λ xs x. xs ++ x ∷ []) (same_listed f g n (λ o lt. same o (omega (arith, lt)))) (same n (omega arith))

-- a value is put into one of them
pub put_listed : (f g : ℕ → Cell) (n o : ℕ) (v : Cell) → o < n → g o ≡ v → ((q : ℕ) → (q ≡ o → ⊥) → g q ≡ f q) → listed g n ≡ set (listed f n) o v
put_listed f g n o v lt here else =
    same_lists (listed g n) (set (listed f n) o v) (omega (arith, length_listed g n, length_listed f n, length-set (listed f n) o v)) (λ k d less.
    let inside : k < n = omega (arith, less, length_listed g n) in
    elim (cases_eq k o) [
      | inl same ↦ at_listed g n k d inside ∙ ap g same ∙ here ∙ sym (ap (λ i. get_or (set (listed f n) o v) i d) same ∙ get_or-set_same (listed f n) o v d (omega (arith, lt, length_listed f n)))
      | inr other ↦ at_listed g n k d inside ∙ else k other ∙ sym (get_or-set_other (listed f n) o k v d other ∙ at_listed f n k d inside)
    ])

-- more of them, in which no value stands
pub more_listed : (f g : ℕ → Cell) (n m : ℕ) → n ≤ m → ((o : ℕ) → o < n → g o ≡ f o) → ((o : ℕ) → n ≤ o → g o ≡ None) → listed g m ≡ listed f n ++ replicate (m - n) None
more_listed f g n m le same free =
    let long : length (listed f n ++ replicate (m - n) None) ≡ n + (m - n) = length-append (listed f n) (replicate (m - n) None) ∙ ap₂ (λ a b. a + b) (length_listed f n) (length-replicate (m - n) None) in
    same_lists (listed g m) (listed f n ++ replicate (m - n) None) (omega (arith, length_listed g m, long)) (λ k d less.
    let inside : k < m = omega (arith, less, length_listed g m) in
    elim (cases_lt k n) [
      | inl lt ↦ at_listed g m k d inside ∙ same k lt ∙ sym (get_or_append_left (listed f n) (replicate (m - n) None) d k (omega (arith, lt, length_listed f n)) ∙ at_listed f n k d lt)
      | inr past ↦ at_listed g m k d inside ∙ free k past ∙ sym (get_or-append_right (listed f n) (replicate (m - n) None) n k d (length_listed f n) past ∙ get_or-replicate (m - n) (k - n) None d (omega (arith, inside, past)))
    ])

-- ---- pages

pub none_at : (n i : ℕ) → get_or (replicate {A = Cell} n None) i None ≡ None
none_at zero i = refl
none_at (suc n) zero = refl
none_at (suc n) (suc i) = none_at n i

-- one more page with no value
module _ (pages : List (List Cell)) (page : List Cell) (empty : page ≡ replicate {A = Cell} page_cells None) where
  pub page_more : (o : ℕ) → page_cell (pages ++ page ∷ []) o ≡ page_cell pages o
  page_more o = elim (cases_lt (o / page_cells) (length pages)) [
    | inl lt ↦ ap (λ (p : List Cell). get_or p (o % page_cells) None) (get_or_append_left pages (page ∷ []) [] (o / page_cells) lt)
    | inr past ↦ elim (cases_eq (o / page_cells) (length pages)) [
      | inl last ↦
          ap (λ (p : List Cell). get_or p (o % page_cells) None) (get_or_push pages page [] (o / page_cells) (sym last) ∙ empty)
          ∙ none_at page_cells (o % page_cells)
          ∙ sym (ap (λ (p : List Cell). get_or p (o % page_cells) None) (get_or_past pages (o / page_cells) [] past))
      | inr beyond ↦ ap (λ (p : List Cell). get_or p (o % page_cells) None)
          (get_or_past (pages ++ page ∷ []) (o / page_cells) [] (omega (arith, past, beyond, length_push pages page)) ∙ sym (get_or_past pages (o / page_cells) [] past))
    ]
  ]

  full_more : ((k : ℕ) → k < length pages → length (get_or pages k []) ≡ page_cells) → (k : ℕ) → k < length (pages ++ page ∷ []) → length (get_or (pages ++ page ∷ []) k []) ≡ page_cells
  full_more full k lt = elim (cases_lt k (length pages)) [
    | inl less ↦ ap length (get_or_append_left pages (page ∷ []) [] k less) ∙ full k less
    | inr past ↦ ap length (get_or_push pages page [] k (omega (arith, lt, past, length_push pages page)) ∙ empty) ∙ length-replicate {A = Cell} page_cells None
  ]

  pub paged_more : (size : ℕ) → IsPaged pages size → IsPaged (pages ++ page ∷ []) size
  paged_more size paged = record {
    full = full_more paged.full;
    room = omega (arith, paged.room, length_push pages page);
    free = λ o le. page_more o ∙ paged.free o le;
  }

  pub listed_more : (size : ℕ) → listed (page_cell (pages ++ page ∷ [])) size ≡ listed (page_cell pages) size
  listed_more size = same_listed (page_cell (pages ++ page ∷ [])) (page_cell pages) size (λ o lt. page_more o)

-- a cell inside stands in a page that is there
module _ (pages : List (List Cell)) (size : ℕ) (paged : IsPaged pages size) (o : ℕ) (inside : o < size) where
  pub page_there : o / page_cells < length pages
  page_there = omega (arith, inside, paged.room)

  pub cell_there : o % page_cells < length (get_or pages (o / page_cells) [])
  cell_there = omega (arith, paged.full (o / page_cells) page_there)

  -- and takes a value
  module _ (v : Cell) where
    abbrev pub with_value : List (List Cell)
    with_value = set pages (o / page_cells) (set (get_or pages (o / page_cells) []) (o % page_cells) v)

    value_here : page_cell with_value o ≡ v
    value_here =
        ap (λ (p : List Cell). get_or p (o % page_cells) None) (get_or-set_same pages (o / page_cells) (set (get_or pages (o / page_cells) []) (o % page_cells) v) [] page_there)
        ∙ get_or-set_same (get_or pages (o / page_cells) []) (o % page_cells) v None cell_there

    value_else : (q : ℕ) → (q ≡ o → ⊥) → page_cell with_value q ≡ page_cell pages q
    value_else q other = elim (cases_eq (q / page_cells) (o / page_cells)) [
      | inl same ↦
          let apart : q % page_cells ≡ o % page_cells → ⊥ = λ equal. other (omega (arith, same, equal)) in
          ap (λ (k : ℕ). get_or (get_or with_value k []) (q % page_cells) None) same
          ∙ ap (λ (p : List Cell). get_or p (q % page_cells) None) (get_or-set_same pages (o / page_cells) (set (get_or pages (o / page_cells) []) (o % page_cells) v) [] page_there)
          ∙ get_or-set_other (get_or pages (o / page_cells) []) (o % page_cells) (q % page_cells) v None apart
          ∙ sym (ap (λ (k : ℕ). get_or (get_or pages k []) (q % page_cells) None) same)
      | inr apart ↦ ap (λ (p : List Cell). get_or p (q % page_cells) None) (get_or-set_other pages (o / page_cells) (q / page_cells) (set (get_or pages (o / page_cells) []) (o % page_cells) v) [] apart)
    ]

    pub listed_put : listed (page_cell with_value) size ≡ set (listed (page_cell pages) size) o v
    listed_put = put_listed (page_cell pages) (page_cell with_value) size o v inside value_here value_else

    full_put : (k : ℕ) → k < length with_value → length (get_or with_value k []) ≡ page_cells
    full_put k lt =
        let there : k < length pages = omega (arith, lt, length-set pages (o / page_cells) (set (get_or pages (o / page_cells) []) (o % page_cells) v)) in
        elim (cases_eq k (o / page_cells)) [
          | inl same ↦
              ap length (ap (λ (i : ℕ). get_or with_value i []) same ∙ get_or-set_same pages (o / page_cells) (set (get_or pages (o / page_cells) []) (o % page_cells) v) [] page_there)
              ∙ length-set (get_or pages (o / page_cells) []) (o % page_cells) v ∙ paged.full (o / page_cells) page_there
          | inr other ↦ ap length (get_or-set_other pages (o / page_cells) k (set (get_or pages (o / page_cells) []) (o % page_cells) v) [] other) ∙ paged.full k there
        ]

    pub paged_put : IsPaged with_value size
    paged_put = record {
      full = full_put;
      room = omega (arith, paged.room, length-set pages (o / page_cells) (set (get_or pages (o / page_cells) []) (o % page_cells) v));
      free = λ q le. value_else q (λ same. omega (arith, le, same, inside)) ∙ paged.free q le;
    }

-- ---- pages as they are kept

module _ {Page A : Type 0} (items : Page → List (Option A)) (f : A → Datum) where
  abbrev pub page_data : Page → List Cell
  page_data page = map (λ (cell : Option A). option_map f cell) (items page)

  abbrev pub data_of : List Page → List (List Cell)
  data_of pages = map page_data pages

  module _ (pages : List Page) (size : ℕ) (paged : IsPaged (data_of pages) size) (o : ℕ) (inside : o < size) (k r : ℕ) (is_page : k ≡ o / page_cells) (is_index : r ≡ o % page_cells) where
    pub page_inside : k < length pages
    page_inside = omega (arith, is_page, page_there (data_of pages) size paged o inside, length-map pages page_data)

    module _ (page : Page) (at : page ≡ get_or pages k page) where
      page_is : page_data page ≡ get_or (data_of pages) (o / page_cells) []
      page_is = ap page_data at ∙ (sym (get_or-map page_data pages k page [] page_inside) ∙ ap (λ (i : ℕ). get_or (data_of pages) i []) is_page)

      pub cell_inside : r < length (items page)
      cell_inside = omega (arith, is_index, cell_there (data_of pages) size paged o inside, ap length page_is, length-map (items page) (λ (cell : Option A). option_map f cell))

      pub cell_is : (cell : Option A) → cell ≡ get_or (items page) r cell → option_map f cell ≡ page_cell (data_of pages) o
      cell_is cell here =
          ap (option_map f) here ∙ (sym (get_or-map (λ (x : Option A). option_map f x) (items page) r cell None cell_inside)
          ∙ ap₂ (λ (p : List Cell) (i : ℕ). get_or p i None) page_is is_index)

      -- a value is put into a page
      data_put : (new : Page) (v : A) → items new ≡ set (items page) r (Some v) → data_of (set pages k new) ≡ with_value (data_of pages) size paged o inside (Some (f v))
      data_put new v is =
          let moved : page_data new ≡ set (get_or (data_of pages) (o / page_cells) []) (o % page_cells) (Some (f v)) =
          ap (map (λ (cell : Option A). option_map f cell)) is ∙ (map-set (λ (cell : Option A). option_map f cell) (items page) r (Some v) ∙ ap₂ (λ (p : List Cell) (i : ℕ). set p i (Some (f v))) page_is is_index) in
          map-set page_data pages k new ∙ ap₂ (λ (i : ℕ) (x : List Cell). set (data_of pages) i x) is_page moved

      pub paged_with : (new : Page) (v : A) → items new ≡ set (items page) r (Some v) → IsPaged (data_of (set pages k new)) size
      paged_with new v is = subst (λ (ps : List (List Cell)). IsPaged ps size) (sym (data_put new v is)) (paged_put (data_of pages) size paged o inside (Some (f v)))

      pub listed_with : (new : Page) (v : A) (cells : List Cell) → items new ≡ set (items page) r (Some v) → listed (page_cell (data_of pages)) size ≡ cells → listed (page_cell (data_of (set pages k new))) size ≡ set cells o (Some (f v))
      listed_with new v cells is seen =
          ap (λ (ps : List (List Cell)). listed (page_cell ps) size) (data_put new v is) ∙ (listed_put (data_of pages) size paged o inside (Some (f v)) ∙ ap (λ (cs : List Cell). set cs o (Some (f v))) seen)

  -- one more page is added
  nones : (n : ℕ) → map (λ (cell : Option A). option_map f cell) (replicate n None) ≡ replicate n None
  nones zero = refl
  nones (suc n) = ap (λ (cells : List Cell). None ∷ cells) (nones n)

  module _ (pages new : List Page) (page : Page) (empty : items page ≡ replicate page_cells None) (is : new ≡ pages ++ page ∷ []) (size : ℕ) where
    data_more : data_of new ≡ data_of pages ++ page_data page ∷ []
    data_more = ap data_of is ∙ map-append page_data pages (page ∷ [])

    page_empty : page_data page ≡ replicate page_cells None
    page_empty = ap (map (λ (cell : Option A). option_map f cell)) empty ∙ nones page_cells

    pub paged_longer : IsPaged (data_of pages) size → IsPaged (data_of new) size
    paged_longer paged = subst (λ (ps : List (List Cell)). IsPaged ps size) (sym data_more) (paged_more (data_of pages) (page_data page) page_empty size paged)

    pub listed_longer : listed (page_cell (data_of new)) size ≡ listed (page_cell (data_of pages)) size
    listed_longer = ap (λ (ps : List (List Cell)). listed (page_cell ps) size) data_more ∙ listed_more (data_of pages) (page_data page) page_empty size

-- ---- a wider segment in the same pages

module _ (pages : List (List Cell)) (size m : ℕ) (paged : IsPaged pages size) (cells : List Cell) (seen : listed (page_cell pages) size ≡ cells) (larger : length cells ≤ m) where
  size_is : size ≡ length cells
  size_is = sym (length_listed (page_cell pages) size) ∙ ap length seen

  pub paged_wider : m ≤ page_cells * length pages → IsPaged pages m
  paged_wider room = record { full = paged.full; room = room; free = λ o le. paged.free o (omega (arith, le, larger, size_is)) }

  pub listed_wider : listed (page_cell pages) m ≡ cells ++ replicate (m - length cells) None
  listed_wider =
      more_listed (page_cell pages) (page_cell pages) size m (omega (arith, larger, size_is)) (λ o lt. refl) (λ o le. paged.free o le)
      ∙ ap₂ (λ (cs : List Cell) (n : ℕ). cs ++ replicate (m - n) None) seen size_is

pub wide_enough : {Page A : Type 0} (items : Page → List (Option A)) (f : A → Datum) (pages : List Page) (size m : ℕ) → IsPaged (data_of items f pages) size → (cells : List Cell) → listed (page_cell (data_of items f pages)) size ≡ cells → length cells ≤ m → m ≤ page_cells * length pages → IsPaged (data_of items f pages) m
wide_enough items f pages size m paged cells seen larger room = paged_wider (data_of items f pages) size m paged cells seen larger (omega (arith, room, length-map pages (page_data items f)))

pub inside_size : (pages : List (List Cell)) (size o : ℕ) (cells : List Cell) → listed (page_cell pages) size ≡ cells → o < length cells → o < size
inside_size pages size o cells seen lt = omega (arith, lt, length_listed (page_cell pages) size, ap length seen)
