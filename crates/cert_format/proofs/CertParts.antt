-- A certificate and the parts of its file: their bytes are the same, and good parts in order are a certificate.
use Rattle.std.proofs.Common.{◌≡◌, ℕ, zero, suc, ◌^◌, ◌<◌, ◌≤◌, List, [], ◌∷◌, ◌++◌, length, refl, sym, ap, ◌∙◌, arith}
use Rattle.std.specs.Int.{w32, w64, to_be_bytes}
use Rattle.std.specs.List.{flat_map, AllByRecursion}
use Rattle.std.proofs.lemmas.Grind.{flat_map-append}
use Rattle.std.proofs.lemmas.List.{nil_from_length}
use Rattle.std.proofs.lemmas.List.Elements.{All-from_recursion, recursion_from_All}
use Rattle.goldi_field.specs.Numbers.{IsFelt}
use Rattle.cairo_model.specs.Machine.Steps.{Registers}
use Rattle.cairo_model.specs.Machine.FieldMemories.{FieldCell, IsCell}
use Rattle.cairo_model.specs.Certificate.Records.{CertKind, alone, batch, MarkRecord, CertRecord, HasSpelling, IsMark, AreRegisters, IsCertificate}
use Rattle.cert_format.specs.Working.Ordering.{IsOrdered}
use Rattle.cert_format.specs.Spelling.{kind_byte, span_bytes, counted_bytes, mark_bytes, field_cell_bytes, state_bytes, body_bytes}
use Rattle.cert_format.specs.Refusals.{Entry, entry_bytes, entries_bytes, FitsBytes, IsGoodEntry, kind, task_count, number, Parts, counted_entries, base_entries, mark_entries, cell_entries, state_entries, entries_of}
use Rattle.cert_format.proofs.EntryLaws.{Fit, all_first, all_second, all_both}
use Rattle.cert_format.proofs.ReadersScan.{cert_in}
use Rattle.cert_format.proofs.Scanning.{kind_of_number}

-- ---- the same bytes

each_bytes : {A : Type 0} (entries : A → List Entry) (bytes : A → List ℕ) → ((a : A) → entries_bytes (entries a) ≡ bytes a) → (xs : List A) → entries_bytes (flat_map entries xs) ≡ flat_map bytes xs
each_bytes entries bytes same [] = refl
each_bytes entries bytes same (a ∷ xs) =
    flat_map-append entry_bytes (entries a) (flat_map entries xs) ∙ ap (λ (t : List ℕ). t ++ entries_bytes (flat_map entries xs)) (same a) ∙ ap (λ (t : List ℕ). bytes a ++ t) (each_bytes entries bytes same xs)

counted_same : {A : Type 0} (entries : A → List Entry) (bytes : A → List ℕ) → ((a : A) → entries_bytes (entries a) ≡ bytes a) → (xs : List A) → entries_bytes (counted_entries entries xs) ≡ counted_bytes bytes xs
counted_same entries bytes same xs = ap (λ (t : List ℕ). to_be_bytes w32 (length xs) ++ t) (each_bytes entries bytes same xs)

mark_same : (m : MarkRecord) → entries_bytes (mark_entries m) ≡ mark_bytes m
mark_same m = ap (λ (t : List ℕ). to_be_bytes w32 m.row ++ t) (counted_same base_entries (to_be_bytes w64) (λ b. refl) m.bases)

-- of a kind that certificates have
pub spelled_so : (p : Parts) → kind_byte (kind_of_number p.kind_number) ≡ p.kind_number → entries_bytes (entries_of p) ≡ kind_byte (cert_in p).kind ∷ body_bytes (cert_in p)
spelled_so p same =
    let marks = flat_map mark_entries p.tasks in
    let cells = counted_entries cell_entries p.cells in
    let states = counted_entries state_entries p.states in
    let lists : entries_bytes (marks ++ (cells ++ states)) ≡ flat_map mark_bytes p.tasks ++ (counted_bytes field_cell_bytes p.cells ++ counted_bytes state_bytes p.states) =
    flat_map-append entry_bytes marks (cells ++ states) ∙ ap (λ (t : List ℕ). t ++ entries_bytes (cells ++ states)) (each_bytes mark_entries mark_bytes mark_same p.tasks)
    ∙ ap (λ (t : List ℕ). flat_map mark_bytes p.tasks ++ t) (flat_map-append entry_bytes cells states ∙ ap (λ (t : List ℕ). t ++ entries_bytes states) (counted_same cell_entries field_cell_bytes (λ c. refl) p.cells) ∙ ap (λ (t : List ℕ). counted_bytes field_cell_bytes p.cells ++ t) (counted_same state_entries state_bytes (λ s. refl) p.states)) in
    ap (λ (t : List ℕ). p.kind_number ∷ (span_bytes p.output ++ (span_bytes p.range ++ (span_bytes p.hash ++ (to_be_bytes w32 (length p.tasks) ++ t))))) lists
    ∙ ap (λ (k : ℕ). k ∷ body_bytes (cert_in p)) (sym same)

-- ---- good parts

abbrev pub Good : List Entry → Type 0
Good entries = AllByRecursion IsGoodEntry entries

pub kind_same : (k : ℕ) → k ≤ 1 → kind_byte (kind_of_number k) ≡ k
kind_same zero le = refl
kind_same (suc zero) le = refl
kind_same (suc (suc k)) le = absurd (omega arith)

bases_kept : (bs : List ℕ) → Good (flat_map base_entries bs) → AllByRecursion IsFelt bs
bases_kept [] h = tt
bases_kept (b ∷ bs) h = (h.0, bases_kept bs h.1)

cells_kept : (cs : List FieldCell) → Good (flat_map cell_entries cs) → AllByRecursion IsCell cs
cells_kept [] h = tt
cells_kept (c ∷ cs) h = (record { address = h.0; value = h.1.0 }, cells_kept cs h.1.1)

states_kept : (ss : List (Registers ℕ)) → Good (flat_map state_entries ss) → AllByRecursion AreRegisters ss
states_kept [] h = tt
states_kept (s ∷ ss) h = (record { pc = h.0; ap = h.1.0; fp = h.1.1.0 }, states_kept ss h.1.1.1)

marks_kept : (ms : List MarkRecord) → Fit (flat_map mark_entries ms) → Good (flat_map mark_entries ms) → AllByRecursion IsMark ms
marks_kept [] f h = tt
marks_kept (m ∷ ms) f h =
    let bases = flat_map base_entries m.bases in
    let others = flat_map mark_entries ms in
    let kept : AllByRecursion IsFelt m.bases = bases_kept m.bases (all_first IsGoodEntry bases others h.1.1) in
    (record { row = f.0; bases = All-from_recursion IsFelt m.bases kept }, marks_kept ms (all_second FitsBytes bases others f.1.1) (all_second IsGoodEntry bases others h.1.1))

few_bases : (ms : List MarkRecord) → Fit (flat_map mark_entries ms) → AllByRecursion (λ m. length m.bases < 2 ^ 32) ms
few_bases [] f = tt
few_bases (m ∷ ms) f = (f.1.0, few_bases ms (all_second FitsBytes (flat_map base_entries m.bases) (flat_map mark_entries ms) f.1.1))

batch_alone : batch ≡ alone → ⊥
batch_alone e = absurd (cc)

zero_alone : (k : ℕ) → kind_of_number k ≡ alone → k ≡ 0
zero_alone zero e = refl
zero_alone (suc k) e = absurd (batch_alone e)

no_task : (p : Parts) → (p.kind_number ≡ 0 → length p.tasks ≡ 0) → kind_of_number p.kind_number ≡ alone → p.tasks ≡ []
no_task p none is_alone = nil_from_length p.tasks (none (zero_alone p.kind_number is_alone))

module _ (p : Parts) (fit : Fit (entries_of p)) (good : Good (entries_of p)) where
  marks : List Entry
  marks = flat_map mark_entries p.tasks

  cells : List Entry
  cells = counted_entries cell_entries p.cells

  states : List Entry
  states = counted_entries state_entries p.states

  lists_fit : Fit (cells ++ states)
  unfolding marks cells states
  lists_fit = all_second FitsBytes marks (cells ++ states) fit.1.1.1.1.1.1.1.1

  lists_good : Good (cells ++ states)
  unfolding marks cells states
  lists_good = all_second IsGoodEntry marks (cells ++ states) good.1.1.1.1.1.1.1.1

  cells_fit : Fit cells
  cells_fit = all_first FitsBytes cells states lists_fit

  states_fit : Fit states
  states_fit = all_second FitsBytes cells states lists_fit

  pub parts_spell : HasSpelling (cert_in p)
  unfolding cells states
  parts_spell = record {
    few_tasks = fit.1.1.1.1.1.1.1.0;
    few_bases = All-from_recursion (λ m. length m.bases < 2 ^ 32) p.tasks (few_bases p.tasks (all_first FitsBytes (flat_map mark_entries p.tasks) (cells ++ states) fit.1.1.1.1.1.1.1.1));
    few_cells = cells_fit.0;
    few_states = states_fit.0;
    no_task_alone = no_task p good.1.1.1.1.1.1.1.0;
  }

  pub parts_certificate : IsOrdered (cert_in p) → IsCertificate (cert_in p)
  unfolding cells states
  parts_certificate o = record {
    has_spelling = parts_spell;
    output = record { start = good.1.0; stop = good.1.1.0; ordered = o.output };
    range = record { start = good.1.1.1.0; stop = good.1.1.1.1.0; ordered = o.range };
    hash = record { start = good.1.1.1.1.1.0; stop = good.1.1.1.1.1.1.0; ordered = o.hash };
    tasks = All-from_recursion IsMark p.tasks (marks_kept p.tasks (all_first FitsBytes (flat_map mark_entries p.tasks) (cells ++ states) fit.1.1.1.1.1.1.1.1) (all_first IsGoodEntry (flat_map mark_entries p.tasks) (cells ++ states) good.1.1.1.1.1.1.1.1));
    cells = All-from_recursion IsCell p.cells (cells_kept p.cells (all_first IsGoodEntry (counted_entries cell_entries p.cells) states lists_good).1);
    rise = o.rise;
    states = All-from_recursion AreRegisters p.states (states_kept p.states (all_second IsGoodEntry (counted_entries cell_entries p.cells) (counted_entries state_entries p.states) lists_good).1);
  }

-- ---- the parts of a certificate

abbrev pub parts_of : CertRecord → Parts
parts_of c = record { kind_number = kind_byte c.kind; output = c.output; range = c.range; hash = c.hash; tasks = c.tasks; cells = c.cells; states = c.states }

pub same_kind : (k : CertKind) → kind_of_number (kind_byte k) ≡ k
same_kind alone = refl
same_kind batch = refl

-- bytes can hold it, and it is good
abbrev Stands : Entry → Type 0
Stands e = FitsBytes e × IsGoodEntry e

number_stands : (n : ℕ) → IsFelt n → Stands (number n)
number_stands n h = (omega (arith, h), h)

bases_stand : (bs : List ℕ) → AllByRecursion IsFelt bs → AllByRecursion Stands (flat_map base_entries bs)
bases_stand [] h = tt
bases_stand (b ∷ bs) h = (number_stands b h.0, bases_stand bs h.1)

cells_stand : (cs : List FieldCell) → AllByRecursion IsCell cs → AllByRecursion Stands (flat_map cell_entries cs)
cells_stand [] h = tt
cells_stand (c ∷ cs) h = (number_stands c.0 h.0.address, (number_stands c.1 h.0.value, cells_stand cs h.1))

states_stand : (ss : List (Registers ℕ)) → AllByRecursion AreRegisters ss → AllByRecursion Stands (flat_map state_entries ss)
states_stand [] h = tt
states_stand (s ∷ ss) h = (number_stands s.pc h.0.pc, (number_stands s.ap h.0.ap, (number_stands s.fp h.0.fp, states_stand ss h.1)))

marks_stand : (ms : List MarkRecord) → AllByRecursion IsMark ms → AllByRecursion (λ m. length m.bases < 2 ^ 32) ms → AllByRecursion Stands (flat_map mark_entries ms)
marks_stand [] h few = tt
marks_stand (m ∷ ms) h few =
    let bases = bases_stand m.bases (recursion_from_All IsFelt m.bases h.0.bases) in
    ((h.0.row, tt), ((few.0, tt), all_both Stands (flat_map base_entries m.bases) (flat_map mark_entries ms) bases (marks_stand ms h.1 few.1)))

kind_stands : (k : CertKind) → Stands (kind (kind_byte k))
kind_stands alone = (omega arith, omega arith)
kind_stands batch = (omega arith, omega arith)

count_stands : (k : CertKind) (ms : List MarkRecord) → length ms < 2 ^ 32 → (k ≡ alone → ms ≡ []) → Stands (task_count (kind_byte k) (length ms))
count_stands alone ms few none = (few, λ _. ap length (none refl))
count_stands batch ms few none = (few, λ e. absurd (omega (arith, e)))

parts_stand : (c : CertRecord) → IsCertificate c → AllByRecursion Stands (entries_of (parts_of c))
parts_stand c h =
    let s = h.has_spelling in
    let marks = flat_map mark_entries c.tasks in
    let cells = counted_entries cell_entries c.cells in
    let states = counted_entries state_entries c.states in
    let marks_are = marks_stand c.tasks (recursion_from_All IsMark c.tasks h.tasks) (recursion_from_All (λ m. length m.bases < 2 ^ 32) c.tasks s.few_bases) in
    let cells_are : AllByRecursion Stands cells = ((s.few_cells, tt), cells_stand c.cells (recursion_from_All IsCell c.cells h.cells)) in
    let states_are : AllByRecursion Stands states = ((s.few_states, tt), states_stand c.states (recursion_from_All AreRegisters c.states h.states)) in
    let lists = all_both Stands marks (cells ++ states) marks_are (all_both Stands cells states cells_are states_are) in (
      kind_stands c.kind,
      (
        number_stands c.output.start h.output.start,
        (
          number_stands c.output.stop h.output.stop,
          (
            number_stands c.range.start h.range.start,
            (
              number_stands c.range.stop h.range.stop,
              (
                number_stands c.hash.start h.hash.start,
                (
                  number_stands c.hash.stop h.hash.stop,
                  (count_stands c.kind c.tasks s.few_tasks s.no_task_alone, lists),
                ),
              ),
            ),
          ),
        ),
      ),
    )

weaker : {A : Type 0} (P Q : A → Type 0) (go : (a : A) → P a → Q a) (xs : List A) → AllByRecursion P xs → AllByRecursion Q xs
weaker P Q go [] h = tt
weaker P Q go (x ∷ xs) h = (go x h.0, weaker P Q go xs h.1)

pub cert_fits : (c : CertRecord) → IsCertificate c → Fit (entries_of (parts_of c))
cert_fits c h = weaker Stands FitsBytes (λ e s. s.0) (entries_of (parts_of c)) (parts_stand c h)

pub cert_good : (c : CertRecord) → IsCertificate c → Good (entries_of (parts_of c))
cert_good c h = weaker Stands IsGoodEntry (λ e s. s.1) (entries_of (parts_of c)) (parts_stand c h)
