-- The laws of the causes: what is refused has its first cause, and a file of a PIE has none.
use Rattle.std.proofs.Common.{◌≡◌, ℕ, ◌+◌, ◌*◌, ◌<◌, ◌≤◌, eqb, List, [], ◌∷◌, ◌++◌, length, None, Result, Ok, Err, refl, sym, ap, subst, ◌∙◌, arith, inl, inr, ◌⊎◌, length-append, length-drop}
use Rattle.std.specs.Int.{to_be_bytes, w16, w32, w64}
use Rattle.std.specs.List.{flat_map}
use Rattle.std.proofs.lemmas.Bool.{eqb-false}
use Rattle.cairo_model.specs.Working.Answers.{Gives}
use Rattle.cairo_model.specs.Refusals.FirstFailing.{IsFirstFailing}
use Rattle.cairo_model.specs.Pie.Files.{Metadata, PieBytes, cell_bytes, tag_of, payload_of}
use Rattle.cairo_model.specs.Pie.Records.{MemoryCell, PieRecord}
use Rattle.cairo_model.specs.Refusals.ReadRefusals.{cell_count, cell_start, IsGoodCell, IsReadCause, IsFirstReadCause}
use Rattle.cairo_model.specs.declared.end.End.{End}
use Rattle.cairo_model.specs.declared.end.End.TheVariants.{Refused}
use Rattle.cairo_model.specs.declared.read_refusal.ReadRefusal.{ReadRefusal}
use Rattle.cairo_model.specs.declared.read_refusal.ReadRefusal.TheVariants.{BadCell, TrailingBytes}
use Rattle.cairo_model.proofs.Outcomes.{tested, err_is, ok_no_err, bind_refused}
use Rattle.cairo_model.proofs.Bytes.{IsBytes, IsBytes-drop, IsBytes-append, IsBytes-nil, number_fits}
use Rattle.pie_format.specs.Working.Reading.{Parts, parts_at, metadata_at, cells_at, reading}
use Rattle.pie_format.proofs.ReadingCells.{AreSmall, AreRead, cells_take, cells_len}
use Rattle.pie_format.proofs.ReadingLaws.{with_parts, with_metadata, with_cells, AreStages, stages, pie_takes}
use Rattle.pie_format.proofs.Causes.{Clear, clear_next, none_at_all, same_first}
use Rattle.pie_format.proofs.CausesParts.{Stand, Placed, parts_placed, parts_refused}
use Rattle.pie_format.proofs.CausesMetadata.{only, Passed, metadata_passed, metadata_refused}
use Rattle.pie_format.proofs.CausesCells.{none_before, Fails, cells_fail, cells_good}

-- the bytes after the count, of parts that stand in a file whose metadata passed
module _ (bytes : List ℕ) (p : Parts) (stands : Stand bytes p) (m : Metadata) (passed : Passed bytes m) (fits : IsBytes p.rest) where
  rest_len : length p.rest + cell_start bytes 0 ≡ length bytes
  rest_len = omega (arith, ap (λ (x : List ℕ). length x) stands.rest_is, length-drop (cell_start bytes 0) bytes, stands.whole)

  enough : 16 * p.count ≤ length p.rest
  enough = omega (arith, rest_len, stands.whole, stands.count_is)

  bad_cell_first : (r : ReadRefusal) → cells_at m.sizes 0 None p.count p.rest ≡ Err r → IsFirstReadCause bytes r
  bad_cell_first r e =
      let small : AreSmall m.sizes = record { few = passed.keeps.are_sizes.at_most; small = passed.keeps.small } in
      let f : Fails m.sizes bytes 0 p.count r = cells_fail m.sizes bytes 0 None p.count p.rest r small stands.rest_is (none_before bytes) fits enough e in
      let first : IsFirstFailing (λ k. k < cell_count bytes) (IsGoodCell m.sizes bytes) f.index = record {
        inside = omega (arith, f.inside, stands.count_is);
        fails = f.fails;
        before = λ k lt. f.good k (omega arith) lt;
      } in
      same_first bytes (BadCell f.index) r (record { applies = (m, (passed.says, first)); none_before = passed.clear }) f.refusal_is

  module _ (x : List MemoryCell × List ℕ) (found : cells_at m.sizes 0 None p.count p.rest ≡ Ok x) where
    clear_11 : Clear bytes 11
    clear_11 = clear_next bytes 10 passed.clear (λ v cause.
        let first : IsFirstFailing (λ k. k < cell_count bytes) (IsGoodCell m.sizes bytes) v = only bytes m passed.says (λ y. IsFirstFailing (λ k. k < cell_count bytes) (IsGoodCell y.sizes bytes) v) cause in
        first.fails (cells_good m.sizes bytes 0 None p.count p.rest x stands.rest_is (none_before bytes) fits enough found v (omega arith) (omega (arith, first.inside, stands.count_is))))

    left_len : length x.1 + cell_start bytes (cell_count bytes) ≡ length bytes
    left_len =
        let cells : AreRead m.sizes None p.count p.rest x = cells_take m.sizes 0 None p.count p.rest x fits enough found in
        let whole : length p.rest ≡ length (flat_map cell_bytes x.0) + length x.1 = ap (λ (y : List ℕ). length y) cells.taken.parts ∙ length-append (flat_map cell_bytes x.0) x.1 in
        omega (arith, whole, cells_len x.0, cells.count, rest_len, stands.count_is)

    trailing_first : (length x.1 ≡ 0 → ⊥) → IsFirstReadCause bytes (TrailingBytes (length x.1))
    trailing_first some = record { applies = (omega (arith, left_len), omega (arith, some)); none_before = clear_11 }

    clear_12 : length x.1 ≡ 0 → Clear bytes 12
    clear_12 none = clear_next bytes 11 clear_11 (λ v cause. absurd (omega (arith, cause.0, cause.1, left_len)))

pub refused_first : (bytes : List ℕ) (r : ReadRefusal) → IsBytes bytes → reading bytes ≡ Err r → IsFirstReadCause bytes r
unfolding reading
refused_first bytes r fits e =
    bind_refused (parts_at bytes) with_parts r e (parts_refused bytes r) (λ p found1 e1.
    let placed : Placed bytes p = parts_placed bytes p found1 in
    let moved = ap metadata_at (sym placed.stands.text_is) in
    bind_refused (metadata_at p.text) (with_metadata p) r e1 (λ stop. metadata_refused bytes r placed.clear (moved ∙ stop)) (λ m found2 e2.
    let passed : Passed bytes m = metadata_passed bytes m placed.clear (moved ∙ found2) in
    let rest_fits : IsBytes p.rest = subst IsBytes (sym placed.stands.rest_is) (IsBytes-drop (cell_start bytes 0) bytes fits) in
    bind_refused (cells_at m.sizes 0 None p.count p.rest) (with_cells m) r e2 (bad_cell_first bytes p placed.stands m passed rest_fits r) (λ x found3 e3.
    let made : PieRecord = record { main = m.main; steps = m.steps; sizes = m.sizes; cells = x.0 } in
    tested (eqb (length x.1) 0) (Ok made) (Err (TrailingBytes (length x.1))) (Err r) e3
    (λ _ h. ok_no_err made r h)
    (λ some h. same_first bytes (TrailingBytes (length x.1)) r (trailing_first bytes p placed.stands m passed rest_fits x found3 (eqb-false (length x.1) 0 some)) (err_is (TrailingBytes (length x.1)) r h)))))

by_reading : (bytes : List ℕ) (given : Result PieRecord ReadRefusal) → IsBytes bytes → reading bytes ≡ given → ((pie : PieRecord) × PieBytes bytes pie) ⊎ ((r : ReadRefusal) × IsFirstReadCause bytes r)
by_reading bytes (Ok pie) fits e = inl (pie, pie_takes bytes pie fits e)
by_reading bytes (Err r) fits e = inr (r, refused_first bytes r fits e)

-- bytes are a file of a PIE, or have a first cause
pub file_or_cause : (bytes : List ℕ) → IsBytes bytes → ((pie : PieRecord) × PieBytes bytes pie) ⊎ ((r : ReadRefusal) × IsFirstReadCause bytes r)
file_or_cause bytes fits = by_reading bytes (reading bytes) fits refl

-- ---- the cells of a PIE are bytes

cell_fits : (c : MemoryCell) → IsBytes (cell_bytes c)
cell_fits c =
    let payload = to_be_bytes w64 (payload_of c.value) in
    let tag = to_be_bytes w16 (tag_of c.value) in
    let offset = to_be_bytes w32 c.offset in
    let two : IsBytes (tag ++ payload) = IsBytes-append tag payload (number_fits w16 (tag_of c.value)) (number_fits w64 (payload_of c.value)) in
    let three : IsBytes (offset ++ (tag ++ payload)) = IsBytes-append offset (tag ++ payload) (number_fits w32 c.offset) two in
    IsBytes-append (to_be_bytes w16 c.segment) (offset ++ (tag ++ payload)) (number_fits w16 c.segment) three

cells_fit : (cs : List MemoryCell) → IsBytes (flat_map cell_bytes cs)
cells_fit [] = IsBytes-nil
cells_fit (c ∷ cs) = IsBytes-append (cell_bytes c) (flat_map cell_bytes cs) (cell_fits c) (cells_fit cs)

-- a file of a PIE has no cause
pub no_cause : (bytes : List ℕ) (pie : PieRecord) (r : ReadRefusal) → PieBytes bytes pie → ¬ IsReadCause bytes r
no_cause bytes pie r file =
    let s : AreStages bytes pie = stages bytes pie file in
    let p : Parts = record { text = s.text; count = length pie.cells; rest = flat_map cell_bytes pie.cells } in
    let placed : Placed bytes p = parts_placed bytes p s.parts in
    let m : Metadata = record { version = 1; main = pie.main; steps = pie.steps; sizes = pie.sizes } in
    let passed : Passed bytes m = metadata_passed bytes m placed.clear (ap metadata_at (sym placed.stands.text_is) ∙ s.meta) in
    none_at_all bytes (clear_12 bytes p placed.stands m passed (cells_fit pie.cells) (pie.cells, []) s.cells refl) r

pub is_first : (bytes : List ℕ) (given : Result PieRecord (End ReadRefusal)) → IsBytes bytes → Gives (λ p. p) given (reading bytes) → (r : ReadRefusal) → given ≡ Err (Refused r) → IsFirstReadCause bytes r
is_first bytes given fits h r is = refused_first bytes r fits (subst (λ (x : Result PieRecord (End ReadRefusal)). Gives (λ p. p) x (reading bytes)) is h)
