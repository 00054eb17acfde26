-- The two laws of the file: what is read is a file of that PIE, and a file of a PIE is read as it.
use Rattle.std.proofs.Common.{◌≡◌, ℕ, ◌*◌, ◌^◌, ◌<◌, ◌≤◌, cond, eqb, List, [], ◌++◌, length, None, Result, Ok, Err, refl, sym, ap, subst, ◌∙◌, append_assoc, arith, length-append}
use Rattle.std.specs.Int.{w32, to_be_bytes}
use Rattle.std.specs.List.{flat_map}
use Rattle.std.proofs.lemmas.Bool.{eqb-true}
use Rattle.std.proofs.lemmas.List.{append-nil, nil_from_length}
use Rattle.std.proofs.lemmas.List.Elements.{All-from_recursion, recursion_from_All}
use Rattle.cairo_model.specs.declared.read_refusal.ReadRefusal.{ReadRefusal}
use Rattle.cairo_model.specs.declared.read_refusal.ReadRefusal.TheVariants.{TrailingBytes}
use Rattle.std.specs.Prelude.{IfOk}
use Rattle.cairo_model.specs.declared.end.End.{End}
use Rattle.cairo_model.specs.Working.Answers.{Gives}
use Rattle.cairo_model.specs.Machine.Steps.{◌>>=◌}
use Rattle.cairo_model.specs.Pie.Records.{MemoryCell, PieRecord, IsCellOf, KeepsRules}
use Rattle.cairo_model.specs.Pie.Files.{magic, Metadata, IsMetadata, cell_bytes, text_bytes, cells_bytes, first_version, PieBytes}
use Rattle.cairo_model.proofs.Outcomes.{bind_gives, bind_goes, then_ok, ok_is}
use Rattle.cairo_model.proofs.Bytes.{IsBytes, Takes, Takes-then}
use Rattle.cairo_model.proofs.Rising.{rise_of, chain_of}
use Rattle.pie_format.specs.Working.Reading.{Parts, parts_at, metadata_at, cells_at, reading}
use Rattle.pie_format.proofs.ReadingSizes.{small_from_sum}
use Rattle.pie_format.proofs.ReadingParts.{ArePartsOf, parts_take, parts_again}
use Rattle.pie_format.proofs.ReadingMetadata.{IsRead, metadata_takes, metadata_again}
use Rattle.pie_format.proofs.ReadingCells.{AreSmall, AreRead, numbers, cells_take, cells_again, cells_len}

-- the chain of the reading from its end
abbrev pub with_cells : Metadata → List MemoryCell × List ℕ → Result PieRecord ReadRefusal
with_cells m cells = cond (eqb (length cells.1) 0) (Ok (record { main = m.main; steps = m.steps; sizes = m.sizes; cells = cells.0 })) (Err (TrailingBytes (length cells.1)))

abbrev pub with_metadata : Parts → Metadata → Result PieRecord ReadRefusal
with_metadata parts m = cells_at m.sizes 0 None parts.count parts.rest >>= with_cells m

abbrev pub with_parts : Parts → Result PieRecord ReadRefusal
with_parts parts = metadata_at parts.text >>= with_metadata parts

-- all of the bytes, from the parts of the file and its cells
spelled : (bytes : List ℕ) (p : Parts) (x : List MemoryCell × List ℕ) → ArePartsOf bytes p → Takes p.rest (flat_map cell_bytes x.0) x.1 → length x.0 ≡ p.count → x.1 ≡ [] → bytes ≡ magic ++ (text_bytes p.text ++ cells_bytes x.0)
spelled bytes p x parts cells count nothing =
    let t = text_bytes p.text in
    let n = to_be_bytes w32 p.count in
    let f = flat_map cell_bytes x.0 in
    let whole : bytes ≡ ((magic ++ (t ++ n)) ++ f) ++ x.1 = (Takes-then bytes (magic ++ (t ++ n)) p.rest f x.1 parts.taken cells).parts in
    let ended : bytes ≡ (magic ++ (t ++ n)) ++ f = whole ∙ ap (λ (r : List ℕ). ((magic ++ (t ++ n)) ++ f) ++ r) nothing ∙ append-nil ((magic ++ (t ++ n)) ++ f) in
    let grouped : bytes ≡ magic ++ (t ++ (n ++ f)) = ended ∙ append_assoc magic (t ++ n) f ∙ ap (λ (r : List ℕ). magic ++ r) (append_assoc t n f) in
    grouped ∙ ap (λ (k : ℕ). magic ++ (t ++ (to_be_bytes w32 k ++ f))) (sym count)

pub pie_takes : (bytes : List ℕ) (pie : PieRecord) → IsBytes bytes → reading bytes ≡ Ok pie → PieBytes bytes pie
unfolding reading
pie_takes bytes pie fits e =
    bind_gives (parts_at bytes) with_parts pie e (λ p found1 e1.
    bind_gives (metadata_at p.text) (with_metadata p) pie e1 (λ m found2 e2.
    bind_gives (cells_at m.sizes 0 None p.count p.rest) (with_cells m) pie e2 (λ x found3 e3.
    let made : PieRecord = record { main = m.main; steps = m.steps; sizes = m.sizes; cells = x.0 } in
    then_ok (eqb (length x.1) 0) (TrailingBytes (length x.1)) (Ok made) pie e3 (λ none same.
    let parts : ArePartsOf bytes p = parts_take bytes p fits found1 in
    let meta : IsRead p.text m = metadata_takes p.text m found2 in
    let cells : AreRead m.sizes None p.count p.rest x = cells_take m.sizes 0 None p.count p.rest x parts.taken.rest_fits parts.enough found3 in
    let nothing : x.1 ≡ [] = nil_from_length x.1 (eqb-true _ _ none) in
    let says : IsMetadata p.text (first_version made) = subst (λ (v : ℕ). IsMetadata p.text (record { version = v; main = m.main; steps = m.steps; sizes = m.sizes })) meta.keeps.first meta.says in
    let keeps : KeepsRules made = record {
      are_sizes = meta.keeps.are_sizes;
      few_steps = meta.keeps.few_steps;
      are_cells = All-from_recursion (IsCellOf m.sizes) x.0 cells.are_cells;
      rise = rise_of (numbers x.0) cells.chain;
    } in
    let file : PieBytes bytes made = record {
      text = p.text;
      is_metadata = says;
      text_fits = parts.text_fits;
      spelled = spelled bytes p x parts cells.taken cells.count nothing;
      in_limit = parts.in_limit;
      keeps_rules = keeps;
    } in
    subst (λ (q : PieRecord). PieBytes bytes q) (ok_is made pie same) file))))

-- what the stages of the reading give of a file
pub record AreStages (bytes : List ℕ) (pie : PieRecord) : Type 0 where
  pub text : List ℕ
  pub parts : parts_at bytes ≡ Ok (record { text = text; count = length pie.cells; rest = flat_map cell_bytes pie.cells })
  pub meta : metadata_at text ≡ Ok (first_version pie)
  pub cells : cells_at pie.sizes 0 None (length pie.cells) (flat_map cell_bytes pie.cells) ≡ Ok (pie.cells, [])

pub stages : (bytes : List ℕ) (pie : PieRecord) → PieBytes bytes pie → AreStages bytes pie
stages bytes pie file =
    let f = flat_map cell_bytes pie.cells in
    let count = to_be_bytes w32 (length pie.cells) in
    let spelling = magic ++ (text_bytes file.text ++ (count ++ f)) in
    let limit : length spelling ≤ 2097152 = subst (λ (b : List ℕ). length b ≤ 2097152) file.spelled file.in_limit in
    let behind : length f ≤ length spelling = omega (arith, length-append magic (text_bytes file.text ++ (count ++ f)), length-append (text_bytes file.text) (count ++ f), length-append count f) in
    let few_cells : length pie.cells < 2 ^ 32 = omega (arith, cells_len pie.cells) in
    let enough : 16 * length pie.cells ≤ length f = omega (arith, cells_len pie.cells) in
    let small : AreSmall pie.sizes = record { few = file.keeps_rules.are_sizes.at_most; small = small_from_sum pie.sizes file.keeps_rules.are_sizes.in_all } in
    let are = recursion_from_All (IsCellOf pie.sizes) pie.cells file.keeps_rules.are_cells in
    let chain = chain_of (numbers pie.cells) file.keeps_rules.rise in
    record {
      text = file.text;
      parts = ap parts_at file.spelled ∙ parts_again file.text f (length pie.cells) file.text_fits few_cells enough limit;
      meta = metadata_again file.text (first_version pie) file.is_metadata refl file.keeps_rules.are_sizes file.keeps_rules.few_steps;
      cells = ap (cells_at pie.sizes 0 None (length pie.cells)) (sym (append-nil f)) ∙ cells_again pie.sizes 0 None pie.cells [] small are chain;
    }

pub pie_again : (bytes : List ℕ) (pie : PieRecord) → PieBytes bytes pie → reading bytes ≡ Ok pie
unfolding reading
pie_again bytes pie file =
    let s : AreStages bytes pie = stages bytes pie file in
    let parts : Parts = record { text = s.text; count = length pie.cells; rest = flat_map cell_bytes pie.cells } in
    bind_goes (parts_at bytes) with_parts pie parts s.parts
    (bind_goes (metadata_at s.text) (with_metadata parts) pie (first_version pie) s.meta
    (bind_goes (cells_at pie.sizes 0 None (length pie.cells) (flat_map cell_bytes pie.cells)) (with_cells (first_version pie)) pie (pie.cells, []) s.cells refl))

-- one byte string is a file of at most one PIE
pub one_pie : (bytes : List ℕ) (p q : PieRecord) → PieBytes bytes p → PieBytes bytes q → p ≡ q
one_pie bytes p q a b = ok_is p q (sym (pie_again bytes p a) ∙ pie_again bytes q b)

pub is_found : (bytes : List ℕ) (r : Result PieRecord (End ReadRefusal)) → IsBytes bytes → Gives (λ p. p) r (reading bytes) → IfOk r (λ p. PieBytes bytes p)
is_found bytes (Ok p) fits given = pie_takes bytes p fits given
is_found bytes (Err e) fits given = tt
