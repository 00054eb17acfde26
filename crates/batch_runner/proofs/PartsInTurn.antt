-- The parts of a batch's memory task by task are those of the closed form.
use Rattle.std.proofs.Common.{◌≡◌, ℕ, suc, ◌+◌, ◌-◌, List, [], ◌∷◌, ◌++◌, drop, length, refl, sym, ap, ap₂, ◌∙◌, arith, append_assoc, ◌<◌, get_or}
use Rattle.std.proofs.lemmas.List.{drop_more}
use Rattle.cairo_model.specs.Certificate.Records.{MarkRecord}
use Rattle.cairo_model.specs.Machine.FieldMemories.{FieldCell}
use Rattle.cairo_model.specs.Pie.Acceptance.{CheckedRecord}
use Rattle.boot_program.specs.Tasks.{tasks_length}
use Rattle.boot_program.specs.Turns.{turn_length}
use Rattle.batch_plan.specs.Parts.{BatchParts}
use Rattle.batch_runner.specs.Certificates.{marks_from}
use Rattle.batch_runner.specs.Layout.{bases_at, end_place, first_place, hash_from, more_turns, next_place, output_from, program_from, range_from, size}
use Rattle.batch_runner.specs.Memory.{all_cells, frames, hashes, outputs, part, programs, ranges, turn_cells, words_part}
use Rattle.batch_runner.specs.Pieces.{numbered}
use Rattle.batch_runner.specs.Rows.{task_values_at, values_of_all}
use Rattle.batch_runner.specs.Working.Placing.{PlacedRecord, all_frame_cells, cells_in_turn, each_in_turn, frame_cells, hash_cells, header_cells, instance_cells, marks_of_all, other_cells, output_cells, placed_from, program_cells, range_cells, rows_of_all, segment_cells, task_rows_of, zero_cells}
use Rattle.batch_runner.specs.Working.Tasks.{Task, checked_of}
use Rattle.batch_runner.proofs.Honest.{end_hash, end_output, end_range, end_turn}

pub one_each : (p : BatchParts) (ts : List CheckedRecord) → length (placed_from p ts) ≡ length ts
unfolding placed_from
one_each p [] = refl
one_each p (t ∷ ts) = ap suc (one_each (next_place t p) ts)

abbrev placed_at : CheckedRecord → BatchParts → PlacedRecord
placed_at t p = record { task = t; place = p }

abbrev ends_with : BatchParts → List ℕ
ends_with e = 0 ∷ e.output ∷ e.range ∷ e.hash ∷ []

frames_are : (p : BatchParts) (ts : List CheckedRecord) → all_frame_cells (placed_from p ts) ++ numbered (end_place p ts).frame (ends_with (end_place p ts)) ≡ frames p ts
unfolding frames all_frame_cells placed_from end_place
frames_are p [] = refl
frames_are p (t ∷ ts) =
    let q = next_place t p in
    let e = end_place q ts in
    let own = turn_cells (suc (length (placed_from q ts))) t p in
    let segment = part t p 1 in
    let later = all_frame_cells (placed_from q ts) in
    let state = numbered e.frame (ends_with e) in
    append_assoc (own ++ segment) later state ∙ append_assoc own segment (later ++ state)
    ∙ ap₂ (λ (n : ℕ) (xs : List FieldCell). turn_cells (suc n) t p ++ (segment ++ xs)) (one_each q ts) (frames_are q ts)

outputs_are : (p : BatchParts) (ts : List CheckedRecord) → each_in_turn output_cells (placed_from p ts) ≡ outputs p ts
unfolding outputs each_in_turn placed_from
outputs_are p [] = refl
outputs_are p (t ∷ ts) =
    let x = placed_at t p in
    append_assoc (header_cells x) (segment_cells 2 x) (each_in_turn output_cells (placed_from (next_place t p) ts))
    ∙ ap (λ (xs : List FieldCell). header_cells x ++ (segment_cells 2 x ++ xs)) (outputs_are (next_place t p) ts)

ranges_are : (p : BatchParts) (ts : List CheckedRecord) → each_in_turn range_cells (placed_from p ts) ≡ ranges p ts
unfolding ranges each_in_turn placed_from
ranges_are p [] = refl
ranges_are p (t ∷ ts) = ap (λ (xs : List FieldCell). segment_cells 3 (placed_at t p) ++ xs) (ranges_are (next_place t p) ts)

hashes_are : (p : BatchParts) (ts : List CheckedRecord) → each_in_turn hash_cells (placed_from p ts) ≡ hashes p ts
unfolding hashes each_in_turn placed_from
hashes_are p [] = refl
hashes_are p (t ∷ ts) =
    let x = placed_at t p in
    append_assoc (instance_cells x) (segment_cells 4 x) (each_in_turn hash_cells (placed_from (next_place t p) ts))
    ∙ ap (λ (xs : List FieldCell). instance_cells x ++ (segment_cells 4 x ++ xs)) (hashes_are (next_place t p) ts)

programs_are : (p : BatchParts) (ts : List CheckedRecord) → each_in_turn program_cells (placed_from p ts) ≡ programs p ts
unfolding programs each_in_turn placed_from
programs_are p [] = refl
programs_are p (t ∷ ts) =
    let x = placed_at t p in
    let words = segment_cells 0 x in
    let zeros = zero_cells x in
    let others = other_cells x in
    let later = each_in_turn program_cells (placed_from (next_place t p) ts) in
    append_assoc words (zeros ++ others) later ∙ ap (λ (xs : List FieldCell). words ++ xs) (append_assoc zeros others later)
    ∙ ap (λ (xs : List FieldCell). words ++ (zeros ++ (others ++ xs))) (programs_are (next_place t p) ts)

-- pieces put down one by one, and the parts that they make
regrouped : (w f a s n o r h q : List FieldCell) → ((((((((w ++ f) ++ a) ++ s) ++ n) ++ o) ++ r) ++ h) ++ q) ≡ w ++ ((f ++ (a ++ s)) ++ ((n ++ o) ++ (r ++ (h ++ q))))
regrouped w f a s n o r h q =
    let x0 = w ++ f in
    let x1 = x0 ++ a in
    let x2 = x1 ++ s in
    let x3 = x2 ++ n in
    let x4 = x3 ++ o in
    let x5 = x4 ++ r in
    let z = r ++ (h ++ q) in
    let y = (n ++ o) ++ z in
    append_assoc x5 h q ∙ append_assoc x4 r (h ++ q) ∙ append_assoc x3 o z ∙ append_assoc x2 n (o ++ z) ∙ ap (λ (u : List FieldCell). x2 ++ u) (sym (append_assoc n o z))
    ∙ append_assoc x1 s y ∙ append_assoc x0 a (s ++ y) ∙ append_assoc w f (a ++ (s ++ y))
    ∙ ap (λ (u : List FieldCell). w ++ u) (ap (λ (u : List FieldCell). f ++ u) (sym (append_assoc a s y)) ∙ sym (append_assoc f (a ++ s) y))

module _ (ts : List Task) where
  abbrev all : List CheckedRecord
  all = checked_of ts

  abbrev p : BatchParts
  p = first_place all

  abbrev xs : List PlacedRecord
  xs = placed_from p all

  abbrev starts : List FieldCell
  starts = numbered 119 (output_from all ∷ range_from all ∷ hash_from all ∷ 0 ∷ 118 ∷ [])

  abbrev count : ℕ → ℕ → List FieldCell
  count a n = numbered a (n ∷ [])

  before_one : (a : ℕ) → a + 1 - 1 ≡ a
  before_one a = omega arith

  starts_are : numbered 119 ((output_from all + 1 - 1) ∷ range_from all ∷ hash_from all ∷ 0 ∷ 118 ∷ []) ≡ starts
  starts_are = ap (λ a. numbered 119 (a ∷ range_from all ∷ hash_from all ∷ 0 ∷ 118 ∷ [])) (before_one (output_from all))

  count_is : numbered (output_from all + 1 - 1) (length xs ∷ []) ≡ count (output_from all) (length all)
  count_is = ap₂ count (before_one (output_from all)) (one_each p all)

  end_is : numbered (output_from all + 1 - 1 - 4) (0 ∷ range_from all ∷ hash_from all ∷ program_from all ∷ []) ≡ numbered (end_place p all).frame (ends_with (end_place p all))
  end_is =
      let a = end_turn p ts in
      let b : range_from all ≡ (end_place p all).output = sym (end_output p ts) in
      let c : hash_from all ≡ (end_place p all).range = sym (end_range p ts) in
      let d : program_from all ≡ (end_place p all).hash = sym (end_hash p ts) in
      let e : output_from all + 1 - 1 - 4 ≡ (end_place p all).frame = omega (arith, a) in
      ap (λ x. numbered x (0 ∷ range_from all ∷ hash_from all ∷ program_from all ∷ [])) e
      ∙ ap (λ x. numbered (end_place p all).frame (0 ∷ x ∷ hash_from all ∷ program_from all ∷ [])) b
      ∙ ap (λ x. numbered (end_place p all).frame (0 ∷ (end_place p all).output ∷ x ∷ program_from all ∷ [])) c
      ∙ ap (λ x. numbered (end_place p all).frame (0 ∷ (end_place p all).output ∷ (end_place p all).range ∷ x ∷ [])) d

  pub cells_are : cells_in_turn p xs ≡ all_cells all
  cells_are =
      let state = numbered (output_from all + 1 - 1 - 4) (0 ∷ range_from all ∷ hash_from all ∷ program_from all ∷ []) in
      let first = numbered 119 ((output_from all + 1 - 1) ∷ range_from all ∷ hash_from all ∷ 0 ∷ 118 ∷ []) in
      let number = numbered (output_from all + 1 - 1) (length xs ∷ []) in
      let in_frame = all_frame_cells xs in
      let o = each_in_turn output_cells xs in
      let r = each_in_turn range_cells xs in
      let h = each_in_turn hash_cells xs in
      let q = each_in_turn program_cells xs in
      let in_frames : in_frame ++ state ≡ frames p all = ap (λ (u : List FieldCell). in_frame ++ u) end_is ∙ frames_are p all in
      regrouped words_part first in_frame state number o r h q
      ∙ ap₂ (λ (f u : List FieldCell). words_part ++ ((f ++ u) ++ ((number ++ o) ++ (r ++ (h ++ q))))) starts_are in_frames
      ∙ ap₂ (λ (n u : List FieldCell). words_part ++ ((starts ++ frames p all) ++ ((n ++ u) ++ (r ++ (h ++ q))))) count_is (outputs_are p all)
      ∙ ap₂ (λ (u v : List FieldCell). words_part ++ ((starts ++ frames p all) ++ ((count (output_from all) (length all) ++ outputs p all) ++ (u ++ (v ++ q))))) (ranges_are p all) (hashes_are p all)
      ∙ ap (λ (u : List FieldCell). words_part ++ ((starts ++ frames p all) ++ ((count (output_from all) (length all) ++ outputs p all) ++ (ranges p all ++ (hashes p all ++ u))))) (programs_are p all)

pub marks_are : (before : ℕ) (p : BatchParts) (ts : List CheckedRecord) → marks_of_all before (placed_from p ts) ≡ marks_from before p ts
unfolding marks_of_all marks_from placed_from
marks_are before p [] = refl
marks_are before p (t ∷ ts) = ap (λ (ms : List MarkRecord). record { row = before + turn_length (more_turns (size t 0)); bases = bases_at t p } ∷ ms) (marks_are (before + task_rows_of (placed_at t p)) (next_place t p) ts)

pub rows_are : (p : BatchParts) (t : CheckedRecord) (ts : List CheckedRecord) → rows_of_all (placed_from p (t ∷ ts)) ≡ tasks_length (task_values_at t p) (values_of_all (next_place t p) ts)
unfolding rows_of_all placed_from tasks_length values_of_all
rows_are p t [] = omega arith
rows_are p t (next ∷ ts) = ap (λ n. task_rows_of (placed_at t p) + n) (rows_are (next_place t p) next ts)

-- a turn of the pass over the frames
pub frames_on : (so_far : List FieldCell) (left i : ℕ) (xs : List PlacedRecord) (x : PlacedRecord) → i < length xs → x ≡ get_or xs i x → left ≡ length (drop i xs)
    → ((so_far ++ frame_cells left x) ++ all_frame_cells (drop (i + 1) xs) ≡ so_far ++ all_frame_cells (drop i xs)) × (left ≡ suc (length (drop (i + 1) xs)))
unfolding all_frame_cells
frames_on so_far left i xs x lt is count =
    let rest = drop (i + 1) xs in
    let here : drop i xs ≡ x ∷ rest = drop_more xs i x lt ∙ ap (λ (y : PlacedRecord). y ∷ rest) (sym is) in
    let counted : left ≡ suc (length rest) = count ∙ ap length here in (
      append_assoc so_far (frame_cells left x) (all_frame_cells rest)
          ∙ ap (λ (n : ℕ). so_far ++ (frame_cells n x ++ all_frame_cells rest)) counted
          ∙ ap (λ (ys : List PlacedRecord). so_far ++ all_frame_cells ys) (sym here),
      counted,
    )
