-- What holds mark by mark and row by row, by the marks' and rows' numbers.
use Rattle.std.proofs.Common.{◌≡◌, ℕ, zero, suc, ◌+◌, ◌<◌, ◌≤◌, ◌⊎◌, List, [], ◌∷◌, length, slice_get, Some, inl, inr, refl, sym, ap, subst, ◌∙◌, arith, lit<}
use Rattle.std.specs.Prelude.{◌↔◌, Contains, All, slice_index_or}
use Rattle.std.proofs.lemmas.Bool.{cases_lt}
use Rattle.std.proofs.lemmas.Option.{slice_get_within}
use Rattle.cairo_model.specs.Segments.{builtin_mask, builtin_segments}
use Rattle.cairo_model.specs.Machine.Steps.{Registers, last_of}
use Rattle.cairo_model.specs.Machine.FieldMemories.{FieldCell}
use Rattle.cairo_model.specs.Machine.Runs.{IsState}
use Rattle.cairo_model.specs.Pie.Acceptance.{CheckedRecord}
use Rattle.cairo_model.specs.Certificate.Records.{CertRecord, MarkRecord}
use Rattle.cairo_model.proofs.Outcomes.{some_is}
use Rattle.boot_program.specs.Words.{boot_calls, boot_end}
use Rattle.boot_program.specs.Places.{entry_pc}
use Rattle.boot_program.specs.Batch.Standing.{AllStandIn, IsMarkOf}
use Rattle.boot_program.specs.Batch.Order.{CallsNext, InOrder, IsCallSite, IsInside, IsInsideTask, IsOutside, LiesInSpan, LiesInSpans}
use Rattle.boot_program.specs.Working.Walks.{EachRow}
use Rattle.batch_runner.specs.Working.Tasks.{Task, checked_of}
use Rattle.batch_runner.specs.Working.Marks.{MarkStands, MarksStand}
use Rattle.batch_runner.specs.Working.Ordering.{CallsAt, Inside, IsCallOf, IsMarkRow, MarkLies, MarksLie, MarksRise, RowInOrder, RowsInOrder}

-- ---- marks

-- the mark and the task of a number, of which something holds
record Marked (P : MarkRecord → Task → Type 0) (ms : List MarkRecord) (ts : List Task) (i : ℕ) (task : CheckedRecord) : Type 0 where
  mark : MarkRecord
  own : Task
  is_mark : slice_get ms i ≡ Some mark
  is_task : own.checked ≡ task
  holds : P mark own

marked_later : (P : MarkRecord → Task → Type 0) (m : MarkRecord) (t : Task) (ms : List MarkRecord) (ts : List Task) (i : ℕ) (task : CheckedRecord) → Marked P ms ts i task → Marked P (m ∷ ms) (t ∷ ts) (suc i) task
marked_later P m t ms ts i task h = record { mark = h.mark; own = h.own; is_mark = h.is_mark; is_task = h.is_task; holds = h.holds }

stands_at : (cert : CertRecord) (ms : List MarkRecord) (ts : List Task) → MarksStand cert ms ts → (i : ℕ) (task : CheckedRecord) → slice_get (checked_of ts) i ≡ Some task
    → Marked (λ m t. MarkStands cert m t.checked) ms ts i task
unfolding MarksStand
stands_at cert ms [] all i task is = absurd (cc)
stands_at cert [] (t ∷ ts) all i task is = absurd all
stands_at cert (m ∷ ms) (t ∷ ts) all zero task is = record { mark = m; own = t; is_mark = refl; is_task = some_is t.checked task is; holds = all.0 }
stands_at cert (m ∷ ms) (t ∷ ts) all (suc i) task is = marked_later (λ m t. MarkStands cert m t.checked) m t ms ts i task (stands_at cert ms ts all.1 i task is)

pub all_stand_in : (cert : CertRecord) (ts : List Task) → MarksStand cert cert.tasks ts → AllStandIn cert (checked_of ts)
all_stand_in cert ts all i task is =
    let h = stands_at cert cert.tasks ts all i task is in
    let s = subst (MarkStands cert h.mark) h.is_task h.holds in
    record { mark = h.mark; is_mark = h.is_mark; one_base_each = s.one_each; has_cells = s.cells_there; has_states = s.states_there }

-- a row that is inside one task, by its number
record InsideAt (ms : List MarkRecord) (tasks : List CheckedRecord) (k : ℕ) : Type 0 where
  index : ℕ
  mark : MarkRecord
  task : CheckedRecord
  is_mark : slice_get ms index ≡ Some mark
  is_task : slice_get tasks index ≡ Some task
  from : mark.row ≤ k
  below : k < mark.row + task.pie.steps

inside_at : (ms : List MarkRecord) (ts : List Task) (k : ℕ) → Inside ms ts k → InsideAt ms (checked_of ts) k
unfolding Inside
inside_at [] ts k none = absurd none
inside_at (m ∷ ms) [] k none = absurd none
inside_at (m ∷ ms) (t ∷ ts) k (inl is) = record { index = zero; mark = m; task = t.checked; is_mark = refl; is_task = refl; from = is.0; below = is.1 }
inside_at (m ∷ ms) (t ∷ ts) k (inr later) =
    let h = inside_at ms ts k later in
    record { index = suc h.index; mark = h.mark; task = h.task; is_mark = h.is_mark; is_task = h.is_task; from = h.from; below = h.below }

inside_from : (ms : List MarkRecord) (ts : List Task) (k i : ℕ) (mark : MarkRecord) (task : CheckedRecord) → slice_get ms i ≡ Some mark → slice_get (checked_of ts) i ≡ Some task
    → mark.row ≤ k → k < mark.row + task.pie.steps → Inside ms ts k
unfolding Inside
inside_from [] ts k i mark task is_mark is_task from below = absurd (cc)
inside_from (m ∷ ms) [] k i mark task is_mark is_task from below = absurd (cc)
inside_from (m ∷ ms) (t ∷ ts) k zero mark task is_mark is_task from below =
    let e : m.row ≡ mark.row = ap (λ (x : MarkRecord). x.row) (some_is m mark is_mark) in
    let f : t.checked.pie.steps ≡ task.pie.steps = ap (λ (x : CheckedRecord). x.pie.steps) (some_is t.checked task is_task) in
    inl (omega (arith, e, from), omega (arith, e, f, below))
inside_from (m ∷ ms) (t ∷ ts) k (suc i) mark task is_mark is_task from below = inr (inside_from ms ts k i mark task is_mark is_task from below)

mark_from : (ms : List MarkRecord) (i k : ℕ) (mark : MarkRecord) → slice_get ms i ≡ Some mark → mark.row ≡ k → IsMarkRow ms k
unfolding IsMarkRow
mark_from [] i k mark is_mark row = absurd (cc)
mark_from (m ∷ ms) zero k mark is_mark row = inl (ap (λ (x : MarkRecord). x.row) (some_is m mark is_mark) ∙ row)
mark_from (m ∷ ms) (suc i) k mark is_mark row = inr (mark_from ms i k mark is_mark row)

-- the call that a row makes, by the number of its task
record CallAt (cells : List FieldCell) (ms : List MarkRecord) (tasks : List CheckedRecord) (k : ℕ) (s : Registers ℕ) : Type 0 where
  index : ℕ
  mark : MarkRecord
  own : Task
  is_mark : slice_get ms index ≡ Some mark
  is_task : slice_get tasks index ≡ Some own.checked
  row : mark.row ≡ k
  is_call : IsCallOf cells mark own s

call_at : (cells : List FieldCell) (ms : List MarkRecord) (ts : List Task) (k : ℕ) (s : Registers ℕ) → CallsAt cells ms ts k s → CallAt cells ms (checked_of ts) k s
unfolding CallsAt
call_at cells [] ts k s none = absurd none
call_at cells (m ∷ ms) [] k s none = absurd none
call_at cells (m ∷ ms) (t ∷ ts) k s (inl is) = record { index = zero; mark = m; own = t; is_mark = refl; is_task = refl; row = is.0; is_call = is.1 }
call_at cells (m ∷ ms) (t ∷ ts) k s (inr later) =
    let h = call_at cells ms ts k s later in
    record { index = suc h.index; mark = h.mark; own = h.own; is_mark = h.is_mark; is_task = h.is_task; row = h.row; is_call = h.is_call }

first_above : (lo : ℕ) (ms : List MarkRecord) (ts : List Task) (i : ℕ) (mark : MarkRecord) → MarksRise lo ms ts → slice_get ms i ≡ Some mark → lo ≤ mark.row
unfolding MarksRise
first_above lo [] ts i mark rise is_mark = absurd (cc)
first_above lo (m ∷ ms) [] i mark rise is_mark = absurd rise
first_above lo (m ∷ ms) (t ∷ ts) zero mark rise is_mark =
    let e : m.row ≡ mark.row = ap (λ (x : MarkRecord). x.row) (some_is m mark is_mark) in
    let low = rise.0 in
    omega (arith, e, low)
first_above lo (m ∷ ms) (t ∷ ts) (suc i) mark rise is_mark =
    let low = rise.0 in
    let later = first_above (m.row + t.checked.pie.steps) ms ts i mark rise.1 is_mark in
    omega (arith, low, later)

later_above : (lo : ℕ) (ms : List MarkRecord) (ts : List Task) (i j : ℕ) (mark other : MarkRecord) (task : CheckedRecord) → MarksRise lo ms ts → i < j
    → slice_get ms i ≡ Some mark → slice_get (checked_of ts) i ≡ Some task → slice_get ms j ≡ Some other → mark.row + task.pie.steps ≤ other.row
unfolding MarksRise
later_above lo [] ts i j mark other task rise lt is_mark is_task is_other = absurd (cc)
later_above lo (m ∷ ms) [] i j mark other task rise lt is_mark is_task is_other = absurd rise
later_above lo (m ∷ ms) (t ∷ ts) i zero mark other task rise lt is_mark is_task is_other = absurd (omega (arith, lt))
later_above lo (m ∷ ms) (t ∷ ts) zero (suc j) mark other task rise lt is_mark is_task is_other =
    let e : m.row ≡ mark.row = ap (λ (x : MarkRecord). x.row) (some_is m mark is_mark) in
    let f : t.checked.pie.steps ≡ task.pie.steps = ap (λ (x : CheckedRecord). x.pie.steps) (some_is t.checked task is_task) in
    let above = first_above (m.row + t.checked.pie.steps) ms ts j other rise.1 is_other in
    omega (arith, e, f, above)
later_above lo (m ∷ ms) (t ∷ ts) (suc i) (suc j) mark other task rise lt is_mark is_task is_other =
    later_above (m.row + t.checked.pie.steps) ms ts i j mark other task rise.1 (omega (arith, lt)) is_mark is_task is_other

lies_at : (cert : CertRecord) (ms : List MarkRecord) (ts : List Task) → MarksLie cert ms ts → (i : ℕ) (mark : MarkRecord) (task : CheckedRecord) → slice_get ms i ≡ Some mark → slice_get (checked_of ts) i ≡ Some task
    → LiesInSpans cert mark task
unfolding MarksLie
lies_at cert [] ts all i mark task is_mark is_task = absurd (cc)
lies_at cert (m ∷ ms) [] all i mark task is_mark is_task = absurd (cc)
lies_at cert (m ∷ ms) (t ∷ ts) all zero mark task is_mark is_task =
    subst (λ (x : MarkRecord). LiesInSpans cert x task) (some_is m mark is_mark) (subst (LiesInSpans cert m) (some_is t.checked task is_task) (own all.0))
  where
    own : MarkLies cert m t → LiesInSpans cert m t.checked
    own h = record { each = each; whole = h.whole }
      where
        each : All (LiesInSpan cert m t.checked) (builtin_segments builtin_mask)
        each zero d lt = record { from = h.output_from; to = h.output_to }
        each (suc zero) d lt = record { from = h.range_from; to = h.range_to }
        each (suc (suc zero)) d lt = record { from = h.hash_from; to = h.hash_to }
        each (suc (suc (suc k))) d lt = absurd (omega (arith, lt))
lies_at cert (m ∷ ms) (t ∷ ts) all (suc i) mark task is_mark is_task = lies_at cert ms ts all.1 i mark task is_mark is_task

-- ---- rows

row_at : (P : ℕ → Registers ℕ → Type 0) (j : ℕ) (s : Registers ℕ) (rest : List (Registers ℕ)) (i : ℕ) (x : Registers ℕ) → EachRow P j s rest → slice_get (s ∷ rest) i ≡ Some x → i < length rest → P (j + i) x
unfolding EachRow
row_at P j s [] i x each is lt = absurd (omega (arith, lt))
row_at P j s (t ∷ ts) zero x each is lt = let e : j ≡ j + 0 = omega arith in subst (λ (k : ℕ). P k x) e (subst (P j) (some_is s x is) each.0)
row_at P j s (t ∷ ts) (suc i) x each is lt = let e : suc j + i ≡ j + suc i = omega arith in subst (λ (k : ℕ). P k x) e (row_at P (suc j) t ts i x each.1 is (omega (arith, lt)))

last_at : (s : Registers ℕ) (rest : List (Registers ℕ)) (x : Registers ℕ) → slice_get (s ∷ rest) (length rest) ≡ Some x → last_of s rest ≡ x
last_at s [] x is = some_is s x is
last_at s (t ∷ ts) x is = last_at t ts x is

site_is : (pc : ℕ) → IsCallSite pc → pc ≡ 105
site_is pc site = at site.1.0 site.1.1 site.1.2
  where
    at : (k : ℕ) → k < length boot_calls → slice_index_or boot_calls k (pc, site.0) ≡ (pc, site.0) → pc ≡ 105
    at zero lt is = sym (ap (λ (c : ℕ × ℕ). c.0) is)
    at (suc k) lt is = absurd (omega (arith, lt))

is_site : (pc : ℕ) → pc ≡ 105 → Contains boot_calls (pc, builtin_mask)
is_site pc e = (zero, lit< tt, ap (λ (x : ℕ). (x, builtin_mask)) (sym e))

module _ (cert : CertRecord) (ts : List Task) (order : RowsInOrder cert ts) where
  count : length cert.states ≡ suc (length order.rest)
  count = ap length order.begins

  state_there : (row : ℕ) (s : Registers ℕ) → IsState cert.states row s → slice_get (order.first ∷ order.rest) row ≡ Some s
  state_there row s is = subst (λ (xs : List (Registers ℕ)). slice_get xs row ≡ Some s) order.begins is

  -- a row is in order, or it is the last
  abbrev Which : ℕ → Registers ℕ → Type 0
  Which row s = ((row < length order.rest) × RowInOrder cert.cells cert.tasks ts row s) ⊎ ((row ≡ length order.rest) × (s.pc ≡ boot_end))

  which : (row : ℕ) (s : Registers ℕ) → IsState cert.states row s → Which row s
  which row s is =
      let there = state_there row s is in
      let low = slice_get_within (order.first ∷ order.rest) row s there in
      elim (cases_lt row (length order.rest)) [
        | inl lt ↦ inl (lt, in_row lt there)
        | inr far ↦ inr (same low far, ends low far there)
      ]
    where
      in_row : row < length order.rest → slice_get (order.first ∷ order.rest) row ≡ Some s → RowInOrder cert.cells cert.tasks ts row s
      in_row lt there =
          let e : 0 + row ≡ row = omega arith in
          subst (λ (k : ℕ). RowInOrder cert.cells cert.tasks ts k s) e (row_at (RowInOrder cert.cells cert.tasks ts) 0 order.first order.rest row s order.rows there lt)

      same : row < length (order.first ∷ order.rest) → length order.rest ≤ row → row ≡ length order.rest
      same low far = omega (arith, low, far)

      ends : row < length (order.first ∷ order.rest) → length order.rest ≤ row → slice_get (order.first ∷ order.rest) row ≡ Some s → s.pc ≡ boot_end
      ends low far there =
          let e = last_at order.first order.rest s (subst (λ (k : ℕ). slice_get (order.first ∷ order.rest) k ≡ Some s) (same low far) there) in
          ap (λ (x : Registers ℕ). x.pc) (sym e) ∙ order.last_at_end

  to_index : (row : ℕ) → Inside cert.tasks ts row → IsInside cert (checked_of ts) row
  to_index row inside =
      let h = inside_at cert.tasks ts row inside in
      (h.index, record { mark = h.mark; task = h.task; is_mark = h.is_mark; is_task = h.is_task; from = h.from; below = h.below })

  from_index : (row : ℕ) → IsInside cert (checked_of ts) row → Inside cert.tasks ts row
  from_index row inside = let h = inside.1 in inside_from cert.tasks ts row inside.0 h.mark h.task h.is_mark h.is_task h.from h.below

  not_listed : (row : ℕ) → IsOutside cert (checked_of ts) row → Inside cert.tasks ts row → ⊥
  not_listed row out inside = out (to_index row inside)

  in_boot : (row : ℕ) (s : Registers ℕ) → Which row s → ((entry_pc ≤ s.pc) × (s.pc ≤ boot_end)) ↔ IsOutside cert (checked_of ts) row
  in_boot row s (inl h) = ((λ low inside. let high = h.1.inside (from_index row inside) in let top = low.1 in absurd (omega (arith, high, top))), within)
    where
      within : IsOutside cert (checked_of ts) row → (entry_pc ≤ s.pc) × (s.pc ≤ boot_end)
      within out = let o = h.1.outside (not_listed row out) in let high = o.1 in (o.0, omega (arith, high))
  in_boot row s (inr last) = (
    (λ low inside. order.last_outside (subst (Inside cert.tasks ts) last.0 (from_index row inside))),
    (λ out. let e = last.1 in (omega (arith, e), omega (arith, e))),
  )

  at_end : (row : ℕ) (s : Registers ℕ) → Which row s → IsOutside cert (checked_of ts) row → (s.pc ≡ boot_end) ↔ (row + 1 ≡ length cert.states)
  at_end row s (inl h) out =
      let o = (h.1.outside (not_listed row out)).1 in
      let lt = h.0 in
      let n = count in
      ((λ e. absurd (omega (arith, e, o))), (λ e. absurd (omega (arith, e, n, lt))))
  at_end row s (inr last) out = let n = count in let e = last.0 in ((λ is. omega (arith, n, e)), (λ is. last.1))

  calls : (row : ℕ) (s : Registers ℕ) → Which row s → IsOutside cert (checked_of ts) row → IsCallSite s.pc → CallsNext cert (checked_of ts) row s
  calls row s (inl h) out site =
      let at = site_is s.pc site in
      let c = call_at cert.cells cert.tasks ts (suc row) s (h.1.site (not_listed row out) at) in
      let e = c.row in
      record {
        index = c.index;
        mark = c.mark;
        task = c.own.checked;
        is_mark = c.is_mark;
        is_task = c.is_task;
        begins_next = omega (arith, e);
        calls = record { with_its_builtins = is_site s.pc at; program = c.is_call.program; main = c.is_call.main; code_length = c.is_call.length_is };
      }
  calls row s (inr last) out site = let at = site_is s.pc site in let e = last.1 in absurd (omega (arith, at, e))

  called : (row i : ℕ) (s : Registers ℕ) (mark : MarkRecord) → Which row s → IsMarkOf cert i mark → mark.row ≡ row + 1 → IsCallSite s.pc
  called row i s mark (inl h) is_mark row_is = (builtin_mask, is_site s.pc (h.1.mark (mark_from cert.tasks i (suc row) mark is_mark (omega (arith, row_is)))).1)
  called row i s mark (inr last) is_mark row_is =
      let e = last.0 in
      absurd (order.no_mark_after (mark_from cert.tasks i (suc (length order.rest)) mark is_mark (omega (arith, row_is, e))))

  pub in_order : InOrder cert (checked_of ts)
  in_order = record {
    after_first = λ i mark is_mark. first_above 1 cert.tasks ts i mark order.rise is_mark;
    after_others = λ i j row mark lt inside is_mark. after i j row mark lt inside is_mark;
    in_boot = λ row s is. in_boot row s (which row s is);
    at_end = λ row s is out. at_end row s (which row s is) out;
    calls = λ row s is out site. calls row s (which row s is) out site;
    called = λ row i s mark is out is_mark row_is. called row i s mark (which row s is) is_mark row_is;
    spans = λ i mark task is_mark is_task. lies_at cert cert.tasks ts order.spans i mark task is_mark is_task;
  }
    where
      after : (i j row : ℕ) (mark : MarkRecord) → i < j → IsInsideTask cert (checked_of ts) i row → IsMarkOf cert j mark → row < mark.row
      after i j row mark lt inside is_mark =
          let above = later_above 1 cert.tasks ts i j inside.mark mark inside.task order.rise lt inside.is_mark inside.is_task is_mark in
          let below = inside.below in
          omega (arith, above, below)
