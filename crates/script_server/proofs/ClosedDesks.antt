-- A desk whose journal has a close is closed.
use Rattle.std.proofs.Common.{◌≡◌, ℕ, ◌==◌, Bool, true, false, cond, List, [], ◌∷◌, ◌++◌, length, map, refl, sym, ap, ◌∙◌}
use Rattle.std.specs.Prelude.{Option, Some, None}
use Rattle.cairo_model.specs.Pie.Records.{PieRecord}
use Rattle.desk_core.specs.DeskRecords.{DeskRecord, journal_of}
use Rattle.desk_core.specs.Desks.{PlainDesk, empty_desk, first_sealed, is_taken_by, phase_at, waiting_jobs}
use Rattle.desk_core.specs.GoodDesks.{IsGoodDesk}
use Rattle.desk_core.specs.Journals.{Move, after_move, move_of, played}
use Rattle.desk_core.specs.Next.{after_event, after_give_back, after_register, after_take, next_batch, submit_reply, with_job}
use Rattle.desk_core.specs.Quotas.{is_admitted}
use Rattle.desk_core.specs.declared.entry.FullEntry.{FullEntry}
use Rattle.desk_core.specs.declared.event.Event.{Event}
use Rattle.desk_core.specs.declared.event.Event.TheVariants as event

-- ---- each event leaves a closed desk closed

either_closed : (b : Bool) (x y : PlainDesk) → x.closed ≡ true → y.closed ≡ true → (cond b x y).closed ≡ true
either_closed true x y p q = p
either_closed false x y p q = q

take_closed : (d : PlainDesk) (pass : ℕ) (o : Option ℕ) → d.closed ≡ true → (after_take d pass o).closed ≡ true
take_closed d pass None is = is
take_closed d pass (Some b) is = is

register_closed : (d : PlainDesk) (b : ℕ) (o : Option ℕ) → d.closed ≡ true → (after_register d b o).closed ≡ true
register_closed d b None is = is
register_closed d b (Some i) is = is

still_closed : (d : PlainDesk) (pass : ℕ) (what : Event) (pie : PieRecord) → d.closed ≡ true → (after_event d pass what pie).closed ≡ true
unfolding after_event
still_closed d pass (event.Submit client n) pie is = either_closed (is_admitted (submit_reply d client n)) (with_job d client pie) d is is
still_closed d pass event.Seal pie is = either_closed (length (waiting_jobs d) == 0) d (record d { batches = d.batches ++ next_batch d ∷ [] }) is is
still_closed d pass event.Take pie is = take_closed d pass (first_sealed d) is
still_closed d pass (event.Register b differs) pie is = either_closed (is_taken_by pass (phase_at d b)) (after_register d b differs) d (register_closed d b differs is) is
still_closed d pass (event.GiveBack b) pie is = either_closed (is_taken_by pass (phase_at d b)) (after_give_back d b) d is is
still_closed d pass (event.Ask client fact) pie is = is
still_closed d pass (event.Status client number) pie is = is
still_closed d pass event.Close pie is = refl

all_closed : (d : PlainDesk) (ms : List Move) → d.closed ≡ true → (played d ms).closed ≡ true
all_closed d [] is = is
all_closed d (m ∷ ms) is = all_closed (after_move d m) ms (still_closed d m.pass m.event m.pie is)

-- ---- a close

closes : (d : PlainDesk) (pass : ℕ) (what : Event) (pie : PieRecord) → what ≡ event.Close → (after_event d pass what pie).closed ≡ true
unfolding after_event
closes d pass what pie is = ap (λ (x : Event). (after_event d pass x pie).closed) is

closed_from : (d : PlainDesk) (front back : List FullEntry) (k : FullEntry) → k.entry.event ≡ event.Close → (played d (map move_of (front ++ k ∷ back))).closed ≡ true
closed_from d [] back k is = all_closed (after_move d (move_of k)) (map move_of back) (closes d k.entry.pass k.entry.event (move_of k).pie is)
closed_from d (e ∷ front) back k is = closed_from (after_move d (move_of e)) front back k is

pub desk_closed : (d : DeskRecord) → IsGoodDesk d → (front back : List FullEntry) (k : FullEntry) → journal_of d ≡ front ++ k ∷ back → k.entry.event ≡ event.Close → d.closed ≡ true
desk_closed d good front back k is closing =
    ap (λ (x : PlainDesk). x.closed) (sym good.legal.ends)
    ∙ (ap (λ (es : List FullEntry). (played (empty_desk d.clients) (map move_of es)).closed) is ∙ closed_from (empty_desk d.clients) front back k closing)
