-- A legal journal stays legal when what Next gives is added.
use Rattle.std.proofs.Common.{◌≡◌, ℕ, Bool, true, false, cond, List, [], ◌∷◌, ◌++◌, map, refl, sym, ap, subst, ◌∙◌, length, ◌==◌}
use Rattle.std.specs.Prelude.{Option, Some, None}
use Rattle.cairo_model.specs.Pie.Records.{PieRecord}
use Rattle.desk_core.specs.Desks.{PlainDesk, empty_desk, first_sealed, waiting_jobs, phase_at, is_taken_by}
use Rattle.desk_core.specs.Journals.{move_of, after_move, played, AllFollow, Follows, LegalIsKept}
use Rattle.desk_core.specs.Quotas.{is_admitted}
use Rattle.desk_core.specs.Next.{after_event, submit_reply, with_job, after_take, after_register, after_give_back}
use Rattle.desk_core.specs.declared.entry.FullEntry.{FullEntry}
use Rattle.desk_core.specs.declared.event.Event.{Event}
use Rattle.desk_core.specs.declared.event.Event.TheVariants as event

played_more : (d : PlainDesk) (es : List FullEntry) (e : FullEntry) → played d (map move_of (es ++ e ∷ [])) ≡ after_move (played d (map move_of es)) (move_of e)
played_more d [] e = refl
played_more d (x ∷ es) e = played_more (after_move d (move_of x)) es e

follow_more : (d : PlainDesk) (es : List FullEntry) (e : FullEntry) → AllFollow d es → Follows (played d (map move_of es)) e → AllFollow d (es ++ e ∷ [])
follow_more d [] e all new = (new, tt)
follow_more d (x ∷ es) e all new = (all.0, follow_more (after_move d (move_of x)) es e all.1 new)

either_way : {X Y : Type 0} (f : X → Y) (b : Bool) (x y : X) (z : Y) → f x ≡ z → f y ≡ z → f (cond b x y) ≡ z
either_way f true x y z p q = p
either_way f false x y z p q = q

taken_keeps : (d : PlainDesk) (pass : ℕ) (o : Option ℕ) → (after_take d pass o).clients ≡ d.clients
taken_keeps d pass None = refl
taken_keeps d pass (Some b) = refl

registers_keeps : (d : PlainDesk) (b : ℕ) (o : Option ℕ) → (after_register d b o).clients ≡ d.clients
registers_keeps d b None = refl
registers_keeps d b (Some i) = refl

pub same_clients : (d : PlainDesk) (pass : ℕ) (e : Event) (pie : PieRecord) → (after_event d pass e pie).clients ≡ d.clients
unfolding after_event
same_clients d pass (event.Submit client n) pie = either_way (λ (x : PlainDesk). x.clients) (is_admitted (submit_reply d client n)) (with_job d client pie) d d.clients refl refl
same_clients d pass event.Seal pie = either_way (λ (x : PlainDesk). x.clients) (length (waiting_jobs d) == 0) _ _ d.clients refl refl
same_clients d pass event.Take pie = taken_keeps d pass (first_sealed d)
same_clients d pass (event.Register b differs) pie = either_way (λ (x : PlainDesk). x.clients) (is_taken_by pass (phase_at d b)) (after_register d b differs) d d.clients (registers_keeps d b differs) refl
same_clients d pass (event.GiveBack b) pie = either_way (λ (x : PlainDesk). x.clients) (is_taken_by pass (phase_at d b)) (after_give_back d b) d d.clients refl refl
same_clients d pass (event.Ask client fact) pie = refl
same_clients d pass (event.Status client number) pie = refl
same_clients d pass event.Close pie = refl

pub legal_is_kept : LegalIsKept
legal_is_kept journal d e legal new =
    let clients : (after_move d (move_of e)).clients ≡ d.clients = same_clients d e.entry.pass e.entry.event (move_of e).pie in
    let follow = follow_more (empty_desk d.clients) journal e legal.follow (subst (λ (x : PlainDesk). Follows x e) (sym legal.ends) new) in
    let ends : played (empty_desk d.clients) (map move_of (journal ++ e ∷ [])) ≡ after_move d (move_of e) = played_more (empty_desk d.clients) journal e ∙ ap (λ (x : PlainDesk). after_move x (move_of e)) legal.ends in
    record {
      some_clients = rw clients legal.some_clients;
      few_clients = rw clients legal.few_clients;
      follow = subst (λ (n : ℕ). AllFollow (empty_desk n) (journal ++ e ∷ [])) (sym clients) follow;
      ends = ap (λ (n : ℕ). played (empty_desk n) (map move_of (journal ++ e ∷ []))) clients ∙ ends;
    }
