-- The caller's pass closes: its turns without an answer, and the one with it.
use Rattle.std.proofs.Common.{◌≡◌, ℕ, List, ◌++◌, refl, sym, ap, ◌∙◌, subst, append_assoc}
use Rattle.std.specs.Prelude.{Result, Ok, Err}
use Rattle.std.specs.declared.alloc.AllocError.{AllocError}
use Rattle.desk_core.specs.DeskRecords.{plain_of}
use Rattle.desk_core.specs.Desks.{PlainDesk}
use Rattle.desk_core.specs.Journals.{no_pie}
use Rattle.desk_core.specs.Next.{reply_to}
use Rattle.desk_core.specs.declared.entry.FullEntry.{FullEntry}
use Rattle.desk_core.specs.declared.event.Event.{Event}
use Rattle.desk_core.specs.declared.event.Event.TheVariants as event
use Rattle.desk_core.specs.declared.reply.Reply.{Reply}
use Rattle.desk_core.specs.declared.reply.Reply.TheVariants as reply
use Rattle.cairo_model.specs.Pie.Records.{PieRecord}
use Rattle.script_server.specs.Working.Closing.{PassCloses, SeesOn}
use Rattle.script_server.specs.Working.PassLines.{IsSamePass}
use Rattle.session_desk.specs.PassTurns.{EventTurn}
use Rattle.session_desk.specs.Sessions.{passed_journal}
use Rattle.turn_lock.specs.Journals.{IsPrefix}
use Rattle.turn_lock.specs.Passes.{Token}
use Rattle.turn_lock.proofs.Logs.{prefix_itself}

-- ---- beginnings

pub prefix_then : (xs ys zs : List (ℕ × FullEntry)) → IsPrefix xs ys → IsPrefix ys zs → IsPrefix xs zs
prefix_then xs ys zs p q = (p.0 ++ q.0, q.1 ∙ (ap (λ (l : List (ℕ × FullEntry)). l ++ q.0) p.1 ∙ append_assoc xs p.0 q.0))

-- ---- the same pass

pub same_itself : (p : Token FullEntry) → IsSamePass p p
same_itself p = record { lock = refl; number = refl; width = refl }

pub same_then : (a b c : Token FullEntry) → IsSamePass a b → IsSamePass b c → IsSamePass a c
same_then a b c x y = record { lock = y.lock ∙ x.lock; number = y.number ∙ x.number; width = y.width ∙ x.width }

pub sees_itself : (p : Token FullEntry) → SeesOn p p
sees_itself p = record { same = same_itself p; mine = refl; seen = prefix_itself p.seen }

pub sees_then : (a b c : Token FullEntry) → SeesOn a b → SeesOn b c → SeesOn a c
sees_then a b c x y = record { same = same_then a b c x.same y.same; mine = y.mine ∙ x.mine; seen = prefix_then a.seen b.seen c.seen x.seen y.seen }

pub same_by_turn : (e : Event) (pie : PieRecord) (old new : Token FullEntry) (answer : Result Reply AllocError) → EventTurn e pie old new answer → IsSamePass old new
same_by_turn e pie old new answer t = record { lock = t.turn.same.0; number = t.turn.same.1; width = t.turn.same.2 }

pub sees_by_turn : (e : Event) (pie : PieRecord) (old new : Token FullEntry) (answer : Result Reply AllocError) → EventTurn e pie old new answer → IsPrefix old.seen new.seen
sees_by_turn e pie old new answer t =
    subst (IsPrefix old.seen) (sym t.turn.sees)
    (prefix_then old.seen (passed_journal t.before) (passed_journal t.after) t.turn.has_seen (t.turn.added, t.turn.grows))

-- ---- a turn that found no memory

pub waited : (old mid new : Token FullEntry) (x : AllocError) → SeesOn old mid → EventTurn event.Close no_pie mid new (Err x) → new.mine ≡ mid.mine → SeesOn old new
waited old mid new x s t mine = sees_then old mid new s (record { same = same_by_turn event.Close no_pie mid new (Err x) t; mine = mine; seen = sees_by_turn event.Close no_pie mid new (Err x) t })

-- ---- the turn that was answered

closing_reply : (d : PlainDesk) (pass : ℕ) → reply_to d pass event.Close ≡ reply.Closed
unfolding reply_to
closing_reply d pass = refl

pub answered : (old mid new : Token FullEntry) (r : Reply) → SeesOn old mid → EventTurn event.Close no_pie mid new (Ok r) → PassCloses old new
answered old mid new r s t = record {
  before = mid;
  waited = s;
  closing = subst (λ (x : Reply). EventTurn event.Close no_pie mid new (Ok x)) (t.done.replies ∙ closing_reply (plain_of t.before) mid.number) t;
}
