-- A turn at the lock is a turn of a pass at the desk.
use Rattle.std.proofs.Common.{ℕ, ap}
use Rattle.desk_core.specs.declared.entry.FullEntry.{FullEntry}
use Rattle.session_desk.specs.PassTurns.{PassTurn, StillGood}
use Rattle.session_desk.specs.Sessions.{passed_journal}
use Rattle.session_desk.specs.declared.held.Held.{Held}
use Rattle.turn_lock.specs.Passes.{Token, Turned}

pub pass_turn : {C A : Type 0} (does : C → ℕ → Held → Held → A → Type 0) (change : C) (old new : Token FullEntry) (answer : A) (t : Turned (λ (h : Held). passed_journal h.desk) (λ (h : Held). h.desk.clients) does change old new answer)
    → StillGood t.before.desk t.after.desk → PassTurn old new t.before.desk t.after.desk
pass_turn does change old new answer t good = record {
  good_before = good.0;
  good_after = good.1;
  width_is = t.width_is;
  has_seen = t.has_seen;
  has_mine = t.has_mine;
  added = t.added;
  grows = t.grows;
  one = t.one;
  mine_is = ap (λ (p : Token FullEntry). p.mine) t.becomes;
  sees = ap (λ (p : Token FullEntry). p.seen) t.becomes;
  same = (ap (λ (p : Token FullEntry). p.lock) t.becomes, ap (λ (p : Token FullEntry). p.number) t.becomes, ap (λ (p : Token FullEntry). p.width) t.becomes);
}
