-- A client's lines at a shared desk, each by the turns of its pass.
use Rattle.std.proofs.Common.{◌≡◌, ℕ, ◌==◌, List, [], ◌∷◌, ◌++◌, map, refl, sym, ap, ◌∙◌, subst}
use Rattle.std.proofs.lemmas.List.{append-nil, append_assoc, map-append}
use Rattle.std.proofs.lemmas.List.Elements.{filter-append}
use Rattle.cairo_model.specs.Pie.Acceptance.{FactRecord}
use Rattle.desk_core.specs.Journals.{no_pie}
use Rattle.desk_core.specs.Turns.{entry_of, offer_note, pie_of}
use Rattle.desk_core.specs.declared.entry.FullEntry.{FullEntry}
use Rattle.desk_core.specs.declared.event.Event.TheVariants as event
use Rattle.desk_core.specs.declared.offer.Offer.{Offer}
use Rattle.desk_core.specs.declared.reply.Reply.{Reply}
use Rattle.desk_script.specs.Lines.{ScriptLine, asks, asks_status, submits}
use Rattle.script_runner.specs.Lines.{DoesLines, client_lines, line_client}
use Rattle.script_server.specs.Working.PassLines.{PassDoesLine, PassDoesLines}
use Rattle.session_desk.specs.Offers.{OffersBytes}
use Rattle.session_desk.specs.SeenDesks.{IsIdlePass}
use Rattle.session_desk.specs.Sessions.{HasOneMore, with_pass}
use Rattle.turn_lock.specs.Passes.{Token}
use Rattle.batch_workers.proofs.PassEvents.{hand_step}

-- ---- a line

pub did_submit : (client : ℕ) (bytes : List ℕ) (o : Offer) (old new : Token FullEntry) (r : Reply) → OffersBytes bytes o → client ≡ old.number
    → HasOneMore (event.Submit client (offer_note o)) (pie_of o) old new r → IsIdlePass old → PassDoesLine (submits client bytes) old new
did_submit client bytes o old new r of_bytes own one idle = record {
  more = entry_of old.number (event.Submit client (offer_note o)) (pie_of o) r ∷ [];
  mine = one;
  does = record {
    one = entry_of old.number (event.Submit client (offer_note o)) (pie_of o) r;
    are = refl;
    of_line = record { offer = o; of_bytes = of_bytes; entry = ap (λ (n : ℕ). entry_of n (event.Submit client (offer_note o)) (pie_of o) r) (sym own) };
  };
  idle = λ k. hand_step old new (event.Submit client (offer_note o)) (pie_of o) r one k ∙ idle k;
}

pub did_ask : (client : ℕ) (fact : FactRecord) (old new : Token FullEntry) (r : Reply) → client ≡ old.number → HasOneMore (event.Ask client fact) no_pie old new r → IsIdlePass old → PassDoesLine (asks client fact) old new
did_ask client fact old new r own one idle = record {
  more = entry_of old.number (event.Ask client fact) no_pie r ∷ [];
  mine = one;
  does = record { one = entry_of old.number (event.Ask client fact) no_pie r; are = refl; of_line = record { own = sym own; event = refl } };
  idle = λ k. hand_step old new (event.Ask client fact) no_pie r one k ∙ idle k;
}

pub did_status : (client number : ℕ) (old new : Token FullEntry) (r : Reply) → client ≡ old.number → HasOneMore (event.Status client number) no_pie old new r → IsIdlePass old → PassDoesLine (asks_status client number) old new
did_status client number old new r own one idle = record {
  more = entry_of old.number (event.Status client number) no_pie r ∷ [];
  mine = one;
  does = record { one = entry_of old.number (event.Status client number) no_pie r; are = refl; of_line = record { own = sym own; event = refl } };
  idle = λ k. hand_step old new (event.Status client number) no_pie r one k ∙ idle k;
}

-- ---- lines one after another

pub no_lines : (p : Token FullEntry) → IsIdlePass p → PassDoesLines [] p p
no_lines p idle = record { more = []; mine = sym (append-nil p.mine); does = refl; idle = idle }

more_lines : (ls ks : List ScriptLine) (xs ys : List FullEntry) → DoesLines ls xs → DoesLines ks ys → DoesLines (ls ++ ks) (xs ++ ys)
more_lines [] ks xs ys d e = subst (λ (es : List FullEntry). DoesLines ks (es ++ ys)) (sym d) e
more_lines (l ∷ ls) ks xs ys d e = (d.0, d.1 ++ ys, ap (λ (es : List FullEntry). es ++ ys) d.2 ∙ append_assoc d.0 d.1 ys, d.3, more_lines ls ks d.1 ys d.4 e)

pub lines_then : (ls ks : List ScriptLine) (a b c : Token FullEntry) → PassDoesLines ls a b → PassDoesLines ks b c → PassDoesLines (ls ++ ks) a c
lines_then ls ks a b c x y = record {
  more = x.more ++ y.more;
  mine = y.mine
      ∙ (ap (λ (m : List (ℕ × FullEntry)). m ++ map with_pass y.more) x.mine
      ∙ (append_assoc a.mine (map with_pass x.more) (map with_pass y.more) ∙ ap (λ (m : List (ℕ × FullEntry)). a.mine ++ m) (sym (map-append with_pass x.more y.more))));
  does = more_lines ls ks x.more y.more x.does y.does;
  idle = y.idle;
}

-- ---- those of one client alone

pub next_line : (n : ℕ) (ls : List ScriptLine) (line : ScriptLine) (a b c : Token FullEntry) → PassDoesLines (client_lines n ls) a b → PassDoesLines (client_lines n (line ∷ [])) b c → PassDoesLines (client_lines n (ls ++ line ∷ [])) a c
next_line n ls line a b c x y = subst (λ (ks : List ScriptLine). PassDoesLines ks a c) (sym (filter-append (λ l. line_client l == n) ls (line ∷ []))) (lines_then (client_lines n ls) (client_lines n (line ∷ [])) a b c x y)
