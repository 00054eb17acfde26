-- A whole run: the lines in turn, the close, and the end.
use Rattle.std.proofs.Common.{◌≡◌, ℕ, ◌<◌, true, List, [], ◌∷◌, ◌++◌, refl, ap, ◌∙◌, append_assoc}
use Rattle.std.specs.Prelude.{All}
use Rattle.std.proofs.lemmas.List.Elements.{All-cons, All-weaker}
use Rattle.batch_workers.specs.Works.{IsWorkOf}
use Rattle.cairo_model.specs.Pie.Records.{PieRecord}
use Rattle.desk_core.proofs.Turns.{journal_isolated}
use Rattle.desk_core.specs.DeskRecords.{DeskRecord, journal_of, plain_of}
use Rattle.desk_core.specs.Desks.{PlainDesk, empty_desk}
use Rattle.desk_core.specs.GoodDesks.{IsGoodDesk}
use Rattle.desk_core.specs.Journals.{no_pie}
use Rattle.desk_core.specs.Next.{after_event, reply_to}
use Rattle.desk_core.specs.Turns.{IsTurn, entry_of}
use Rattle.desk_core.specs.declared.entry.FullEntry.{FullEntry}
use Rattle.desk_core.specs.declared.event.Event.TheVariants as event
use Rattle.desk_core.specs.declared.reply.Reply.{Reply}
use Rattle.desk_core.specs.declared.reply.Reply.TheVariants as reply
use Rattle.desk_script.specs.Lines.{ScriptLine}
use Rattle.script_runner.specs.Lines.{line_client}
use Rattle.script_runner.specs.Runs.{RunsScript}
use Rattle.script_runner.specs.Working.Doing.{DidLines, Settled}
use Rattle.script_runner.proofs.InTurn.{in_lines}
use Rattle.script_runner.proofs.LineEntries.{IsNoRequest, IsUnder, works_request_none}
use Rattle.script_runner.proofs.OwnReplies.{by_itself}
use Rattle.script_runner.proofs.OwnTexts.{own_texts}
use Rattle.script_runner.proofs.ServedLines.{client_entries, in_order, serves_lines}

closing_reply : (d : PlainDesk) (pass : ℕ) → reply_to d pass event.Close ≡ reply.Closed
unfolding reply_to
closing_reply d pass = refl

closed_after : (d : PlainDesk) (pass : ℕ) (pie : PieRecord) → (after_event d pass event.Close pie).closed ≡ true
unfolding after_event
closed_after d pass pie = refl

pub whole_run : (clients : ℕ) (ls : List ScriptLine) (old mid new : DeskRecord) (r : Reply) → All (λ l. line_client l < clients) ls → DidLines clients ls old → IsTurn old mid clients event.Close no_pie r
    → Settled clients mid new → IsGoodDesk new → RunsScript clients ls new
whole_run clients ls old mid new r few did turn s good =
    let k : FullEntry = entry_of clients event.Close no_pie reply.Closed in
    let es = journal_of old in
    let is : journal_of new ≡ es ++ k ∷ s.more =
    s.journal
    ∙ (ap (λ (xs : List FullEntry). xs ++ s.more) (turn.journal ∙ ap (λ (x : Reply). es ++ entry_of clients event.Close no_pie x ∷ []) (turn.replies ∙ closing_reply (plain_of old) clients))
    ∙ append_assoc es (k ∷ []) s.more) in
    let under : All (IsUnder clients) (k ∷ s.more) = All-cons (IsUnder clients) k s.more refl (All-weaker (IsWorkOf clients) (IsUnder clients) (λ e w. w.own) s.more s.settles.works) in
    let none : All IsNoRequest (k ∷ s.more) = All-cons IsNoRequest k s.more refl (works_request_none clients s.more s.settles.works) in
    let done = in_lines (empty_desk clients) ls es did.in_turn in
    record {
      serves = record {
        count = s.clients ∙ (turn.clients ∙ did.count);
        closed = s.closed ∙ (ap (λ (d : PlainDesk). d.closed) turn.becomes ∙ closed_after (plain_of old) clients no_pie);
        served = serves_lines clients ls es (k ∷ s.more) (journal_of new) is under none few done;
        registered = s.registered;
        isolated = λ c small. by_itself c ls es s.more (journal_of new) k is refl (journal_isolated new good) done (client_entries clients ls es (k ∷ s.more) (journal_of new) is under none c small);
        texts = λ c small. own_texts c clients ls es s.more new k is refl good done s.settles.works;
      };
      by_lines = es;
      at_end = s.more;
      journal = is;
      in_turn = did.in_turn;
      settles = s.settles;
      in_order = in_order clients ls es (k ∷ s.more) (journal_of new) is under none done;
    }
