-- From lines done in turn, and an end that is no client's, to what each client's pass did.
use Rattle.std.proofs.Common.{◌≡◌, ℕ, ◌<◌, ◌==◌, true, false, List, [], ◌∷◌, ◌++◌, sym, ap, ◌∙◌, subst, arith}
use Rattle.std.specs.List.{AllZip}
use Rattle.std.specs.Prelude.{All, filter}
use Rattle.std.proofs.lemmas.List.{append-nil}
use Rattle.std.proofs.lemmas.List.Elements.{All-append, All-head, All-nil, All-same, All-tail, All-weaker, filter-append}
use Rattle.desk_core.specs.declared.entry.FullEntry.{FullEntry}
use Rattle.desk_script.specs.Lines.{ScriptLine}
use Rattle.script_runner.specs.Lines.{DoesLines, IsEntryOf, client_lines, entries_under, is_request, is_request_line, line_client, requests_in}
use Rattle.script_runner.specs.Serving.{ServesLines}
use Rattle.script_runner.proofs.LineEntries.{IsNoRequest, IsUnder, each_client, exactly_requests, line_under, no_requests, under_other}

abbrev pub IsRequestBelow : ℕ → FullEntry → Type 0
IsRequestBelow clients e = is_request e.entry.event ≡ true → e.entry.pass < clients

requests_below : (clients : ℕ) (ls : List ScriptLine) (es : List FullEntry) → All (λ l. line_client l < clients) ls → DoesLines ls es → All (IsRequestBelow clients) es
requests_below clients [] es few done = All-same (IsRequestBelow clients) es [] done (All-nil (IsRequestBelow clients))
requests_below clients (l ∷ ls) es few (front, rest, is, this, those) =
    let small : line_client l < clients = All-head (λ (k : ScriptLine). line_client k < clients) l ls few in
    All-same (IsRequestBelow clients) es (front ++ rest) is
    (All-append (IsRequestBelow clients) front rest
    (All-weaker (IsUnder (line_client l)) (IsRequestBelow clients) (λ e its requested. subst (λ (n : ℕ). n < clients) (sym its) small) front (line_under l front this))
    (requests_below clients ls rest (All-tail (λ (k : ScriptLine). line_client k < clients) l ls few) those))

module _ (clients : ℕ) (ls : List ScriptLine) (es end journal : List FullEntry) (is : journal ≡ es ++ end) (under : All (IsUnder clients) end) (none : All IsNoRequest end) where
  -- at the end no client does anything
  pub client_entries : (c : ℕ) → c < clients → entries_under c journal ≡ entries_under c es
  client_entries c small =
      ap (entries_under c) is
      ∙ (filter-append (λ (e : FullEntry). e.entry.pass == c) es end
      ∙ (ap (λ (xs : List FullEntry). entries_under c es ++ xs) (under_other c clients end (λ same. omega (arith, small, same)) under) ∙ append-nil (entries_under c es)))

  all_requests : requests_in journal ≡ requests_in es
  all_requests =
      ap requests_in is
      ∙ (filter-append (λ (e : FullEntry). is_request e.entry.event) es end
      ∙ (ap (λ (xs : List FullEntry). requests_in es ++ xs) (no_requests end none) ∙ append-nil (requests_in es)))

  asks_none : (e : FullEntry) → IsNoRequest e → IsRequestBelow clients e
  asks_none e quiet requested = absurd (let t : true ≡ false = sym requested ∙ quiet in cc)

  pub serves_lines : All (λ l. line_client l < clients) ls → DoesLines ls es → ServesLines clients ls journal
  serves_lines few done = record {
    each = λ c small. subst (DoesLines (client_lines c ls)) (sym (client_entries c small)) (each_client c ls es done);
    exactly = λ c small. subst (λ (xs : List FullEntry). AllZip IsEntryOf (filter is_request_line (client_lines c ls)) (requests_in xs)) (sym (client_entries c small))
        (exactly_requests (client_lines c ls) (entries_under c es) (each_client c ls es done));
    others = All-same (IsRequestBelow clients) journal (es ++ end) is
        (All-append (IsRequestBelow clients) es end (requests_below clients ls es few done) (All-weaker IsNoRequest (IsRequestBelow clients) asks_none end none));
  }

  pub in_order : DoesLines ls es → AllZip IsEntryOf (filter is_request_line ls) (requests_in journal)
  in_order done = subst (AllZip IsEntryOf (filter is_request_line ls)) (sym all_requests) (exactly_requests ls es done)
