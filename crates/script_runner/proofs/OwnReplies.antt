-- What a client hands in before the close, and the replies to it, are those of its own lines.
use Rattle.std.proofs.Common.{◌≡◌, ℕ, ◌==◌, Bool, true, false, cond, List, [], ◌∷◌, ◌++◌, map, refl, sym, ap, ◌∙◌, subst}
use Rattle.std.specs.List.{cons_option}
use Rattle.std.specs.Prelude.{All, Option, Some, None, filter_map, option_map}
use Rattle.std.proofs.lemmas.List.Elements.{All-append, All-cons, All-head, All-nil, All-same, All-tail, All-weaker, filter_map-append}
use Rattle.batch_workers.specs.Works.{IsWorkOf, is_work}
use Rattle.desk_core.specs.Isolation.{IsIsolated, answered_of, is_close, offered_by, offers_of, replies_of}
use Rattle.desk_core.specs.Quotas.{own_verdict}
use Rattle.desk_core.specs.Turns.{offer_note}
use Rattle.desk_core.specs.declared.entry.FullEntry.{FullEntry}
use Rattle.desk_core.specs.declared.event.Event.{Event}
use Rattle.desk_core.specs.declared.event.Event.TheVariants as event
use Rattle.desk_core.specs.declared.event.OfferNote.{OfferNote}
use Rattle.desk_core.specs.declared.reply.Reply.{Reply}
use Rattle.desk_script.specs.Lines.{ScriptLine, asks, asks_status, settles, submits}
use Rattle.script_runner.specs.Lines.{DoesLine, DoesLines, client_lines, entries_under}
use Rattle.script_runner.specs.Serving.{AreNotesOf, RepliesByItself, handed_note, handed_replies}
use Rattle.script_runner.proofs.LineEntries.{each_client, if_true}

-- ---- one entry

-- Where it hands something in, its client is the one whose pass it is: b says whether that is c. It isn't the close.
abbrev pub IsOwnEvent : ℕ → Bool → Event → Type 0
IsOwnEvent c b (event.Submit client n) = (client == c) ≡ b
IsOwnEvent c b event.Seal = Unit {0}
IsOwnEvent c b event.Take = Unit {0}
IsOwnEvent c b (event.Register k differs) = Unit {0}
IsOwnEvent c b (event.GiveBack k) = Unit {0}
IsOwnEvent c b (event.Ask client fact) = Unit {0}
IsOwnEvent c b (event.Status client number) = Unit {0}
IsOwnEvent c b event.Close = ⊥

module _ {X : Type 0} (g : Option OfferNote → Option X) (none : g None ≡ None) where
  chosen : (n : OfferNote) (t b : Bool) (xs : List X) → t ≡ b → cons_option (g (cond t (Some n) None)) xs ≡ cond b (cons_option (g (Some n)) xs) xs
  chosen n true true xs e = refl
  chosen n true false xs e = absurd (cc)
  chosen n false true xs e = absurd (cc)
  chosen n false false xs e = ap (λ (o : Option X). cons_option o xs) none

  skipped : (b : Bool) (xs : List X) → cons_option (g None) xs ≡ cond b (cons_option (g None) xs) xs
  skipped true xs = refl
  skipped false xs = ap (λ (o : Option X). cons_option o xs) none

  one_part : (c : ℕ) (b : Bool) (what : Event) (xs : List X) → IsOwnEvent c b what → cond (is_close what) [] (cons_option (g (offered_by c what)) xs) ≡ cond b (cons_option (g (handed_note what)) xs) xs
  one_part c b (event.Submit client n) xs own = chosen n (client == c) b xs own
  one_part c b event.Seal xs own = skipped b xs
  one_part c b event.Take xs own = skipped b xs
  one_part c b (event.Register k differs) xs own = skipped b xs
  one_part c b (event.GiveBack k) xs own = skipped b xs
  one_part c b (event.Ask client fact) xs own = skipped b xs
  one_part c b (event.Status client number) xs own = skipped b xs
  one_part c b event.Close xs own = absurd own

part_if : {X : Type 0} (h : FullEntry → Option X) (b : Bool) (e : FullEntry) (es : List FullEntry) → filter_map h (cond b (e ∷ es) es) ≡ cond b (cons_option (h e) (filter_map h es)) (filter_map h es)
part_if h true e es = refl
part_if h false e es = refl

-- ---- all entries before the close

abbrev handed_notes : List FullEntry → List OfferNote
handed_notes es = filter_map (λ e. handed_note e.entry.event) es

module _ (c : ℕ) (k : FullEntry) (end : List FullEntry) (closes : is_close k.entry.event ≡ true) where
  abbrev Own : FullEntry → Type 0
  Own e = IsOwnEvent c (e.entry.pass == c) e.entry.event

  replies_before : (es : List FullEntry) → All Own es → replies_of c (map answered_of (es ++ k ∷ end)) ≡ handed_replies (entries_under c es)
  replies_before [] own = if_true (is_close k.entry.event) [] _ closes
  replies_before (e ∷ es) own =
      let reply = option_map (λ (_ : OfferNote). e.entry.reply) in
      one_part reply refl c (e.entry.pass == c) e.entry.event (replies_of c (map answered_of (es ++ k ∷ end))) (All-head Own e es own)
      ∙ (ap (λ (rs : List Reply). cond (e.entry.pass == c) (cons_option (reply (handed_note e.entry.event)) rs) rs) (replies_before es (All-tail Own e es own))
      ∙ sym (part_if (λ (x : FullEntry). option_map (λ (_ : OfferNote). x.entry.reply) (handed_note x.entry.event)) (e.entry.pass == c) e (entries_under c es)))

  notes_before : (es : List FullEntry) → All Own es → offers_of c (map answered_of (es ++ k ∷ end)) ≡ handed_notes (entries_under c es)
  notes_before [] own = if_true (is_close k.entry.event) [] _ closes
  notes_before (e ∷ es) own =
      one_part (λ (o : Option OfferNote). o) refl c (e.entry.pass == c) e.entry.event (offers_of c (map answered_of (es ++ k ∷ end))) (All-head Own e es own)
      ∙ (ap (λ (ns : List OfferNote). cond (e.entry.pass == c) (cons_option (handed_note e.entry.event) ns) ns) (notes_before es (All-tail Own e es own))
      ∙ sym (part_if (λ (x : FullEntry). handed_note x.entry.event) (e.entry.pass == c) e (entries_under c es)))

-- ---- the entries of lines

work_is_own : (c : ℕ) (b : Bool) (what : Event) → is_work what ≡ true → IsOwnEvent c b what
work_is_own c b (event.Submit client n) is = absurd (cc)
work_is_own c b event.Seal is = tt
work_is_own c b event.Take is = tt
work_is_own c b (event.Register k differs) is = tt
work_is_own c b (event.GiveBack k) is = tt
work_is_own c b (event.Ask client fact) is = absurd (cc)
work_is_own c b (event.Status client number) is = absurd (cc)
work_is_own c b event.Close is = absurd (cc)

abbrev pub OwnOf : ℕ → FullEntry → Type 0
OwnOf c e = IsOwnEvent c (e.entry.pass == c) e.entry.event

pub works_own : (c pass : ℕ) (es : List FullEntry) → All (IsWorkOf pass) es → All (OwnOf c) es
works_own c pass es works = All-weaker (IsWorkOf pass) (OwnOf c) (λ e w. work_is_own c (e.entry.pass == c) e.entry.event w.kind) es works

one_own : (c : ℕ) (es : List FullEntry) (e : FullEntry) → es ≡ e ∷ [] → OwnOf c e → All (OwnOf c) es
one_own c es e is own = All-same (OwnOf c) es (e ∷ []) is (All-cons (OwnOf c) e [] own (All-nil (OwnOf c)))

line_own : (c : ℕ) (l : ScriptLine) (es : List FullEntry) → DoesLine l es → All (OwnOf c) es
line_own c (submits client bytes) es h = one_own c es h.one h.are (subst (OwnOf c) (sym h.of_line.entry) refl)
line_own c (asks client fact) es h = one_own c es h.one h.are (subst (IsOwnEvent c (h.one.entry.pass == c)) (sym h.of_line.event) tt)
line_own c (asks_status client number) es h = one_own c es h.one h.are (subst (IsOwnEvent c (h.one.entry.pass == c)) (sym h.of_line.event) tt)
line_own c (settles client) es h = works_own c client es h.works

pub lines_own : (c : ℕ) (ls : List ScriptLine) (es : List FullEntry) → DoesLines ls es → All (OwnOf c) es
lines_own c [] es done = All-same (OwnOf c) es [] done (All-nil (OwnOf c))
lines_own c (l ∷ ls) es (front, rest, is, this, those) =
    All-same (OwnOf c) es (front ++ rest) is (All-append (OwnOf c) front rest (line_own c l front this) (lines_own c ls rest those))

-- ---- their notes

notes_split : (es front rest : List FullEntry) (ns : List OfferNote) → es ≡ front ++ rest → handed_notes front ≡ ns → handed_notes es ≡ ns ++ handed_notes rest
notes_split es front rest ns is first =
    ap handed_notes is ∙ (filter_map-append (λ (e : FullEntry). handed_note e.entry.event) front rest ∙ ap (λ (xs : List OfferNote). xs ++ handed_notes rest) first)

one_note : (front : List FullEntry) (e : FullEntry) (what : Event) → front ≡ e ∷ [] → e.entry.event ≡ what → handed_notes front ≡ cons_option (handed_note what) []
one_note front e what is event = ap handed_notes is ∙ ap (λ (x : Event). cons_option (handed_note x) []) event

work_no_note : (what : Event) → is_work what ≡ true → handed_note what ≡ None
work_no_note (event.Submit client n) is = absurd (cc)
work_no_note event.Seal is = refl
work_no_note event.Take is = refl
work_no_note (event.Register k differs) is = refl
work_no_note (event.GiveBack k) is = refl
work_no_note (event.Ask client fact) is = absurd (cc)
work_no_note (event.Status client number) is = absurd (cc)
work_no_note event.Close is = absurd (cc)

works_no_note : (pass : ℕ) (es : List FullEntry) → All (IsWorkOf pass) es → handed_notes es ≡ []
works_no_note pass [] all = refl
works_no_note pass (e ∷ es) all =
    ap (λ (o : Option OfferNote). cons_option o (handed_notes es)) (work_no_note e.entry.event (All-head (IsWorkOf pass) e es all).kind) ∙ works_no_note pass es (All-tail (IsWorkOf pass) e es all)

are_notes : (ls : List ScriptLine) (es : List FullEntry) → DoesLines ls es → AreNotesOf ls (handed_notes es)
are_notes [] es done = ap handed_notes done
are_notes (submits client bytes ∷ ls) es (front, rest, is, this, those) =
    let h = this.of_line in (
      offer_note h.offer,
      handed_notes rest,
      notes_split es front rest (offer_note h.offer ∷ []) is (one_note front this.one (event.Submit client (offer_note h.offer)) this.are (ap (λ (e : FullEntry). e.entry.event) h.entry)),
      record { offer = h.offer; of_bytes = h.of_bytes; note = refl },
      are_notes ls rest those,
    )
are_notes (asks client fact ∷ ls) es (front, rest, is, this, those) =
    subst (AreNotesOf ls) (sym (notes_split es front rest [] is (one_note front this.one (event.Ask client fact) this.are this.of_line.event))) (are_notes ls rest those)
are_notes (asks_status client number ∷ ls) es (front, rest, is, this, those) =
    subst (AreNotesOf ls) (sym (notes_split es front rest [] is (one_note front this.one (event.Status client number) this.are this.of_line.event))) (are_notes ls rest those)
are_notes (settles client ∷ ls) es (front, rest, is, this, those) =
    subst (AreNotesOf ls) (sym (notes_split es front rest [] is (works_no_note client front this.works))) (are_notes ls rest those)

-- ---- the replies

-- where the client's entries before the close, among whatever others, are those of these lines
pub replies_by_itself : (c : ℕ) (ls : List ScriptLine) (es end journal : List FullEntry) (k : FullEntry) → journal ≡ es ++ k ∷ end → is_close k.entry.event ≡ true
    → IsIsolated (map answered_of journal) → All (OwnOf c) es → DoesLines ls (entries_under c es) → entries_under c journal ≡ entries_under c es → RepliesByItself ls (entries_under c journal)
replies_by_itself c ls es end journal k is closes isolated own done same =
    let split = ap (map answered_of) is in
    record {
      notes = handed_notes (entries_under c es);
      of_lines = are_notes ls (entries_under c es) done;
      replies =
          ap handed_replies same
          ∙ (sym (replies_before c k end closes es own)
          ∙ (sym (ap (replies_of c) split)
          ∙ (isolated c
          ∙ ap own_verdict (ap (offers_of c) split ∙ notes_before c k end closes es own))));
    }

pub by_itself : (c : ℕ) (ls : List ScriptLine) (es end journal : List FullEntry) (k : FullEntry) → journal ≡ es ++ k ∷ end → is_close k.entry.event ≡ true
    → IsIsolated (map answered_of journal) → DoesLines ls es → entries_under c journal ≡ entries_under c es → RepliesByItself (client_lines c ls) (entries_under c journal)
by_itself c ls es end journal k is closes isolated done same =
    replies_by_itself c (client_lines c ls) es end journal k is closes isolated (lines_own c ls es done) (each_client c ls es done) same
