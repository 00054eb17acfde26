-- A client's submit lines in the transcript are those that its own lines determine.
use Rattle.std.proofs.Common.{◌≡◌, ℕ, ◌==◌, Bool, true, false, cond, List, [], ◌∷◌, ◌++◌, refl, sym, ap, ◌∙◌, subst}
use Rattle.std.specs.List.{AllZip, cons_option}
use Rattle.std.specs.Prelude.{All, Option, Some, None}
use Rattle.std.proofs.lemmas.List.{append-nil}
use Rattle.std.proofs.lemmas.List.Elements.{All-cons, All-head, All-nil, All-same, All-tail}
use Rattle.batch_workers.specs.Works.{IsWorkOf, is_work}
use Rattle.cairo_model.specs.Pie.Records.{PieRecord}
use Rattle.desk_core.specs.DeskRecords.{DeskRecord, full_entries, journal_of, pies_left, pies_of}
use Rattle.desk_core.specs.GoodDesks.{IsGoodDesk}
use Rattle.desk_core.specs.Isolation.{is_close, offered_by}
use Rattle.desk_core.specs.Quotas.{is_admitted}
use Rattle.desk_core.specs.Turns.{offer_note}
use Rattle.desk_core.specs.declared.entry.Entry.{Entry}
use Rattle.desk_core.specs.declared.entry.FullEntry.{FullEntry}
use Rattle.desk_core.specs.declared.event.Event.{Event}
use Rattle.desk_core.specs.declared.event.Event.TheVariants as event
use Rattle.desk_core.specs.declared.event.OfferNote.{OfferNote}
use Rattle.desk_core.specs.declared.offer.Offer.{Offer}
use Rattle.desk_core.specs.declared.offer.Offer.TheVariants as offer
use Rattle.desk_script.proofs.OwnLineLemmas.{scripts_have_own_lines}
use Rattle.desk_script.specs.Lines.{ScriptLine, asks, asks_status, settles, submits}
use Rattle.desk_script.specs.OwnLines.{AreOwnLines, IsNoteOfFile, OffersInTime, entries_in, handed_files, from_close, client_notes, submit_lines}
use Rattle.session_desk.specs.Offers.{OffersBytes}
use Rattle.script_runner.specs.Lines.{DoesLines}
use Rattle.script_runner.proofs.OwnReplies.{IsOwnEvent, OwnOf, lines_own}

-- ---- the entries

entries_are : (es : List Entry) (pies : List PieRecord) → entries_in (full_entries es pies) ≡ es
entries_are [] pies = refl
entries_are (e ∷ es) pies = ap (λ (xs : List Entry). e ∷ xs) (entries_are es (pies_left (is_admitted e.reply) pies))

abbrev pub noted : ℕ → List FullEntry → List OfferNote
noted c es = client_notes c (entries_in es)

onto : (o : Option OfferNote) (xs ys all : List OfferNote) → all ≡ xs ++ ys → cons_option o all ≡ cons_option o xs ++ ys
onto None xs ys all is = is
onto (Some n) xs ys all is = ap (λ (ns : List OfferNote). n ∷ ns) is

noted-append : (c : ℕ) (xs ys : List FullEntry) → noted c (xs ++ ys) ≡ noted c xs ++ noted c ys
noted-append c [] ys = refl
noted-append c (x ∷ xs) ys = onto (offered_by c x.entry.event) (noted c xs) (noted c ys) (noted c (xs ++ ys)) (noted-append c xs ys)

work_offers_none : (c : ℕ) (what : Event) → is_work what ≡ true → offered_by c what ≡ None
work_offers_none c (event.Submit client n) is = absurd (cc)
work_offers_none c event.Seal is = refl
work_offers_none c event.Take is = refl
work_offers_none c (event.Register k differs) is = refl
work_offers_none c (event.GiveBack k) is = refl
work_offers_none c (event.Ask client fact) is = absurd (cc)
work_offers_none c (event.Status client number) is = absurd (cc)
work_offers_none c event.Close is = absurd (cc)

abbrev pub OffersNone : ℕ → FullEntry → Type 0
OffersNone c e = offered_by c e.entry.event ≡ None

works_offer_none : (c pass : ℕ) (es : List FullEntry) → All (IsWorkOf pass) es → All (OffersNone c) es
works_offer_none c pass [] all = All-nil (OffersNone c)
works_offer_none c pass (e ∷ es) all =
    All-cons (OffersNone c) e es (work_offers_none c e.entry.event (All-head (IsWorkOf pass) e es all).kind) (works_offer_none c pass es (All-tail (IsWorkOf pass) e es all))

none_noted : (c : ℕ) (es : List FullEntry) → All (OffersNone c) es → noted c es ≡ []
none_noted c [] all = refl
none_noted c (e ∷ es) all =
    ap (λ (o : Option OfferNote). cons_option o (noted c es)) (All-head (OffersNone c) e es all) ∙ none_noted c es (All-tail (OffersNone c) e es all)

-- ---- the lines' files

note_of_file : (bytes : List ℕ) (o : Offer) → OffersBytes bytes o → IsNoteOfFile bytes (offer_note o)
note_of_file bytes (offer.Accepted checked) h = (checked, h, refl, refl)
note_of_file bytes (offer.Refused r) h = h

zip_file : (b : Bool) (bytes : List ℕ) (n : OfferNote) (files : List (List ℕ)) (ns : List OfferNote) → IsNoteOfFile bytes n → AllZip IsNoteOfFile files ns
    → AllZip IsNoteOfFile (cons_option (cond b (Some bytes) None) files) (cons_option (cond b (Some n) None) ns)
zip_file true bytes n files ns h zip = (h, zip)
zip_file false bytes n files ns h zip = zip

-- what comes of the entries of a line, and what of those behind it
noted_split : (c : ℕ) (es front rest : List FullEntry) (ns : List OfferNote) → es ≡ front ++ rest → noted c front ≡ ns → noted c es ≡ ns ++ noted c rest
noted_split c es front rest ns is first = ap (noted c) is ∙ (noted-append c front rest ∙ ap (λ (xs : List OfferNote). xs ++ noted c rest) first)

one_noted : (c : ℕ) (front : List FullEntry) (e : FullEntry) (what : Event) → front ≡ e ∷ [] → e.entry.event ≡ what → noted c front ≡ cons_option (offered_by c what) []
one_noted c front e what is event = ap (noted c) is ∙ ap (λ (x : Event). cons_option (offered_by c x) []) event

one_then : {X : Type 0} (o : Option X) (xs : List X) → cons_option o [] ++ xs ≡ cons_option o xs
one_then None xs = refl
one_then (Some x) xs = refl

pub files_noted : (c : ℕ) (ls : List ScriptLine) (es : List FullEntry) → DoesLines ls es → AllZip IsNoteOfFile (handed_files c ls) (noted c es)
files_noted c [] es done = subst (AllZip IsNoteOfFile []) (sym (ap (noted c) done)) tt
files_noted c (submits client bytes ∷ ls) es (front, rest, is, this, those) =
    let h = this.of_line in
    let one : noted c front ≡ cons_option (cond (client == c) (Some (offer_note h.offer)) None) [] =
    one_noted c front this.one (event.Submit client (offer_note h.offer)) this.are (ap (λ (e : FullEntry). e.entry.event) h.entry) in
    let all : noted c es ≡ cons_option (cond (client == c) (Some (offer_note h.offer)) None) (noted c rest) =
    noted_split c es front rest _ is one ∙ one_then (cond (client == c) (Some (offer_note h.offer)) None) (noted c rest) in
    subst (AllZip IsNoteOfFile (cons_option (cond (client == c) (Some bytes) None) (handed_files c ls))) (sym all)
    (zip_file (client == c) bytes (offer_note h.offer) (handed_files c ls) (noted c rest) (note_of_file bytes h.offer h.of_bytes) (files_noted c ls rest those))
files_noted c (asks client fact ∷ ls) es (front, rest, is, this, those) =
    subst (AllZip IsNoteOfFile (handed_files c ls)) (sym (noted_split c es front rest [] is (one_noted c front this.one (event.Ask client fact) this.are this.of_line.event))) (files_noted c ls rest those)
files_noted c (asks_status client number ∷ ls) es (front, rest, is, this, those) =
    subst (AllZip IsNoteOfFile (handed_files c ls)) (sym (noted_split c es front rest [] is (one_noted c front this.one (event.Status client number) this.are this.of_line.event))) (files_noted c ls rest those)
files_noted c (settles client ∷ ls) es (front, rest, is, this, those) =
    subst (AllZip IsNoteOfFile (handed_files c ls)) (sym (noted_split c es front rest [] is (none_noted c front (works_offer_none c client front this.works)))) (files_noted c ls rest those)

-- ---- nothing is offered from the close on

no_close : (c : ℕ) (b : Bool) (what : Event) → IsOwnEvent c b what → is_close what ≡ false
no_close c b (event.Submit client n) own = refl
no_close c b event.Seal own = refl
no_close c b event.Take own = refl
no_close c b (event.Register k differs) own = refl
no_close c b (event.GiveBack k) own = refl
no_close c b (event.Ask client fact) own = refl
no_close c b (event.Status client number) own = refl
no_close c b event.Close own = absurd own

from_here : (t : Bool) (x y : List Entry) → t ≡ true → cond t x y ≡ x
from_here true x y e = refl
from_here false x y e = absurd (cc)

from_later : (t : Bool) (x y : List Entry) → t ≡ false → cond t x y ≡ y
from_later true x y e = absurd (cc)
from_later false x y e = refl

from_the_close : (c : ℕ) (es end : List FullEntry) (k : FullEntry) → is_close k.entry.event ≡ true → All (OwnOf c) es → from_close (entries_in (es ++ k ∷ end)) ≡ entries_in (k ∷ end)
from_the_close c [] end k closes own = from_here (is_close k.entry.event) _ _ closes
from_the_close c (e ∷ es) end k closes own =
    from_later (is_close e.entry.event) _ _ (no_close c (e.entry.pass == c) e.entry.event (All-head (OwnOf c) e es own))
    ∙ from_the_close c es end k closes (All-tail (OwnOf c) e es own)

none_in : (c : ℕ) (es : List FullEntry) → All (OffersNone c) es → All (λ (e : Entry). offered_by c e.event ≡ None) (entries_in es)
none_in c [] all = All-nil (λ (e : Entry). offered_by c e.event ≡ None)
none_in c (e ∷ es) all =
    All-cons (λ (x : Entry). offered_by c x.event ≡ None) e.entry (entries_in es) (All-head (OffersNone c) e es all) (none_in c es (All-tail (OffersNone c) e es all))

-- where what the client offers before the close is what these lines hand in, and it offers nothing behind
pub texts_by_itself : (c : ℕ) (ls : List ScriptLine) (es end : List FullEntry) (d : DeskRecord) (k : FullEntry) → journal_of d ≡ es ++ k ∷ end → k.entry.event ≡ event.Close
    → IsGoodDesk d → All (OwnOf c) es → All (OffersNone c) end → AllZip IsNoteOfFile (handed_files c ls) (noted c es) → AreOwnLines c ls (submit_lines c d.entries)
texts_by_itself c ls es end d k is closing good own behind files =
    let entries : d.entries ≡ entries_in (es ++ k ∷ end) = sym (entries_are d.entries (pies_of d.jobs)) ∙ ap entries_in is in
    let quiet : All (OffersNone c) (k ∷ end) = All-cons (OffersNone c) k end (ap (offered_by c) closing) behind in
    let late : OffersInTime c d.entries =
    All-same (λ (e : Entry). offered_by c e.event ≡ None) (from_close d.entries) (entries_in (k ∷ end))
    (ap from_close entries ∙ from_the_close c es end k (ap is_close closing) own) (none_in c (k ∷ end) quiet) in
    let notes : client_notes c d.entries ≡ noted c es =
    ap (client_notes c) entries ∙ noted_split c (es ++ k ∷ end) es (k ∷ end) (noted c es) refl refl ∙ ap (λ (ns : List OfferNote). noted c es ++ ns) (none_noted c (k ∷ end) quiet) ∙ append-nil (noted c es) in
    scripts_have_own_lines d good c ls late (subst (AllZip IsNoteOfFile (handed_files c ls)) (sym notes) files)

pub own_texts : (c pass : ℕ) (ls : List ScriptLine) (es end : List FullEntry) (d : DeskRecord) (k : FullEntry) → journal_of d ≡ es ++ k ∷ end → k.entry.event ≡ event.Close
    → IsGoodDesk d → DoesLines ls es → All (IsWorkOf pass) end → AreOwnLines c ls (submit_lines c d.entries)
own_texts c pass ls es end d k is closing good done works =
    texts_by_itself c ls es end d k is closing good (lines_own c ls es done) (works_offer_none c pass end works) (files_noted c ls es done)
