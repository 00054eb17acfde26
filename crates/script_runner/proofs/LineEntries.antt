-- The entries of lines: under whose pass they are, and which of them are requests.
use Rattle.std.proofs.Common.{◌≡◌, ℕ, ◌==◌, Bool, true, false, cond, List, [], ◌∷◌, ◌++◌, refl, sym, ap, ◌∙◌, subst}
use Rattle.std.specs.List.{AllZip}
use Rattle.std.specs.Prelude.{All, filter}
use Rattle.std.proofs.lemmas.Bool.{eqb-true, eq-eqb}
use Rattle.std.proofs.lemmas.List.Elements.{All-cons, All-head, All-nil, All-same, All-tail, All-weaker, filter-append}
use Rattle.batch_workers.specs.Works.{IsWorkOf, is_work}
use Rattle.desk_core.specs.declared.entry.FullEntry.{FullEntry}
use Rattle.desk_core.specs.declared.event.Event.{Event}
use Rattle.desk_core.specs.declared.event.Event.TheVariants as event
use Rattle.desk_script.specs.Lines.{ScriptLine, asks, asks_status, settles, submits}
use Rattle.script_runner.specs.Lines.{DoesLine, DoesLines, IsEntryOf, IsOneEntryOf, client_lines, entries_under, is_request, is_request_line, line_client, requests_in}

-- ---- either of two

pub if_true : {X : Type 0} (b : Bool) (x y : X) → b ≡ true → cond b x y ≡ x
if_true true x y e = refl
if_true false x y e = absurd (cc)

pub if_false : {X : Type 0} (b : Bool) (x y : X) → b ≡ false → cond b x y ≡ y
if_false true x y e = absurd (cc)
if_false false x y e = refl

-- ---- under whose pass

abbrev pub IsUnder : ℕ → FullEntry → Type 0
IsUnder pass e = e.entry.pass ≡ pass

under_own : (pass : ℕ) (es : List FullEntry) → All (IsUnder pass) es → entries_under pass es ≡ es
under_own pass [] all = refl
under_own pass (e ∷ es) all =
    if_true (e.entry.pass == pass) (e ∷ entries_under pass es) (entries_under pass es) (eq-eqb e.entry.pass pass (All-head (IsUnder pass) e es all))
    ∙ ap (λ (xs : List FullEntry). e ∷ xs) (under_own pass es (All-tail (IsUnder pass) e es all))

apart : (a pass c : ℕ) → (pass ≡ c → ⊥) → a ≡ pass → (b : Bool) → (a == c) ≡ b → b ≡ false
apart a pass c other own true is = absurd (other (sym own ∙ eqb-true a c is))
apart a pass c other own false is = refl

pub under_other : (c pass : ℕ) (es : List FullEntry) → (pass ≡ c → ⊥) → All (IsUnder pass) es → entries_under c es ≡ []
under_other c pass [] other all = refl
under_other c pass (e ∷ es) other all =
    if_false (e.entry.pass == c) (e ∷ entries_under c es) (entries_under c es) (apart e.entry.pass pass c other (All-head (IsUnder pass) e es all) (e.entry.pass == c) refl)
    ∙ under_other c pass es other (All-tail (IsUnder pass) e es all)

one_under : (pass : ℕ) (es : List FullEntry) (e : FullEntry) → es ≡ e ∷ [] → e.entry.pass ≡ pass → All (IsUnder pass) es
one_under pass es e is own = All-same (IsUnder pass) es (e ∷ []) is (All-cons (IsUnder pass) e [] own (All-nil (IsUnder pass)))

-- a line's entries are its client's
pub line_under : (l : ScriptLine) (es : List FullEntry) → DoesLine l es → All (IsUnder (line_client l)) es
line_under (submits client bytes) es h = one_under client es h.one h.are (ap (λ (e : FullEntry). e.entry.pass) h.of_line.entry)
line_under (asks client fact) es h = one_under client es h.one h.are h.of_line.own
line_under (asks_status client number) es h = one_under client es h.one h.are h.of_line.own
line_under (settles client) es h = All-weaker (IsWorkOf client) (IsUnder client) (λ e w. w.own) es h.works

-- ---- each client's

next_line : (c : ℕ) (l : ScriptLine) (ls : List ScriptLine) (es front rest : List FullEntry) → es ≡ front ++ rest → DoesLine l front → DoesLines (client_lines c ls) (entries_under c rest)
    → (b : Bool) → (line_client l == c) ≡ b → DoesLines (cond b (l ∷ client_lines c ls) (client_lines c ls)) (entries_under c es)
next_line c l ls es front rest is this those true own =
    let all : All (IsUnder c) front = subst (λ (n : ℕ). All (IsUnder n) front) (eqb-true (line_client l) c own) (line_under l front this) in
    let split : entries_under c es ≡ front ++ entries_under c rest =
    ap (entries_under c) is ∙ (filter-append (λ (e : FullEntry). e.entry.pass == c) front rest ∙ ap (λ (xs : List FullEntry). xs ++ entries_under c rest) (under_own c front all)) in
    (front, entries_under c rest, split, this, those)
next_line c l ls es front rest is this those false other =
    let none : entries_under c front ≡ [] = under_other c (line_client l) front (λ same. absurd (let t : true ≡ false = sym (eq-eqb (line_client l) c same) ∙ other in cc)) (line_under l front this) in
    let split : entries_under c es ≡ entries_under c rest =
    ap (entries_under c) is ∙ (filter-append (λ (e : FullEntry). e.entry.pass == c) front rest ∙ ap (λ (xs : List FullEntry). xs ++ entries_under c rest) none) in
    subst (DoesLines (client_lines c ls)) (sym split) those

pub each_client : (c : ℕ) (ls : List ScriptLine) (es : List FullEntry) → DoesLines ls es → DoesLines (client_lines c ls) (entries_under c es)
each_client c [] es done = ap (entries_under c) done
each_client c (l ∷ ls) es (front, rest, is, this, those) = next_line c l ls es front rest is this (each_client c ls rest those) (line_client l == c) refl

-- ---- requests

abbrev pub IsNoRequest : FullEntry → Type 0
IsNoRequest e = is_request e.entry.event ≡ false

work_is_none : (what : Event) → is_work what ≡ true → is_request what ≡ false
work_is_none (event.Submit client n) is = absurd (cc)
work_is_none event.Seal is = refl
work_is_none event.Take is = refl
work_is_none (event.Register b differs) is = refl
work_is_none (event.GiveBack b) is = refl
work_is_none (event.Ask client fact) is = absurd (cc)
work_is_none (event.Status client number) is = absurd (cc)
work_is_none event.Close is = absurd (cc)

pub no_requests : (es : List FullEntry) → All IsNoRequest es → requests_in es ≡ []
no_requests [] all = refl
no_requests (e ∷ es) all =
    if_false (is_request e.entry.event) (e ∷ requests_in es) (requests_in es) (All-head IsNoRequest e es all) ∙ no_requests es (All-tail IsNoRequest e es all)

pub works_request_none : (pass : ℕ) (es : List FullEntry) → All (IsWorkOf pass) es → All IsNoRequest es
works_request_none pass es works = All-weaker (IsWorkOf pass) IsNoRequest (λ e w. work_is_none e.entry.event w.kind) es works

zip_one : (l : ScriptLine) (ls : List ScriptLine) (es front rest : List FullEntry) → es ≡ front ++ rest → (one : IsOneEntryOf l front) → is_request one.one.entry.event ≡ true
    → AllZip IsEntryOf ls (requests_in rest) → AllZip IsEntryOf (l ∷ ls) (requests_in es)
zip_one l ls es front rest is one requested zip =
    let first : requests_in front ≡ one.one ∷ [] = ap requests_in one.are ∙ if_true (is_request one.one.entry.event) (one.one ∷ []) [] requested in
    let split : requests_in es ≡ one.one ∷ requests_in rest =
    ap requests_in is ∙ (filter-append (λ (e : FullEntry). is_request e.entry.event) front rest ∙ ap (λ (xs : List FullEntry). xs ++ requests_in rest) first) in
    subst (AllZip IsEntryOf (l ∷ ls)) (sym split) (one.of_line, zip)

zip_none : (ls : List ScriptLine) (es front rest : List FullEntry) → es ≡ front ++ rest → requests_in front ≡ [] → AllZip IsEntryOf ls (requests_in rest) → AllZip IsEntryOf ls (requests_in es)
zip_none ls es front rest is none zip =
    subst (AllZip IsEntryOf ls) (sym (ap requests_in is ∙ (filter-append (λ (e : FullEntry). is_request e.entry.event) front rest ∙ ap (λ (xs : List FullEntry). xs ++ requests_in rest) none))) zip

-- the requests are exactly those of the lines
pub exactly_requests : (ls : List ScriptLine) (es : List FullEntry) → DoesLines ls es → AllZip IsEntryOf (filter is_request_line ls) (requests_in es)
exactly_requests [] es done = subst (AllZip IsEntryOf []) (sym (ap requests_in done)) tt
exactly_requests (submits client bytes ∷ ls) es (front, rest, is, this, those) =
    zip_one (submits client bytes) (filter is_request_line ls) es front rest is this (ap (λ (e : FullEntry). is_request e.entry.event) this.of_line.entry) (exactly_requests ls rest those)
exactly_requests (asks client fact ∷ ls) es (front, rest, is, this, those) =
    zip_one (asks client fact) (filter is_request_line ls) es front rest is this (ap is_request this.of_line.event) (exactly_requests ls rest those)
exactly_requests (asks_status client number ∷ ls) es (front, rest, is, this, those) =
    zip_one (asks_status client number) (filter is_request_line ls) es front rest is this (ap is_request this.of_line.event) (exactly_requests ls rest those)
exactly_requests (settles client ∷ ls) es (front, rest, is, this, those) =
    zip_none (filter is_request_line ls) es front rest is (no_requests front (works_request_none client front this.works)) (exactly_requests ls rest those)
