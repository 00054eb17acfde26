-- What a worker did, part by part.
use Rattle.std.proofs.Common.{◌≡◌, ℕ, Bool, false, List, [], ◌∷◌, ◌++◌, sym, ap, ◌∙◌, subst}
use Rattle.std.proofs.lemmas.List.{append_assoc}
use Rattle.std.proofs.lemmas.List.Elements.{All-append}
use Rattle.desk_core.specs.DeskRecords.{DeskRecord, journal_of}
use Rattle.desk_core.specs.declared.entry.FullEntry.{FullEntry}
use Rattle.batch_workers.specs.Works.{EndBusy, EndIdle, IsWorkOf, Works, ends_idle, idle_turns}
use Rattle.batch_workers.specs.Working.Rounds.{Are}

pub busy_on : (xs ys : List FullEntry) → EndBusy xs → EndBusy ys → EndBusy (xs ++ ys)
busy_on [] ys x y = y
busy_on (e ∷ []) [] x y = x
busy_on (e ∷ []) (f ∷ ys) x y = y
busy_on (e ∷ f ∷ xs) ys x y = busy_on (f ∷ xs) ys x y

pub idle_on : (pass : ℕ) (xs ys : List FullEntry) → EndIdle pass ys → EndIdle pass (xs ++ ys)
idle_on pass xs ys y = record {
  before = xs ++ y.before;
  closed = y.closed;
  are = ap (λ (es : List FullEntry). xs ++ es) y.are ∙ sym (append_assoc xs y.before (idle_turns pass y.closed));
}

pub joined : (pass : ℕ) (a b c : DeskRecord) (E F G : List FullEntry → Type 0) → ((xs ys : List FullEntry) → E xs → F ys → G (xs ++ ys)) → Works pass E a b → Works pass F b c → Works pass G a c
joined pass a b c E F G both x y = record {
  more = x.more ++ y.more;
  journal = y.journal ∙ (ap (λ (j : List FullEntry). j ++ y.more) x.journal ∙ append_assoc (journal_of a) x.more y.more);
  works = All-append (IsWorkOf pass) x.more y.more x.works y.works;
  ends = both x.more y.more x.ends y.ends;
  jobs = y.jobs ∙ x.jobs;
  clients = y.clients ∙ x.clients;
  closed = y.closed ∙ x.closed;
  alone = λ h. y.alone (x.alone h);
}

-- the same by what is known of the entries' end
pub ends_by : (pass : ℕ) (a b : DeskRecord) (E F : List FullEntry → Type 0) → ((es : List FullEntry) → E es → F es) → Works pass E a b → Works pass F a b
ends_by pass a b E F to x = record {
  more = x.more;
  journal = x.journal;
  works = x.works;
  ends = to x.more x.ends;
  jobs = x.jobs;
  clients = x.clients;
  closed = x.closed;
  alone = x.alone;
}

pub busy_then : (pass : ℕ) (a b c : DeskRecord) → Works pass EndBusy a b → Works pass EndBusy b c → Works pass EndBusy a c
busy_then pass a b c x y = joined pass a b c EndBusy EndBusy EndBusy busy_on x y

pub idle_then : (pass : ℕ) (a b c : DeskRecord) → Works pass EndBusy a b → Works pass (EndIdle pass) b c → Works pass (EndIdle pass) a c
idle_then pass a b c x y = joined pass a b c EndBusy (EndIdle pass) (EndIdle pass) (λ xs ys p q. idle_on pass xs ys q) x y

pub two_then : (pass : ℕ) (a b c : DeskRecord) (e f : FullEntry) → Works pass (Are (e ∷ [])) a b → Works pass (Are (f ∷ [])) b c → Works pass (Are (e ∷ f ∷ [])) a c
two_then pass a b c e f x y = joined pass a b c (Are (e ∷ [])) (Are (f ∷ [])) (Are (e ∷ f ∷ [])) (λ xs ys p q. ap (λ (es : List FullEntry). es ++ ys) p ∙ ap (λ (es : List FullEntry). (e ∷ []) ++ es) q) x y

pub idle_from : (pass : ℕ) (a b : DeskRecord) (closed : Bool) → Works pass (Are (idle_turns pass closed)) a b → Works pass (EndIdle pass) a b
idle_from pass a b closed x = ends_by pass a b (Are (idle_turns pass closed)) (EndIdle pass) (λ es p. record { before = []; closed = closed; are = p }) x

-- one entry that isn't that no job waits
pub busy_from : (pass : ℕ) (a b : DeskRecord) (e : FullEntry) → ends_idle (e ∷ []) ≡ false → Works pass (Are (e ∷ [])) a b → Works pass EndBusy a b
busy_from pass a b e is x = ends_by pass a b (Are (e ∷ [])) EndBusy (λ es p. subst EndBusy (sym p) is) x
