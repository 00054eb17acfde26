-- What a pass has seen is the journal of a desk, and so each client's replies in it are isolated.
use Rattle.std.proofs.Common.{◌≡◌, ℕ, List, [], ◌∷◌, map, refl, sym, ap, ◌∙◌, subst}
use Rattle.desk_core.specs.DeskRecords.{DeskRecord, journal_of, plain_of}
use Rattle.desk_core.specs.GoodDesks.{IsGoodDesk}
use Rattle.desk_core.specs.Isolation.{IsIsolated, answered_of}
use Rattle.desk_core.specs.declared.entry.FullEntry.{FullEntry}
use Rattle.desk_core.proofs.IsolationLemmas.{journals_are_isolated}
use Rattle.session_desk.specs.Sessions.{SeenIsIsolated, notes_in, passed_journal, with_pass}

pub notes_back : (es : List FullEntry) → notes_in (map with_pass es) ≡ es
notes_back [] = refl
notes_back (e ∷ es) = ap (λ (xs : List FullEntry). e ∷ xs) (notes_back es)

pub seen_isolated : (seen : List (ℕ × FullEntry)) (d : DeskRecord) → IsGoodDesk d → seen ≡ passed_journal d → SeenIsIsolated seen
seen_isolated seen d g is = subst (λ (es : List FullEntry). IsIsolated (map answered_of es)) (sym (ap notes_in is ∙ notes_back (journal_of d))) (journals_are_isolated (journal_of d) (plain_of d) g.legal)
