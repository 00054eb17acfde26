-- What a pass has seen, and its own entries, beside the desk at its turn.
use Rattle.std.proofs.Common.{◌≡◌, ℕ, ◌==◌, Bool, true, false, cond, List, [], ◌∷◌, ◌++◌, map, refl, sym, ap, ◌∙◌}
use Rattle.std.proofs.lemmas.List.{map-append}
use Rattle.desk_core.specs.DeskRecords.{DeskRecord, journal_of, plain_of}
use Rattle.desk_core.specs.Hands.{entries_of_pass}
use Rattle.desk_core.specs.Stays.{desk_seen}
use Rattle.desk_core.specs.declared.entry.FullEntry.{FullEntry}
use Rattle.session_desk.specs.PassTurns.{PassTurn}
use Rattle.session_desk.specs.SeenDesks.{seen_desk}
use Rattle.session_desk.specs.Sessions.{notes_in, with_pass}
use Rattle.session_desk.proofs.Seen.{notes_back}
use Rattle.turn_lock.specs.Journals.{entries_by}
use Rattle.turn_lock.specs.Passes.{Token}

one_note : (t : Bool) (e : FullEntry) (xs : List (ℕ × FullEntry)) (ys : List FullEntry) → notes_in xs ≡ ys → notes_in (cond t (with_pass e ∷ xs) xs) ≡ cond t (e ∷ ys) ys
one_note true e xs ys is = ap (λ (zs : List FullEntry). e ∷ zs) is
one_note false e xs ys is = is

-- the entries of a pass, with its number and without
pub own_notes : (number : ℕ) (es : List FullEntry) → notes_in (entries_by number (map with_pass es)) ≡ entries_of_pass number es
own_notes number [] = refl
own_notes number (e ∷ es) = one_note (e.entry.pass == number) e (entries_by number (map with_pass es)) (entries_of_pass number es) (own_notes number es)

module _ (old new : Token FullEntry) (before after : DeskRecord) (t : PassTurn old new before after) where
  -- the journal before the turn begins with all that the pass had seen
  pub begins : journal_of before ≡ notes_in old.seen ++ notes_in t.has_seen.0
  begins = sym (notes_back (journal_of before)) ∙ (ap notes_in t.has_seen.1 ∙ map-append (λ (e : ℕ × FullEntry). e.1) old.seen t.has_seen.0)

  pub own : entries_of_pass old.number (journal_of before) ≡ notes_in old.mine
  own = sym (own_notes old.number (journal_of before)) ∙ ap notes_in t.has_mine

  pub saw : notes_in new.seen ≡ journal_of after
  saw = ap notes_in t.sees ∙ notes_back (journal_of after)

  -- the pass has seen the desk that the turn left
  same_size : after.clients ≡ before.clients → after.clients ≡ new.width
  same_size kept = kept ∙ (t.width_is ∙ sym t.same.2)

  pub sees_after : after.clients ≡ before.clients → seen_desk new ≡ plain_of after
  sees_after kept =
      ap (λ (n : ℕ). desk_seen n (notes_in new.seen)) (sym (same_size kept)) ∙ (ap (λ (es : List FullEntry). desk_seen after.clients es) saw ∙ t.good_after.legal.ends)
