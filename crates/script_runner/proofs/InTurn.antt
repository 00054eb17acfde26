-- Lines done in turn: one line more, and the desk after it.
use Rattle.std.proofs.Common.{◌≡◌, ℕ, List, [], ◌∷◌, ◌++◌, refl, sym, ap, ◌∙◌, subst, append_assoc}
use Rattle.std.proofs.lemmas.List.{append-nil}
use Rattle.desk_core.specs.DeskRecords.{DeskRecord, journal_of, plain_of}
use Rattle.desk_core.specs.Desks.{PlainDesk, empty_desk}
use Rattle.desk_core.specs.GoodDesks.{IsGoodDesk}
use Rattle.desk_core.specs.Journals.{after_move, move_of}
use Rattle.desk_core.specs.declared.entry.FullEntry.{FullEntry}
use Rattle.desk_script.specs.Lines.{ScriptLine}
use Rattle.script_runner.specs.Lines.{DoesLine, DoesLines}
use Rattle.script_runner.specs.Runs.{DoesInTurn, LeavesSettled, desk_after}
use Rattle.script_runner.specs.Working.Doing.{DidLine, DidLines}

after_append : (d : PlainDesk) (xs ys : List FullEntry) → desk_after d (xs ++ ys) ≡ desk_after (desk_after d xs) ys
after_append d [] ys = refl
after_append d (x ∷ xs) ys = after_append (after_move d (move_of x)) xs ys

turn_more : (d : PlainDesk) (ls : List ScriptLine) (l : ScriptLine) (es front : List FullEntry) → DoesInTurn d ls es → DoesLine l front → LeavesSettled l (desk_after (desk_after d es) front)
    → DoesInTurn d (ls ++ l ∷ []) (es ++ front)
turn_more d [] l es front done one settled =
    (front, [], ap (λ (xs : List FullEntry). xs ++ front) done ∙ sym (append-nil front), one, subst (λ (xs : List FullEntry). LeavesSettled l (desk_after (desk_after d xs) front)) done settled, refl)
turn_more d (k ∷ ls) l es front (f, rest, is, this, set, those) one settled = (
  f,
  rest ++ front,
  ap (λ (xs : List FullEntry). xs ++ front) is ∙ append_assoc f rest front,
  this,
  set,
  turn_more (desk_after d f) ls l rest front those one (subst (λ (x : PlainDesk). LeavesSettled l (desk_after x front)) (ap (desk_after d) is ∙ after_append d f rest) settled),
)

-- a good desk is the one after its journal
from_empty : (clients : ℕ) (d : DeskRecord) → d.clients ≡ clients → IsGoodDesk d → plain_of d ≡ desk_after (empty_desk clients) (journal_of d)
from_empty clients d same good = sym good.legal.ends ∙ ap (λ (n : ℕ). desk_after (empty_desk n) (journal_of d)) same

pub one_line_more : (clients : ℕ) (ls : List ScriptLine) (l : ScriptLine) (old new : DeskRecord) → DidLines clients ls old → DidLine l old new → IsGoodDesk new → DidLines clients (ls ++ l ∷ []) new
one_line_more clients ls l old new d one good =
    let same : new.clients ≡ clients = one.clients ∙ d.count in
    let after : plain_of new ≡ desk_after (desk_after (empty_desk clients) (journal_of old)) one.more =
    from_empty clients new same good ∙ (ap (desk_after (empty_desk clients)) one.journal ∙ after_append (empty_desk clients) (journal_of old) one.more) in
    record {
      in_turn = subst (DoesInTurn (empty_desk clients) (ls ++ l ∷ [])) (sym one.journal)
          (turn_more (empty_desk clients) ls l (journal_of old) one.more d.in_turn one.does (subst (LeavesSettled l) after one.settled));
      count = same;
      free = one.free;
    }

pub in_lines : (d : PlainDesk) (ls : List ScriptLine) (es : List FullEntry) → DoesInTurn d ls es → DoesLines ls es
in_lines d [] es done = done
in_lines d (l ∷ ls) es (front, rest, is, this, set, those) = (front, rest, is, this, in_lines (desk_after d front) ls rest those)
