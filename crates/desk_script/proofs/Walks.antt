-- Reading a script line by line.
use Rattle.std.proofs.Common.{◌≡◌, ℕ, suc, ◌+◌, ◌<◌, ◌≤◌, ◌==◌, inl, inr, List, [], ◌∷◌, ◌++◌, length, drop, get_or, refl, ap, sym, subst, ◌∙◌, append_assoc, arith}
use Rattle.std.proofs.lemmas.Bool.{cases_lt}
use Rattle.std.proofs.lemmas.List.{append-nil, drop_more, length-append, length-drop}
use Rattle.std.proofs.lemmas.List.Splits.{length-slice_split}
use Rattle.desk_script.specs.Limits.{most_lines}
use Rattle.desk_script.specs.Lines.{ScriptLine, IsScriptLine, line_fields}
use Rattle.desk_script.specs.Scripts.{AreScriptLines, FieldsKeep, IsGoodLine, IsScript, pieces_of}
use Rattle.desk_script.specs.declared.kinds.ScriptKind.{ScriptKind}
use Rattle.desk_script.specs.declared.kinds.ScriptKind.TheVariants as kind

-- these lines were read, each of them good, and the others are left
pub record Walked (clients : ℕ) (bytes : List ℕ) (lines : List ScriptLine) (left : List ℕ) : Type 0 where
  pub few : length lines ≤ most_lines
  pub within : length lines < length (pieces_of bytes)
  pub left_is : drop (length lines) (pieces_of bytes) ≡ pieces_of left
  pub good : (k : ℕ) → k < length lines → IsGoodLine clients (pieces_of bytes) k
  pub joined : (rest : List ScriptLine) → AreScriptLines clients (pieces_of left) rest → AreScriptLines clients (pieces_of bytes) (lines ++ rest)

pub some_pieces : (bytes : List ℕ) → 0 < length (pieces_of bytes)
some_pieces bytes = omega (arith, length-slice_split (λ c. c == 10) bytes)

pub walk_begins : (clients : ℕ) (bytes : List ℕ) → Walked clients bytes [] bytes
walk_begins clients bytes = record { few = omega arith; within = some_pieces bytes; left_is = refl; good = λ k below. absurd (omega arith); joined = λ rest are. are }

-- the first piece that is left, and what follows it
pub record Next (pieces : List (List ℕ)) (n : ℕ) (text : List ℕ) (after : List (List ℕ)) : Type 0 where
  pub here : get_or pieces n [] ≡ text
  pub next : drop (n + 1) pieces ≡ after

pub next_piece : (pieces : List (List ℕ)) (n : ℕ) (text : List ℕ) (after : List (List ℕ)) → n < length pieces → drop n pieces ≡ text ∷ after → Next pieces n text after
next_piece pieces n text after inside left =
    let both : get_or pieces n [] ∷ drop (n + 1) pieces ≡ text ∷ after = sym (drop_more pieces n [] inside) ∙ left in
    let here : get_or pieces n [] ≡ text = cc in
    let next : drop (n + 1) pieces ≡ after = cc in
    record { here = here; next = next }

pub good_line : (clients : ℕ) (pieces : List (List ℕ)) (k : ℕ) → suc k < length pieces → k < most_lines → ((kept : ScriptKind) → FieldsKeep clients (line_fields (get_or pieces k [])) kept) → IsGoodLine clients pieces k
good_line clients pieces k ends few keeps kind.NoEnd = ends
good_line clients pieces k ends few keeps kind.Verb = keeps kind.Verb
good_line clients pieces k ends few keeps kind.Fields = keeps kind.Fields
good_line clients pieces k ends few keeps kind.Client = keeps kind.Client
good_line clients pieces k ends few keeps kind.Hex = keeps kind.Hex
good_line clients pieces k ends few keeps kind.Number = keeps kind.Number
good_line clients pieces k ends few keeps kind.TooMany = few

good_until : (clients : ℕ) (pieces : List (List ℕ)) (n : ℕ) → ((k : ℕ) → k < n → IsGoodLine clients pieces k) → IsGoodLine clients pieces n → (k : ℕ) → k < n + 1 → IsGoodLine clients pieces k
good_until clients pieces n before here k below = elim (cases_lt k n) [
  | inl less ↦ before k less
  | inr more ↦ let is : n ≡ k = omega arith in subst (IsGoodLine clients pieces) is here
]

more_lines : (clients : ℕ) (text : List ℕ) (line : ScriptLine) (pieces : List (List ℕ)) (rest : List ScriptLine) → 0 < length pieces → IsScriptLine clients (line_fields text) line → AreScriptLines clients pieces rest
    → AreScriptLines clients (text ∷ pieces) (line ∷ rest)
more_lines clients text line [] rest some is are = absurd (omega arith)
more_lines clients text line (next ∷ more) rest some is are = (line, rest, refl, is, are)

pub walk_on : (clients : ℕ) (bytes : List ℕ) (lines : List ScriptLine) (left text after : List ℕ) (line : ScriptLine) → Walked clients bytes lines left → pieces_of left ≡ text ∷ pieces_of after
    → IsScriptLine clients (line_fields text) line → ((kept : ScriptKind) → FieldsKeep clients (line_fields text) kept) → length lines < most_lines → Walked clients bytes (lines ++ line ∷ []) after
walk_on clients bytes lines left text after line walked cut is keeps few =
    let n : ℕ = length lines in
    let pieces : List (List ℕ) = pieces_of bytes in
    let count : length (lines ++ line ∷ []) ≡ n + 1 = length-append lines (line ∷ []) in
    let step = next_piece pieces n text (pieces_of after) walked.within (walked.left_is ∙ cut) in
    let some : 0 < length (drop (n + 1) pieces) = omega (arith, ap length step.next, some_pieces after) in
    let ends : n + 1 < length pieces = omega (arith, some, length-drop (n + 1) pieces) in
    let kept : (k : ScriptKind) → FieldsKeep clients (line_fields (get_or pieces n [])) k = subst (λ (t : List ℕ). (k : ScriptKind) → FieldsKeep clients (line_fields t) k) (sym step.here) keeps in
    let here : IsGoodLine clients pieces n = good_line clients pieces n (omega (arith, ends)) few kept in
    record {
      few = omega (arith, count, few);
      within = omega (arith, count, ends);
      left_is = ap (λ (m : ℕ). drop m pieces) count ∙ step.next;
      good = λ k below. good_until clients pieces n walked.good here k (omega (arith, below, count));
      joined = λ rest are.
          subst (AreScriptLines clients pieces) (sym (append_assoc lines (line ∷ []) rest))
          (walked.joined (line ∷ rest) (subst (λ (ps : List (List ℕ)). AreScriptLines clients ps (line ∷ rest)) (sym cut) (more_lines clients text line (pieces_of after) rest (some_pieces after) is are)));
    }

pub nothing : (bytes : List ℕ) → length bytes ≡ 0 → bytes ≡ []
nothing [] none = refl
nothing (b ∷ bytes) none = absurd (omega arith)

pub walk_ends : (clients : ℕ) (bytes : List ℕ) (lines : List ScriptLine) (left : List ℕ) → Walked clients bytes lines left → left ≡ [] → IsScript clients bytes lines
walk_ends clients bytes lines left walked none =
    let no_lines : AreScriptLines clients (pieces_of left) [] = subst (λ (l : List ℕ). AreScriptLines clients (pieces_of l) []) (sym none) (refl, refl) in
    (subst (AreScriptLines clients (pieces_of bytes)) (append-nil lines) (walked.joined [] no_lines), walked.few)
