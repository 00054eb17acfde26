-- A script has one list of lines, and no bad line; a first bad line is one alone.
use Rattle.std.proofs.Common.{◌≡◌, ◌==◌, if◌then◌else◌, ℕ, zero, suc, ◌^◌, ◌<◌, ◌≤◌, inl, inr, List, [], ◌∷◌, length, get_or, refl, ap, ap₂, sym, subst, ◌∙◌, arith}
use Rattle.std.proofs.lemmas.Bool.{cases_order}
use Rattle.desk_script.specs.Limits.{most_lines}
use Rattle.desk_script.proofs.ReadLines.{line_keeps, one_line}
use Rattle.desk_script.proofs.Walks.{good_line}
use Rattle.desk_script.specs.Lines.{ScriptLine, IsScriptLine, line_fields}
use Rattle.desk_script.specs.Scripts.{AreScriptLines, BreaksFirst, IsFirstBadScriptLine, IsLineAt, IsScript, kind_number, pieces_of}
use Rattle.desk_script.specs.declared.kinds.ScriptKind.{ScriptKind}
use Rattle.desk_script.specs.declared.kinds.ScriptKind.TheVariants as kind
use Rattle.desk_script.specs.declared.kinds.ScriptRefusal.{ScriptRefusal}

-- ---- scripts

one_list : (clients : ℕ) → clients ≤ 2 ^ 64 → (pieces : List (List ℕ)) (a b : List ScriptLine) → AreScriptLines clients pieces a → AreScriptLines clients pieces b → a ≡ b
one_list clients few [] a b are_a are_b = absurd are_a
one_list clients few (last ∷ []) a b are_a are_b = are_a.1 ∙ sym are_b.1
one_list clients few (text ∷ next ∷ more) a b (line, rest, is, here, are) (other, others, same, there, also) =
    is ∙ (ap₂ (λ (l : ScriptLine) (ls : List ScriptLine). l ∷ ls) (one_line clients few (line_fields text) line other here there) (one_list clients few (next ∷ more) rest others are also) ∙ sym same)

pub one_script : (clients : ℕ) (bytes : List ℕ) (a b : List ScriptLine) → clients ≤ 2 ^ 32 → IsScript clients bytes a → IsScript clients bytes b → a ≡ b
one_script clients bytes a b few is_a is_b = one_list clients (omega arith) (pieces_of bytes) a b is_a.0 is_b.0

-- a line feed ends the line of an index, and its fields are a line
record Ends (clients : ℕ) (pieces : List (List ℕ)) (k : ℕ) : Type 0 where
  pub ended : suc k < length pieces
  pub line : ScriptLine
  pub is_line : IsScriptLine clients (line_fields (get_or pieces k [])) line

further : (clients : ℕ) (text : List ℕ) (pieces : List (List ℕ)) (k : ℕ) → Ends clients pieces k → Ends clients (text ∷ pieces) (suc k)
further clients text pieces k ends = record { ended = omega (arith, ends.ended); line = ends.line; is_line = ends.is_line }

line_ends : (clients : ℕ) (pieces : List (List ℕ)) (lines : List ScriptLine) → AreScriptLines clients pieces lines → (k : ℕ) → IsLineAt pieces k → Ends clients pieces k
line_ends clients [] lines are k at = absurd are
line_ends clients (last ∷ []) lines are zero (inl more) = absurd (omega arith)
line_ends clients (last ∷ []) lines are zero (inr some) = absurd (some are.0)
line_ends clients (last ∷ []) lines are (suc k) (inl more) = absurd (omega arith)
line_ends clients (last ∷ []) lines are (suc k) (inr some) = absurd (some refl)
line_ends clients (text ∷ next ∷ more) lines (line, rest, is, here, are) zero at = record { ended = omega arith; line = line; is_line = here }
line_ends clients (text ∷ next ∷ more) lines (line, rest, is, here, are) (suc k) (inl less) = further clients text (next ∷ more) k (line_ends clients (next ∷ more) rest are k (inl (omega (arith, less))))
line_ends clients (text ∷ next ∷ more) lines (line, rest, is, here, are) (suc k) (inr some) = further clients text (next ∷ more) k (line_ends clients (next ∷ more) rest are k (inr some))

line_count : (clients : ℕ) (pieces : List (List ℕ)) (lines : List ScriptLine) → AreScriptLines clients pieces lines → length pieces ≡ suc (length lines)
line_count clients [] lines are = absurd are
line_count clients (last ∷ []) lines are = sym (ap (λ (ls : List ScriptLine). suc (length ls)) are.1)
line_count clients (text ∷ next ∷ more) lines (line, rest, is, here, are) = ap suc (line_count clients (next ∷ more) rest are) ∙ sym (ap (λ (ls : List ScriptLine). suc (length ls)) is)

pub script_is_not_refused : (clients : ℕ) (bytes : List ℕ) (lines : List ScriptLine) (r : ScriptRefusal) → clients ≤ 2 ^ 32 → IsScript clients bytes lines → ¬ IsFirstBadScriptLine clients bytes r
script_is_not_refused clients bytes lines r few is bad =
    let ends = line_ends clients (pieces_of bytes) lines is.0 bad.index bad.first.inside in
    let early : bad.index < most_lines = omega (arith, ends.ended, line_count clients (pieces_of bytes) lines is.0, is.1) in
    bad.first.fails (good_line clients (pieces_of bytes) bad.index ends.ended early (line_keeps clients (omega (arith, few)) (line_fields (get_or (pieces_of bytes) bad.index [])) ends.line ends.is_line))

-- ---- refusals

kind_of : ℕ → ScriptKind
kind_of n =
    if n == 1 then kind.NoEnd
    else if n == 2 then kind.Verb
    else if n == 3 then kind.Fields
    else if n == 4 then kind.Client
    else if n == 5 then kind.Hex
    else if n == 6 then kind.Number
    else kind.TooMany

kind_told : (k : ScriptKind) → kind_of (kind_number k) ≡ k
unfolding kind_of
kind_told kind.NoEnd = refl
kind_told kind.Verb = refl
kind_told kind.Fields = refl
kind_told kind.Client = refl
kind_told kind.Hex = refl
kind_told kind.Number = refl
kind_told kind.TooMany = refl

one_kind : (clients : ℕ) (pieces : List (List ℕ)) (k : ℕ) (a b : ScriptKind) → BreaksFirst clients pieces k a → BreaksFirst clients pieces k b → a ≡ b
one_kind clients pieces k a b first_a first_b = elim (cases_order (kind_number a) (kind_number b)) [
  | inl same ↦ sym (kind_told a) ∙ (ap kind_of same ∙ kind_told b)
  | inr (inl less) ↦ absurd (first_a.breaks (first_b.keeps_before a less))
  | inr (inr more) ↦ absurd (first_b.breaks (first_a.keeps_before b more))
]

one_index : (clients : ℕ) (bytes : List ℕ) (a b : ScriptRefusal) → (bad_a : IsFirstBadScriptLine clients bytes a) → (bad_b : IsFirstBadScriptLine clients bytes b) → bad_a.index ≡ bad_b.index
one_index clients bytes a b bad_a bad_b = elim (cases_order bad_a.index bad_b.index) [
  | inl same ↦ same
  | inr (inl less) ↦ absurd (bad_a.first.fails (bad_b.first.before bad_a.index less))
  | inr (inr more) ↦ absurd (bad_b.first.fails (bad_a.first.before bad_b.index more))
]

pub one_script_refusal : (clients : ℕ) (bytes : List ℕ) (a b : ScriptRefusal) → IsFirstBadScriptLine clients bytes a → IsFirstBadScriptLine clients bytes b → a ≡ b
one_script_refusal clients bytes a b bad_a bad_b =
    let index = one_index clients bytes a b bad_a bad_b in
    let lines : a.line ≡ b.line = bad_a.counted ∙ (ap suc index ∙ sym bad_b.counted) in
    let kinds : a.kind ≡ b.kind = one_kind clients (pieces_of bytes) bad_a.index a.kind b.kind bad_a.breaks (subst (λ (k : ℕ). BreaksFirst clients (pieces_of bytes) k b.kind) (sym index) bad_b.breaks) in
    λ i. record { line = lines i; kind = kinds i }
