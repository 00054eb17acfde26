-- Where the reading of a script stops is its first bad line.
use Rattle.std.proofs.Common.{◌≡◌, ◌≢◌, ℕ, suc, ◌+◌, ◌<◌, ◌≤◌, inl, inr, List, [], ◌∷◌, length, drop, get_or, Err, Result, ap, sym, subst, ◌∙◌, arith}
use Rattle.std.specs.List.{join_with_byte}
use Rattle.std.proofs.lemmas.List.{length-drop}
use Rattle.std.proofs.lemmas.List.Splits.{join_with_byte-slice_split}
use Rattle.cairo_model.specs.declared.end.End.{End}
use Rattle.cairo_model.specs.declared.end.End.TheVariants.{Refused}
use Rattle.desk_script.specs.Limits.{most_lines}
use Rattle.desk_script.proofs.FieldRules.{FieldsBreak}
use Rattle.desk_script.proofs.Walks.{Walked, next_piece, some_pieces}
use Rattle.desk_script.specs.Lines.{ScriptLine, line_fields}
use Rattle.desk_script.specs.Scripts.{BreaksFirst, FieldsKeep, IsFirstBadScriptLine, IsLineAt, LineKeeps, kind_number, pieces_of}
use Rattle.desk_script.specs.declared.kinds.ScriptKind.{ScriptKind}
use Rattle.desk_script.specs.declared.kinds.ScriptKind.TheVariants as kind
use Rattle.desk_script.specs.declared.kinds.ScriptRefusal.{ScriptRefusal}

-- the refusal that an answer hands on
pub refusal_is : {Y : Type 0} (e : End ScriptRefusal) (r made : ScriptRefusal) → ◌≡◌ {A = Result Y (End ScriptRefusal)} (Err e) (Err (Refused r)) → e ≡ Refused made → r ≡ made
refusal_is e r made same is =
    let first : e ≡ Refused r = cc in
    let both : Refused r ≡ Refused made = sym first ∙ is in
    cc

keeps_until : (clients : ℕ) (pieces : List (List ℕ)) (k limit : ℕ) → (1 < limit → suc k < length pieces) → ((other : ScriptKind) → kind_number other < limit → FieldsKeep clients (line_fields (get_or pieces k [])) other)
    → (7 < limit → k < most_lines) → (other : ScriptKind) → kind_number other < limit → LineKeeps clients pieces k other
keeps_until clients pieces k limit ends keeps few kind.NoEnd below = ends below
keeps_until clients pieces k limit ends keeps few kind.Verb below = keeps kind.Verb below
keeps_until clients pieces k limit ends keeps few kind.Fields below = keeps kind.Fields below
keeps_until clients pieces k limit ends keeps few kind.Client below = keeps kind.Client below
keeps_until clients pieces k limit ends keeps few kind.Hex below = keeps kind.Hex below
keeps_until clients pieces k limit ends keeps few kind.Number below = keeps kind.Number below
keeps_until clients pieces k limit ends keeps few kind.TooMany below = few below

breaks_there : (clients : ℕ) (pieces : List (List ℕ)) (k : ℕ) (broken : ScriptKind) → ¬ FieldsKeep clients (line_fields (get_or pieces k [])) broken → ¬ LineKeeps clients pieces k broken
breaks_there clients pieces k kind.NoEnd fault = absurd (fault tt)
breaks_there clients pieces k kind.Verb fault = fault
breaks_there clients pieces k kind.Fields fault = fault
breaks_there clients pieces k kind.Client fault = fault
breaks_there clients pieces k kind.Hex fault = fault
breaks_there clients pieces k kind.Number fault = fault
breaks_there clients pieces k kind.TooMany fault = absurd (fault tt)

at_most_seven : (k : ScriptKind) → kind_number k ≤ 7
at_most_seven kind.NoEnd = omega arith
at_most_seven kind.Verb = omega arith
at_most_seven kind.Fields = omega arith
at_most_seven kind.Client = omega arith
at_most_seven kind.Hex = omega arith
at_most_seven kind.Number = omega arith
at_most_seven kind.TooMany = omega arith

none_below : (other : ScriptKind) → ¬ (kind_number other < 1)
none_below kind.NoEnd below = absurd (omega arith)
none_below kind.Verb below = absurd (omega arith)
none_below kind.Fields below = absurd (omega arith)
none_below kind.Client below = absurd (omega arith)
none_below kind.Hex below = absurd (omega arith)
none_below kind.Number below = absurd (omega arith)
none_below kind.TooMany below = absurd (omega arith)

found : (clients : ℕ) (bytes : List ℕ) (lines : List ScriptLine) (left : List ℕ) (broken : ScriptKind) (r : ScriptRefusal) → Walked clients bytes lines left → IsLineAt (pieces_of bytes) (length lines)
    → BreaksFirst clients (pieces_of bytes) (length lines) broken → r ≡ record { line = length lines + 1; kind = broken } → IsFirstBadScriptLine clients bytes r
found clients bytes lines left broken r walked inside breaks is =
    record {
      index = length lines;
      counted = ap (λ (x : ScriptRefusal). x.line) is ∙ omega arith;
      first = record { inside = inside; fails = λ good. breaks.breaks (good broken); before = walked.good };
      breaks = subst (BreaksFirst clients (pieces_of bytes) (length lines)) (sym (ap (λ (x : ScriptRefusal). x.kind) is)) breaks;
    }

-- the rest of the bytes is a line that no line feed ends
pub no_end_found : (clients : ℕ) (bytes : List ℕ) (lines : List ScriptLine) (left text : List ℕ) (r : ScriptRefusal) → Walked clients bytes lines left → left ≢ [] → pieces_of left ≡ text ∷ []
    → r ≡ record { line = length lines + 1; kind = kind.NoEnd } → IsFirstBadScriptLine clients bytes r
no_end_found clients bytes lines left text r walked some cut is =
    let pieces : List (List ℕ) = pieces_of bytes in
    let n : ℕ = length lines in
    let step = next_piece pieces n text [] walked.within (walked.left_is ∙ cut) in
    let whole : text ≡ left = sym (ap (join_with_byte 10) cut) ∙ join_with_byte-slice_split 10 left in
    let last : length pieces ≤ n + 1 = omega (arith, ap length step.next, length-drop (n + 1) pieces) in
    found clients bytes lines left kind.NoEnd r walked (inr (λ none. some (sym whole ∙ (sym step.here ∙ none))))
    (record { breaks = λ ends. absurd (omega arith); keeps_before = keeps_until clients pieces n 1 (λ b. absurd (omega arith)) (λ other below. absurd (none_below other below)) (λ b. absurd (omega arith)) })
    is

ends_there : (bytes left text after : List ℕ) (n : ℕ) → drop (n + 1) (pieces_of bytes) ≡ pieces_of after → suc n < length (pieces_of bytes)
ends_there bytes left text after n next = omega (arith, ap length next, some_pieces after, length-drop (n + 1) (pieces_of bytes))

-- the fields of the next line break a rule
pub fields_found : (clients : ℕ) (bytes : List ℕ) (lines : List ScriptLine) (left text after : List ℕ) (broken : ScriptKind) (r : ScriptRefusal) → Walked clients bytes lines left
    → pieces_of left ≡ text ∷ pieces_of after → FieldsBreak clients (line_fields text) broken → r ≡ record { line = length lines + 1; kind = broken } → IsFirstBadScriptLine clients bytes r
fields_found clients bytes lines left text after broken r walked cut breaks is =
    let pieces : List (List ℕ) = pieces_of bytes in
    let n : ℕ = length lines in
    let step = next_piece pieces n text (pieces_of after) walked.within (walked.left_is ∙ cut) in
    let ends : suc n < length pieces = ends_there bytes left text after n step.next in
    let here : FieldsBreak clients (line_fields (get_or pieces n [])) broken = subst (λ (t : List ℕ). FieldsBreak clients (line_fields t) broken) (sym step.here) breaks in
    found clients bytes lines left broken r walked (inl ends)
    (record {
      breaks = breaks_there clients pieces n broken here.breaks;
      keeps_before = keeps_until clients pieces n (kind_number broken) (λ b. ends) here.keeps_before (λ b. absurd (omega (arith, at_most_seven broken)));
    })
    is

-- the next line is one too many
pub too_many_found : (clients : ℕ) (bytes : List ℕ) (lines : List ScriptLine) (left text after : List ℕ) (r : ScriptRefusal) → Walked clients bytes lines left → pieces_of left ≡ text ∷ pieces_of after
    → ((kept : ScriptKind) → FieldsKeep clients (line_fields text) kept) → most_lines ≤ length lines → r ≡ record { line = length lines + 1; kind = kind.TooMany } → IsFirstBadScriptLine clients bytes r
too_many_found clients bytes lines left text after r walked cut keeps full is =
    let pieces : List (List ℕ) = pieces_of bytes in
    let n : ℕ = length lines in
    let step = next_piece pieces n text (pieces_of after) walked.within (walked.left_is ∙ cut) in
    let ends : suc n < length pieces = ends_there bytes left text after n step.next in
    let here : (kept : ScriptKind) → FieldsKeep clients (line_fields (get_or pieces n [])) kept = subst (λ (t : List ℕ). (kept : ScriptKind) → FieldsKeep clients (line_fields t) kept) (sym step.here) keeps in
    found clients bytes lines left kind.TooMany r walked (inl ends)
    (record {
      breaks = λ few. absurd (omega arith);
      keeps_before = keeps_until clients pieces n 7 (λ b. ends) (λ other below. here other) (λ b. absurd (omega arith));
    })
    is

pub made_so : (before n : ℕ) (k : ScriptKind) → before ≡ n → ◌≡◌ {A = ScriptRefusal} (record { line = before + 1; kind = k }) (record { line = n + 1; kind = k })
made_so before n k is = ap (λ (m : ℕ). record { line = m + 1; kind = k }) is
