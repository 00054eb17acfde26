-- Where labels stand: the first line that sets each, and its offset.
use Rattle.std.proofs.Common.{◌≡◌, ℕ, zero, suc, ◌+◌, ◌<◌, ◌&&◌, Bool, true, false, inl, inr, List, [], ◌∷◌, length, Option, Some, None, is_some, refl, ap, sym, subst, ◌∙◌, arith, cond}
use Rattle.std.specs.Prelude.{bytes_eq, option_map, unwrap_or, ◌≢◌}
use Rattle.std.specs.Option.{option_or}
use Rattle.std.proofs.lemmas.Bool.{cases_lt, false≢true}
use Rattle.std.proofs.lemmas.Bool.Decides.{Decides-eqb}
use Rattle.std.proofs.lemmas.Slice.Eq.{bytes_eq-Decides}
use Rattle.casm_text.proofs.Sound.{both_true}
use Rattle.casm_text.proofs.Tokenizing.{and_both}
use Rattle.casm_text.specs.Lines.{Line, empty_line, label_line, statement_line, is_label, label_at, label_offset, line_size}
use Rattle.casm_text.specs.Refusals.{HasGoodLabels, Names, line_at}
use Rattle.casm_text.specs.Words.{Second, number, distance, statement_numbers}
use Rattle.casm_text.specs.Working.Assembling.{Setting, first_setting, is_set_at, labels_good, names_set, offset_in, setting_with}

-- ---- one line more

with_rest : (b : Bool) (s : Setting) (o : Option Setting) → option_or (cond b (Some s) None) o ≡ cond b (Some s) o
with_rest true s o = refl
with_rest false s o = refl

pub settings_on : (o : Option Setting) (index at : ℕ) (line : Line) (lines : List Line) (name : List ℕ)
    → option_or (setting_with o index at line name) (first_setting (index + 1) (at + line_size line) lines name) ≡ option_or o (first_setting index at (line ∷ lines) name)
settings_on (Some s) index at line lines name = refl
settings_on None index at line lines name = with_rest (is_label name line) (record { line = index; offset = at }) (first_setting (index + 1) (at + line_size line) lines name)

-- ---- the offset

offset_if : (b : Bool) (s : Setting) (o : Option Setting) (p : Option ℕ) → option_map (λ (t : Setting). t.offset) o ≡ p → option_map (λ (t : Setting). t.offset) (cond b (Some s) o) ≡ cond b (Some (s.offset)) p
offset_if true s o p h = refl
offset_if false s o p h = h

same_offset : (index at : ℕ) (lines : List Line) (name : List ℕ) → option_map (λ (t : Setting). t.offset) (first_setting index at lines name) ≡ label_at at lines name
same_offset index at [] name = refl
same_offset index at (line ∷ lines) name =
    offset_if (is_label name line) (record { line = index; offset = at }) (first_setting (index + 1) (at + line_size line) lines name) (label_at (at + line_size line) lines name)
    (same_offset (index + 1) (at + line_size line) lines name)

pub offset_is : (lines : List Line) (name : List ℕ) (o : Option Setting) → o ≡ first_setting 0 0 lines name → offset_in o ≡ label_offset lines name
offset_is lines name o h = ap offset_in h ∙ ap (λ (p : Option ℕ). unwrap_or p 0) (same_offset 0 0 lines name)

-- ---- the line

label_is : (name : List ℕ) (line : Line) → is_label name line ≡ true → line ≡ label_line name
label_is name empty_line h = absurd (false≢true h)
label_is name (label_line other) h = ap label_line ((bytes_eq-Decides other name).0 h)
label_is name (statement_line s) h = absurd (false≢true h)

is_no_label : (name : List ℕ) (line : Line) → is_label name line ≡ false → line ≢ label_line name
is_no_label name line h is =
    let other : bytes_eq name name ≡ false = subst (λ (l : Line). is_label name l ≡ false) is h in
    absurd (false≢true (sym other ∙ (bytes_eq-Decides name name).1 refl))

-- a line sets the label, and none before it does
pub record IsFirstSetter (index : ℕ) (lines : List Line) (name : List ℕ) (line : ℕ) : Type 0 where
  pub place : ℕ
  pub is : line ≡ index + place
  pub inside : place < length lines
  pub sets : line_at lines place ≡ label_line name
  pub none_before : (k : ℕ) → k < place → line_at lines k ≢ label_line name

-- the first line that sets the label, or that none does
abbrev Found : ℕ → List Line → List ℕ → Option Setting → Type 0
Found index lines name None = (k : ℕ) → line_at lines k ≢ label_line name
Found index lines name (Some s) = IsFirstSetter index lines name (s.line)

none_more : (line : Line) (lines : List Line) (name : List ℕ) → line ≢ label_line name → ((k : ℕ) → line_at lines k ≢ label_line name) → (k : ℕ) → line_at (line ∷ lines) k ≢ label_line name
none_more line lines name here after zero = here
none_more line lines name here after (suc k) = after k

none_before_more : (line : Line) (lines : List Line) (name : List ℕ) (place : ℕ) → line ≢ label_line name → ((k : ℕ) → k < place → line_at lines k ≢ label_line name)
    → (k : ℕ) → k < suc place → line_at (line ∷ lines) k ≢ label_line name
none_before_more line lines name place here after zero before = here
none_before_more line lines name place here after (suc k) before = after k (omega arith)

found_later : (index : ℕ) (line : Line) (lines : List Line) (name : List ℕ) (o : Option Setting) → line ≢ label_line name → Found (index + 1) lines name o → Found index (line ∷ lines) name o
found_later index line lines name None here h = none_more line lines name here h
found_later index line lines name (Some s) here h = record {
  place = suc h.place;
  is = omega (arith, h.is);
  inside = omega (arith, h.inside);
  sets = h.sets;
  none_before = none_before_more line lines name h.place here h.none_before;
}

found_if : (b : Bool) (index at : ℕ) (line : Line) (lines : List Line) (name : List ℕ) (o : Option Setting) → is_label name line ≡ b → Found (index + 1) lines name o
    → Found index (line ∷ lines) name (cond b (Some (record { line = index; offset = at })) o)
found_if true index at line lines name o is h = record { place = zero; is = omega arith; inside = omega arith; sets = label_is name line is; none_before = λ k before. absurd (omega arith) }
found_if false index at line lines name o is h = found_later index line lines name o (is_no_label name line is) h

no_line_sets : (name : List ℕ) (k : ℕ) → line_at [] k ≢ label_line name
no_line_sets name k is = absurd (cc)

found : (index at : ℕ) (lines : List Line) (name : List ℕ) → Found index lines name (first_setting index at lines name)
found index at [] name = no_line_sets name
found index at (line ∷ lines) name =
    found_if (is_label name line) index at line lines name (first_setting (index + 1) (at + line_size line) lines name) refl (found (index + 1) (at + line_size line) lines name)

-- ---- the rule of labels

abbrev IsSet : List Line → List ℕ → Type 0
IsSet lines name = (k : ℕ) × (k < length lines) × (line_at lines k ≡ label_line name)

set_found : (lines : List Line) (name : List ℕ) (o : Option Setting) → Found 0 lines name o → is_some o ≡ true → IsSet lines name
set_found lines name None h some = absurd (false≢true some)
set_found lines name (Some s) h some = (h.place, h.inside, h.sets)

found_set : (lines : List Line) (name : List ℕ) (o : Option Setting) → Found 0 lines name o → IsSet lines name → is_some o ≡ true
found_set lines name None h (k, inside, sets) = absurd (h k sets)
found_set lines name (Some s) h is = refl

names_found : (lines : List Line) (ns : List Second) → names_set (first_setting 0 0 lines) ns ≡ true → (name : List ℕ) → Names ns name → IsSet lines name
names_found lines [] h name none = absurd none
names_found lines (number n ∷ ns) h name names = names_found lines ns h name names
names_found lines (distance other ∷ ns) h name (inl same) =
    subst (λ (l : List ℕ). IsSet lines l) same (set_found lines other (first_setting 0 0 lines other) (found 0 0 lines other) (and_both (is_some (first_setting 0 0 lines other)) (names_set (first_setting 0 0 lines) ns) h).0)
names_found lines (distance other ∷ ns) h name (inr more) = names_found lines ns (and_both (is_some (first_setting 0 0 lines other)) (names_set (first_setting 0 0 lines) ns) h).1 name more

found_names : (lines : List Line) (ns : List Second) → ((name : List ℕ) → Names ns name → IsSet lines name) → names_set (first_setting 0 0 lines) ns ≡ true
found_names lines [] h = refl
found_names lines (number n ∷ ns) h = found_names lines ns h
found_names lines (distance other ∷ ns) h =
    both_true (is_some (first_setting 0 0 lines other)) (names_set (first_setting 0 0 lines) ns)
    (found_set lines other (first_setting 0 0 lines other) (found 0 0 lines other) (h other (inl refl)))
    (found_names lines ns (λ name names. h name (inr names)))

set_first : (lines : List Line) (i : ℕ) (name : List ℕ) (o : Option Setting) → Found 0 lines name o → is_set_at o i ≡ true → (k : ℕ) → k < i → line_at lines k ≢ label_line name
set_first lines i name None h is k before = h k
set_first lines i name (Some s) h is k before =
    let same : s.line ≡ i = (Decides-eqb (s.line) i).0 is in
    h.none_before k (omega (arith, h.is, same, before))

first_set : (lines : List Line) (i : ℕ) (name : List ℕ) (o : Option Setting) → Found 0 lines name o → line_at lines i ≡ label_line name → ((k : ℕ) → k < i → line_at lines k ≢ label_line name) → is_set_at o i ≡ true
first_set lines i name None h sets before = refl
first_set lines i name (Some s) h sets before =
    elim (cases_lt h.place i) [
      | inl early ↦ absurd (before h.place early h.sets)
      | inr not_early ↦ elim (cases_lt i h.place) [
        | inl late ↦ absurd (h.none_before i late sets)
        | inr not_late ↦ (Decides-eqb (s.line) i).1 (omega (arith, h.is, not_early, not_late))
      ]
    ]

pub labels_kept : (lines : List Line) (i : ℕ) (line : Line) → labels_good (first_setting 0 0 lines) i line ≡ true → HasGoodLabels lines i line
labels_kept lines i empty_line h = tt
labels_kept lines i (label_line name) h = set_first lines i name (first_setting 0 0 lines name) (found 0 0 lines name) h
labels_kept lines i (statement_line s) h = names_found lines (statement_numbers s) h

pub kept_labels : (lines : List Line) (i : ℕ) (line : Line) → line_at lines i ≡ line → HasGoodLabels lines i line → labels_good (first_setting 0 0 lines) i line ≡ true
kept_labels lines i empty_line here h = refl
kept_labels lines i (label_line name) here h = first_set lines i name (first_setting 0 0 lines name) (found 0 0 lines name) here h
kept_labels lines i (statement_line s) here h = found_names lines (statement_numbers s) h

-- ---- the same by settings that are known at each name

pub same_names : (f g : List ℕ → Option Setting) (ns : List Second) → ((name : List ℕ) → f name ≡ g name) → names_set f ns ≡ names_set g ns
same_names f g [] same = refl
same_names f g (number n ∷ ns) same = same_names f g ns same
same_names f g (distance name ∷ ns) same = ap (λ (o : Option Setting). is_some o && names_set f ns) (same name) ∙ ap (λ (b : Bool). is_some (g name) && b) (same_names f g ns same)

pub same_good : (f g : List ℕ → Option Setting) (i : ℕ) (line : Line) → ((name : List ℕ) → f name ≡ g name) → labels_good f i line ≡ labels_good g i line
same_good f g i empty_line same = refl
same_good f g i (label_line name) same = ap (λ (o : Option Setting). is_set_at o i) (same name)
same_good f g i (statement_line s) same = same_names f g (statement_numbers s) same
