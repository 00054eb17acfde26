-- What is kept of a label, and what a new one changes.
use denote.Ref.{Bor}
use Rattle.std.proofs.Common.{◌≡◌, ℕ, Bool, true, false, List, Option, Some, None, is_some, refl, ap, sym, ◌∙◌, cond}
use Rattle.std.specs.Prelude.{bytes_eq, option_map}
use Rattle.std.specs.BTreeMap.{BTreeMap, get_by}
use Rattle.std.specs.Cmp.Lexicographic.{slice_cmp}
use Rattle.std.specs.Ordering.{nat_cmp}
use Rattle.std.proofs.lemmas.Bool.{false≢true}
use Rattle.std.proofs.lemmas.Slice.Eq.{bytes_eq-Decides}
use Rattle.casm_text.specs.Lines.{label_line}
use Rattle.casm_text.specs.Working.Assembling.{kept_setting, setting_of, setting_with}
use Rattle.casm_text.specs.declared.labels.Place.{Place}

abbrev pub at_name : BTreeMap (Bor (List ℕ)) Place → List ℕ → Option Place
at_name labels name = get_by (λ k. slice_cmp nat_cmp name k.now) labels

none_is : (o : Option Place) → is_some o ≡ false → o ≡ None
none_is None h = refl
none_is (Some p) h = absurd (false≢true (sym h))

with_none : (b : Bool) (place : Place) (name other : List ℕ) → bytes_eq name other ≡ b → option_map setting_of (cond b (Some place) None) ≡ setting_with None place.line place.offset.number (label_line name) other
with_none true place name other is = sym (ap (λ (b : Bool). cond b (Some (setting_of place)) None) is)
with_none false place name other is = sym (ap (λ (b : Bool). cond b (Some (setting_of place)) None) is)

kept_if : (old : Option Place) (place : Place) (name other : List ℕ) (b : Bool) → bytes_eq name other ≡ b → (b ≡ true → old ≡ None)
    → option_map setting_of (cond b (Some place) old) ≡ setting_with (option_map setting_of old) place.line place.offset.number (label_line name) other
kept_if None place name other b is h = with_none b place name other is
kept_if (Some p) place name other true is h =
    let none : Some p ≡ None = h refl in
    absurd (cc)
kept_if (Some p) place name other false is h = refl

pub kept_new : (labels : BTreeMap (Bor (List ℕ)) Place) (place : Place) (name other : List ℕ) (new : Option Place) → is_some (at_name labels name) ≡ false → new ≡ cond (bytes_eq name other) (Some place) (at_name labels other)
    → option_map setting_of new ≡ setting_with (kept_setting labels other) place.line place.offset.number (label_line name) other
kept_new labels place name other new absent is =
    ap (option_map setting_of) is
    ∙ kept_if (at_name labels other) place name other (bytes_eq name other) refl (λ same. ap (at_name labels) (sym ((bytes_eq-Decides name other).0 same)) ∙ none_is (at_name labels name) absent)
