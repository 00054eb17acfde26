-- The metadata: what is read keeps the rules, and what keeps them is read.
use Rattle.std.proofs.Common.{◌≡◌, ℕ, ◌^◌, ◌≤◌, Bool, true, false, not, cond, ltb, eqb, List, length, sum, Option, Some, None, Ok, refl, subst}
use Rattle.std.specs.Prelude.{option_and_then}
use Rattle.std.specs.Str.{is_utf8}
use Rattle.std.proofs.lemmas.Bool.{ltb-false, le-ltb, eqb-true}
use Rattle.std.proofs.lemmas.Str.{IsUtf8-from_is_utf8, is_utf8-from_IsUtf8}
use Rattle.serde_json.specs.Read.{read}
use Rattle.cairo_model.specs.declared.read_refusal.ReadRefusal.{ReadRefusal}
use Rattle.cairo_model.specs.declared.read_refusal.ReadRefusal.TheVariants.{BadMetadata, BadVersion, BadSizes, TooManySegments, TooLarge, TooManySteps}
use Rattle.cairo_model.specs.Machine.Steps.{◌>>=◌, required}
use Rattle.cairo_model.specs.Pie.Records.{AreSizes}
use Rattle.cairo_model.specs.Pie.Files.{Metadata, IsMetadata, metadata_of}
use Rattle.cairo_model.proofs.Outcomes.{bind_gives, required_is, then_gives, ok_is, not_false}
use Rattle.pie_format.specs.Working.Reading.{metadata_in, all_below, has_sizes, metadata_fault, unless, metadata_at}
use Rattle.pie_format.proofs.ReadingSizes.{sizes_small, sizes_hold, sizes_pass, are_held}

-- no refusal, and none later
no_fault : {R : Type 0} (b : Bool) (r : ReadRefusal) (o : Option ReadRefusal) → cond b (Some r) o ≡ None → (b ≡ false → o ≡ None → R) → R
no_fault true r o e go = absurd (cc)
no_fault false r o e go = go refl e

-- what metadata keeps that breaks no rule
pub record Kept (m : Metadata) : Type 0 where
  pub first : m.version ≡ 1
  pub are_sizes : AreSizes m.sizes
  pub small : all_below (2 ^ 31) m.sizes ≡ true
  pub few_steps : m.steps ≤ 65536

sizes_kept : (sizes : List ℕ) → has_sizes sizes ≡ true → length sizes ≤ 64 → sum sizes ≤ 65536 → AreSizes sizes
sizes_kept sizes h most in_all =
    let held = sizes_hold sizes h in
    record { at_least = held.at_least; at_most = most; no_return_fp = held.no_return_fp; no_return_pc = held.no_return_pc; in_all = in_all }

pub kept : (m : Metadata) → metadata_fault m ≡ None → Kept m
kept m e =
    no_fault (not (eqb m.version 1)) (BadVersion m.version) _ e (λ version e1.
    no_fault (not (has_sizes m.sizes)) BadSizes _ e1 (λ sized e2.
    no_fault (ltb 64 (length m.sizes)) (TooManySegments (length m.sizes)) _ e2 (λ most e3.
    no_fault (ltb 65536 (sum m.sizes)) (TooLarge (sum m.sizes)) _ e3 (λ total e4.
    no_fault (ltb 65536 m.steps) (TooManySteps m.steps) None e4 (λ steps e5.
    let sizes : has_sizes m.sizes ≡ true = not_false _ sized in
    record {
      first = eqb-true _ _ (not_false _ version);
      are_sizes = sizes_kept m.sizes sizes (ltb-false _ _ most) (ltb-false _ _ total);
      small = sizes_small m.sizes sizes;
      few_steps = ltb-false _ _ steps;
    })))))

pub record IsRead (text : List ℕ) (m : Metadata) : Type 0 where
  pub says : IsMetadata text m
  pub keeps : Kept m
  pub no_fault : metadata_fault m ≡ None

pub says_so : (text : List ℕ) (m : Metadata) → metadata_in text ≡ Some m → IsMetadata text m
says_so text m e =
    then_gives (is_utf8 text) (option_and_then metadata_of (read text)) m e (λ is_text says.
    record { is_text = IsUtf8-from_is_utf8 text is_text; says = says })

-- the value that a chain gives where there was no refusal
unless_ok : {R : Type 0} (o : Option ReadRefusal) (x y : Metadata) → unless o x ≡ Ok y → (o ≡ None → x ≡ y → R) → R
unless_ok (Some r) x y e go = absurd (cc)
unless_ok None x y e go = go refl (ok_is x y e)

pub metadata_takes : (text : List ℕ) (m : Metadata) → metadata_at text ≡ Ok m → IsRead text m
metadata_takes text m e =
    bind_gives (required BadMetadata (metadata_in text)) (λ x. unless (metadata_fault x) x) m e (λ x found tested.
    required_is BadMetadata (metadata_in text) x found (λ is.
    unless_ok (metadata_fault x) x m tested (λ none same.
    subst (λ (y : Metadata). IsRead text y) same (record { says = says_so text x is; keeps = kept x none; no_fault = none }))))

-- ---- what keeps the rules is read

pub fault_again : (m : Metadata) → m.version ≡ 1 → AreSizes m.sizes → m.steps ≤ 65536 → metadata_fault m ≡ None
fault_again m first h few =
    let version : eqb m.version 1 ≡ true = rw first refl in
    let most : ltb 64 (length m.sizes) ≡ false = le-ltb _ _ h.at_most in
    let total : ltb 65536 (sum m.sizes) ≡ false = le-ltb _ _ h.in_all in
    let steps : ltb 65536 m.steps ≡ false = le-ltb _ _ few in
    let all : (a b c d e : Bool) → a ≡ true → b ≡ true → c ≡ false → d ≡ false → e ≡ false
    → cond (not a) (Some (BadVersion m.version)) (cond (not b) (Some BadSizes) (cond c (Some (TooManySegments (length m.sizes))) (cond d (Some (TooLarge (sum m.sizes))) (cond e (Some (TooManySteps m.steps)) None)))) ≡ None =
    λ a b c d e p q r s t. rw (p, q, r, s, t) refl in
    all (eqb m.version 1) (has_sizes m.sizes) (ltb 64 (length m.sizes)) (ltb 65536 (sum m.sizes)) (ltb 65536 m.steps) version (sizes_pass m.sizes (are_held m.sizes h)) most total steps

unless_again : (o : Option ReadRefusal) (m : Metadata) → o ≡ None → unless o m ≡ Ok m
unless_again o m e = rw e refl

pub reads_so : (text : List ℕ) (m : Metadata) → IsMetadata text m → metadata_in text ≡ Some m
reads_so text m is = rw (is_utf8-from_IsUtf8 text is.is_text) is.says

pub metadata_again : (text : List ℕ) (m : Metadata) → IsMetadata text m → m.version ≡ 1 → AreSizes m.sizes → m.steps ≤ 65536 → metadata_at text ≡ Ok m
metadata_again text m is first h few =
    let none : metadata_fault m ≡ None = fault_again m first h few in
    let both : (o : Option Metadata) → o ≡ Some m → (required BadMetadata o >>= λ x. unless (metadata_fault x) x) ≡ Ok m = λ o e. rw e (unless_again (metadata_fault m) m none) in
    both (metadata_in text) (reads_so text m is)
