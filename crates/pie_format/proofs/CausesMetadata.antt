-- The causes in the metadata.
use Rattle.std.proofs.Common.{◌≡◌, ◌≢◌, ℕ, ◌<◌, ◌≤◌, Bool, true, false, not, cond, ltb, eqb, List, length, sum, Option, Some, None, Ok, Err, refl, sym, ap, subst, ◌∙◌, arith}
use Rattle.std.proofs.lemmas.Bool.{ltb-true, ltb-false, eqb-true, eqb-false}
use Rattle.cairo_model.specs.Machine.Steps.{required}
use Rattle.cairo_model.specs.Pie.Files.{Metadata, IsMetadata}
use Rattle.cairo_model.specs.Refusals.ReadRefusals.{text_of, HasSizes, MetadataHas, IsFirstReadCause}
use Rattle.cairo_model.specs.declared.read_refusal.ReadRefusal.{ReadRefusal}
use Rattle.cairo_model.specs.declared.read_refusal.ReadRefusal.TheVariants.{BadMetadata, BadVersion, BadSizes, TooManySegments, TooLarge, TooManySteps}
use Rattle.cairo_model.proofs.Outcomes.{required_is, some_is, no_some, tested, err_is, ok_no_err, bind_refused, required_refused, not_true, not_false}
use Rattle.pie_format.specs.Working.Reading.{metadata_in, has_sizes, metadata_fault, unless, metadata_at}
use Rattle.pie_format.proofs.ReadingSizes.{sizes_hold, sizes_pass, are_held}
use Rattle.pie_format.proofs.ReadingMetadata.{Kept, IsRead, says_so, reads_so, metadata_takes}
use Rattle.pie_format.proofs.Causes.{Clear, clear_next, same_first, one_metadata}

true_no_false : {R : Type 0} (b : Bool) → b ≡ true → b ≡ false → R
true_no_false true e f = absurd (cc)
true_no_false false e f = absurd (cc)

-- ---- the rules

some_fault : {R : Type 0} (b : Bool) (x : ReadRefusal) (o : Option ReadRefusal) (r : ReadRefusal) → cond b (Some x) o ≡ Some r → (b ≡ true → x ≡ r → R) → (b ≡ false → o ≡ Some r → R) → R
some_fault b x o r e here later = tested b (Some x) o (Some r) e (λ t h. here t (some_is x r h)) later

module _ (bytes : List ℕ) (m : Metadata) (is : IsMetadata (text_of bytes) m) where
  -- what the metadata of the file has, this has
  pub only : (P : Metadata → Type 0) → MetadataHas bytes P → P m
  only P h = subst P (one_metadata (text_of bytes) h.0 m h.1.0 is) h.1.1

  clear_5 : Clear bytes 4 → Clear bytes 5
  clear_5 clear = clear_next bytes 4 clear (λ v cause. cause m is)

  clear_6 : Clear bytes 5 → m.version ≡ 1 → Clear bytes 6
  clear_6 clear version = clear_next bytes 5 clear (λ v cause. let h : (v ≡ m.version) × (v ≢ 1) = only (λ x. (v ≡ x.version) × (v ≢ 1)) cause in h.1 (h.0 ∙ version))

  clear_7 : Clear bytes 6 → HasSizes m.sizes → Clear bytes 7
  clear_7 clear sizes = clear_next bytes 6 clear (λ v cause. only (λ x. ¬ HasSizes x.sizes) cause sizes)

  clear_8 : Clear bytes 7 → length m.sizes ≤ 64 → Clear bytes 8
  clear_8 clear most = clear_next bytes 7 clear (λ v cause. let h : (v ≡ length m.sizes) × (64 < v) = only (λ x. (v ≡ length x.sizes) × (64 < v)) cause in absurd (omega (arith, h.0, h.1)))

  clear_9 : Clear bytes 8 → sum m.sizes ≤ 65536 → Clear bytes 9
  clear_9 clear total = clear_next bytes 8 clear (λ v cause. let h : (v ≡ sum m.sizes) × (65536 < v) = only (λ x. (v ≡ sum x.sizes) × (65536 < v)) cause in absurd (omega (arith, h.0, h.1)))

  clear_10 : Clear bytes 9 → m.steps ≤ 65536 → Clear bytes 10
  clear_10 clear steps = clear_next bytes 9 clear (λ v cause. let h : (v ≡ m.steps) × (65536 < v) = only (λ x. (v ≡ x.steps) × (65536 < v)) cause in absurd (omega (arith, h.0, h.1)))

  all_clear : Clear bytes 4 → Kept m → Clear bytes 10
  all_clear clear keeps =
      let h = keeps.are_sizes in
      clear_10 (clear_9 (clear_8 (clear_7 (clear_6 (clear_5 clear) keeps.first) (are_held m.sizes h)) h.at_most) h.in_all) keeps.few_steps

  -- the first rule that is broken is the first cause
  fault_first : (r : ReadRefusal) → Clear bytes 4 → metadata_fault m ≡ Some r → IsFirstReadCause bytes r
  fault_first r clear e =
      let five : Clear bytes 5 = clear_5 clear in
      some_fault (not (eqb m.version 1)) (BadVersion m.version) _ r e
      (λ other same. same_first bytes (BadVersion m.version) r (record { applies = (m, (is, (refl, eqb-false m.version 1 (not_true (eqb m.version 1) other)))); none_before = five }) same)
      (λ version e1.
      let six : Clear bytes 6 = clear_6 five (eqb-true m.version 1 (not_false (eqb m.version 1) version)) in
      some_fault (not (has_sizes m.sizes)) BadSizes _ r e1
      (λ other same. same_first bytes BadSizes r (record { applies = (m, (is, λ sizes. true_no_false (has_sizes m.sizes) (sizes_pass m.sizes sizes) (not_true (has_sizes m.sizes) other))); none_before = six }) same)
      (λ sized e2.
      let passed : has_sizes m.sizes ≡ true = not_false (has_sizes m.sizes) sized in
      let seven : Clear bytes 7 = clear_7 six (sizes_hold m.sizes passed) in
      some_fault (ltb 64 (length m.sizes)) (TooManySegments (length m.sizes)) _ r e2
      (λ many same. same_first bytes (TooManySegments (length m.sizes)) r (record { applies = (m, (is, (refl, ltb-true 64 (length m.sizes) many))); none_before = seven }) same)
      (λ most e3.
      let eight : Clear bytes 8 = clear_8 seven (ltb-false 64 (length m.sizes) most) in
      some_fault (ltb 65536 (sum m.sizes)) (TooLarge (sum m.sizes)) _ r e3
      (λ large same. same_first bytes (TooLarge (sum m.sizes)) r (record { applies = (m, (is, (refl, ltb-true 65536 (sum m.sizes) large))); none_before = eight }) same)
      (λ total e4.
      let nine : Clear bytes 9 = clear_9 eight (ltb-false 65536 (sum m.sizes) total) in
      some_fault (ltb 65536 m.steps) (TooManySteps m.steps) None r e4
      (λ many same. same_first bytes (TooManySteps m.steps) r (record { applies = (m, (is, (refl, ltb-true 65536 m.steps many))); none_before = nine }) same)
      (λ _ none. no_some r none)))))

-- ---- the metadata

pub record Passed (bytes : List ℕ) (m : Metadata) : Type 0 where
  pub says : IsMetadata (text_of bytes) m
  pub keeps : Kept m
  pub clear : Clear bytes 10

pub metadata_passed : (bytes : List ℕ) (m : Metadata) → Clear bytes 4 → metadata_at (text_of bytes) ≡ Ok m → Passed bytes m
metadata_passed bytes m clear e =
    let r : IsRead (text_of bytes) m = metadata_takes (text_of bytes) m e in
    record { says = r.says; keeps = r.keeps; clear = all_clear bytes m r.says clear r.keeps }

no_metadata : (text : List ℕ) → metadata_in text ≡ None → (m : Metadata) → ¬ IsMetadata text m
no_metadata text none m is = no_some m (sym none ∙ reads_so text m is)

unless_refused : {R : Type 0} (o : Option ReadRefusal) (x : Metadata) (r : ReadRefusal) → unless o x ≡ Err r → (o ≡ Some r → R) → R
unless_refused (Some s) x r e go = go (ap Some (err_is s r e))
unless_refused None x r e go = ok_no_err x r e

pub metadata_refused : (bytes : List ℕ) (r : ReadRefusal) → Clear bytes 4 → metadata_at (text_of bytes) ≡ Err r → IsFirstReadCause bytes r
metadata_refused bytes r clear e =
    let text = text_of bytes in
    bind_refused (required BadMetadata (metadata_in text)) (λ x. unless (metadata_fault x) x) r e
    (λ stop. required_refused BadMetadata (metadata_in text) r stop (λ none same.
    same_first bytes BadMetadata r (record { applies = no_metadata text none; none_before = clear }) same))
    (λ x found broken. required_is BadMetadata (metadata_in text) x found (λ is.
    unless_refused (metadata_fault x) x r broken (λ fault. fault_first bytes x (says_so text x is) r clear fault)))
