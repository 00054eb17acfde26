-- A word is that of an instruction exactly where the instruction encodes to it.
use Rattle.casm_text.specs.Working.Rendering.{fields_eq, is_word_of, is_given}
use Rattle.casm_text.proofs.Tokenizing.{and_both}
use Rattle.casm_text.proofs.Sound.{both_true}
use Rattle.casm_text.proofs.Walks.{same_fields, fields_self, no_fault, no_fault_is}
use Rattle.casm_text.proofs.Relists.{length_numbers}
use Rattle.casm_text.specs.Listings.{nowhere}
use Rattle.casm_text.specs.Statements.{Statement}
use Rattle.casm_text.specs.Words.{statement_fields, statement_numbers, numbers_at}
use Rattle.cairo_word.specs.Word.{Fields, fields_of, word_fault_of}
use Rattle.std.proofs.Common.{◌≡◌, ℕ, ◌==◌, Bool, true, false, not, ◌&&◌, List, length, take, Some, None, is_some, refl, ap, ap₂, sym, subst, ◌∙◌}
use Rattle.std.specs.Prelude.{bytes_eq}
use Rattle.std.proofs.lemmas.Bool.Decides.{Decides-eqb}

-- the word that an instruction with these fields encodes to
pub record IsEncoded (f : Fields) (e : ℕ) : Type 0 where
  pub sound : word_fault_of e ≡ None
  pub value : fields_of e ≡ f
  pub only : (w : ℕ) → word_fault_of w ≡ None → fields_of w ≡ f → w ≡ e

same_tests : (a b : Bool) → (a ≡ true → b ≡ true) → (b ≡ true → a ≡ true) → a ≡ b
same_tests true b h k = sym (h refl)
same_tests false true h k = k refl
same_tests false false h k = refl

pub has_word : (f : Fields) (e w : ℕ) → IsEncoded f e → (e == w) ≡ is_word_of (Some f) w
has_word f e w encoded = same_tests (e == w) (is_word_of (Some f) w)
    (λ same.
    let is = (Decides-eqb e w).0 same in
    subst (λ (v : ℕ). is_word_of (Some f) v ≡ true) is
    (both_true _ _ (no_fault_is (word_fault_of e) encoded.sound) (subst (λ (g : Fields). fields_eq g f ≡ true) (sym encoded.value) (fields_self f))))
    (λ is_word.
    let both = and_both (not (is_some (word_fault_of w))) (fields_eq (fields_of w) f) is_word in
    let is : w ≡ e = encoded.only w (no_fault (word_fault_of w) both.0) (same_fields (fields_of w) f both.1) in
    (Decides-eqb e w).1 (sym is))

-- once the word is the statement's, its numbers decide
pub given_word : (s : Statement) (w : ℕ) (words numbers : List ℕ) → is_word_of (statement_fields s) w ≡ true → numbers_at nowhere 0 (statement_numbers s) ≡ numbers
    → bytes_eq (take (length numbers) words) numbers ≡ is_given s w words
given_word s w words numbers word same =
    let count : length numbers ≡ length (statement_numbers s) = sym (ap length same) ∙ length_numbers nowhere 0 (statement_numbers s) in
    subst (λ (b : Bool). bytes_eq (take (length numbers) words) numbers ≡ (b && bytes_eq (take (length (statement_numbers s)) words) (numbers_at nowhere 0 (statement_numbers s)))) (sym word)
    (ap₂ (λ (n : ℕ) (ns : List ℕ). bytes_eq (take n words) ns) count (sym same))
